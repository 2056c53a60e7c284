-- `spill_checks::bad_move` meets its contract: only a stray position is refused.
use native.Mathlib.Omega.{arith}
use Prim.Native.Nat.{ℕ}
use mathlib.Core.Path.{◌≡◌, sym, ◌∙◌}
use mathlib.Core.List.{[]}
use Rattle.graph.specs.Line.{blocks_of}
use Rattle.carrying.specs.Insts.{insts_of}
use Rattle.spill_checks.proofs.PositionLaws.{told, stray_told}
use Rattle.spill_checks.proofs.bad_move.Goals as goal

pub returns-in-Early : goal.returns-in-Early
returns-in-Early c =
    sym (told (blocks_of c.args.blocks.now) (insts_of c.args.insts.now []) c.args.kind c.args.number _
    (sym c.locate.ensures ∙ c.in-Early.is) (λ e. let z : ◌≡◌ {A = ℕ} 0 1 = cc in omega arith)).0

pub returns-in-Late : goal.returns-in-Late
returns-in-Late c =
    sym (told (blocks_of c.args.blocks.now) (insts_of c.args.insts.now []) c.args.kind c.args.number _
    (sym c.locate.ensures ∙ c.in-Late.is) (λ e. let z : ◌≡◌ {A = ℕ} 0 1 = cc in omega arith)).0

pub returns-in-Start : goal.returns-in-Start
returns-in-Start c =
    sym (told (blocks_of c.args.blocks.now) (insts_of c.args.insts.now []) c.args.kind c.args.number _
    (sym c.locate.ensures ∙ c.in-Start.is) (λ e. let z : ◌≡◌ {A = ℕ} 0 1 = cc in omega arith)).0

pub returns-in-End : goal.returns-in-End
returns-in-End c =
    sym (told (blocks_of c.args.blocks.now) (insts_of c.args.insts.now []) c.args.kind c.args.number _
    (sym c.locate.ensures ∙ c.in-End.is) (λ e. let z : ◌≡◌ {A = ℕ} 0 1 = cc in omega arith)).0

pub returns-in-Stray : goal.returns-in-Stray
returns-in-Stray c =
    sym (stray_told (blocks_of c.args.blocks.now) (insts_of c.args.insts.now []) c.args.kind c.args.number
    (sym c.locate.ensures ∙ c.in-Stray.is))
