-- `spill_checks::locate` meets its contract: a law for each kind.
use native.Mathlib.Omega.{arith}
use Prim.Native.Nat.{ℕ}
use mathlib.Core.Path.{sym, ap, ◌∙◌}
use mathlib.Core.List.{[]}
use lib.Dec.{leb}
use Rattle.graph.specs.Line.{blocks_of}
use Rattle.graph.proofs.Line.{blocks_length}
use Rattle.carrying.specs.Insts.{insts_of}
use Rattle.insts.proofs.CheckLaws.{unplaced_same}
use Rattle.spill_checks.proofs.CheckLaws.{kind_0, kind_1, kind_2, kind_3}
use Rattle.spill_checks.proofs.PositionLaws.{by_kind, stray_over}
use Rattle.spill_checks.proofs.locate.Goals as goal

pub returns-in-0 : goal.returns-in-0
returns-in-0 c =
    by_kind (blocks_of c.args.blocks.now) (insts_of c.args.insts.now []) c.args.kind c.args.number 0 c.at_inst.ensures (omega arith) (kind_0
    (blocks_of c.args.blocks.now) (insts_of c.args.insts.now []) c.args.number c.args.kind (omega arith) ∙ sym
    (unplaced_same c.args.insts.now [] [] c.args.number))

pub returns-in-1 : goal.returns-in-1
returns-in-1 c =
    by_kind (blocks_of c.args.blocks.now) (insts_of c.args.insts.now []) c.args.kind c.args.number 1 c.at_inst-in-1.ensures (omega arith) (kind_1
    (blocks_of c.args.blocks.now) (insts_of c.args.insts.now []) c.args.number c.args.kind (omega arith) ∙ sym
    (unplaced_same c.args.insts.now [] [] c.args.number))

pub returns-in-2 : goal.returns-in-2
returns-in-2 c =
    by_kind (blocks_of c.args.blocks.now) (insts_of c.args.insts.now []) c.args.kind c.args.number 2 c.at_block.ensures (omega arith) (kind_2
    (blocks_of c.args.blocks.now) (insts_of c.args.insts.now []) c.args.number c.args.kind (omega arith) ∙ ap (λ (x : ℕ). leb x c.args.number)
    (blocks_length c.args.blocks.now))

pub returns-in-3 : goal.returns-in-3
returns-in-3 c =
    by_kind (blocks_of c.args.blocks.now) (insts_of c.args.insts.now []) c.args.kind c.args.number 3 c.at_block-in-3.ensures (omega arith) (kind_3
    (blocks_of c.args.blocks.now) (insts_of c.args.insts.now []) c.args.number c.args.kind (omega arith) ∙ ap (λ (x : ℕ). leb x c.args.number)
    (blocks_length c.args.blocks.now))

pub returns-in_default : goal.returns-in_default
returns-in_default c =
    stray_over (blocks_of c.args.blocks.now) (insts_of c.args.insts.now []) c.args.kind c.args.number (omega arith)
