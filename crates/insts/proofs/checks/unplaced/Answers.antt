-- `insts::checks::unplaced` meets its contract: a law for each way out.
use native.Mathlib.Omega.{arith}
use Prim.Native.Nat.{ℕ, ◌*◌}
use mathlib.Core.Path.{sym, ap, ◌∙◌}
use lib.ListN.{get_or}
use Rattle.insts.proofs.CheckLaws.{unplaced_1, unplaced_2}
use native.Mathlib.Nat.{add-zero}
use Rattle.carrying.specs.Insts.{is_set}
use mathlib.Core.Bool.{not, ◌||◌}
use lib.Dec.{leb, eqb}
use Rattle.words.specs.Widths.{inst_width, inst_count}
use Rattle.words.specs.Inner.{inst_placed}
use Rattle.insts.proofs.checks.unplaced.Goals as goal

pub returns-then-insts-at : goal.returns-then-insts-at
returns-then-insts-at c =
    unplaced_1 (inst_count (c.args.insts.now)) c.args.number (not (is_set (inst_placed (c.args.insts.now) c.args.number))) (omega arith)

pub returns : goal.returns
returns c =
    ap (λ (x : ℕ). not (eqb (get_or (c.args.insts.now) (inst_width * x) 0) 1)) c.wide-at.ensures ∙ unplaced_2 (inst_count (c.args.insts.now)) c.args.number
    (get_or (c.args.insts.now) (inst_width * c.args.number) 0) (omega arith) ∙ ap
    (λ (k : ℕ). leb (inst_count (c.args.insts.now)) c.args.number || not (is_set (get_or (c.args.insts.now) k 0))) (sym (add-zero (inst_width * c.args.number)))
