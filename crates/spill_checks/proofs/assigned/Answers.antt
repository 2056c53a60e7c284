-- `spill_checks::assigned` meets its contract: rows of two numbers.
use Prim.Native.Nat.{ℕ}
use mathlib.Core.Path.{ap, ◌∙◌}
use Rattle.refusals.specs.Verdicts.{scan}
use Rattle.refusals.specs.declared.Refusal.TheVariants.{Piece as PieceWord}
use Rattle.words.specs.Widths.{assigned_count}
use Rattle.words.specs.Inner.{assigned_register}
use Rattle.spill_checks.proofs.CheckLaws.{assigned_is}
use lib.Dec.{leb}
use Rattle.spill_checks.proofs.assigned.Goals as goal

pub returns : goal.returns
returns c =
    c.below.ensures ∙ ap (λ (x : ℕ). scan PieceWord (λ n. leb x (assigned_register (c.args.assigned.now) n)) (assigned_count (c.args.assigned.now)))
    c.wide.ensures ∙ assigned_is c.args.v (c.args.assigned.now)
