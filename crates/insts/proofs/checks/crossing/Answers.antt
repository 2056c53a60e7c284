-- `insts::checks::crossing` meets its contract: rows of one number.
use Prim.Native.Nat.{ℕ, ◌+◌}
use mathlib.Core.Path.{ap, ◌∙◌}
use Rattle.insts.proofs.CheckLaws.{crossing_is}
use Rattle.words.specs.Rows.{row_count, field}
use Rattle.refusals.specs.Verdicts.{scan}
use Rattle.refusals.specs.declared.Refusal.TheVariants.{Inst as InstWord}
use lib.Dec.{leb}
use Rattle.insts.proofs.checks.crossing.Goals as goal

pub returns : goal.returns
returns c =
    c.below.ensures ∙ ap (λ (x : ℕ). scan InstWord (λ n. leb (x + 256) (field 1 (c.args.crossings.now) n 0)) (row_count 1 (c.args.crossings.now))) c.wide.ensures
    ∙ crossing_is c.args.v (c.args.crossings.now)
