-- `preparing::ends` meets its contract: the locals with a placed end among the first k.
use mathlib.Core.Path.{◌≡◌}
use Rattle.preparing.proofs.StepLaws.{Ending}
use Rattle.words.specs.Widths.{end_count}
use Rattle.preparing.proofs.ends.Given as goal

abbrev pub invariant-loop-k : goal.invariant-loop-k
invariant-loop-k l = (l.n ≡ end_count l.ends) × Ending l.lay.ended l.insts l.ends l.locals l.initial.work l.work l.k
