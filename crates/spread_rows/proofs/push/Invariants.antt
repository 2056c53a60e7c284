-- `spread::rows::push` meets its contract: the edges before k are looked at.
use mathlib.Core.Path.{◌≡◌}
use Rattle.spread_rows.specs.Inner.{ends}
use Rattle.spread_rows.proofs.Pushes.{Pushing}
use Rattle.spread_rows.proofs.push.Given as goal

abbrev pub invariant-loop-k : goal.invariant-loop-k
invariant-loop-k l = (l.end ≡ ends l.s l.initial.work l.u) × Pushing l.s l.u l.initial.work l.work l.k
