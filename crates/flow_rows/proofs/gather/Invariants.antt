-- `flow::rows::gather` meets its contract: the edges before k are looked at.
use mathlib.Core.Path.{◌≡◌}
use Rattle.flow_rows.proofs.GatherLaws.{Gathering}
use Rattle.flow_rows.specs.Inner.{ends}
use Rattle.flow_rows.proofs.gather.Given as goal

abbrev pub invariant-loop-k : goal.invariant-loop-k
invariant-loop-k l = (l.end ≡ ends l.f l.initial.work l.u) × Gathering l.f l.u l.c l.x l.initial.work l.work l.k l.looped
