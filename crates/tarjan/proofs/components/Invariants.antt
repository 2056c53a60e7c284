-- `tarjan::components` meets its contract: the pieces of the walks from all roots are the components.
use Rattle.tarjan.proofs.Roots.{Roots}
use Rattle.tarjan.proofs.components.Given as goal

abbrev pub invariant-loop-root : goal.invariant-loop-root
invariant-loop-root l = Roots l.n l.at l.to l.base l.initial.work l.work l.c l.e l.root
