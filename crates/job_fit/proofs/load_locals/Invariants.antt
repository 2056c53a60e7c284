-- `load_locals` meets its contract: a turn keeps `Done`.
use Rattle.words.proofs.RegionLaws.{Done}
use Rattle.job_fit.specs.Inner.{local_word}
use Rattle.job_fit.proofs.load_locals.Given as goal

abbrev pub invariant-loop-i : goal.invariant-loop-i
invariant-loop-i l = Done l.initial.w l.w l.at l.n (local_word l.locals) l.i
