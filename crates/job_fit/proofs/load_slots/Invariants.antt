-- `load_slots` meets its contract: a turn keeps `Done`.
use Rattle.words.proofs.RegionLaws.{Done}
use Rattle.job_fit.specs.Inner.{slot_word}
use Rattle.job_fit.proofs.load_slots.Given as goal

abbrev pub invariant-loop-i : goal.invariant-loop-i
invariant-loop-i l = Done l.initial.w l.w l.at l.n (slot_word l.slots) l.i
