-- `load_wants` meets its contract: a turn keeps `Done`.
use Rattle.words.proofs.RegionLaws.{Done}
use Rattle.fit_tables.specs.Inner.{want_word_at}
use Rattle.fit_tables.proofs.want_tables.load_wants.Given as goal

abbrev pub invariant-loop-i : goal.invariant-loop-i
invariant-loop-i l = Done l.initial.w l.w l.at l.n (want_word_at l.wants) l.i
