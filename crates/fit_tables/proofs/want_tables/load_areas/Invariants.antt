-- `load_areas` meets its contract: a turn keeps `Done`.
use Rattle.words.proofs.RegionLaws.{Done}
use Rattle.fit_tables.specs.Inner.{area_word_at}
use Rattle.fit_tables.proofs.want_tables.load_areas.Given as goal

abbrev pub invariant-loop-i : goal.invariant-loop-i
invariant-loop-i l = Done l.initial.w l.w 0 l.n (area_word_at l.areas) l.i
