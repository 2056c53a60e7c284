-- `load_items` meets its contract: a turn keeps `Done`.
use Rattle.words.proofs.RegionLaws.{Done}
use Rattle.fit_tables.specs.Inner.{item_word_at}
use Rattle.fit_tables.proofs.want_tables.load_items.Given as goal

abbrev pub invariant-loop-i : goal.invariant-loop-i
invariant-loop-i l = Done l.initial.w l.w l.at l.n (item_word_at l.wants) l.i
