-- `write_items` meets its contract: a row more is written each turn.
use Rattle.words.proofs.PasteLaws.{Filling}
use Rattle.fit_tables.specs.Inner.{item_rows_in}
use Prim.Native.Nat.{◌*◌}
use Rattle.fit_tables.proofs.want_tables.write_items.Given as goal

abbrev pub invariant-loop-i : goal.invariant-loop-i
invariant-loop-i l = Filling l.initial.items 0 (item_rows_in l.w l.wants l.from l.n) (4 * l.n) l.items (4 * l.i)
