-- `write_items` meets its contract: a row more is written each turn.
use Prim.Native.Nat.{◌*◌, ◌≤◌}
use Rattle.words.proofs.PasteLaws.{Filling}
use Rattle.job_tables.specs.Inner.{rows_of}
use Rattle.words.specs.Widths.{item_width}
use Rattle.job_tables.proofs.write_items.Given as goal

abbrev pub invariant-loop-i : goal.invariant-loop-i
invariant-loop-i l = (l.i ≤ l.n) × Filling l.initial.out 0 (rows_of l.w l.from l.cells l.n) (item_width * l.n) l.out (item_width * l.i)
