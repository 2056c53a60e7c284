-- `write_items` meets its contract: a row more is written each turn.
use Prim.Native.Nat.{◌*◌}
use Rattle.words.proofs.PasteLaws.{Filling}
use Rattle.answer_rows.specs.Inner.{rows_of}
use Rattle.words.specs.Widths.{part_width}
use Rattle.answer_rows.proofs.write_items.Given as goal

abbrev pub invariant-loop-i : goal.invariant-loop-i
invariant-loop-i l = Filling l.initial.out 0 (rows_of l.w l.from l.n) (part_width * l.n) l.out (part_width * l.i)
