-- `write_rows` meets its contract: a row more is written each turn.
use Prim.Native.Nat.{◌*◌}
use Rattle.words.proofs.PasteLaws.{Filling}
use Rattle.answer_rows.specs.Inner.{rows_in}
use Rattle.words.specs.Widths.{range_width}
use Rattle.answer_rows.proofs.write_rows.Given as goal

abbrev pub invariant-loop-i : goal.invariant-loop-i
invariant-loop-i l = Filling l.initial.out 0 (rows_in l.w l.from l.n l.less) (range_width * l.n) l.out (range_width * l.i)
