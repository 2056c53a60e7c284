-- `one_first` meets its contract: one law for each way out.
use native.Mathlib.Omega.{arith}
use Rattle.ranges.proofs.FormLaws.{column_view}
use Rattle.ranges.proofs.UnionLaws.{first_over, first_ended, first_less, first_equal, first_more}
use Rattle.columns.proofs.one_first.Goals as goal

pub returns-then-j-other_start : goal.returns-then-j-other_start
returns-then-j-other_start c = let a = c.args in first_over (column_view a.start.now a.end.now c.requires.0) (column_view a.other_start.now a.other_end.now c.requires.1) a.i a.j (omega arith)

pub returns-then-i-start : goal.returns-then-i-start
returns-then-i-start c =
    let a = c.args in
    first_ended (column_view a.start.now a.end.now c.requires.0) (column_view a.other_start.now a.other_end.now c.requires.1) a.i a.j (omega arith)
    (omega arith)

pub returns-then-start-i : goal.returns-then-start-i
returns-then-start-i c =
    let a = c.args in
    first_less (column_view a.start.now a.end.now c.requires.0) (column_view a.other_start.now a.other_end.now c.requires.1) a.i a.j (omega arith) (omega arith)
    (omega arith)

pub returns-then-start-i-2 : goal.returns-then-start-i-2
returns-then-start-i-2 c =
    let a = c.args in
    first_equal (column_view a.start.now a.end.now c.requires.0) (column_view a.other_start.now a.other_end.now c.requires.1) a.i a.j (omega arith)
    (omega arith) c.if-start-i-2.true

pub returns-else-start-i-2 : goal.returns-else-start-i-2
returns-else-start-i-2 c =
    let a = c.args in
    first_more (column_view a.start.now a.end.now c.requires.0) (column_view a.other_start.now a.other_end.now c.requires.1) a.i a.j (omega arith) (omega arith)
    (omega arith) c.if-start-i-2.false
