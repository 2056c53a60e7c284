-- `area_rows::marks::mark_passing` meets its contract: the ends before i are marked.
use Rattle.passing_marks.proofs.PassLaws.{ending_start, ending_hit, ending_miss, ending_done}
use native.Mathlib.Omega.{arith}
use Rattle.passing_marks.proofs.mark_passing.Goals as goal
use Rattle.passing_marks.proofs.mark_passing.Goals.{then-k-c, else-k-c}

pub loop-i-init : goal.loop-i-init
loop-i-init c = (ending_start (c.requires), omega arith)

pub loop-i-preserved : goal.loop-i-preserved
loop-i-preserved c =
    elim c.if-k-c.branch [
      | then-k-c w ↦ rw w.work-is (ending_hit c.loop-i.invariant.0 (omega arith) c.stopped-k.ensures (omega arith) w.unmark.ensures, omega arith)
      | else-k-c w ↦ rw w.work-is (ending_miss c.loop-i.invariant.0 (omega arith) c.stopped-k.ensures (omega arith), omega arith)
    ]

pub returns : goal.returns
returns c = ending_done c.loop-i.invariant.0 (omega arith)
