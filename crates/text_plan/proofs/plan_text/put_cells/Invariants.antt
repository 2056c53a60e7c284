-- `put_cells` meets its contract: a line more is written each turn.
use Rattle.text_plan.proofs.LineLaws.{Lines}
use Rattle.text_plan.specs.Printed.{cell_line}
use Rattle.text_plan.proofs.plan_text.put_cells.Given as goal

abbrev pub invariant-loop-i : goal.invariant-loop-i
invariant-loop-i l = Lines (cell_line l.cells) 128 l.initial.out l.at l.n l.out l.next l.i
