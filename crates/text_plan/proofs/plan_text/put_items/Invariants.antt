-- `put_items` meets its contract: a line more is written each turn.
use Rattle.text_plan.proofs.LineLaws.{Lines}
use Rattle.text_plan.specs.Printed.{item_line}
use Rattle.text_plan.proofs.plan_text.put_items.Given as goal

abbrev pub invariant-loop-i : goal.invariant-loop-i
invariant-loop-i l = Lines (item_line l.letter l.items l.base) 128 l.initial.out l.at l.n l.out l.next l.i
