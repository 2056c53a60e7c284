-- `put_shared` meets its contract: the lines of a local more are written each turn.
use Rattle.text_plan.proofs.LineLaws.{Rows}
use Rattle.text_plan.specs.Printed.{area_lines}
use Rattle.fitting.specs.Queries.{slots_of, shared}
use Rattle.text_plan.proofs.plan_text.put_shared.Given as goal

abbrev pub invariant-loop-i : goal.invariant-loop-i
invariant-loop-i l = Rows (λ i. area_lines i (shared (slots_of l.locals l.cells l.items l.areas) i)) 8388608 l.initial.out l.at l.locals l.out l.next l.i
