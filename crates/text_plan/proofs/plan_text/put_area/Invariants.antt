-- `put_area` meets its contract: a line more is written each turn.
use Prim.Native.Nat.{◌+◌}
use Rattle.text_plan.proofs.LineLaws.{Lines}
use Rattle.text_plan.specs.Inner.{row_line}
use Rattle.text_plan.proofs.plan_text.put_area.Given as goal

abbrev pub invariant-loop-j : goal.invariant-loop-j
invariant-loop-j l = Lines (λ i. row_line l.areas l.local (l.start + i)) 128 l.initial.out l.at l.n l.out l.next l.j
