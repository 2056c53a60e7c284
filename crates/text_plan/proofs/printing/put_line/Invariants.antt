-- `put_line` meets its contract: a field more is written each turn.
use Prim.Native.Nat.{◌≤◌}
use lib.ListN.{length, take}
use Rattle.text_plan.specs.Inner.{Puts}
use Rattle.text_plan.specs.Lines.{fields_text}
use Rattle.text_plan.proofs.printing.put_line.Given as goal

abbrev pub invariant-loop-n : goal.invariant-loop-n
invariant-loop-n l = (l.n-index ≤ length l.ns) × Puts (fields_text (take l.n-index l.ns)) l.initial.out l.initial.next l.out l.next
