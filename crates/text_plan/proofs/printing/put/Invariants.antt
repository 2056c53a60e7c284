-- `put` meets its contract: a byte more is written or counted each turn.
use Prim.Native.Nat.{◌+◌, ◌≤◌}
use lib.ListN.{length, take}
use Rattle.text_plan.specs.Inner.{Puts}
use Rattle.text_plan.proofs.printing.put.Given as goal

abbrev pub invariant-loop-i : goal.invariant-loop-i
invariant-loop-i l = (l.i ≤ length l.s) × Puts (take l.i l.s) l.initial.out l.at l.out (l.at + l.i)
