-- `slot_registers::assign` meets its contract: the last of the assignments passed.
use Prim.Native.Nat.{◌≤◌}
use mathlib.Core.Path.{◌≡◌}
use Rattle.spill_checks.proofs.AssignedLaws.{assigned_at}
use Rattle.slot_registers.proofs.HeldLaws.{Holding}
use Rattle.words.specs.Widths.{assigned_count}
use Rattle.slot_registers.proofs.assign.Given as goal

abbrev pub invariant-loop-i : goal.invariant-loop-i
invariant-loop-i l = (l.n ≡ assigned_count l.assigned) × (l.i ≤ l.n) × Holding (assigned_at l.assigned) l.at l.slots l.initial.work l.work l.i
