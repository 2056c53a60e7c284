-- `spilled_registers::assign` meets its contract: the last of the assignments passed.
use Prim.Native.Nat.{◌≤◌}
use mathlib.Core.Path.{◌≡◌}
use Rattle.spilled_registers.proofs.SpilledLaws.{Held}
use Rattle.spill_checks.proofs.AssignedLaws.{assigned_at}
use Rattle.words.specs.Widths.{assigned_count}
use Rattle.spilled_registers.proofs.assign.Given as goal

abbrev pub invariant-loop-i : goal.invariant-loop-i
invariant-loop-i l = (l.m ≡ assigned_count l.assigned) × (l.i ≤ l.m) × Held (assigned_at l.assigned) l.initial.answer l.answer l.n l.i
