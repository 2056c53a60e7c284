-- `slot_registers::assign` meets its contract: the last of the assignments passed.
use native.Mathlib.Omega.{arith}
use native.Mathlib.Nat.{add-zero}
use Prim.Native.Nat.{ℕ, ◌+◌, ◌*◌}
use mathlib.Core.Path.{refl, sym, ap}
use lib.ListN.{get_or}
use Rattle.spill_checks.proofs.AssignedLaws.{assigned_at}
use Rattle.slot_registers.proofs.HeldLaws.{held_start, held_put, held_skip, held_done}
use Rattle.words.specs.Widths.{assigned_width, assigned_count}
use Rattle.slot_registers.proofs.assign.Goals as goal
use Rattle.slot_registers.proofs.assign.Goals.{then-s-slots, else-s-slots}

pub loop-i-init : goal.loop-i-init
loop-i-init c = (refl, omega arith, held_start (assigned_at c.args.assigned.now) c.args.at c.args.slots _ c.requires.0 c.requires.1)

pub loop-i-preserved : goal.loop-i-preserved
loop-i-preserved c =
    elim c.if-s-slots.branch [
      | then-s-slots w ↦ rw w.work-is (
        omega arith,
        omega arith,
        held_put (assigned_at c.args.assigned.now) c.args.at c.args.slots c.loop-i.invariant.2 _ _ _ refl
            (omega arith) refl (ap (λ (k : ℕ). get_or c.args.assigned.now k 0 + 1) (sym (add-zero (assigned_width * c.loop-i.i)))),
      )
      | else-s-slots w ↦ rw w.work-is (omega arith, omega arith, held_skip (assigned_at c.args.assigned.now) c.args.at c.args.slots c.loop-i.invariant.2 (omega arith))
    ]

pub returns : goal.returns
returns c =
    held_done (assigned_at c.args.assigned.now) c.args.at c.args.slots c.loop-i.invariant.2 (assigned_count c.args.assigned.now) (omega arith)
