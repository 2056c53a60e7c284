-- `spilled_registers::assign` meets its contract: the last of the assignments passed.
use native.Mathlib.Omega.{arith}
use Prim.Native.Nat.{ℕ, ◌*◌}
use mathlib.Core.Path.{◌≡◌, refl, sym, ap}
use lib.ListN.{get_or}
use Rattle.spilled_registers.proofs.SpilledLaws.{held_start, held_store, held_skip}
use Rattle.spill_checks.proofs.AssignedLaws.{assigned_at}
use native.Mathlib.Nat.{add-zero}
use Rattle.words.specs.Widths.{assigned_width, assigned_count}
use Rattle.spilled_registers.proofs.assign.Goals as goal
use Rattle.spilled_registers.proofs.assign.Goals.{then-slot-n, else-slot-n}

pub loop-i-init : goal.loop-i-init
loop-i-init c = (omega arith, omega arith, held_start (assigned_at (c.args.assigned.now)) _ _)

pub loop-i-preserved : goal.loop-i-preserved
loop-i-preserved c =
    elim c.if-slot-n.branch [
      | then-slot-n w ↦ rw w.answer-is (
        omega arith,
        omega arith,
        held_store (assigned_at (c.args.assigned.now)) c.loop-i.invariant.2 _ _ (omega arith) (omega arith) refl
            (ap (λ (k : ℕ). get_or (c.args.assigned.now) k 0) (sym (add-zero (assigned_width * c.loop-i.i)))),
      )
      | else-slot-n w ↦ rw w.answer-is (omega arith, omega arith, held_skip (assigned_at (c.args.assigned.now)) c.loop-i.invariant.2 (omega arith))
    ]

pub returns : goal.returns
returns c = let q : c.loop-i.i ≡ assigned_count (c.args.assigned.now) = omega arith in rw q at c.loop-i.invariant.2
