-- `flow::rows::gather` meets its contract: the edges before k are looked at.
use native.Mathlib.Omega.{arith}
use Prim.Native.Nat.{ℕ, ◌≤◌, ◌<◌}
use mathlib.Core.Path.{◌≡◌, refl}
use Rattle.bits.proofs.BitLaws.{aligned_rows}
use Rattle.flow_rows.proofs.GatherLaws.{gather_start, gather_stay, gather_go, gather_done, at_edge, touched_apart}
use Rattle.flow_rows.specs.Inner.{ends}
use Rattle.flow_rows.proofs.gather.Goals.{then-work-f, else-work-f}
use Rattle.flow_rows.proofs.gather.Goals as goal

-- an edge is left
before-end : (k end ends : ℕ) → end ≡ ends → k < end → k < ends
before-end k end ends e h = omega arith

all_seen : (k end ends : ℕ) → end ≡ ends → end ≤ k → ends ≤ k
all_seen k end ends e h = omega arith

pub loop-k-init : goal.loop-k-init
loop-k-init c =
    (refl, gather_start c.args.f _ _ _ _ c.requires.0 c.requires.1 c.requires.2 c.requires.3)

pub overflow_add-f-else-work-f : goal.overflow_add-f-else-work-f
overflow_add-f-else-work-f c =
    (at_edge c.loop-k.invariant.1 (before-end _ _ _ c.loop-k.invariant.0 c.loop-k-test.true)
    c.well_formed.0.1).out

pub overflow_add-f-else-work-f-2 : goal.overflow_add-f-else-work-f-2
overflow_add-f-else-work-f-2 c =
    (at_edge c.loop-k.invariant.1 (before-end _ _ _ c.loop-k.invariant.0 c.loop-k-test.true)
    c.well_formed.0.1).touched

pub row_or_two-requires : goal.row_or_two-requires
row_or_two-requires c =
    let a = at_edge c.loop-k.invariant.1 (before-end _ _ _ c.loop-k.invariant.0 c.loop-k-test.true) c.well_formed.0.1 in
    (a.row_in_x, a.out_in, a.touched_in, aligned_rows _ _ _ _, touched_apart c.loop-k.invariant.1 (before-end _ _ _ c.loop-k.invariant.0 c.loop-k-test.true))

pub loop-k-preserved : goal.loop-k-preserved
loop-k-preserved c =
    let inv = c.loop-k.invariant.1 in
    let left : c.loop-k.k < ends c.args.f c.args.work.now c.args.u = omega arith in
    elim c.if-work-f.branch [
      | then-work-f w ↦ (c.loop-k.invariant.0, rw (w.work-is, w.looped-is) (gather_stay inv left w.if-work-f.true))
      | else-work-f w ↦ (c.loop-k.invariant.0, rw (w.work-is, w.looped-is) (gather_go inv left w.if-work-f.false w.row_or_two.ensures))
    ]

pub returns : goal.returns
returns c = gather_done c.loop-k.invariant.1 (all_seen _ _ _ c.loop-k.invariant.0 c.loop-k-test.false)
