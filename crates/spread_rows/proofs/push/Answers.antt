-- `spread::rows::push` meets its contract: the edges before k are looked at.
use native.Mathlib.Omega.{arith}
use Prim.Native.Nat.{ℕ, ◌≤◌, ◌<◌}
use mathlib.Core.Path.{◌≡◌, refl}
use Rattle.bits.proofs.BitLaws.{aligned_rows}
use Rattle.spread_rows.specs.Inner.{ends}
use Rattle.spread_rows.proofs.Pushes.{push_start, push_same, push_grew, push_done, push_laid, target_lt}
use Rattle.spread_rows.proofs.Kept.{below_aligned}
use Rattle.spread_rows.proofs.Bounds.{before_edges, rows_of, target_rows, own_rows, at_edge, ranks_in, wait_at}
use Rattle.spread_rows.proofs.push.Goals.{then-row_pass, else-row_pass}
use Rattle.spread_rows.proofs.push.Goals as goal

pub overflow_add-to : goal.overflow_add-to
overflow_add-to c = (before_edges c.requires.0 c.well_formed.0.1 _ c.requires.1).to

pub overflow_add-to-2 : goal.overflow_add-to-2
overflow_add-to-2 c = (before_edges c.requires.0 c.well_formed.0.1 _ c.requires.1).to_one

pub overflow_add-out : goal.overflow_add-out
overflow_add-out c = (before_edges c.requires.0 c.well_formed.0.1 _ c.requires.1).waits

pub overflow_add-out-2 : goal.overflow_add-out-2
overflow_add-out-2 c =
    (before_edges c.requires.0 c.well_formed.0.1 _ c.requires.1).out

pub overflow_mul-row : goal.overflow_mul-row
overflow_mul-row c =
    (rows_of c.requires.0 c.well_formed.0.1 _ c.requires.1).rows

pub overflow_add-from : goal.overflow_add-from
overflow_add-from c =
    (rows_of c.requires.0 c.well_formed.0.1 _ c.requires.1).out

pub overflow_add-pass : goal.overflow_add-pass
overflow_add-pass c =
    (rows_of c.requires.0 c.well_formed.0.1 _ c.requires.1).pass

pub overflow_add-leave : goal.overflow_add-leave
overflow_add-leave c =
    (rows_of c.requires.0 c.well_formed.0.1 _ c.requires.1).leave

pub overflow_add-end : goal.overflow_add-end
overflow_add-end c =
    (before_edges c.requires.0 c.well_formed.0.1 _ c.requires.1).begin.fits

pub overflow_add-end-2 : goal.overflow_add-end-2
overflow_add-end-2 c =
    (before_edges c.requires.0 c.well_formed.0.1 _ c.requires.1).end.fits

pub offset_bounds-work-s : goal.offset_bounds-work-s
offset_bounds-work-s c =
    (before_edges c.requires.0 c.well_formed.0.1 _ c.requires.1).end.in_bytes

pub bounds-work-s : goal.bounds-work-s
bounds-work-s c =
    (before_edges c.requires.0 c.well_formed.0.1 _ c.requires.1).end.inside

pub offset_bounds-work-s-2 : goal.offset_bounds-work-s-2
offset_bounds-work-s-2 c =
    (before_edges c.requires.0 c.well_formed.0.1 _ c.requires.1).begin.in_bytes

pub bounds-work-s-2 : goal.bounds-work-s-2
bounds-work-s-2 c =
    (before_edges c.requires.0 c.well_formed.0.1 _ c.requires.1).begin.inside

pub loop-k-init : goal.loop-k-init
loop-k-init c =
    (refl, push_start _ _ _ c.requires.0 c.requires.1)

-- an edge is left, or none
before-end : (k end ends : ℕ) → end ≡ ends → k < end → k < ends
before-end k end ends e h = omega arith

all_seen : (k end ends : ℕ) → end ≡ ends → end ≤ k → ends ≤ k
all_seen k end ends e h = omega arith

pub overflow_add-v : goal.overflow_add-v
overflow_add-v c = (at_edge c.loop-k.invariant.1 (before-end _ _ _ c.loop-k.invariant.0 c.loop-k-test.true) c.well_formed.0.1).to.fits

pub offset_bounds-work-to : goal.offset_bounds-work-to
offset_bounds-work-to c = (at_edge c.loop-k.invariant.1 (before-end _ _ _ c.loop-k.invariant.0 c.loop-k-test.true) c.well_formed.0.1).to.in_bytes

pub bounds-work-to : goal.bounds-work-to
bounds-work-to c =
    (at_edge c.loop-k.invariant.1 (before-end _ _ _ c.loop-k.invariant.0 c.loop-k-test.true)
    c.well_formed.0.1).to.inside

pub overflow_mul-v : goal.overflow_mul-v
overflow_mul-v c =
    (target_rows c.loop-k.invariant.1 (before-end _ _ _ c.loop-k.invariant.0 c.loop-k-test.true)
    c.well_formed.0.1).rows

pub overflow_add-out-in-loop-k : goal.overflow_add-out-in-loop-k
overflow_add-out-in-loop-k c =
    (target_rows c.loop-k.invariant.1 (before-end _ _ _ c.loop-k.invariant.0 c.loop-k-test.true)
    c.well_formed.0.1).out

pub row_pass-requires : goal.row_pass-requires
row_pass-requires c = let L = push_laid c.loop-k.invariant.1 (before-end _ _ _ c.loop-k.invariant.0 c.loop-k-test.true) in let a = own_rows c.loop-k.invariant.1 (before-end _ _ _ c.loop-k.invariant.0 c.loop-k-test.true) c.well_formed.0.1 in
    record {
      n_in_bounds = (
        (target_rows c.loop-k.invariant.1 (before-end _ _ _ c.loop-k.invariant.0 c.loop-k-test.true) c.well_formed.0.1).out_in,
        a.out_in,
        a.pass_in,
        a.leave_in,
      );
      aligned = (aligned_rows _ _ _ _, below_aligned L _ _ _ L.passes_fit c.requires.1, below_aligned L _ _ _ L.leaves_fit c.requires.1);
    }

pub overflow_add-r : goal.overflow_add-r
overflow_add-r c =
    omega (
      arith,
      ranks_in c.loop-k.invariant.1 (before-end _ _ _ c.loop-k.invariant.0 c.loop-k-test.true) c.well_formed.0.1 c.row_pass.ensures,
      target_lt c.loop-k.invariant.1 (before-end _ _ _ c.loop-k.invariant.0 c.loop-k-test.true),
      c.requires.1,
    )

pub offset_bounds-work-s-then-row_pass : goal.offset_bounds-work-s-then-row_pass
offset_bounds-work-s-then-row_pass c =
    omega (
      arith,
      ranks_in c.loop-k.invariant.1 (before-end _ _ _ c.loop-k.invariant.0 c.loop-k-test.true) c.well_formed.0.1 c.row_pass.ensures,
      target_lt c.loop-k.invariant.1 (before-end _ _ _ c.loop-k.invariant.0 c.loop-k-test.true),
      c.requires.1,
    )

pub bounds-work-s-then-row_pass : goal.bounds-work-s-then-row_pass
bounds-work-s-then-row_pass c =
    omega (
      arith,
      ranks_in c.loop-k.invariant.1 (before-end _ _ _ c.loop-k.invariant.0 c.loop-k-test.true) c.well_formed.0.1 c.row_pass.ensures,
      target_lt c.loop-k.invariant.1 (before-end _ _ _ c.loop-k.invariant.0 c.loop-k-test.true),
      c.requires.1,
    )

pub set-requires : goal.set-requires
set-requires c =
    wait_at c.loop-k.invariant.1 (before-end _ _ _ c.loop-k.invariant.0 c.loop-k-test.true) c.well_formed.0.1 c.row_pass.ensures _
    (omega (arith, target_lt c.loop-k.invariant.1 (before-end _ _ _ c.loop-k.invariant.0 c.loop-k-test.true), c.requires.1))

pub loop-k-preserved : goal.loop-k-preserved
loop-k-preserved c =
    let inv = c.loop-k.invariant.1 in
    let left : c.loop-k.k < ends c.args.s c.args.work.now c.args.u = omega arith in
    elim c.if-row_pass.branch [
      | then-row_pass w ↦ (c.loop-k.invariant.0, rw w.work-is (push_grew inv left (rw w.if-row_pass.true at c.row_pass.ensures) w.set.ensures))
      | else-row_pass w ↦ (c.loop-k.invariant.0, rw w.work-is (push_same inv left (rw w.if-row_pass.false at c.row_pass.ensures)))
    ]

pub returns : goal.returns
returns c = push_done c.loop-k.invariant.1 (all_seen _ _ _ c.loop-k.invariant.0 c.loop-k-test.false)
