-- `points` meets its contract: a bit is set where the point is between the ends of a range.
use Rattle.fit_tables.proofs.DrawLaws.{pointed_start, pointed_more, point_at, pointed_range, product_fits, product_small}
use native.Mathlib.Omega.{arith}
use Prim.Native.Nat.{◌+◌}
use mathlib.Core.Path.{refl}
use Rattle.fit_tables.proofs.sample_rows.points.Goals as goal

pub loop-t-init : goal.loop-t-init
loop-t-init c = (omega arith, pointed_start c.requires.2)

pub overflow_mul-p : goal.overflow_mul-p
overflow_mul-p c =
    record { fits = product_fits c.loop-t.t c.args.row.width c.args.row.step (omega arith) c.requires.3 c.requires.5 }

pub loop-t-preserved-then-x-p : goal.loop-t-preserved-then-x-p
loop-t-preserved-then-x-p c =
    let the-loop = c.loop-t in
    (omega arith, (the-loop).invariant.1)

pub mark-t-requires : goal.mark-t-requires
mark-t-requires c =
    (omega (arith, c.loop-t.invariant.1.len), refl, omega arith, product_small c.loop-t.t c.args.row.width c.args.row.step (omega arith) c.requires.3 c.requires.5, c.requires.5, omega arith)

pub loop-t-preserved-then-x-p-2 : goal.loop-t-preserved-then-x-p-2
loop-t-preserved-then-x-p-2 c =
    let P = c.loop-t.invariant.1 in
    let e = pointed_range P (c.args.from + c.loop-t.i) (omega arith) in (
      omega arith,
      pointed_more P c.mark-t.ensures (omega arith)
          (λ q a b. point_at c.args.w.now c.args.from c.args.count c.loop-t.i q (omega arith) (omega arith) (omega (arith, e, a)) (omega (arith, e, b))),
    )

pub loop-t-preserved : goal.loop-t-preserved
loop-t-preserved c =
    let the-loop = c.loop-t in
    (omega arith, (the-loop).invariant.1)
