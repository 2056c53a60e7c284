use Prim.Native.Nat.{min, max}
use Rattle.drawing.proofs.AxisLaws.{least_none, least_more, greatest_none, greatest_more}
use Rattle.drawing.specs.Axis.{least_of, greatest_of}
use Rattle.words.specs.Rows.{row_count}
use native.Mathlib.Omega.{arith}
use Rattle.std.proofs.Common.{rules}
use Prim.Native.Nat.{ℕ, ◌+◌, ◌*◌}
use mathlib.Core.Path.{◌≡◌, sym, ap, ◌∙◌}
use lib.ListN.{get_or}
use Rattle.drawing.proofs.widened.Goals as goal

pub loop-i-init : goal.loop-i-init
loop-i-init c = (sym (least_none _ _ _ _), sym (greatest_none _ _ _ _))

pub loop-i-preserved : goal.loop-i-preserved
loop-i-preserved c =
    let l = c.args.l.now in
    let at = c.args.w * c.loop-i.i in
    let low : c.min-low.result ≡ min c.loop-i.low (get_or l (at + c.args.s) 0) = search rules in
    let high : c.max-high.result ≡ max c.loop-i.high (get_or l (at + c.args.e) 0) = search rules in (
      low ∙ ap (λ (x : ℕ). min x (get_or l (at + c.args.s) 0)) c.loop-i.invariant.0 ∙ sym (least_more _ _ _ _ _),
      high ∙ ap (λ (x : ℕ). max x (get_or l (at + c.args.e) 0)) c.loop-i.invariant.1 ∙ sym (greatest_more _ _ _ _ _),
    )

pub returns : goal.returns
returns c =
    let e : c.loop-i.i ≡ row_count c.args.w c.args.l.now = omega arith in (
      c.loop-i.invariant.0 ∙ ap (least_of c.args.w c.args.l.now c.args.s c.args.ends.low) e,
      c.loop-i.invariant.1 ∙ ap
          (greatest_of c.args.w c.args.l.now c.args.e c.args.ends.high) e,
    )
