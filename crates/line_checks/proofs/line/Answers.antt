-- `line` meets its contract: no block before i is refused, and the bits are the numbers used so far.
use native.Mathlib.Omega.{arith}
use Prim.Native.Nat.{ℕ}
use mathlib.Core.Path.{◌≡◌, refl, sym, ap, ◌∙◌}
use Rattle.line_checks.proofs.Refusals.{by_number, by_use, by_span, used_none, used_more}
use Rattle.graph.proofs.Line.{number_is, blocks_length}
use Rattle.graph.specs.Line.{blocks_of, block_at, used_before}
use Rattle.refusals.proofs.Laws.{scan_none, scan_miss, scan_hit, scan_end}
use Rattle.bits.specs.Bits.{bit}
use Rattle.line_checks.proofs.line.Goals as goal

pub loop-i-init : goal.loop-i-init
loop-i-init c = (omega arith, omega arith, scan_none _ _, refl, used_none (blocks_of c.args.blocks.now))

pub returns-then-n-number : goal.returns-then-n-number
returns-then-n-number c =
    let at_i : (block_at (blocks_of c.args.blocks.now) c.loop-i.i).number ≡ c.wide-number.result = number_is c.args.blocks.now c.loop-i.i (omega arith) ∙ sym c.wide-number.ensures in
    sym (scan_hit _ _ _ _ c.loop-i.invariant.2
    (by_number (blocks_of c.args.blocks.now) c.args.points c.loop-i.i (omega (arith, at_i, blocks_length c.args.blocks.now)))
    (omega (arith, blocks_length c.args.blocks.now)))

pub slice_bounds-test-end : goal.slice_bounds-test-end
slice_bounds-test-end c = omega (arith, c.loop-i.invariant.3)

pub returns-then-test : goal.returns-then-test
returns-then-test c =
    let at_i : (block_at (blocks_of c.args.blocks.now) c.loop-i.i).number ≡ c.wide-number.result = number_is c.args.blocks.now c.loop-i.i (omega arith) ∙ sym c.wide-number.ensures in
    let used-at : used_before (blocks_of c.args.blocks.now) (block_at (blocks_of c.args.blocks.now) c.loop-i.i).number c.loop-i.i ≡ bit c.loop-i.used 0 c.wide-number.result =
    ap (λ (y : ℕ). used_before (blocks_of c.args.blocks.now) y c.loop-i.i) (at_i) ∙ sym (c.loop-i.invariant.4 c.wide-number.result (omega arith)) in
    sym (scan_hit _ _ _ _ c.loop-i.invariant.2 (by_use (blocks_of c.args.blocks.now) c.args.points c.loop-i.i
    (omega (arith, at_i, blocks_length c.args.blocks.now))
    (used-at ∙ sym c.test.ensures ∙ c.if-test.true)) (omega (arith, blocks_length c.args.blocks.now)))

pub returns-then-bad_span : goal.returns-then-bad_span
returns-then-bad_span c =
    let at_i : (block_at (blocks_of c.args.blocks.now) c.loop-i.i).number ≡ c.wide-number.result = number_is c.args.blocks.now c.loop-i.i (omega arith) ∙ sym c.wide-number.ensures in
    let used-at : used_before (blocks_of c.args.blocks.now) (block_at (blocks_of c.args.blocks.now) c.loop-i.i).number c.loop-i.i ≡ bit c.loop-i.used 0 c.wide-number.result =
    ap (λ (y : ℕ). used_before (blocks_of c.args.blocks.now) y c.loop-i.i) (at_i) ∙ sym (c.loop-i.invariant.4 c.wide-number.result (omega arith)) in
    sym (scan_hit _ _ _ _ c.loop-i.invariant.2 (by_span (blocks_of c.args.blocks.now) c.args.points c.loop-i.i
    (omega (arith, at_i, blocks_length c.args.blocks.now))
    (used-at ∙ sym c.test.ensures ∙ c.if-test.false) ∙ sym c.bad_span.ensures
    ∙ c.if-bad_span.true) (omega (arith, blocks_length c.args.blocks.now)))

pub slice_bounds-set-end : goal.slice_bounds-set-end
slice_bounds-set-end c = omega (arith, c.loop-i.invariant.3)

pub loop-i-preserved : goal.loop-i-preserved
loop-i-preserved c =
    let at_i : (block_at (blocks_of c.args.blocks.now) c.loop-i.i).number ≡ c.wide-number.result = number_is c.args.blocks.now c.loop-i.i (omega arith) ∙ sym c.wide-number.ensures in
    let used-at : used_before (blocks_of c.args.blocks.now) (block_at (blocks_of c.args.blocks.now) c.loop-i.i).number c.loop-i.i ≡ bit c.loop-i.used 0 c.wide-number.result =
    ap (λ (y : ℕ). used_before (blocks_of c.args.blocks.now) y c.loop-i.i) (at_i) ∙ sym (c.loop-i.invariant.4 c.wide-number.result (omega arith)) in (
      omega arith,
      omega arith,
      scan_miss _ _ _ c.loop-i.invariant.2 (by_span (blocks_of c.args.blocks.now) c.args.points c.loop-i.i (omega
          (arith, at_i, blocks_length c.args.blocks.now)) (used-at ∙ sym
          c.test.ensures ∙ c.if-test.false) ∙ sym
          c.bad_span.ensures ∙ c.if-bad_span.false),
      c.set.ensures.len ∙ c.loop-i.invariant.3,
      used_more (blocks_of c.args.blocks.now) c.loop-i.i _ _ _ (sym (at_i)) c.set.ensures c.loop-i.invariant.4,
    )

pub returns : goal.returns
returns c =
    sym (scan_end _ _ _ _ c.loop-i.invariant.2 (omega (arith, blocks_length c.args.blocks.now)) (omega (arith, blocks_length c.args.blocks.now)))
