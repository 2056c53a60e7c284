-- `reach::scan::scan` meets its contract: what the first i instructions leave.
use native.Mathlib.Omega.{arith}
use mathlib.Core.Path.{◌≡◌, refl}
use Rattle.words.specs.Widths.{inst_count, inst_operands}
use Rattle.graph.proofs.Sums.{sum_start, sum_next}
use Rattle.reach.proofs.ScanLaws.{scan_start, scan_more}
use Rattle.insts.proofs.DealtLaws.{operands_within}
use Rattle.words.proofs.FitLaws.{within}
use Rattle.reach.proofs.scan.scan.Goals as goal

pub loop-i-init : goal.loop-i-init
loop-i-init c =
    (refl, omega arith, sum_start _, scan_start c.args.v c.args.insts.now c.args.operands.now c.args.lay c.args.work.now c.requires.adds_up.3)

pub one-count-requires : goal.one-count-requires
one-count-requires c =
    let z = operands_within c.args.insts.now c.args.operands.now c.requires.adds_up.0 c.loop-i.i (within _ _ _ c.loop-i.invariant.0 c.loop-i-test.true) in
    let q = c.loop-i.invariant.3.few in
    let l = c.loop-i.invariant.3.kept.len in
    record { i_bound = omega arith; v_bound = omega arith }

pub overflow_add-from : goal.overflow_add-from
overflow_add-from c =
    let z = operands_within c.args.insts.now c.args.operands.now c.requires.adds_up.0 c.loop-i.i
    (within _ _ _ c.loop-i.invariant.0 c.loop-i-test.true) in
    let y = c.wide-from.ensures in
    omega arith

pub loop-i-preserved : goal.loop-i-preserved
loop-i-preserved c =
    let z = sum_next (λ k. inst_operands c.args.insts.now k) c.loop-i.i in
    let y = c.wide-from.ensures in (
      omega arith,
      omega arith,
      omega arith,
      scan_more _ c.args.insts.now c.args.operands.now _ c.requires.adds_up.0 (omega arith) c.loop-i.invariant.3 (omega arith) c.loop-i.from
          c.loop-i.invariant.2 c.one-count.ensures,
    )

pub returns : goal.returns
returns c = let z : c.loop-i.i ≡ inst_count c.args.insts.now = omega arith in rw z at c.loop-i.invariant.3
