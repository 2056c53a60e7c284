-- `insts::checks::inst` meets its contract: no instruction before i is refused.
use native.Mathlib.Omega.{arith}
use Prim.Native.Nat.{ℕ, ◌+◌}
use mathlib.Core.Path.{sym, ap, ◌∙◌}
use Rattle.refusals.proofs.Laws.{scan_none, scan_miss, scan_hit, scan_end}
use Rattle.words.specs.Widths.{inst_operands}
use Rattle.graph.proofs.Sums.{sum_start, sum_next}
use Rattle.insts.specs.Counts.{offset}
use Rattle.insts.proofs.DealtLaws.{operands_within, insts_length}
use Rattle.insts.proofs.checks.inst.Goals as goal

pub loop-i-init : goal.loop-i-init
loop-i-init c = (omega arith, omega arith, omega arith, sum_start _, scan_none _ _)

pub near-k-requires : goal.near-k-requires
near-k-requires c = (c.requires.0, c.loop-i.invariant.0)

pub bad_inst-requires : goal.bad_inst-requires
bad_inst-requires c =
    record { sound = (c.requires.0, omega arith, c.requires.1); from_value = (c.loop-i.invariant.3, c.requires.2, c.near-k.ensures) }

pub returns-then-bad_inst : goal.returns-then-bad_inst
returns-then-bad_inst c =
    sym (scan_hit _ _ _ _ c.loop-i.invariant.4 (sym c.bad_inst.ensures ∙ c.if-bad_inst.true)
    (omega (arith, insts_length (c.args.insts.now) (c.args.operands.now))))

pub overflow_add-from : goal.overflow_add-from
overflow_add-from c =
    omega (arith, operands_within (c.args.insts.now) (c.args.operands.now) c.requires.1 c.loop-i.i (omega arith))

pub loop-i-preserved : goal.loop-i-preserved
loop-i-preserved c = (
  c.near-k.ensures.within,
  omega arith,
  omega arith,
  ap (λ (x : ℕ). x + c.wide-from.result) c.loop-i.invariant.3 ∙ ap
      (λ (x : ℕ). offset (c.args.insts.now) c.loop-i.i + x) c.wide-from.ensures ∙ sym (sum_next (λ k. inst_operands (c.args.insts.now) k) c.loop-i.i),
  scan_miss _ _ _
      c.loop-i.invariant.4 (sym c.bad_inst.ensures ∙ c.if-bad_inst.false),
)

pub returns : goal.returns
returns c =
    sym (scan_end _ _ _ _ c.loop-i.invariant.4 (omega (arith, insts_length (c.args.insts.now) (c.args.operands.now)))
    (omega (arith, insts_length (c.args.insts.now) (c.args.operands.now))))
