-- `insts::counts::operand_sum` meets its contract: the sum of the counts passed, each below 2³².
use native.Mathlib.Omega.{arith}
use Prim.Native.Nat.{ℕ, ◌+◌, ◌*◌}
use mathlib.Core.Path.{◌≡◌, sym, ap, ◌∙◌}
use Rattle.graph.proofs.Sums.{sum_start, sum_next}
use Rattle.insts.specs.Counts.{offset}
use Rattle.words.specs.Widths.{inst_width, inst_count, inst_operands}
use Rattle.insts.proofs.counts.operand_sum.Goals as goal

pub loop-i-init : goal.loop-i-init
loop-i-init c = (omega arith, omega arith, omega arith, sum_start _, omega arith)

pub overflow_cast-sum : goal.overflow_cast-sum
overflow_cast-sum c = omega (arith, c.type_inv.insts (inst_width * c.loop-i.i + 8))

pub overflow_add-sum-in-loop-i : goal.overflow_add-sum-in-loop-i
overflow_add-sum-in-loop-i c = omega (arith, c.type_inv.insts (inst_width * c.loop-i.i + 8))

pub loop-i-preserved : goal.loop-i-preserved
loop-i-preserved c = (
  omega arith,
  omega arith,
  omega arith,
  ap (λ (x : ℕ). x + inst_operands (c.args.insts.now) c.loop-i.i) c.loop-i.invariant.3 ∙ sym
      (sum_next (λ k. inst_operands (c.args.insts.now) k) c.loop-i.i),
  omega (arith, c.type_inv.insts (inst_width * c.loop-i.i + 8)),
)

pub returns : goal.returns
returns c =
    let q : c.loop-i.i ≡ inst_count (c.args.insts.now) = omega arith in c.loop-i.invariant.3 ∙ ap (offset (c.args.insts.now)) q
