-- `insts::checks::bad_operands` meets its contract: no operand before p is refused.
use native.Mathlib.Omega.{arith}
use Prim.Native.Nat.{ℕ, ◌+◌}
use mathlib.Core.Path.{◌≡◌, sym, ap, ◌∙◌}
use Rattle.carrying.specs.Lists.{any}
use Rattle.carrying.specs.Checks.{bad_operand}
use Rattle.insts.specs.Inner.{operand_at, operands_from}
use Rattle.insts.proofs.DealtLaws.{any_none, any_miss, any_hit}
use Rattle.insts.proofs.checks.bad_operands.Goals as goal

pub loop-p-init : goal.loop-p-init
loop-p-init c = (omega arith, any_none _ _)

pub returns-then-bad_operand : goal.returns-then-bad_operand
returns-then-bad_operand c =
    sym (any_hit (bad_operand c.args.v) (λ p. operand_at c.args.operands.now (c.args.from + p)) c.loop-p.p c.args.n
    c.loop-p-test.true (sym c.bad_operand.ensures ∙ c.if-bad_operand.true))

pub loop-p-preserved : goal.loop-p-preserved
loop-p-preserved c = (
  omega arith,
  any_miss (bad_operand c.args.v) (λ p. operand_at c.args.operands.now (c.args.from + p)) c.loop-p.p c.loop-p.invariant.1
      (sym c.bad_operand.ensures ∙ c.if-bad_operand.false),
)

pub returns : goal.returns
returns c =
    let q : c.args.n ≡ c.loop-p.p = omega arith in
    sym (ap (λ (k : ℕ). any (bad_operand c.args.v) (operands_from c.args.operands.now c.args.from k)) q ∙ c.loop-p.invariant.1)
