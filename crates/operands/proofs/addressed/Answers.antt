-- `operands::addressed` meets its contract: what is left of the operands decides.
use native.Mathlib.Omega.{arith}
use Prim.Native.Nat.{◌+◌}
use mathlib.Core.Path.{◌≡◌, refl, sym, ap, ◌∙◌}
use Rattle.operands.proofs.OperandLaws.{From, each_pass, each_fail, each_end}
use Rattle.insts.specs.Inner.{operand_at}
use Rattle.operands.specs.Inner.{addressing}
use Rattle.operands.proofs.addressed.Goals as goal

pub loop-p-init : goal.loop-p-init
loop-p-init c = (omega arith, refl)

pub returns-then-stray : goal.returns-then-stray
returns-then-stray c =
    sym (c.loop-p.invariant.1 ∙ each_fail (addressing c.args.base c.args.index) c.args.r c.args.n (λ p. operand_at (c.args.operands.now) (c.args.from + p))
    c.loop-p.p (omega arith) (sym c.stray.ensures ∙ c.if-stray.true))

pub loop-p-preserved : goal.loop-p-preserved
loop-p-preserved c = (
  omega arith,
  c.loop-p.invariant.1 ∙ each_pass (addressing c.args.base c.args.index) c.args.r c.args.n (λ p. operand_at (c.args.operands.now) (c.args.from + p))
      c.loop-p.p (omega arith) (sym c.stray.ensures ∙ c.if-stray.false),
)

pub returns : goal.returns
returns c =
    let q : c.loop-p.p ≡ c.args.n = omega arith in
    sym (c.loop-p.invariant.1 ∙ ap (From (addressing c.args.base c.args.index) c.args.r c.args.n (λ p. operand_at (c.args.operands.now) (c.args.from + p))) q
    ∙ each_end (addressing c.args.base c.args.index) c.args.r c.args.n (λ p. operand_at (c.args.operands.now) (c.args.from + p)))
