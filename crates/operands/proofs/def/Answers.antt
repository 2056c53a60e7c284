-- `operands::def` meets its contract: no register was found, or one.
use native.Mathlib.Omega.{arith}
use Prim.Native.Nat.{ℕ, ◌+◌}
use mathlib.Core.Path.{◌≡◌, refl, sym, ◌∙◌}
use Rattle.operands.proofs.OperandLaws.{def_word, found_none, found_def, found_use, def_two, def_none, def_one, def_physical}
use Rattle.insts.specs.Inner.{operand_at}
use Rattle.operands.proofs.def.Goals.{then-operands-i-eq1+else-count-eq1, else-operands-i-eq1}
use Rattle.operands.proofs.def.Goals as goal

pub loop-p-init : goal.loop-p-init
loop-p-init c = (omega arith, omega arith, (λ e. found_none (λ p. operand_at (c.args.operands.now) (c.args.from + p))), (λ e. absurd (omega arith)))

pub returns-then-count-eq1 : goal.returns-then-count-eq1
returns-then-count-eq1 c =
    def_two (λ p. operand_at (c.args.operands.now) (c.args.from + p)) c.args.v c.loop-p.p c.args.n c.loop-p.register (omega arith)
    (omega (arith, def_word c.args.operands.now (c.args.from + c.loop-p.p))) (c.loop-p.invariant.3 (omega arith))

pub loop-p-preserved : goal.loop-p-preserved
loop-p-preserved c =
    let o = λ (q : ℕ). operand_at c.args.operands.now (c.args.from + q) in
    let inv = c.loop-p.invariant in
    let z = def_word c.args.operands.now (c.args.from + c.loop-p.p) in
    elim c.if-operands-i-eq1.branch [
      | then-operands-i-eq1+else-count-eq1 w ↦
          let none : c.loop-p.count ≡ 0 = omega arith in
          rw (w.count-is, w.register-is)
          (omega arith, omega arith, (λ e. absurd (omega arith)), (λ e. found_def o c.loop-p.p _ (omega arith) (inv.2 none) refl))
      | else-operands-i-eq1 w ↦
          rw (w.count-is, w.register-is) (
            omega arith,
            omega arith,
            (λ e. found_use o c.loop-p.p _ (λ q. w.if-operands-i-eq1.false (sym z ∙ q)) (inv.2 e)),
            (λ e. found_use o c.loop-p.p _ (λ q. w.if-operands-i-eq1.false (sym z ∙ q)) (inv.3 e)),
          )
    ]

pub returns-then-count-eq0 : goal.returns-then-count-eq0
returns-then-count-eq0 c =
    let q : c.loop-p.p ≡ c.args.n = omega arith in
    def_none (λ p. operand_at (c.args.operands.now) (c.args.from + p)) c.args.v c.args.n (rw q at (c.loop-p.invariant.2 (omega arith)))

pub returns-then-register-v : goal.returns-then-register-v
returns-then-register-v c =
    let q : c.loop-p.p ≡ c.args.n = omega arith in
    let b = c.loop-p.invariant.1 in
    def_one (λ p. operand_at (c.args.operands.now) (c.args.from + p)) c.args.v c.args.n c.loop-p.register (rw q at (c.loop-p.invariant.3 (omega arith))) (omega arith)

pub returns : goal.returns
returns c =
    let q : c.loop-p.p ≡ c.args.n = omega arith in
    let b = c.loop-p.invariant.1 in
    def_physical (λ p. operand_at (c.args.operands.now) (c.args.from + p)) c.args.v c.args.n c.loop-p.register (rw q at (c.loop-p.invariant.3 (omega arith))) (omega arith)
