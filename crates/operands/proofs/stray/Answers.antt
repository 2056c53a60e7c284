-- `operands::stray` meets its contract: a law for each way out.
use native.Mathlib.Omega.{arith}
use Prim.Native.Nat.{ℕ, ◌*◌}
use mathlib.Core.Path.{◌≡◌, sym, ap, ◌∙◌}
use lib.ListN.{get_or}
use Rattle.operands.proofs.OperandLaws.{stray_other, stray_def, stray_use}
use native.Mathlib.Nat.{add-zero}
use mathlib.Core.Bool.{not}
use Rattle.carrying.specs.Insts.{address_position}
use Rattle.insts.specs.Inner.{operand_at}
use Rattle.operands.specs.Inner.{addressing}
use Rattle.words.specs.Widths.{operand_width}
use Rattle.words.specs.Inner.{operand_def}
use Rattle.operands.proofs.stray.Goals as goal

pub returns-then-operands-i : goal.returns-then-operands-i
returns-then-operands-i c =
    stray_other c.args.r (operand_at (c.args.operands.now) c.args.i) (not (address_position (addressing c.args.base c.args.index) c.args.p)) c.if-operands-i.true

pub returns-then-operands-i-eq1 : goal.returns-then-operands-i-eq1
returns-then-operands-i-eq1 c =
    let z : operand_def (c.args.operands.now) c.args.i ≡ get_or (c.args.operands.now) (operand_width * c.args.i) 0 = ap (λ (k : ℕ). get_or (c.args.operands.now) k 0)
    (add-zero (operand_width * c.args.i)) in
    stray_def c.args.r (operand_at (c.args.operands.now) c.args.i) (not (address_position (addressing c.args.base c.args.index) c.args.p))
    c.if-operands-i.false (omega arith)

pub returns : goal.returns
returns c =
    let z : operand_def (c.args.operands.now) c.args.i ≡ get_or (c.args.operands.now) (operand_width * c.args.i) 0 = ap (λ (k : ℕ). get_or (c.args.operands.now) k 0)
    (add-zero (operand_width * c.args.i)) in
    ap not c.part.ensures ∙ stray_use c.args.r (operand_at (c.args.operands.now) c.args.i)
    (not (address_position (addressing c.args.base c.args.index) c.args.p)) c.if-operands-i.false (λ q. c.if-operands-i-eq1.false (sym z ∙ q))
