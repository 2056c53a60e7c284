-- `reach::scan::handed` meets its contract: a law for each way out.
use native.Mathlib.Omega.{arith}
use Prim.Native.Nat.{◌+◌}
use mathlib.Core.Path.{sym, ◌∙◌}
use mathlib.Core.Bool.{◌&&◌}
use Rattle.carrying.specs.Insts.{address_position, each_address}
use Rattle.insts.specs.Inner.{operand_at, operands_from}
use Rattle.operands.specs.Inner.{addressing}
use Rattle.reach.proofs.LeafLaws.{test_def, test_physical, test_use, both_of, neither_of}
use Rattle.reach.proofs.scan.handed.Goals as goal

pub returns-then-operands-i-eq1 : goal.returns-then-operands-i-eq1
returns-then-operands-i-eq1 c =
    test_def c.args.operands.now (c.args.from + c.args.p) c.args.v _ c.if-operands-i-eq1.true

pub returns-then-v-r : goal.returns-then-v-r
returns-then-v-r c =
    test_physical c.args.operands.now (c.args.from + c.args.p) c.args.v ((address_position (addressing c.args.base c.args.index) c.args.p) && (each_address
    (addressing c.args.base c.args.index) (operand_at c.args.operands.now (c.args.from + c.args.p)).register 0
    (operands_from c.args.operands.now c.args.from c.args.n))) c.if-operands-i-eq1.false (omega arith)

pub returns-then-part : goal.returns-then-part
returns-then-part c =
    test_use c.args.operands.now (c.args.from + c.args.p) c.args.v ((address_position (addressing c.args.base c.args.index) c.args.p) && (each_address
    (addressing c.args.base c.args.index) (operand_at c.args.operands.now (c.args.from + c.args.p)).register 0
    (operands_from c.args.operands.now c.args.from c.args.n))) _ c.if-operands-i-eq1.false (omega arith) (c.addressed.ensures ∙ both_of
    (address_position (addressing c.args.base c.args.index) c.args.p) (each_address (addressing c.args.base c.args.index)
    (operand_at c.args.operands.now (c.args.from + c.args.p)).register 0 (operands_from c.args.operands.now c.args.from c.args.n)) (sym
    c.part.ensures ∙ c.if-part.true))

pub returns : goal.returns
returns c =
    test_use c.args.operands.now (c.args.from + c.args.p) c.args.v ((address_position (addressing c.args.base c.args.index) c.args.p) && (each_address
    (addressing c.args.base c.args.index) (operand_at c.args.operands.now (c.args.from + c.args.p)).register 0
    (operands_from c.args.operands.now c.args.from c.args.n))) _ c.if-operands-i-eq1.false (omega arith) (neither_of (address_position
    (addressing c.args.base c.args.index) c.args.p) (each_address (addressing c.args.base c.args.index)
    (operand_at c.args.operands.now (c.args.from + c.args.p)).register 0 (operands_from c.args.operands.now c.args.from c.args.n)) (sym
    c.part.ensures ∙ c.if-part.false))
