-- `reach::scan::strays` meets its contract: a law for each way out.
use native.Mathlib.Omega.{arith}
use mathlib.Core.Path.{ap}
use mathlib.Core.Bool.{not, ◌&&◌}
use Rattle.carrying.specs.Insts.{is_set, address_position}
use Rattle.operands.specs.Inner.{addressing}
use Rattle.reach.proofs.LeafLaws.{test_def, test_physical, test_use, not_memory, in_memory}
use Rattle.reach.proofs.scan.strays.Goals as goal

pub returns-then-operands-i-eq1 : goal.returns-then-operands-i-eq1
returns-then-operands-i-eq1 c =
    test_def c.args.operands.now c.args.i c.args.v _ c.if-operands-i-eq1.true

pub returns-then-v-operands : goal.returns-then-v-operands
returns-then-v-operands c =
    test_physical c.args.operands.now c.args.i c.args.v (not (is_set c.args.mem && address_position (addressing c.args.base c.args.index) c.args.p))
    c.if-operands-i-eq1.false (omega arith)

pub returns-then-mem-ne1 : goal.returns-then-mem-ne1
returns-then-mem-ne1 c =
    test_use c.args.operands.now c.args.i c.args.v (not (is_set c.args.mem && address_position (addressing c.args.base c.args.index) c.args.p)) _
    c.if-operands-i-eq1.false (omega arith) (not_memory c.args.mem (address_position (addressing c.args.base c.args.index) c.args.p) c.if-mem-ne1.true)

pub returns : goal.returns
returns c =
    test_use c.args.operands.now c.args.i c.args.v (not (is_set c.args.mem && address_position (addressing c.args.base c.args.index) c.args.p)) _
    c.if-operands-i-eq1.false (omega arith)
    (in_memory c.args.mem (address_position (addressing c.args.base c.args.index) c.args.p) _ (omega arith) (ap not c.part.ensures))
