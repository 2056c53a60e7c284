-- `preparing::registers` meets its contract: the steps one after another.
use Rattle.preparing.proofs.ReadyLaws.{registered}
use Rattle.preparing.proofs.registers.Goals as goal

pub returns : goal.returns
returns c =
    registered c.args.v c.args.insts.now c.args.operands.now c.args.crossings.now c.args.lay c.requires.adds_up.0 c.requires.v_bound.0 c.requires.v_bound.1 c.requires.v_bound.2
    c.requires.v_bound.3 c.requires.v_bound.4 c.requires.adds_up.3 c.requires.v_bound.5
    c.clear.ensures
    c.scan-n.ensures c.cross.ensures
    c.index.ensures
