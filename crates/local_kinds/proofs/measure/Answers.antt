-- `local_kinds::measure` meets its contract: the layout, the preparation, the kinds.
use Rattle.local_kinds.proofs.EntryLaws.{measured}
use Rattle.carry_checks.proofs.LayoutLaws.{measure_ready}
use Rattle.local_kinds.proofs.measure.Goals as goal

pub kinds-requires : goal.kinds-requires
kinds-requires c = (
  measure_ready c.args.v c.args.insts.now c.args.operands.now c.args.crossings.now c.args.locals.now c.args.addresses.now c.args.ends.now
      c.layout-lay.result c.prepare-n.result c.requires.0 c.layout-lay.ensures.0 c.prepare-n.ensures,
  c.requires.1,
)

pub returns : goal.returns
returns c =
    measured c.args.v c.args.insts.now c.args.operands.now c.args.crossings.now c.args.locals.now c.args.addresses.now c.args.ends.now
    c.layout-lay.result c.prepare-n.result c.requires.0 c.layout-lay.ensures.0 c.prepare-n.ensures c.kinds.ensures c.layout-lay.ensures.1
