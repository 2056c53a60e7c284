-- `mark` meets its contract: the locals are chained, then marked.
use Rattle.lent_areas.proofs.SolveLaws.{mark_ready, mark_done}
use Rattle.lent_areas.proofs.mark.Goals as goal

pub chains-requires : goal.chains-requires
chains-requires c = c.requires.laid

pub mark_all-requires : goal.mark_all-requires
mark_all-requires c = (
  mark_ready c.args.p c.args.g c.args.blocks.now c.args.kinds.now c.args.touches.now c.args.ends.now c.requires
      c.chains.ensures,
  c.requires.kinds_lent,
)

pub returns : goal.returns
returns c =
    mark_done c.args.p c.args.g c.args.blocks.now c.args.kinds.now c.args.touches.now c.args.ends.now c.requires
    c.chains.ensures c.mark_all.ensures
