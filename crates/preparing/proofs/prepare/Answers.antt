-- `preparing::prepare` meets its contract: the registers, then the locals.
use mathlib.Core.Path.{refl}
use Rattle.preparing.proofs.ReadyLaws.{readied}
use Rattle.preparing.proofs.prepare.Goals as goal

pub returns : goal.returns
returns c =
    readied c.args.v c.args.insts.now c.args.operands.now c.args.crossings.now c.args.addresses.now c.args.ends.now c.args.lay c.args.locals
    c.requires.by_index refl c.requires.laid c.registers-n.ensures c.by_local.ensures
