-- `local_kinds::kinds` meets its contract: the kinds of the first l locals.
use native.Mathlib.Omega.{arith}
use mathlib.Core.Path.{refl}
use Rattle.local_kinds.proofs.EntryLaws.{list_start, list_ready, list_more, list_done}
use Rattle.local_kinds.proofs.kinds.Goals as goal

pub loop-l-init : goal.loop-l-init
loop-l-init c =
    list_start c.args.insts.now c.args.addresses.now c.args.lay c.args.z c.args.answer.now c.args.work.now c.requires.0 c.requires.1

pub follow-f-requires : goal.follow-f-requires
follow-f-requires c = (list_ready c.loop-l.invariant, omega arith)

pub loop-l-preserved : goal.loop-l-preserved
loop-l-preserved c = list_more c.loop-l.invariant _ _ (omega arith) c.follow-f.ensures refl c.number.ensures

pub returns : goal.returns
returns c = list_done c.loop-l.invariant (omega arith)
