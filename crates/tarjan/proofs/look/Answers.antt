-- `tarjan::look` meets its contract: each of its three ways out is a law of `Parts`.
use lib.ListN.{length-set}
use Rattle.tarjan.proofs.Bounds.{AtEdge, edge, fresh}
use Rattle.tarjan.proofs.Parts.{looked_new, looked_held, looked_shut}
use Rattle.tarjan.proofs.look.Goals as goal

pub push-requires : goal.push-requires
push-requires c =
    let at_edge : AtEdge c.args.n c.args.to c.args.base c.args.w.now c.args.k c.args.low c.args.next = edge c.requires c.well_formed.0.1 in (
      (at_edge).node,
      (fresh c.requires c.well_formed.0.1 c.if-m-eq0.true).held,
      (fresh c.requires c.well_formed.0.1 c.if-m-eq0.true).frames,
      simp length-set
          (at_edge).tables,
    )

pub overflow_add-result : goal.overflow_add-result
overflow_add-result c =
    (fresh c.requires c.well_formed.0.1 c.if-m-eq0.true).more_held

pub returns-then-m-eq0 : goal.returns-then-m-eq0
returns-then-m-eq0 c = rw c.push.ensures (looked_new c.requires c.if-m-eq0.true)

pub lower-requires : goal.lower-requires
lower-requires c =
    let at_edge : AtEdge c.args.n c.args.to c.args.base c.args.w.now c.args.k c.args.low c.args.next = edge c.requires c.well_formed.0.1 in
    simp length-set (at_edge).low_in

pub returns-then-m-n : goal.returns-then-m-n
returns-then-m-n c = rw c.lower.ensures (looked_held c.requires c.if-m-eq0.false c.if-m-n.true)

pub returns : goal.returns
returns c = looked_shut c.requires c.if-m-n.false
