-- `area_flow::turn_rows` meets its contract: the rows cleared, then turned twice.
use Rattle.area_flow.proofs.BlockRows.{flows_turnable, arrives_turnable, blocked}
use Rattle.area_flow.proofs.turn_rows.Goals as goal

pub by_local-requires : goal.by_local-requires
by_local-requires c = flows_turnable c.args.g c.args.n (c.requires) c.fill.ensures

pub by_local-requires-2 : goal.by_local-requires-2
by_local-requires-2 c = arrives_turnable c.args.g c.args.n (c.requires) c.fill.ensures c.by_local.ensures

pub returns : goal.returns
returns c =
    blocked c.args.g c.args.n (c.requires) c.fill.ensures
    c.by_local.ensures c.by_local-2.ensures
