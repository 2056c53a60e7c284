-- `area_flow::arrive` meets its contract: the settling order, and then what arrives.
use Rattle.area_flow.proofs.FlowLaws.{orderable, spread_laid, arrived_at}
use Rattle.area_flow.proofs.arrive.Goals as goal

pub order-requires : goal.order-requires
order-requires c = orderable c.args.g _ _ _ c.requires.0 c.requires.1

pub spread-requires : goal.spread-requires
spread-requires c =
    spread_laid c.args.g _ _ _ c.requires.0 c.requires.1 c.order.ensures

pub returns : goal.returns
returns c =
    arrived_at c.args.g _ _ _ c.requires.0 c.requires.1 c.order.ensures c.spread.ensures
