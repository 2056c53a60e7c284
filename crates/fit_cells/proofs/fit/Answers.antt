-- `fit` meets its contract: the items are ordered, then placed.
use Rattle.fit_cells.proofs.RunLaws.{in_order_lem, zeros, fitted}
use Rattle.fit_cells.proofs.fit.Goals as goal

pub place-s-requires : goal.place-s-requires
place-s-requires c =
    (in_order_lem c.requires.0 c.requires.1 c.requires.2 c.requires.3 c.order.ensures c.fill.ensures, zeros c.requires.0 c.requires.1 c.requires.2 c.requires.3 c.order.ensures c.fill.ensures)

pub returns : goal.returns
returns c =
    fitted c.requires.0 c.requires.1 c.requires.2 c.requires.3 c.order.ensures c.fill.ensures c.place-s.ensures
