-- `records` meets its contract: a group's part of the reader's list.
use Rattle.planning.proofs.GroupLaws.{records_are}
use Rattle.planning.proofs.row_plans.records.Goals as goal

pub held-requires : goal.held-requires
held-requires c = (c.requires.1, c.requires.2, c.requires.3)

pub returns : goal.returns
returns c =
    let a = c.args in
    records_are a.group c.entry_of-e.ensures.base c.entry_of-e.ensures.width c.held.ensures.0 a.rows.now
