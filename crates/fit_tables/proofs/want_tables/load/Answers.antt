-- `load` meets its contract: three tables.
use Rattle.fit_tables.proofs.WantLaws.{loaded}
use Rattle.fit_tables.proofs.want_tables.load.Goals as goal

pub returns : goal.returns
returns c = loaded c.load_areas.ensures c.load_items.ensures c.load_wants.ensures
