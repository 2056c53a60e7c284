-- `write` meets its contract: three lists.
use Rattle.job_tables.proofs.write.Goals as goal

pub returns : goal.returns
returns c = record { in_cells = c.write_cells.ensures; in_items = c.write_items.ensures; in_areas = c.write_rows.ensures }
