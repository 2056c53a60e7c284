-- What the functions here promise each other. No public promise names these.
use Rattle.fitting.specs.Wants.{Want}
use Rattle.fitting.specs.Plan.{Cell}

-- the cell of one item
abbrev pub cell_of : Want → Cell
cell_of w = record { size = w.size; align = w.align; area = w.area }
