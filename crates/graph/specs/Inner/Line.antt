-- What the functions here promise each other. No public promise names these.
use Rattle.std.specs.Prelude.{List}
use Rattle.graph.specs.declared.Block.{Block}
use Rattle.graph.specs.declared.Place.{Place}
use Rattle.graph.specs.Paths.{Edge, edge}
use Rattle.graph.specs.Line.{Stretch, Jump, block_at, place_in}

abbrev pub place_of : List Stretch → Block → Place
place_of bs b = record { 0 = place_in bs b.0 }

abbrev pub number_at : List Stretch → Place → Block
number_at bs p = record { 0 = (block_at bs p.0).number }

-- what stands for a block that there is not
abbrev pub nowhere : Stretch
nowhere = record { number = 0; start = 0; end = 0 }

-- an edge by place
abbrev pub linked : List Stretch → Jump → Edge
linked bs j = edge (place_in bs j.from) (place_in bs j.to)
