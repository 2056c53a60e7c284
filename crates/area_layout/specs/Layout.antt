-- The work space of the areas of locals: how many words there are, and where the regions stand, one behind another.
use Rattle.std.specs.Prelude.{ℕ, ◌+◌, ◌*◌}
use Rattle.area_layout.specs.declared.Sizes.{Sizes}
use Rattle.words.specs.Regions.{row_words}

-- W = 8 × (the records lent + B × ⌈locals/64⌉ + the length of the area list)
abbrev pub space_for : Sizes → ℕ
space_for z = 8 * (z.blocks + z.edges + z.locals + z.touches + z.ends + z.blocks * row_words z.locals + z.room)
