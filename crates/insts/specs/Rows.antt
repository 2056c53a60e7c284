-- Instructions and operands by their numbers in the lent rows.
use Rattle.std.specs.Prelude.{ℕ, List, ◌≡◌}
use Rattle.words.specs.Widths.{inst_count, operand_count}
use Rattle.insts.specs.Counts.{offset}

-- the operand counts add up
abbrev pub AddsUp : List ℕ → List ℕ → Type 0
AddsUp insts operands = offset insts (inst_count insts) ≡ operand_count operands
