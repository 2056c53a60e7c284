-- What the functions here promise each other. No public promise names these.
use Rattle.std.specs.Prelude.{ℕ, ◌+◌, ◌/◌, ◌%◌, List, [], Bool, not, ◌||◌, eqb, ltb}
use Rattle.words.specs.Rows.{tabulate, field}
use Rattle.words.specs.Widths.{inst_width}
use Rattle.words.specs.Inner.{operand_def, operand_register}
use Rattle.carrying.specs.Insts.{Operand, Inst, inst_of}

-- operand k of all
abbrev pub operand_at : List ℕ → ℕ → Operand
operand_at operands k = record { def = operand_def operands k; register = operand_register operands k }

-- some operands from one on
abbrev pub operands_from : List ℕ → ℕ → ℕ → List Operand
operands_from operands from count = tabulate count (λ p. operand_at operands (from + p))

-- an instruction as far as where it stands
abbrev pub placing : ℕ → ℕ → ℕ → Inst
placing number early late = record { placed = 1; block = number; early = early; late = late; lea = 0; mem = 0; base = 0; index = 0; operands = [] }

-- instruction i but for its operands
abbrev pub row_inst : List ℕ → ℕ → Inst
row_inst insts i = inst_of (field inst_width insts i) []

-- n numbers that are no whole rows of the width, or more rows than the limit
abbrev pub bad_rows : ℕ → ℕ → ℕ → Bool
bad_rows width limit n = not (eqb (n % width) 0) || ltb limit (n / width)
