-- What the functions here promise each other. No public promise names these.
use Rattle.std.specs.Prelude.{ℕ, ◌+◌, []}
use Rattle.std.proofs.Math.Option.{Option, some, none}
use Rattle.carrying.specs.Insts.{Inst}

-- How the answers of the functions over operands stand for what the definitions have.

-- a register or none in one number
abbrev pub def_number : Option ℕ → ℕ
def_number none = 0
def_number (some r) = r + 1

-- an instruction as far as its base and index go
abbrev pub addressing : ℕ → ℕ → Inst
addressing base index = record { placed = 1; block = 0; early = 0; late = 0; lea = 0; mem = 1; base = base; index = index; operands = [] }
