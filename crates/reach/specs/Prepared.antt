-- The work space of carrying: what one pass over the code leaves there.
use Rattle.std.specs.Prelude.{ℕ, List}
use Rattle.carrying.specs.Insts.{insts_of}
use Rattle.carrying.specs.Carried.{Code, mentions_of}

-- what `reach` is lent, as records
abbrev pub code_of : ℕ → List ℕ → List ℕ → List ℕ → List ℕ → List ℕ → Code
code_of v insts operands crossings addresses ends =
    record { numbered = v; insts = insts_of insts operands; crossings = crossings; addresses = mentions_of addresses; ends = mentions_of ends }
