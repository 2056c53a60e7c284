-- What the functions here promise each other. No public promise names these.
use Rattle.std.specs.Prelude.{ℕ, cond, List, Some, None, Option as Maybe}
use Rattle.words.specs.Inner.{move_kind, move_number, move_to, move_from}
use Rattle.graph.specs.Line.{Stretch}
use Rattle.carrying.specs.Insts.{Inst}
use Rattle.areas.specs.Slots.{Move, position, bad_move}

-- Moves by their numbers in the lent rows, and where one stands.

-- the point of a move, or nowhere for one that is refused
abbrev pub position_at : List Stretch → List Inst → ℕ → ℕ → Maybe ℕ
position_at bs is k n = cond (bad_move bs is k n) None (Some (position bs is k n))

-- move i of the rows
abbrev pub move_row : List ℕ → ℕ → Move
move_row moves i = record { kind = move_kind moves i; number = move_number moves i; to = move_to moves i; from = move_from moves i }
