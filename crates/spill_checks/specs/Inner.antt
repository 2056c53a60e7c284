-- What the functions here promise each other. No public promise names these.
use Rattle.std.specs.Prelude.{ℕ, zero, suc, cond, List}
use Rattle.graph.specs.Line.{Stretch}
use Rattle.carrying.specs.Insts.{Inst}
use Rattle.areas.specs.Slots.{bad_move}
use Rattle.spill_checks.specs.declared.Position.{Position}
use Rattle.spill_checks.specs.declared.Position.TheVariants.{Early, Late, Start, End, Stray}
use Rattle.words.specs.Inner.{piece_register, piece_start, piece_end}
use Rattle.carrying.specs.Carried.{Piece}

-- Document 01, "Areas of items": where a move stands, by its kind, and the refusal otherwise.

-- "its position is one of four kinds: 0 before an instruction (early), 1 after (late), 2 start, 3 end of a block"
abbrev pub chosen : ℕ → ℕ → Position
chosen zero n = Early n
chosen (suc zero) n = Late n
chosen (suc (suc zero)) n = Start (record { 0 = n })
chosen (suc (suc (suc zero))) n = End (record { 0 = n })
chosen (suc (suc (suc (suc k)))) n = Stray

-- number 5 otherwise
abbrev pub position_of : List Stretch → List Inst → ℕ → ℕ → Position
position_of bs is k n = cond (bad_move bs is k n) Stray (chosen k n)

-- Live pieces by their numbers in the lent rows.

abbrev pub piece_at : List ℕ → ℕ → Piece
piece_at pieces i = record { register = piece_register pieces i; start = piece_start pieces i; end = piece_end pieces i }
