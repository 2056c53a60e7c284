-- Document 01, "Areas of items": moves, the register of a slot, and a slot's area; of number 5 the moves, and number 6.
use Rattle.std.specs.Prelude.{ℕ, zero, suc, ◌+◌, ◌-◌, min, Bool, true, cond, not, ◌||◌, List, [], ◌∷◌, ◌++◌, length, get_or, eqb, leb, ltb}
use Rattle.std.proofs.Math.Option.{Option, some, none}
use Rattle.refusals.specs.declared.Refusal.TheVariants.{Stray, Piece as PieceWord}
use Rattle.refusals.specs.Verdicts.{scan, Verdict}
use Rattle.words.specs.Rows.{records}
use Rattle.words.specs.Widths.{assigned_width, move_width}
use Rattle.ranges.specs.declared.Range.{Range}
use Rattle.ranges.specs.Points.{range}
use Rattle.ranges.specs.Merged.{merged}
use Rattle.graph.specs.Line.{Stretch, block_at, place_in}
use Rattle.carrying.specs.Lists.{gather}
use Rattle.carrying.specs.Insts.{Inst, inst_at, is_set}
use Rattle.carrying.specs.Carried.{Piece, live_pieces}
use Rattle.carrying.specs.Checks.{absent}

-- rows `P,register,slot` and `M,kind,number,to,from`
pub record Assigned : Type 0 where
  pub register : ℕ
  pub slot : ℕ

pub record Move : Type 0 where
  pub kind : ℕ
  pub number : ℕ
  pub to : ℕ
  pub from : ℕ

abbrev pub assigned_of : List ℕ → List Assigned
assigned_of s = records assigned_width (λ f. record { register = f 0; slot = f 1 }) s

abbrev pub moves_of : List ℕ → List Move
moves_of s = records move_width (λ f. record { kind = f 0; number = f 1; to = f 2; from = f 3 }) s

-- "its position is one of four kinds: 0 before an instruction (early), 1 after (late), 2 start, 3 end of a block"
abbrev pub position : List Stretch → List Inst → ℕ → ℕ → ℕ
position bs is zero n = (inst_at is n).early
position bs is (suc zero) n = (inst_at is n).late
position bs is (suc (suc zero)) n = (block_at bs (place_in bs n)).start
position bs is (suc (suc (suc k))) n = (block_at bs (place_in bs n)).end

-- "a move at point p covers max(p−1, 0) to min(p+1, points)"
abbrev pub around : ℕ → ℕ → Range
around points p = range (p - 1) (min (p + 1) points)

-- a move covers the slot that it goes to, and the slot that it comes from; "slot numbers past the end are ignored", being no slot's
abbrev pub covering : ℕ → List Stretch → List Inst → ℕ → Move → List Range
covering points bs is s m =
    cond (eqb m.to s) (around points (position bs is m.kind m.number) ∷ []) []
    ++ cond (eqb m.from s) (around points (position bs is m.kind m.number) ∷ []) []

-- `moved` of a slot
abbrev pub moved : ℕ → List Stretch → List Inst → List Move → ℕ → List Range
moved points bs is ms s = gather (covering points bs is s) ms

-- `spilled`: the register of the last assignment that names the slot
abbrev pub or_else : Option ℕ → Option ℕ → Option ℕ
or_else none o = o
or_else (some r) o = some r

unfoldable pub spilled : List Assigned → ℕ → Option ℕ
spilled [] s = none
spilled (a ∷ l) s = or_else (spilled l s) (cond (eqb a.slot s) (some a.register) none)

-- "a register with no live piece gives none, moves or not"
abbrev pub live_area : List Range → List Range → Option (List Range)
live_area [] ms = none
live_area (p ∷ ps) ms = some (merged (p ∷ ps ++ ms))

-- "area of the last register assigned to it plus its moves; no register but moves: those; else none"
abbrev pub slot_area : List Piece → Option ℕ → List Range → Option (List Range)
slot_area ps (some r) ms = live_area (live_pieces ps r) ms
slot_area ps none [] = none
slot_area ps none (m ∷ ms) = some (merged (m ∷ ms))

-- number 5: "a move at an absent or unplaced instruction or absent block, a kind over 3"
abbrev pub bad_move : List Stretch → List Inst → ℕ → ℕ → Bool
bad_move bs is zero n = absent is n || not (is_set (inst_at is n).placed)
bad_move bs is (suc zero) n = absent is n || not (is_set (inst_at is n).placed)
bad_move bs is (suc (suc zero)) n = leb (length bs) n
bad_move bs is (suc (suc (suc zero))) n = leb (length bs) n
bad_move bs is (suc (suc (suc (suc k)))) n = true

abbrev pub move_at : List Move → ℕ → Move
move_at ms n = get_or ms n (record { kind = 0; number = 0; to = 0; from = 0 })

abbrev pub move_verdict : List Stretch → List Inst → List Move → Verdict
move_verdict bs is ms = scan Stray (λ n. bad_move bs is (move_at ms n).kind (move_at ms n).number) (length ms)

-- of number 6 "reversed, not wholly in the blocks": of a live piece, and of a touch that is lent by itself
unfoldable pub off_line : List Stretch → ℕ → ℕ → Bool
off_line bs start end = ltb end start || (ltb start (block_at bs 0).start || ltb (block_at bs (length bs - 1)).end end)

-- number 6: "a live piece reversed, not wholly in the blocks or of a register ≥ V; an assignment of one"
abbrev pub bad_piece : List Stretch → ℕ → Piece → Bool
bad_piece bs v p = off_line bs p.start p.end || leb v p.register

abbrev pub piece_verdict : List Stretch → ℕ → List Piece → Verdict
piece_verdict bs v ps = scan PieceWord (λ n. bad_piece bs v (get_or ps n (record { register = 0; start = 0; end = 0 }))) (length ps)

abbrev pub assigned_verdict : ℕ → List Assigned → Verdict
assigned_verdict v l = scan PieceWord (λ n. leb v (get_or l n (record { register = 0; slot = 0 })).register) (length l)
