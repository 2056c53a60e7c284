-- What each way out of a check comes to: number 5 of moves, and number 6.
use Prim.Native.Nat.{ℕ, zero, suc, ◌*◌, ◌<◌}
use native.Mathlib.Nat.{add-zero}
use native.Mathlib.Omega.{arith}
use mathlib.Core.Path.{◌≡◌, refl, sym, ap, ◌∙◌}
use mathlib.Core.Bool.{Bool, true, false, not, ◌||◌}
use mathlib.Core.List.{List}
use lib.ListN.{length, get_or}
use lib.Dec.{leb}
use Rattle.refusals.specs.declared.Refusal.TheVariants.{Piece as PieceWord}
use Rattle.refusals.specs.Verdicts.{scan}
use Rattle.words.specs.Widths.{piece_width, piece_count, assigned_width, assigned_count, move_width, move_count}
use Rattle.words.specs.Inner.{assigned_register, move_kind, move_number, move_to, move_from}
use Rattle.words.proofs.RowLaws.{length_records, get_d_records}
use Rattle.graph.specs.Line.{Stretch}
use Rattle.carrying.specs.Insts.{Inst, inst_at, is_set}
use Rattle.carrying.specs.Carried.{Piece, pieces_of}
use Rattle.carrying.specs.Checks.{absent}
use Rattle.areas.specs.Slots.{Assigned, Move, assigned_of, moves_of, bad_move, move_at, off_line, bad_piece, assigned_verdict}
use Rattle.insts.proofs.DealtLaws.{scan_same}
use Rattle.spill_checks.specs.Inner.{piece_at}

-- ---- moves

module _ (bs : List Stretch) (is : List Inst) (number : ℕ) where
  pub kind_0 : (k : ℕ) → k ≡ 0 → bad_move bs is k number ≡ absent is number || not (is_set (inst_at is number).placed)
  kind_0 k e = rw e

  pub kind_1 : (k : ℕ) → k ≡ 1 → bad_move bs is k number ≡ absent is number || not (is_set (inst_at is number).placed)
  kind_1 k e = rw e

  pub kind_2 : (k : ℕ) → k ≡ 2 → bad_move bs is k number ≡ leb (length bs) number
  kind_2 k e = rw e

  pub kind_3 : (k : ℕ) → k ≡ 3 → bad_move bs is k number ≡ leb (length bs) number
  kind_3 k e = rw e

  pub kind_over : (k : ℕ) → 3 < k → bad_move bs is k number ≡ true
  kind_over zero h = absurd (omega arith)
  kind_over (suc zero) h = absurd (omega arith)
  kind_over (suc (suc zero)) h = absurd (omega arith)
  kind_over (suc (suc (suc zero))) h = absurd (omega arith)
  kind_over (suc (suc (suc (suc k)))) h = refl

module _ (s : List ℕ) where
  pub moves_length : length (moves_of s) ≡ move_count s
  moves_length = length_records {A = Move} move_width (λ f. record { kind = f 0; number = f 1; to = f 2; from = f 3 }) s

  pub move_at_lem : (i : ℕ) → i < move_count s → move_at (moves_of s) i ≡ record { kind = move_kind s i; number = move_number s i; to = move_to s i; from = move_from s i }
  move_at_lem i h = get_d_records move_width (λ f. record { kind = f 0; number = f 1; to = f 2; from = f 3 }) s i _ h

  pub move_is : (bs : List Stretch) (is : List Inst) (i : ℕ) (r : Bool) → i < move_count s → r ≡ bad_move bs is (get_or s (move_width * i) 0) (move_number s i)
      → bad_move bs is (move_at (moves_of s) i).kind (move_at (moves_of s) i).number ≡ r
  move_is bs is i r h e =
      ap (λ (m : Move). bad_move bs is m.kind m.number) (move_at_lem i h)
      ∙ ap (λ (k : ℕ). bad_move bs is (get_or s k 0) (move_number s i)) (add-zero (move_width * i)) ∙ sym e

-- ---- live pieces

module _ (s : List ℕ) where
  pub pieces_length : length (pieces_of s) ≡ piece_count s
  pieces_length = length_records {A = Piece} piece_width (λ f. record { register = f 0; start = f 1; end = f 2 }) s

  pub piece_at_lem : (i : ℕ) → i < piece_count s → get_or (pieces_of s) i (record { register = 0; start = 0; end = 0 }) ≡ piece_at s i
  piece_at_lem i h = get_d_records piece_width (λ f. record { register = f 0; start = f 1; end = f 2 }) s i _ h

module _ (bs : List Stretch) (v : ℕ) (p : Piece) where
  pub piece_off : off_line bs p.start p.end ≡ true → true ≡ bad_piece bs v p
  piece_off e = simp e

  pub piece_on : off_line bs p.start p.end ≡ false → leb v p.register ≡ bad_piece bs v p
  piece_on e = simp e

-- ---- assignments

pub assigned_is : (v : ℕ) (s : List ℕ) → scan PieceWord (λ n. leb v (assigned_register s n)) (assigned_count s) ≡ assigned_verdict v (assigned_of s)
assigned_is v s =
    let e : length (assigned_of s) ≡ assigned_count s = length_records {A = Assigned} assigned_width (λ f. record { register = f 0; slot = f 1 }) s in
    ap (scan PieceWord (λ n. leb v (assigned_register s n))) (sym e)
    ∙ scan_same PieceWord _ _ (length (assigned_of s)) (λ i h.
    let l : i < assigned_count s = rw e at h in
    ap (λ (a : Assigned). leb v a.register) (sym (get_d_records assigned_width (λ f. record { register = f 0; slot = f 1 }) s i (record { register = 0; slot = 0 }) l)))
