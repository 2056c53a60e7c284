-- `cap`: a row of a cell with its alignment lowered, and the ways out.
use Prim.Native.Nat.{ℕ, ◌+◌, ◌*◌}
use native.Mathlib.Omega.{arith}
use native.Mathlib.Nat.{add-zero}
use mathlib.Core.Path.{◌≡◌, refl, ap, sym, ◌∙◌}
use mathlib.Core.Bool.{Bool, true, false, not, ◌||◌}
use mathlib.Core.List.{List, ◌++◌}
use lib.ListN.{get_or, drop}
use lib.Dec.{ltb}
use Rattle.refusals.specs.declared.Refusal.TheVariants.{Count}
use Rattle.refusals.specs.Verdicts.{check, Bad, Fine}
use Rattle.refusals.specs.Outcomes.{unless, numbered, after}
use Rattle.words.specs.Rows.{whole_rows}
use Rattle.words.specs.Widths.{cell_width, cell_count, cell_size, cell_align}
use Rattle.words.proofs.PasteLaws.{Filling, fill_above}
use Rattle.words.proofs.FlatLaws.{flat_length}
use Rattle.fitting.specs.Queries.{cap}
use Rattle.capping.specs.Cap.{room_row, cap_rows, CappedBy}

abbrev pub cap_row : List ℕ → ℕ → ℕ → List ℕ
cap_row cells most i = room_row (cap most (record { size = cell_size cells i; align = cell_align cells i }))

-- what stands from the next row on is as it was
pub row_was : {d s m : List ℕ} (n i : ℕ) → Filling d 0 m (cell_width * n) s (cell_width * i) → (get_or s (cell_width * i) 0 ≡ cell_size d i) × (cell_align s i ≡ cell_align d i)
row_was {d} {s} {m} n i f =
    (fill_above f (cell_width * i) (omega arith) ∙ ap (λ (k : ℕ). get_or d k 0) (sym (add-zero (cell_width * i))), fill_above f (cell_width * i + 1) (omega arith))

pub capped_refused : (cells : List ℕ) (count most : ℕ) → not (whole_rows cell_width cells) || (ltb (cell_count cells) count || ltb 4096 count) ≡ true → CappedBy cells count most (Bad Count 0) cells
capped_refused cells count most e = record {
  answer = sym (ap (λ (t : Bool). numbered (check Count t)) e);
  in_cells = sym (ap (λ (t : Bool). after (unless (check Count t) (cap_rows cells count most)) (λ l. l) cells) e);
}

pub capped_told : (cells cells' : List ℕ) (count most : ℕ) → not (whole_rows cell_width cells) || (ltb (cell_count cells) count || ltb 4096 count) ≡ false
    → cells' ≡ cap_rows cells count most ++ drop (cell_width * count) cells → CappedBy cells count most Fine cells'
capped_told cells cells' count most e f =
    record {
      answer = sym (ap (λ (t : Bool). numbered (check Count t)) e);
      in_cells = f ∙ ap (λ (k : ℕ). cap_rows cells count most ++ drop k cells) (sym (flat_length 2 count (cap_row cells most) (λ i h. refl)))
          ∙ sym (ap (λ (t : Bool). after (unless (check Count t) (cap_rows cells count most)) (λ l. l) cells) e);
    }
