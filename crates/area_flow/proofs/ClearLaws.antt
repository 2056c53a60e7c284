-- Laws of the marks before any local.
use Prim.Native.Nat.{ℕ, ◌+◌, ◌*◌, ◌≤◌}
use native.Mathlib.Omega.{arith}
use mathlib.Core.Logic.{inl}
use mathlib.Core.List.{List}
use mathlib.Core.Bool.{true, false}
use Rattle.words.specs.Inner.{Region}
use Rattle.bits.proofs.DigitLaws.{bit_zero}
use Rattle.graph.proofs.Within.{within_trans, within_wider, region_within}
use Rattle.area_rows.proofs.ColumnLaws.{Columns, columns_start, columns_kept, ones_bit}
use Rattle.area_flow.specs.declared.Grid.{Grid}
use Rattle.area_flow.specs.Inner.{Unmarked}

module _ (g : Grid) (n : ℕ) {w₀ w₁ w₂ w₃ : List ℕ} (p : g.touched + n * g.words ≤ g.leaves) (q : g.leaves + n * g.words ≤ g.passes)
    (A : Region w₀ w₁ g.touched (n * g.words) (λ _. 0)) (B : Region w₁ w₂ g.leaves (n * g.words) (λ _. 0)) (C : Region w₂ w₃ g.passes (n * g.words) (λ _. 18446744073709551615)) where
  touched_rows : Columns n g.touched g.words false (λ l k. false) 0 w₃
  touched_rows = columns_kept (columns_kept (columns_start (λ l k. false) A (λ b h. bit_zero b)) (region_within B) (inl p)) (region_within C) (inl (omega arith))

  leaves_rows : Columns n g.leaves g.words false (λ l k. false) 0 w₃
  leaves_rows = columns_kept (columns_start (λ l k. false) B (λ b h. bit_zero b)) (region_within C) (inl q)

  passes_rows : Columns n g.passes g.words true (λ l k. false) 0 w₃
  passes_rows = columns_start (λ l k. false) C ones_bit

  pub unmarked : Unmarked g n w₀ w₃
  unmarked = record {
    kept = within_trans (within_wider _ _ (omega arith) (omega arith) (region_within A)) (within_trans (within_wider _ _ (omega arith) (omega arith) (region_within B)) (within_wider _ _ (omega arith) (omega arith) (region_within C)));
    touched = λ k l h m. touched_rows.rest l k (omega arith) m h;
    leaves = λ k l h m. leaves_rows.rest l k (omega arith) m h;
    passes = λ k l h m. passes_rows.rest l k (omega arith) m h;
  }
