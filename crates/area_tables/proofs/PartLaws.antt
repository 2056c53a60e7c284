-- The area list that is written, read back: item i's part of it is its area, range by range in their order, whatever stands behind.
use Prim.Native.Nat.{ℕ, suc, ◌+◌, ◌-◌, ◌*◌, ◌<◌}
use native.Mathlib.Omega.{arith}
use native.Mathlib.Nat.{add-zero}
use mathlib.Core.Path.{◌≡◌, refl, ap, ◌∙◌}
use mathlib.Core.Option.{Option, some}
use mathlib.Core.List.{List, [], ◌∷◌, ◌++◌, map, append_assoc}
use lib.ListN.{length, get_or, take, drop}
use lib.Seq.{take-append_seam, drop_at}
use Rattle.words.specs.Rows.{tabulate, flat}
use Rattle.words.specs.Widths.{range_width, range_count, range_start, range_end}
use Rattle.words.proofs.RowLaws.{tabulate_eq, tabulate_add}
use Rattle.ranges.specs.declared.Range.{Range}
use Rattle.ranges.specs.Points.{range, listed}
use Rattle.ranges.specs.Forms.{areas_of}
use Rattle.carrying.specs.Lists.{gather}
use Rattle.areas.specs.Job.{ranges_of}
use Rattle.area_pieces.proofs.HullLaws.{gather_append}
use Rattle.area_tables.specs.Tables.{area_rows}
use Rattle.area_tables.proofs.RowLaws.{gathered_long}

-- ---- rows of two numbers are ranges

row_range : (a b : ℕ) (s : List ℕ) → areas_of (a ∷ b ∷ s) ≡ range a b ∷ areas_of s
unfolding tabulate
row_range a b s =
    let e : range_count (a ∷ b ∷ s) ≡ suc (range_count s) = omega arith in
    ap (λ (k : ℕ). tabulate k (λ i. range (range_start (a ∷ b ∷ s) i) (range_end (a ∷ b ∷ s) i))) e
    ∙ ap (λ (l : List Range). range a b ∷ l) (tabulate_eq (range_count s) _ _ (λ i h. later i))
  where
    later : (i : ℕ) → range (range_start (a ∷ b ∷ s) (suc i)) (range_end (a ∷ b ∷ s) (suc i)) ≡ range (range_start s i) (range_end s i)
    later i =
        let e : range_width * suc i + 0 ≡ suc (suc (range_width * i + 0)) = omega arith in
        let f : range_width * suc i + 1 ≡ suc (suc (range_width * i + 1)) = omega arith in
        ap (λ (k : ℕ). range (get_or (a ∷ b ∷ s) k 0) (range_end (a ∷ b ∷ s) (suc i))) e ∙ ap (λ (k : ℕ). range (range_start s i) (get_or (a ∷ b ∷ s) k 0)) f

pub rows_ranges : (rs : List Range) (more : List ℕ) → areas_of (flat (map (λ (r : Range). r.start ∷ r.end ∷ []) rs) ++ more) ≡ rs ++ areas_of more
unfolding flat
rows_ranges [] more = refl
rows_ranges (r ∷ rs) more =
    row_range r.start r.end (flat (map (λ (r : Range). r.start ∷ r.end ∷ []) rs) ++ more) ∙ ap (λ (l : List Range). r ∷ l) (rows_ranges rs more)

-- ---- the areas of the items before, item i's, and the others

module _ (A : ℕ → Option (List Range)) (i n : ℕ) (h : i < n) where
  abbrev others : List Range
  others = gather listed (tabulate (n - suc i) (λ j. A (i + suc j)))

  gather_at : gather listed (tabulate n A) ≡ gather listed (tabulate i A) ++ (listed (A i) ++ others)
  unfolding tabulate gather
  gather_at =
      let e : n ≡ i + suc (n - suc i) = omega arith in
      ap (λ (k : ℕ). gather listed (tabulate k A)) e ∙ ap (gather listed) (tabulate_add i (suc (n - suc i)) A)
      ∙ gather_append listed (tabulate i A) (tabulate (suc (n - suc i)) (λ j. A (i + j)))
      ∙ ap (λ (k : ℕ). gather listed (tabulate i A) ++ (listed (A k) ++ gather listed (tabulate (n - suc i) (λ j. A (i + suc j))))) (add-zero i)

  -- item i's part of the area list that was written is its area
  pub part_is_area : (rs : List Range) → A i ≡ some rs → (more : List ℕ) → take (length rs) (drop (ranges_of (tabulate i A)) (areas_of (area_rows n A ++ more))) ≡ rs
  part_is_area rs e more =
      ap (λ (l : List Range). take (length rs) (drop (ranges_of (tabulate i A)) l))
      (rows_ranges (gather listed (tabulate n A)) more
      ∙ ap (λ (l : List Range). l ++ areas_of more) (gather_at ∙ ap (λ (a : Option (List Range)). gather listed (tabulate i A) ++ (listed a ++ others)) e)
      ∙ append_assoc (gather listed (tabulate i A)) (rs ++ others) (areas_of more))
      ∙ ap (take (length rs)) (drop_at (gather listed (tabulate i A)) ((rs ++ others) ++ areas_of more) (ranges_of (tabulate i A)) (gathered_long (tabulate i A)))
      ∙ ap (take (length rs)) (append_assoc rs others (areas_of more)) ∙ take-append_seam rs (others ++ areas_of more)

-- ---- how long the rows are

ranges_long : (rs : List Range) → length (flat (map (λ (r : Range). r.start ∷ r.end ∷ []) rs)) ≡ range_width * length rs
unfolding flat
ranges_long [] = refl
ranges_long (r ∷ rs) = omega (arith, ranges_long rs)

pub areas_long : (n : ℕ) (A : ℕ → Option (List Range)) → length (area_rows n A) ≡ range_width * ranges_of (tabulate n A)
areas_long n A = ranges_long (gather listed (tabulate n A)) ∙ ap (λ (k : ℕ). range_width * k) (gathered_long (tabulate n A))
