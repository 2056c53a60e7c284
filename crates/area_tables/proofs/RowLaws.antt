-- The rows of the area list, by the words of the areas.
use Prim.Native.Nat.{ℕ, ◌+◌, ◌-◌, ◌*◌, ◌≤◌, ◌<◌}
use native.Mathlib.Omega.{arith}
use mathlib.Core.Path.{◌≡◌, refl, sym, ap, ◌∙◌}
use mathlib.Core.Option.{Option, some, none}
use mathlib.Core.List.{List, [], ◌∷◌, map}
use lib.ListN.{length, get_or, length-append}
use Rattle.words.specs.Rows.{tabulate, flat}
use Rattle.words.specs.Inner.{part}
use Rattle.words.specs.Widths.{range_width}
use Rattle.words.proofs.RowLaws.{tabulate_get_d, tabulate_eq, map_tabulate, tabulate_add}
use Rattle.words.proofs.RegionLaws.{length_part, get_d_part}
use Rattle.words.proofs.FlatLaws.{flat_length}
use Rattle.ranges.specs.declared.Range.{Range}
use Rattle.ranges.specs.Inner.{unpack, unpacked}
use Rattle.carrying.specs.Lists.{gather}
use Rattle.areas.specs.Job.{ranges_in, ranges_of}
use Rattle.ranges.specs.Points.{listed}
use Rattle.area_measure.proofs.ListLaws.{ranges_append, ranges_more}
use Rattle.answer_rows.specs.Inner.{halves, rows_in}
use Rattle.area_tables.specs.Tables.{area_rows}

abbrev range_row : Range → List ℕ
range_row r = r.start ∷ r.end ∷ []

-- the rows of n packed ranges from 0 on
packed_rows : (w : List ℕ) (n : ℕ) → n ≤ length w → flat (map range_row (unpacked (part 0 n w))) ≡ rows_in w 0 n 0
packed_rows w n h =
    let l : length (part 0 n w) ≡ n = length_part 0 n w (omega arith) in
    ap (λ (m : List ℕ). flat (map range_row (unpacked m))) (sym (tabulate_get_d (part 0 n w) 0) ∙ ap (λ (k : ℕ). tabulate k (λ i. get_or (part 0 n w) i 0)) l)
    ∙ ap (λ (m : List Range). flat (map range_row m)) (map_tabulate unpack n (λ i. get_or (part 0 n w) i 0))
    ∙ ap flat (map_tabulate range_row n (λ i. unpack (get_or (part 0 n w) i 0)))
    ∙ ap flat (tabulate_eq n (λ i. range_row (unpack (get_or (part 0 n w) i 0))) (λ i. halves (get_or w (0 + i) 0 - 0))
    (λ i q. let e : get_or w (0 + i) 0 - 0 ≡ get_or w (0 + i) 0 = omega arith in ap halves (get_d_part 0 n w i q ∙ sym e)))

-- all areas, one behind another from 0 on, as rows
pub rows_areas : (n : ℕ) (A : ℕ → Option (List Range)) (w : List ℕ) (total : ℕ) → total ≤ length w → unpacked (part 0 total w) ≡ gather listed (tabulate n A) → rows_in w 0 total 0 ≡ area_rows n A
rows_areas n A w total h e = sym (packed_rows w total h) ∙ ap (λ (m : List Range). flat (map range_row m)) e

pub rows_long : (w : List ℕ) (from n less : ℕ) → length (rows_in w from n less) ≡ range_width * n
rows_long w from n less = flat_length 2 n (λ i. halves (get_or w (from + i) 0 - less)) (λ i h. refl)

-- the ranges of one item are some of all
pub ranges_below : (A : ℕ → Option (List Range)) (i n : ℕ) → i < n → ranges_of (tabulate i A) + ranges_in (A i) ≤ ranges_of (tabulate n A)
ranges_below A i n h =
    let e : n ≡ i + 1 + (n - (i + 1)) = omega arith in
    let a : ranges_of (tabulate n A) ≡ ranges_of (tabulate (i + 1 + (n - (i + 1))) A) = ap (λ (k : ℕ). ranges_of (tabulate k A)) e in
    let b = ap ranges_of (tabulate_add (i + 1) (n - (i + 1)) A) in
    let c = ranges_append (tabulate (i + 1) A) (tabulate (n - (i + 1)) (λ j. A (i + 1 + j))) in
    let d = ranges_more A i in
    omega arith

-- ---- how many ranges areas have

pub listed_long : (a : Option (List Range)) → length (listed a) ≡ ranges_in a
listed_long none = refl
listed_long (some rs) = refl

pub gathered_long : (l : List (Option (List Range))) → length (gather listed l) ≡ ranges_of l
unfolding gather ranges_of
gathered_long [] = refl
gathered_long (a ∷ l) = length-append (listed a) (gather listed l) ∙ omega (arith, listed_long a, gathered_long l)
