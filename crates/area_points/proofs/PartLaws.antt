-- The rows that an entry writes: an item's part of the area list has exactly the points of its area.
use Prim.Native.Nat.{ℕ, ◌+◌, ◌-◌, ◌*◌, ◌≤◌, ◌<◌}
use native.Mathlib.Omega.{arith}
use mathlib.Core.Path.{◌≡◌, refl, sym, ap, ◌∙◌}
use mathlib.Core.Logic.{◌↔◌}
use mathlib.Core.Option.{Option, some, none, some-ne-none}
use mathlib.Core.List.{List, [], ◌∷◌, ◌++◌, map}
use lib.ListN.{length, get_or, length-append, get_or-append}
use lib.Seq.{get_or-append-add}
use Rattle.words.specs.Rows.{tabulate, flat, field}
use Rattle.words.specs.Widths.{range_width, range_start, range_end}
use Rattle.words.proofs.RowLaws.{tabulate_get_d, map_tabulate, tabulate_add}
use Rattle.words.proofs.FlatLaws.{flat_length, flat_at}
use Rattle.ranges.specs.declared.Range.{Range}
use Rattle.ranges.specs.Points.{range, range_at, Point, listed, Same}
use Rattle.graph.proofs.Line.{mem_at, at_mem}
use Rattle.carrying.specs.Lists.{gather}
use Rattle.areas.specs.Job.{Job, Checked, item_count, item_area, ranges_in, ranges_of}
use Rattle.areas.proofs.ApartLaws.{areas_gapped, areas_same}
use Rattle.area_pieces.proofs.HullLaws.{gather_append}
use Rattle.area_measure.proofs.ListLaws.{gather_more}
use Rattle.area_tables.specs.Tables.{area_rows}
use Rattle.area_tables.proofs.RowLaws.{gathered_long, listed_long, ranges_below}
use Rattle.area_tables.proofs.PartLaws.{part_is_area}
use Rattle.item_lists.specs.Lists.{item_row}
use Rattle.area_points.specs.Points.{ItemPoint}
use Rattle.area_points.specs.Parts.{PartPoint, part_ranges, Tells, AreasTold}
use Rattle.area_points.proofs.ItemLaws.{item_exact, none_exact, no_point}

-- ---- a list of ranges as rows of start and end, with whatever stands behind them

abbrev range_row : Range → List ℕ
range_row r = r.start ∷ r.end ∷ []

module _ (L : List Range) (old : List ℕ) where
  rows_are : flat (map range_row L) ≡ flat (tabulate (length L) (λ k. range_row (range_at L k)))
  rows_are =
      ap (λ (m : List Range). flat (map range_row m)) (sym (tabulate_get_d L (range 0 0))) ∙ ap flat (map_tabulate range_row (length L) (λ k. range_at L k))

  rows_length : length (flat (map range_row L)) ≡ range_width * length L
  rows_length = ap length rows_are ∙ flat_length 2 (length L) (λ k. range_row (range_at L k)) (λ k h. refl)

  row_field : (k f : ℕ) → k < length L → f < 2 → field range_width (flat (map range_row L) ++ old) k f ≡ get_or (range_row (range_at L k)) f 0
  row_field k f h l =
      get_or-append (flat (map range_row L)) old 0 (range_width * k + f) (omega (arith, rows_length)) ∙ ap (λ (m : List ℕ). get_or m (range_width * k + f) 0) rows_are
      ∙ flat_at 2 (length L) (λ j. range_row (range_at L j)) (λ j q. refl) k f h l

-- ---- item i's part

module _ (A : ℕ → Option (List Range)) (n i : ℕ) (h : i < n) (old : List ℕ) where
  abbrev all : List Range
  all = gather listed (tabulate n A)

  abbrev before : List Range
  before = gather listed (tabulate i A)

  -- the ranges before item i's, its own, and those behind
  behind : (rest : List Range) × (all ≡ (before ++ listed (A i)) ++ rest)
  behind = (
    gather listed (tabulate (n - (i + 1)) (λ j. A (i + 1 + j))),
    (let e : n ≡ i + 1 + (n - (i + 1)) = omega arith in
        ap (λ (k : ℕ). gather listed (tabulate k A)) e ∙ ap (gather listed) (tabulate_add (i + 1) (n - (i + 1)) A)
        ∙ gather_append listed (tabulate (i + 1) A) (tabulate (n - (i + 1)) (λ j. A (i + 1 + j)))
        ∙ ap (λ (l : List Range). l ++ gather listed (tabulate (n - (i + 1)) (λ j. A (i + 1 + j)))) (gather_more A i)),
  )

  -- the k-th range of item i's stands k places behind those before
  own_range : (k : ℕ) → k < ranges_in (A i) → range_at all (ranges_of (tabulate i A) + k) ≡ range_at (listed (A i)) k
  own_range k l =
      let (rest, e) = behind in
      let b = gathered_long (tabulate i A) in
      let c = listed_long (A i) in
      let d = length-append before (listed (A i)) in
      ap (λ (m : List Range). range_at m (ranges_of (tabulate i A) + k)) e ∙ get_or-append (before ++ listed (A i)) rest (range 0 0) (ranges_of (tabulate i A) + k) (omega arith)
      ∙ ap (λ (m : ℕ). range_at (before ++ listed (A i)) (m + k)) (sym b) ∙ get_or-append-add before (listed (A i)) k (range 0 0)

  own_field : (k f : ℕ) → k < ranges_in (A i) → f < 2 → field range_width (area_rows n A ++ old) (ranges_of (tabulate i A) + k) f ≡ get_or (range_row (range_at (listed (A i)) k)) f 0
  own_field k f l q =
      row_field all old (ranges_of (tabulate i A) + k) f (omega (arith, gathered_long (tabulate n A), ranges_below A i n h)) q
      ∙ ap (λ (r : Range). get_or (range_row r) f 0) (own_range k l)

  part_only : (x : ℕ) → PartPoint (area_rows n A ++ old) (ranges_of (tabulate i A)) (ranges_in (A i)) x → Point (listed (A i)) x
  part_only x p =
      let first = ranges_of (tabulate i A) in
      let a = p.from in
      let b = p.under in
      let k = p.row - first in
      let z : first + k ≡ p.row = omega arith in
      let l : k < ranges_in (A i) = omega arith in
      let s = own_field k 0 l (omega arith) in
      let t = own_field k 1 l (omega arith) in
      let u : range_start (area_rows n A ++ old) (first + k) ≤ x = rw z p.begun in
      let v : x ≤ range_end (area_rows n A ++ old) (first + k) = rw z p.lasting in
      (range_at (listed (A i)) k, mem_at (listed (A i)) k (range 0 0) (omega (arith, listed_long (A i))), omega arith, omega arith)

  part_has : (x : ℕ) → Point (listed (A i)) x → PartPoint (area_rows n A ++ old) (ranges_of (tabulate i A)) (ranges_in (A i)) x
  part_has x (r, m, u, v) =
      let (k, l, e) = at_mem (listed (A i)) r (range 0 0) m in
      let q : k < ranges_in (A i) = omega (arith, listed_long (A i)) in
      let s = own_field k 0 q (omega arith) ∙ ap (λ (t : Range). t.start) e in
      let t = own_field k 1 q (omega arith) ∙ ap (λ (t : Range). t.end) e in
      record { row = ranges_of (tabulate i A) + k; from = omega arith; under = omega arith; begun = omega arith; lasting = omega arith }

  -- the part that an item's row names has exactly the points of its area, with whatever stands behind the list
  pub part_exact : (x : ℕ) → PartPoint (area_rows n A ++ old) (ranges_of (tabulate i A)) (ranges_in (A i)) x ↔ Point (listed (A i)) x
  part_exact x = (part_only x, part_has x)

  pub part_inside : range_width * (ranges_of (tabulate i A) + ranges_in (A i)) ≤ length (area_rows n A ++ old)
  part_inside =
      omega (arith, length-append (area_rows n A) old, rows_length all old, gathered_long (tabulate n A), ranges_below A i n h)

-- ---- the rows of a job's items

module _ (J : Job) (C : Checked J) (some_block : 0 < length J.blocks) (old : List ℕ) where
  abbrev areas : List ℕ
  areas = area_rows (item_count J) (item_area J) ++ old

  abbrev first : ℕ → ℕ
  first i = ranges_of (tabulate i (item_area J))

  abbrev row : ℕ → Option (List Range) → ℕ → ℕ
  row i a f = get_or (item_row (first i) a) f 0

  none_part : (x : ℕ) → PartPoint areas 0 0 x → ⊥
  none_part x p =
      let a = p.under in
      omega arith

  -- the point after a range of an item's part is not in its area
  gap_after : (i : ℕ) → i < item_count J → (rs : List Range) → item_area J i ≡ some rs
      → (k : ℕ) → first i ≤ k → k < first i + length rs → ItemPoint J i (range_end areas k + 1) → ⊥
  gap_after i h rs e k l m p =
      let j = k - first i in
      let z : first i + j ≡ k = omega arith in
      let c : ranges_in (item_area J i) ≡ length rs = ap ranges_in e in
      let d : range_at (listed (item_area J i)) j ≡ range_at rs j = ap (λ (a : Option (List Range)). range_at (listed a) j) e in
      let t = own_field (item_area J) (item_count J) i h old j 1 (omega arith) (omega arith) ∙ ap (λ (r : Range). r.end) d in
      let y : range_end areas k ≡ (range_at rs j).end = ap (λ (n : ℕ). range_end areas n) (sym z) ∙ t in
      (areas_gapped J C some_block i rs e).gap (range_at rs j) (mem_at rs j (range 0 0) (omega arith))
      ((item_exact J C some_block i rs ((range_at rs j).end + 1) e).1 (rw y at p))

  -- the row tells exactly the area's points, and absent exactly for an unfollowed local or a slot without area
  row_tells : (i : ℕ) → i < item_count J → Tells J i areas (row i (item_area J i) 0) (row i (item_area J i) 1) (row i (item_area J i) 2)
  row_tells i h = go (item_area J i) refl
    where
      go : (a : Option (List Range)) → item_area J i ≡ a → Tells J i areas (row i a 0) (row i a 1) (row i a 2)
      go none e = record {
        points = λ x. (λ p. absurd (none_part x p), λ p. absurd (no_point J C some_block i x e p));
        gaps = λ k l m. absurd (omega arith);
        absent = (λ _. (none_exact J C some_block i).0 e, λ _. refl);
        inside = omega arith;
      }
      go (some rs) e = record {
        points = λ x.
            let p = part_exact (item_area J) (item_count J) i h old x in
            let q = item_exact J C some_block i rs x e in
            let c : ranges_in (item_area J i) ≡ length rs = ap ranges_in e in
            let d : listed (item_area J i) ≡ rs = ap listed e in
            (λ y. q.0 (rw d at (p.0 (rw (← c) at y))), λ y. rw c at (p.1 (rw (← d) at (q.1 y))));
        gaps = gap_after i h rs e;
        absent = (λ z. absurd (omega arith), λ z. absurd (some-ne-none rs (sym e ∙ (none_exact J C some_block i).1 z)));
        inside =
            let c : ranges_in (item_area J i) ≡ length rs = ap ranges_in e in
            omega (arith, part_inside (item_area J) (item_count J) i h old);
      }

  -- two items that have areas: their parts are the same list exactly when the same points are in their areas
  rows_same : (i j : ℕ) → i < item_count J → j < item_count J → (row i (item_area J i) 0 ≡ 0 → ⊥) → (row j (item_area J j) 0 ≡ 0 → ⊥)
      → (part_ranges areas (row i (item_area J i) 1) (row i (item_area J i) 2) ≡ part_ranges areas (row j (item_area J j) 1) (row j (item_area J j) 2))
      ↔ ((x : ℕ) → ItemPoint J i x ↔ ItemPoint J j x)
  rows_same i j h k = go (item_area J i) (item_area J j) refl refl
    where
      by_points : (rs ss : List Range) → item_area J i ≡ some rs → item_area J j ≡ some ss → Same rs ss ↔ ((x : ℕ) → ItemPoint J i x ↔ ItemPoint J j x)
      by_points rs ss a b =
          let p : (x : ℕ) → Point rs x ↔ ItemPoint J i x = λ x. item_exact J C some_block i rs x a in
          let q : (x : ℕ) → Point ss x ↔ ItemPoint J j x = λ x. item_exact J C some_block j ss x b in (
            (λ s x. (λ y. (q x).0 ((s x).0 ((p x).1 y)), λ y. (p x).0 ((s x).1 ((q x).1 y)))),
            (λ s x. (λ y. (q x).1 ((s x).0 ((p x).0 y)), λ y. (p x).1 ((s x).1 ((q x).0 y)))),
          )

      go : (a b : Option (List Range)) → item_area J i ≡ a → item_area J j ≡ b → (row i a 0 ≡ 0 → ⊥) → (row j b 0 ≡ 0 → ⊥)
          → (part_ranges areas (row i a 1) (row i a 2) ≡ part_ranges areas (row j b 1) (row j b 2)) ↔ ((x : ℕ) → ItemPoint J i x ↔ ItemPoint J j x)
      go none b d e m n = absurd (m refl)
      go (some rs) none d e m n = absurd (n refl)
      go (some rs) (some ss) d e m n =
          let a = part_is_area (item_area J) i (item_count J) h rs d old in
          let b = part_is_area (item_area J) j (item_count J) k ss e old in
          let s = areas_same J C some_block i j rs ss d e in
          let p = by_points rs ss d e in
          (λ y. p.0 (s.0 (sym a ∙ y ∙ b)), λ y. a ∙ s.1 (p.1 y) ∙ sym b)

  -- rows of items in which these numbers stand from `at` on, and the area list with whatever stands behind, tell it of every item
  pub rows_told : (wide at : ℕ) (items list : List ℕ) → list ≡ areas
      → ((i : ℕ) → i < item_count J → (field wide items i at ≡ row i (item_area J i) 0) × (field wide items i (at + 1) ≡ row i (item_area J i) 1) × (field wide items i (at + 2) ≡ row i (item_area J i) 2))
      → AreasTold J wide at items list
  rows_told wide at items list e w = record {
    item = λ i h. rw (e, (w i h).0, (w i h).1, (w i h).2) (row_tells i h);
    same = λ i j h k. rw (e, (w i h).0, (w i h).1, (w i h).2, (w j k).0, (w j k).1, (w j k).2) (rows_same i j h k);
  }
