-- Laws of the axis: points inside it are drawn inside, their order is kept, and bars of ranges that lie apart do not cross.
use Prim.Native.Nat.{ℕ, zero, suc, ◌+◌, ◌-◌, ◌*◌, ◌/◌, ◌≤◌, ◌<◌, min, max}
use native.Mathlib.Omega.{arith}
use native.Mathlib.Nat.{le-div_iff_mul-le, div-lt_iff_lt-mul, mul-le-mul_right, lt-suc_self, le_refl}
use native.Mathlib.Numerals.{add-one}
use mathlib.Core.Path.{◌≡◌, refl, ap, ◌∙◌}
use mathlib.Core.List.{List}
use lib.ListN.{length}
use Rattle.words.specs.Rows.{field, row_count}
use Rattle.words.specs.Widths.{block_width, block_count, block_start, block_end, item_ranges, range_width, range_count, range_start, range_end}
use Rattle.words.proofs.Points.{cut}
use Rattle.words.proofs.RowLaws.{field_within, rows_within}
use Rattle.drawing.specs.Axis.{least_of, greatest_of, first_of, last_of, left, axis_width, points_before, Placed, Barred}
use Rattle.drawing.specs.Inner.{ranges_in}

-- ---- the first and the last point

module _ (w : ℕ) (l : List ℕ) (f a : ℕ) where
  pub least_none : least_of w l f a 0 ≡ a
  unfolding least_of
  least_none = refl

  pub least_more : (n : ℕ) → least_of w l f a (n + 1) ≡ min (least_of w l f a n) (field w l n f)
  unfolding least_of
  least_more n = ap (least_of w l f a) (add-one n)

  pub greatest_none : greatest_of w l f a 0 ≡ a
  unfolding greatest_of
  greatest_none = refl

  pub greatest_more : (n : ℕ) → greatest_of w l f a (n + 1) ≡ max (greatest_of w l f a n) (field w l n f)
  unfolding greatest_of
  greatest_more n = ap (greatest_of w l f a) (add-one n)

  pub least_from : (n : ℕ) → least_of w l f a n ≤ a
  unfolding least_of
  least_from zero = le_refl a
  least_from (suc n) = omega (arith, least_from n)

  pub greatest_from : (n : ℕ) → a ≤ greatest_of w l f a n
  unfolding greatest_of
  greatest_from zero = le_refl a
  greatest_from (suc n) = omega (arith, greatest_from n)

  pub least_all : (n i : ℕ) → i < n → least_of w l f a n ≤ field w l i f
  unfolding least_of
  least_all zero i h = omega arith
  least_all (suc n) i h = cut n i
      (λ k. let e : i ≡ n = omega arith in rw e (omega arith))
      (λ k. omega (arith, least_all n i k))

  pub greatest_all : (n i : ℕ) → i < n → field w l i f ≤ greatest_of w l f a n
  unfolding greatest_of
  greatest_all zero i h = omega arith
  greatest_all (suc n) i h = cut n i
      (λ k. let e : i ≡ n = omega arith in rw e (omega arith))
      (λ k. omega (arith, greatest_all n i k))

-- a row's field is inside the list
pub row_within : (w i f : ℕ) (l : List ℕ) → i < row_count w l → f < w → w * i + f < length l
row_within w i f l h k = field_within w (row_count w l) i f (length l) h k (rows_within w l)

-- the ends found in both lists are those of the axis
module _ (blocks areas : List ℕ) {low high low' high' : ℕ}
    (a : low ≡ least_of block_width blocks 1 4294967295 (block_count blocks)) (b : high ≡ greatest_of block_width blocks 2 0 (block_count blocks))
    (c : low' ≡ least_of range_width areas 0 low (range_count areas)) (d : high' ≡ greatest_of range_width areas 1 high (range_count areas)) where
  ends_first : low' ≡ first_of blocks areas
  ends_first = c ∙ ap (λ (x : ℕ). least_of range_width areas 0 x (range_count areas)) a

  ends_last : high' ≡ last_of blocks areas
  ends_last = d ∙ ap (λ (x : ℕ). greatest_of range_width areas 1 x (range_count areas)) b

  pub axis_whole : (low' ≡ first_of blocks areas) × (high' - low' ≡ last_of blocks areas - first_of blocks areas)
  axis_whole = (ends_first, ap (λ (x : ℕ). high' - x) ends_first ∙ ap (λ (x : ℕ). x - first_of blocks areas) ends_last)

  pub axis_short : high' < low' → (low' ≡ first_of blocks areas) × (0 ≡ last_of blocks areas - first_of blocks areas)
  axis_short h = (ends_first, let e = axis_whole.1 in omega arith)

-- every block and every area lies between the first point and the last
module _ (blocks areas : List ℕ) (first more : ℕ) (e : first ≡ first_of blocks areas) (d : more ≡ last_of blocks areas - first_of blocks areas) where
  pub block_inside : (i : ℕ) → i < block_count blocks → (first ≤ block_start blocks i) × (block_end blocks i ≤ first + more)
  block_inside i h = (
    let a = least_all block_width blocks 1 4294967295 (block_count blocks) i h in let b = least_from range_width areas 0 (least_of block_width blocks 1 4294967295 (block_count blocks)) (range_count areas) in omega arith,
    let a = greatest_all block_width blocks 2 0 (block_count blocks) i h in let b = greatest_from range_width areas 1 (greatest_of block_width blocks 2 0 (block_count blocks)) (range_count areas) in omega arith,
  )

  pub area_inside : (i : ℕ) → i < range_count areas → (first ≤ range_start areas i) × (range_end areas i ≤ first + more)
  area_inside i h = (
    let a = least_all range_width areas 0 (least_of block_width blocks 1 4294967295 (block_count blocks)) (range_count areas) i h in omega arith,
    let a = greatest_all range_width areas 1 (greatest_of block_width blocks 2 0 (block_count blocks)) (range_count areas) i h in omega arith,
  )

-- ---- how many ranges the items have

pub ranges_none : (items : List ℕ) → ranges_in items 0 ≡ 0
unfolding ranges_in
ranges_none items = refl

pub ranges_more : (items : List ℕ) (n : ℕ) → ranges_in items (n + 1) ≡ ranges_in items n + item_ranges items n
unfolding ranges_in
ranges_more items n = ap (ranges_in items) (add-one n)

-- ---- places

pub placed : (first more p n : ℕ) → n ≡ points_before first more p → Placed first more p (left + (axis_width * n) / (more + 1))
placed first more p n e =
    let pos : 0 < more + 1 = omega arith in
    record {
      way = (axis_width * n) / (more + 1);
      at = refl;
      inside = let small : axis_width * n < 8001 * (more + 1) = omega arith in let k : (axis_width * n) / (more + 1) < 8001 = (div-lt_iff_lt-mul pos).1 small in omega arith;
      reached = let k : (axis_width * n) / (more + 1) * (more + 1) ≤ axis_width * n = (le-div_iff_mul-le pos).0 (le_refl ((axis_width * n) / (more + 1))) in omega arith;
      not_passed = let k : axis_width * n < suc ((axis_width * n) / (more + 1)) * (more + 1) = (div-lt_iff_lt-mul pos).0 (lt-suc_self ((axis_width * n) / (more + 1))) in omega arith;
    }

pub way_small : (more n : ℕ) → n ≤ more + 1 → (axis_width * n) / (more + 1) ≤ axis_width
way_small more n h =
    let pos : 0 < more + 1 = omega arith in
    let small : axis_width * n < 8001 * (more + 1) = omega arith in
    let k : (axis_width * n) / (more + 1) < 8001 = (div-lt_iff_lt-mul pos).1 small in omega arith

-- the order of points is kept
pub in_order_lem : {first more p q x y : ℕ} → Placed first more p x → Placed first more q y → p ≤ q → x ≤ y
in_order_lem {first} {more} {p} {q} {x} {y} a b h = cut x y (λ k. k) (λ k.
    let less : suc b.way ≤ a.way = omega arith in
    let m : suc b.way * (more + 1) ≤ a.way * (more + 1) = mul-le-mul_right (more + 1) less in
    let r = a.reached in let s = b.not_passed in
    let n : points_before first more p ≤ points_before first more q = omega arith in
    absurd (omega arith))

pub bar_made : {first more start end last x stop : ℕ} → Placed first more start x → Placed first more (last + 1) stop → last ≡ max start end
    → Barred first more start end x (stop - x)
bar_made {first} {more} {start} {end} {last} {x} {stop} a b e =
    let h : x ≤ stop = in_order_lem a b (omega arith) in
    let t : x + (stop - x) ≡ stop = omega arith in
    record {
      begins = a;
      ends = rw (t, ← e) b;
    }

-- bars of ranges that lie apart do not cross
pub bars_apart : {first more start end x width start' end' x' width' : ℕ} → Barred first more start end x width → Barred first more start' end' x' width'
    → start ≤ end → end < start' → x + width ≤ x'
bars_apart a b h k = in_order_lem a.ends b.begins (omega arith)

-- a bar is inside the picture
pub bar_inside : {first more start end x width : ℕ} → Barred first more start end x width → (left ≤ x) × (x + width ≤ left + axis_width)
bar_inside a = (let e = a.begins.at in omega arith, let e = a.ends.at in let h = a.ends.inside in omega arith)
