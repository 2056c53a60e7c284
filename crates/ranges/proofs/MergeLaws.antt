-- Laws of `merged`: the same points, in order with a gap between any two ranges, whatever the order of the lent ranges.
use mathlib.Core.Path.{◌≡◌, refl, ap, ◌∙◌}
use mathlib.Core.Logic.{◌⊎◌, inl, inr}
use mathlib.Core.Bool.{Bool, true, false, cond}
use mathlib.Core.List.Memᴰ
use mathlib.Core.List.{List, [], ◌∷◌, ◌++◌}
use Prim.Native.Nat.{ℕ, ◌+◌, ◌≤◌, ◌<◌, max}
use native.Mathlib.Omega.{arith}
use lib.Dec.{leb}
use borrow.Author.Tests.{leb-true, leb-false, le-leb, lt-leb}
use Rattle.ranges.specs.declared.Range.{Range}
use Rattle.ranges.specs.Points.{range, Point, Upright, Past, Apart, Gapped}
use Rattle.ranges.specs.Inner.{Within}
use Rattle.ranges.specs.Merged.{insert, sort, join, join_all, merged, union, Permuted}
use Rattle.ranges.proofs.PointLaws.{point_head, point_tail, point_cases, point_left, point_right, point_split, upright_head, upright_tail, apart_upright, gapped_none, gapped_cons}
use Rattle.ranges.proofs.SortLaws.{From, Sorted, sort_sorted, sort_member, member_sort, insert_swap}

-- ---- one step of joining

pub join_none : (a : Range) → join a [] ≡ a ∷ []
unfolding join
join_none a = refl

-- the next range shares a point or touches
pub join_wider : (a r : Range) (rs : List Range) → r.start ≤ a.end + 1 → join a (r ∷ rs) ≡ join (range a.start (max a.end r.end)) rs
unfolding join
join_wider a r rs h = rw (le-leb r.start (a.end + 1) h)

-- it does not
pub join_next : (a r : Range) (rs : List Range) → a.end + 1 < r.start → join a (r ∷ rs) ≡ a ∷ join r rs
unfolding join
join_next a r rs h = rw (lt-leb r.start (a.end + 1) h)

-- ---- points

join_keeps : (rs : List Range) (a : Range) (x : ℕ) → From a.start rs → Sorted rs → Point (a ∷ rs) x → Point (join a rs) x
unfolding join
join_keeps [] a x f s p = p
join_keeps (r ∷ rs) a x f s p = go (leb r.start (a.end + 1)) refl (point_cases a (r ∷ rs) x p) (join_keeps rs wide x) (join_keeps rs r x)
  where
    wide : Range
    wide = range a.start (max a.end r.end)

    go : (t : Bool) → leb r.start (a.end + 1) ≡ t → Within a x ⊎ Point (r ∷ rs) x
        → (From a.start rs → Sorted rs → Point (wide ∷ rs) x → Point (join wide rs) x)
        → (From r.start rs → Sorted rs → Point (r ∷ rs) x → Point (join r rs) x)
        → Point (cond t (join wide rs) (a ∷ join r rs)) x
    go true e (inl (i, j)) k l = k (λ q m. f q (Memᴰ.tail m)) s.1 (point_head wide rs x i (omega arith))
    go true e (inr b) k l = k (λ q m. f q (Memᴰ.tail m)) s.1 (inner (point_cases r rs x b))
      where
        inner : Within r x ⊎ Point rs x → Point (wide ∷ rs) x
        inner (inl (i, j)) = point_head wide rs x (omega (arith, f r (Memᴰ.head refl))) (omega arith)
        inner (inr c) = point_tail wide rs x c
    go false e (inl (i, j)) k l = point_head a (join r rs) x i j
    go false e (inr b) k l = point_tail a (join r rs) x (l s.0 s.1 b)

join_only : (rs : List Range) (a : Range) (x : ℕ) → Point (join a rs) x → Point (a ∷ rs) x
unfolding join
join_only [] a x p = p
join_only (r ∷ rs) a x p = go (leb r.start (a.end + 1)) refl p (join_only rs wide x) (join_only rs r x)
  where
    wide : Range
    wide = range a.start (max a.end r.end)

    -- a point of the wider range is one of the two: no point is between them
    split : r.start ≤ a.end + 1 → a.start ≤ x → x ≤ max a.end r.end → (b : Bool) → leb x a.end ≡ b → Point (a ∷ r ∷ rs) x
    split h i j true e = point_head a (r ∷ rs) x i (leb-true _ _ e)
    split h i j false e = let k = leb-false x a.end e in point_tail a (r ∷ rs) x (point_head r rs x (omega arith) (omega arith))

    go : (t : Bool) → leb r.start (a.end + 1) ≡ t → Point (cond t (join wide rs) (a ∷ join r rs)) x
        → (Point (join wide rs) x → Point (wide ∷ rs) x) → (Point (join r rs) x → Point (r ∷ rs) x) → Point (a ∷ r ∷ rs) x
    go true e q k l = late (point_cases wide rs x (k q))
      where
        late : Within wide x ⊎ Point rs x → Point (a ∷ r ∷ rs) x
        late (inl (i, j)) = split (leb-true _ _ e) i j (leb x a.end) refl
        late (inr c) = point_tail a (r ∷ rs) x (point_tail r rs x c)
    go false e q k l = late (point_cases a (join r rs) x q)
      where
        late : Within a x ⊎ Point (join r rs) x → Point (a ∷ r ∷ rs) x
        late (inl (i, j)) = point_head a (r ∷ rs) x i j
        late (inr c) = point_tail a (r ∷ rs) x (l c)

-- `merged` loses no point
pub merged_keeps : (rs : List Range) (x : ℕ) → Point rs x → Point (merged rs) x
unfolding merged
merged_keeps rs x (r, m, h, k) = go (sort rs) (sort_sorted rs) (r, sort_member rs r m, h, k)
  where
    go : (q : List Range) → Sorted q → Point q x → Point (join_all q) x
    go [] s b = b
    go (a ∷ q) s b = join_keeps q a x s.0 s.1 b

-- and adds none
pub merged_only : (rs : List Range) (x : ℕ) → Point (merged rs) x → Point rs x
unfolding merged
merged_only rs x p = back (go (sort rs) p)
  where
    go : (q : List Range) → Point (join_all q) x → Point q x
    go [] b = b
    go (a ∷ q) b = join_only q a x b

    back : Point (sort rs) x → Point rs x
    back (r, m, h, k) = (r, member_sort rs r m, h, k)

-- ---- in order, with gaps

join_past : (rs : List Range) (a : Range) (x : ℕ) → x < a.start → a.start ≤ a.end → Upright rs → Past x (join a rs)
unfolding join
join_past [] a x h k u = (h, k, tt)
join_past (r ∷ rs) a x h k u = go (leb r.start (a.end + 1)) refl (join_past rs wide x) (join_past rs r a.end)
  where
    wide : Range
    wide = range a.start (max a.end r.end)

    go : (t : Bool) → leb r.start (a.end + 1) ≡ t
        → (x < a.start → a.start ≤ max a.end r.end → Upright rs → Past x (join wide rs))
        → (a.end < r.start → r.start ≤ r.end → Upright rs → Past a.end (join r rs))
        → Past x (cond t (join wide rs) (a ∷ join r rs))
    go true e f g = f h (omega arith) (upright_tail r rs u)
    go false e f g = let d = leb-false r.start (a.end + 1) e in (h, k, g (omega arith) (upright_head r rs u) (upright_tail r rs u))

join_gapped : (rs : List Range) (a : Range) → a.start ≤ a.end → Upright rs → Gapped (join a rs)
unfolding join
join_gapped [] a k u = gapped_cons a [] k tt gapped_none
join_gapped (r ∷ rs) a k u = go (leb r.start (a.end + 1)) refl (join_gapped rs wide) (join_gapped rs r)
  where
    wide : Range
    wide = range a.start (max a.end r.end)

    up : r.start ≤ r.end
    up = upright_head r rs u

    go : (t : Bool) → leb r.start (a.end + 1) ≡ t → (a.start ≤ max a.end r.end → Upright rs → Gapped (join wide rs))
        → (r.start ≤ r.end → Upright rs → Gapped (join r rs)) → Gapped (cond t (join wide rs) (a ∷ join r rs))
    go true e f g = f (omega arith) (upright_tail r rs u)
    go false e f g = gapped_cons a (join r rs) k (join_past rs r (a.end + 1) (leb-false _ _ e) up (upright_tail r rs u)) (g up (upright_tail r rs u))

-- a merged area has a gap between any two ranges
pub merged_gapped : (rs : List Range) → Upright rs → Gapped (merged rs)
unfolding merged
merged_gapped rs u = go (sort rs) (λ r m. u r (member_sort rs r m))
  where
    go : (q : List Range) → Upright q → Gapped (join_all q)
    go [] v = gapped_none
    go (a ∷ q) v = join_gapped q a (upright_head a q v) (upright_tail a q v)

pub merged_apart : (rs : List Range) → Upright rs → Apart (merged rs)
merged_apart rs u = (merged_gapped rs u).apart

pub merged_upright : (rs : List Range) → Upright rs → Upright (merged rs)
merged_upright rs u = apart_upright (merged rs) (merged_apart rs u)

-- ---- any order

sort_permuted : {rs ss : List Range} → Permuted rs ss → sort rs ≡ sort ss
unfolding sort
sort_permuted Permuted.none = refl
sort_permuted (Permuted.keep r p) = ap (insert r) (sort_permuted p)
sort_permuted (Permuted.swap r s rs) = insert_swap r s (sort rs)
sort_permuted (Permuted.then p q) = sort_permuted p ∙ sort_permuted q

pub merged_permuted : {rs ss : List Range} → Permuted rs ss → merged rs ≡ merged ss
unfolding merged
merged_permuted p = ap join_all (sort_permuted p)

-- ---- union

pub union_left : (rs ss : List Range) (x : ℕ) → Point rs x → Point (union rs ss) x
union_left rs ss x p = merged_keeps (rs ++ ss) x (point_left ss p)

pub union_right : (rs ss : List Range) (x : ℕ) → Point ss x → Point (union rs ss) x
union_right rs ss x p = merged_keeps (rs ++ ss) x (point_right rs p)

pub union_only : (rs ss : List Range) (x : ℕ) → Point (union rs ss) x → Point rs x ⊎ Point ss x
union_only rs ss x p = point_split rs ss x (merged_only (rs ++ ss) x p)
