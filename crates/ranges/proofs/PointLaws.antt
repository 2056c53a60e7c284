-- Laws of the points of a list of ranges, of lists without reversed ranges, of those in order and apart, and of those with gaps.
use mathlib.Core.Path.{◌≡◌, refl, ap}
use mathlib.Core.Logic.{◌⊎◌, inl, inr}
use mathlib.Core.Bool.{true, ◌||◌, false≢true}
use mathlib.Core.List.Memᴰ
use mathlib.Core.List.{List, [], ◌∷◌, ◌++◌, Memᴰ}
use Prim.Native.Nat.{ℕ, ◌+◌, ◌≤◌, ◌<◌}
use native.Mathlib.Omega.{arith}
use borrow.Author.Tests.{leb-true, le-leb}
use Rattle.words.proofs.Bools.{or_right, and_both, or_cases}
use Rattle.ranges.specs.declared.Range.{Range}
use Rattle.ranges.specs.Inner.{Within}
use Rattle.ranges.specs.Points.{Point, within, inside, Upright, Past, Apart, Gapped}

-- ---- points

pub point_head : (a : Range) (rs : List Range) (x : ℕ) → a.start ≤ x → x ≤ a.end → Point (a ∷ rs) x
point_head a rs x h k = (a, Memᴰ.head refl, h, k)

pub point_tail : (a : Range) (rs : List Range) (x : ℕ) → Point rs x → Point (a ∷ rs) x
point_tail a rs x (r, m, h, k) = (r, Memᴰ.tail m, h, k)

pub point_none : (x : ℕ) → Point [] x → ⊥
point_none x (r, m, h, k) = Memᴰ.not-nil m

pub point_cases : (a : Range) (rs : List Range) (x : ℕ) → Point (a ∷ rs) x → Within a x ⊎ Point rs x
point_cases a rs x (r, m, h, k) = go (Memᴰ.cases_cons m)
  where
    go : (r ≡ a) ⊎ Memᴰ r rs → Within a x ⊎ Point rs x
    go (inl e) = inl (rw e at h, rw e at k)
    go (inr n) = inr (r, n, h, k)

pub point_left : {rs : List Range} (ss : List Range) {x : ℕ} → Point rs x → Point (rs ++ ss) x
point_left ss (r, m, h, k) = (r, Memᴰ.append_left ss m, h, k)

pub point_right : (rs : List Range) {ss : List Range} {x : ℕ} → Point ss x → Point (rs ++ ss) x
point_right rs (r, m, h, k) = (r, Memᴰ.append_right rs m, h, k)

pub point_split : (rs ss : List Range) (x : ℕ) → Point (rs ++ ss) x → Point rs x ⊎ Point ss x
point_split rs ss x (r, m, h, k) = go (Memᴰ.append_cases rs m)
  where
    go : Memᴰ r rs ⊎ Memᴰ r ss → Point rs x ⊎ Point ss x
    go (inl n) = inl (r, n, h, k)
    go (inr n) = inr (r, n, h, k)

-- the test says the same
pub point_inside : (x : ℕ) (rs : List Range) → Point rs x → inside x rs ≡ true
point_inside x [] p = absurd (point_none x p)
point_inside x (a ∷ rs) p = go (point_cases a rs x p) (point_inside x rs)
  where
    go : Within a x ⊎ Point rs x → (Point rs x → inside x rs ≡ true) → within x a || inside x rs ≡ true
    go (inl (h, k)) ih = rw (le-leb a.start x h, le-leb x a.end k)
    go (inr q) ih = or_right (within x a) (inside x rs) (ih q)

pub inside_point : (x : ℕ) (rs : List Range) → inside x rs ≡ true → Point rs x
inside_point x [] e = absurd (false≢true e)
inside_point x (a ∷ rs) e = go (or_cases (within x a) (inside x rs) e) (inside_point x rs)
  where
    go : (within x a ≡ true) ⊎ (inside x rs ≡ true) → (inside x rs ≡ true → Point rs x) → Point (a ∷ rs) x
    go (inl d) ih =
        let h = and_both _ _ d in
        point_head a rs x (leb-true _ _ h.0) (leb-true _ _ h.1)
    go (inr d) ih = point_tail a rs x (ih d)

-- ---- upright

pub upright_tail : (a : Range) (rs : List Range) → Upright (a ∷ rs) → Upright rs
upright_tail a rs u r m = u r (Memᴰ.tail m)

pub upright_head : (a : Range) (rs : List Range) → Upright (a ∷ rs) → a.start ≤ a.end
upright_head a rs u = u a (Memᴰ.head refl)

pub upright_none : Upright []
upright_none r m = absurd (Memᴰ.not-nil m)

pub upright_cons : (a : Range) (rs : List Range) → a.start ≤ a.end → Upright rs → Upright (a ∷ rs)
upright_cons a rs h u r m = go (Memᴰ.cases_cons m)
  where
    go : (r ≡ a) ⊎ Memᴰ r rs → r.start ≤ r.end
    go (inl e) = rw e h
    go (inr n) = u r n

pub upright_append : (rs ss : List Range) → Upright rs → Upright ss → Upright (rs ++ ss)
upright_append rs ss u v r m = go (Memᴰ.append_cases rs m)
  where
    go : Memᴰ r rs ⊎ Memᴰ r ss → r.start ≤ r.end
    go (inl n) = u r n
    go (inr n) = v r n

-- ---- in order and apart

pub past_upright : (x : ℕ) (rs : List Range) → Past x rs → Upright rs
past_upright x [] p = upright_none
past_upright x (r ∷ rs) p = upright_cons r rs p.1 (past_upright r.end rs p.2)

pub apart_upright : (rs : List Range) → Apart rs → Upright rs
apart_upright [] p = upright_none
apart_upright (r ∷ rs) p = upright_cons r rs p.0 (past_upright r.end rs p.1)

pub past_apart : (x : ℕ) (rs : List Range) → Past x rs → Apart rs
past_apart x [] p = tt
past_apart x (r ∷ rs) p = (p.1, p.2)

pub apart_tail : (r : Range) (rs : List Range) → Apart (r ∷ rs) → Apart rs
apart_tail r rs p = past_apart r.end rs p.1

-- every point lies past what the list is past
pub past_point : (x : ℕ) (rs : List Range) → Past x rs → (y : ℕ) → Point rs y → x < y
past_point x [] p y q = absurd (point_none y q)
past_point x (r ∷ rs) p y q = go (point_cases r rs y q) (past_point r.end rs p.2 y)
  where
    go : Within r y ⊎ Point rs y → (Point rs y → r.end < y) → x < y
    go (inl (h, k)) ih = let a = p.0 in omega arith
    go (inr c) ih = let a = p.0 in let b = p.1 in let d = ih c in omega arith

pub past_lower : (x y : ℕ) (rs : List Range) → x ≤ y → Past y rs → Past x rs
past_lower x y [] h p = tt
past_lower x y (r ∷ rs) h p = let a = p.0 in (omega arith, p.1, p.2)

-- ---- with gaps

pub gapped_none : Gapped []
gapped_none = record { apart = tt; gap = λ q m p. Memᴰ.not-nil m }

-- a range in front of others that lie past the point after it
pub gapped_cons : (a : Range) (rs : List Range) → a.start ≤ a.end → Past (a.end + 1) rs → Gapped rs → Gapped (a ∷ rs)
gapped_cons a rs k p g = record {
  apart = (k, past_lower a.end (a.end + 1) rs (omega arith) p);
  gap = λ q m c. go q (Memᴰ.cases_cons m) (point_cases a rs (q.end + 1) c);
}
  where
    go : (q : Range) → (q ≡ a) ⊎ Memᴰ q rs → Within a (q.end + 1) ⊎ Point rs (q.end + 1) → ⊥
    go q (inl e) (inl (h, l)) = let z : q.end ≡ a.end = ap (λ (t : Range). t.end) e in omega arith
    go q (inl e) (inr c) = let z : q.end ≡ a.end = ap (λ (t : Range). t.end) e in let d = past_point (a.end + 1) rs p (q.end + 1) c in omega arith
    go q (inr n) (inl (h, l)) = let d = past_point (a.end + 1) rs p q.end (q, n, past_upright (a.end + 1) rs p q n, omega arith) in omega arith
    go q (inr n) (inr c) = g.gap q n c

pub gapped_tail : (a : Range) (rs : List Range) → Gapped (a ∷ rs) → Gapped rs
gapped_tail a rs g = record { apart = apart_tail a rs g.apart; gap = λ q m p. g.gap q (Memᴰ.tail m) (point_tail a rs (q.end + 1) p) }
