-- Laws of the order of ranges by start, then end, and of sorting by it.
use mathlib.Core.Path.{◌≡◌, refl, sym, ap, ◌∙◌}
use mathlib.Core.Logic.{◌⊎◌, inl, inr}
use mathlib.Core.Bool.{Bool, true, false, cond, ◌&&◌, ◌||◌, true≢false, false≢true}
use mathlib.Core.List.Memᴰ
use mathlib.Core.List.{List, [], ◌∷◌, ◌++◌, Memᴰ}
use Prim.Native.Nat.{ℕ, ◌≤◌, ◌<◌}
use native.Mathlib.Omega.{arith}
use lib.Dec.{leb, ltb, eqb}
use borrow.Author.Tests.{leb-true, leb-false, le-leb, ltb-true, ltb-false, lt-ltb, le-ltb, eqb-true, eqb-false, eq-eqb}
use Rattle.ranges.specs.declared.Range.{Range}
use Rattle.ranges.specs.Points.{range}
use Rattle.ranges.specs.Merged.{not_after, insert, sort}

-- ---- the order

-- r's start is before s's, or they start together and r ends no later
abbrev pub Le : Range → Range → Type 0
Le r s = (r.start < s.start) ⊎ ((r.start ≡ s.start) × (r.end ≤ s.end))

pub not_after_lem : (r s : Range) → not_after r s ≡ true → Le r s
not_after_lem r s e = go (ltb r.start s.start) refl (eqb r.start s.start) refl e
  where
    go : (t : Bool) → ltb r.start s.start ≡ t → (u : Bool) → eqb r.start s.start ≡ u → t || u && leb r.end s.end ≡ true → Le r s
    go true a u b e = inl (ltb-true _ _ a)
    go false a true b e = inr (eqb-true _ _ b, leb-true _ _ e)
    go false a false b e = absurd (false≢true e)

pub is_not_after : (r s : Range) → Le r s → not_after r s ≡ true
is_not_after r s (inl h) = simp (lt-ltb r.start s.start h)
is_not_after r s (inr (h, k)) =
    simp (le-ltb r.start s.start (omega arith), eq-eqb r.start s.start h, le-leb r.end s.end k)

pub total : (r s : Range) → not_after r s ≡ false → Le s r
total r s e = go (ltb r.start s.start) refl (eqb r.start s.start) refl e
  where
    go : (t : Bool) → ltb r.start s.start ≡ t → (u : Bool) → eqb r.start s.start ≡ u → t || u && leb r.end s.end ≡ false → Le s r
    go true a u b e = absurd (true≢false e)
    go false a true b e =
        let h : r.start ≡ s.start = eqb-true _ _ b in
        let k : s.end < r.end = leb-false _ _ e in
        inr (sym h, omega arith)
    go false a false b e =
        let h : s.start ≤ r.start = ltb-false _ _ a in
        let k : r.start ≡ s.start → ⊥ = eqb-false _ _ b in
        inl (omega arith)

pub start_le : (r s : Range) → Le r s → r.start ≤ s.start
start_le r s (inl h) = omega arith
start_le r s (inr (h, k)) = omega arith

pub le_trans : (r s t : Range) → Le r s → Le s t → Le r t
le_trans r s t (inl h) (inl k) = inl (omega arith)
le_trans r s t (inl h) (inr (k, l)) = inl (omega arith)
le_trans r s t (inr (h, i)) (inl k) = inl (omega arith)
le_trans r s t (inr (h, i)) (inr (k, l)) = inr (h ∙ k, omega arith)

le_same : (r s : Range) → Le r s → Le s r → r ≡ s
le_same r s (inl h) (inl k) = absurd (omega arith)
le_same r s (inl h) (inr (k, l)) = absurd (omega arith)
le_same r s (inr (h, i)) (inl k) = absurd (omega arith)
le_same r s (inr (h, i)) (inr (k, l)) = let e : r.end ≡ s.end = omega arith in ap (λ (x : ℕ). range x r.end) h ∙ ap (range s.start) e

-- ---- inserting

pub insert_front : (r s : Range) (rs : List Range) → not_after r s ≡ true → insert r (s ∷ rs) ≡ r ∷ s ∷ rs
unfolding insert
insert_front r s rs e = rw e

pub insert_later : (r s : Range) (rs : List Range) → not_after r s ≡ false → insert r (s ∷ rs) ≡ s ∷ insert r rs
unfolding insert
insert_later r s rs e = rw e

pub insert_none : (r : Range) → insert r [] ≡ r ∷ []
unfolding insert
insert_none r = refl

-- of equal ranges
insert_same : (x y z : Range) (l : List Range) → x ≡ y → insert x (y ∷ z ∷ l) ≡ insert y (x ∷ z ∷ l)
insert_same x y z l e = cc

-- two insertions may change places
pub insert_swap : (x y : Range) (l : List Range) → insert x (insert y l) ≡ insert y (insert x l)
unfolding insert
insert_swap x y [] = go (not_after x y) refl (not_after y x) refl
  where
    go : (a : Bool) → not_after x y ≡ a → (b : Bool) → not_after y x ≡ b → insert x (y ∷ []) ≡ insert y (x ∷ [])
    go true p true q = let e = le_same x y (not_after_lem x y p) (not_after_lem y x q) in rw e
    go true p false q = simp (p, q)
    go false p true q = simp (p, q)
    go false p false q = absurd (true≢false (sym (is_not_after y x (total x y p)) ∙ q))
insert_swap x y (z ∷ l) = go (not_after x z) refl (not_after y z) refl (insert_swap x y l)
  where
    front : not_after x z ≡ true → not_after y z ≡ true → (a : Bool) → not_after x y ≡ a → (b : Bool) → not_after y x ≡ b → insert x (y ∷ z ∷ l) ≡ insert y (x ∷ z ∷ l)
    front p q true a true b = insert_same x y z l (le_same x y (not_after_lem x y a) (not_after_lem y x b))
    front p q true a false b = simp (a, b, q)
    front p q false a true b = simp (a, b, p)
    front p q false a false b = absurd (true≢false (sym (is_not_after y x (total x y a)) ∙ b))

    -- v stands before z, and w does not: w does not stand before v
    behind : (v w : Range) → not_after v z ≡ true → not_after w z ≡ false → (b : Bool) → not_after w v ≡ b → not_after w v ≡ false
    behind v w p q true b = absurd (true≢false (sym (is_not_after w z (le_trans w v z (not_after_lem w v b) (not_after_lem v z p))) ∙ q))
    behind v w p q false b = b

    go : (s : Bool) → not_after x z ≡ s → (t : Bool) → not_after y z ≡ t → insert x (insert y l) ≡ insert y (insert x l) → insert x (insert y (z ∷ l)) ≡ insert y (insert x (z ∷ l))
    go true p true q ih =
        ap (insert x) (insert_front y z l q) ∙ front p q (not_after x y) refl (not_after y x) refl ∙ sym (ap (insert y) (insert_front x z l p))
    go true p false q ih = simp (p, q, behind x y p q (not_after y x) refl)
    go false p true q ih = simp (p, q, behind y x q p (not_after x y) refl)
    go false p false q ih = simp (p, q) (ap (λ (r : List Range). z ∷ r) ih)

-- where in the list a range stands makes no difference
pub sort_insert : (rs : List Range) (r : Range) (ss : List Range) → sort (rs ++ r ∷ ss) ≡ insert r (sort (rs ++ ss))
unfolding sort
sort_insert [] r ss = refl
sort_insert (q ∷ rs) r ss = ap (insert q) (sort_insert rs r ss) ∙ insert_swap q r (sort (rs ++ ss))

-- ---- members

pub insert_member : (r : Range) (rs : List Range) (q : Range) → Memᴰ q (r ∷ rs) → Memᴰ q (insert r rs)
unfolding insert
insert_member r [] q m = m
insert_member r (s ∷ rs) q m = go (not_after r s) (Memᴰ.cases_cons m) (insert_member r rs q)
  where
    go : (t : Bool) → (q ≡ r) ⊎ Memᴰ q (s ∷ rs) → (Memᴰ q (r ∷ rs) → Memᴰ q (insert r rs)) → Memᴰ q (cond t (r ∷ s ∷ rs) (s ∷ insert r rs))
    go true c ih = m
    go false (inl e) ih = Memᴰ.tail (ih (Memᴰ.head e))
    go false (inr n) ih = late (Memᴰ.cases_cons n)
      where
        late : (q ≡ s) ⊎ Memᴰ q rs → Memᴰ q (s ∷ insert r rs)
        late (inl e) = Memᴰ.head e
        late (inr k) = Memᴰ.tail (ih (Memᴰ.tail k))

pub member_insert : (r : Range) (rs : List Range) (q : Range) → Memᴰ q (insert r rs) → Memᴰ q (r ∷ rs)
unfolding insert
member_insert r [] q m = m
member_insert r (s ∷ rs) q m = go (not_after r s) m (member_insert r rs q)
  where
    go : (t : Bool) → Memᴰ q (cond t (r ∷ s ∷ rs) (s ∷ insert r rs)) → (Memᴰ q (insert r rs) → Memᴰ q (r ∷ rs)) → Memᴰ q (r ∷ s ∷ rs)
    go true n ih = n
    go false n ih = late (Memᴰ.cases_cons n)
      where
        deep : (q ≡ r) ⊎ Memᴰ q rs → Memᴰ q (r ∷ s ∷ rs)
        deep (inl e) = Memᴰ.head e
        deep (inr k) = Memᴰ.tail (Memᴰ.tail k)

        late : (q ≡ s) ⊎ Memᴰ q (insert r rs) → Memᴰ q (r ∷ s ∷ rs)
        late (inl e) = Memᴰ.tail (Memᴰ.head e)
        late (inr k) = deep (Memᴰ.cases_cons (ih k))

pub sort_member : (rs : List Range) (q : Range) → Memᴰ q rs → Memᴰ q (sort rs)
unfolding sort
sort_member [] q m = m
sort_member (r ∷ rs) q m = insert_member r (sort rs) q (go (Memᴰ.cases_cons m) (sort_member rs q))
  where
    go : (q ≡ r) ⊎ Memᴰ q rs → (Memᴰ q rs → Memᴰ q (sort rs)) → Memᴰ q (r ∷ sort rs)
    go (inl e) ih = Memᴰ.head e
    go (inr n) ih = Memᴰ.tail (ih n)

pub member_sort : (rs : List Range) (q : Range) → Memᴰ q (sort rs) → Memᴰ q rs
unfolding sort
member_sort [] q m = m
member_sort (r ∷ rs) q m = go (Memᴰ.cases_cons (member_insert r (sort rs) q m)) (member_sort rs q)
  where
    go : (q ≡ r) ⊎ Memᴰ q (sort rs) → (Memᴰ q (sort rs) → Memᴰ q rs) → Memᴰ q (r ∷ rs)
    go (inl e) ih = Memᴰ.head e
    go (inr n) ih = Memᴰ.tail (ih n)

-- ---- sorted by start

abbrev pub From : ℕ → List Range → Type 0
From z rs = (r : Range) → Memᴰ r rs → z ≤ r.start

abbrev pub Sorted : List Range → Type 0
Sorted [] = Unit {0}
Sorted (r ∷ rs) = From r.start rs × Sorted rs

insert_sorted : (r : Range) (rs : List Range) → Sorted rs → Sorted (insert r rs)
unfolding insert
insert_sorted r [] s = (λ t m. absurd (Memᴰ.not-nil m), s)
insert_sorted r (q ∷ rs) s = go (not_after r q) refl (insert_sorted r rs s.1)
  where
    all : r.start ≤ q.start → From r.start (q ∷ rs)
    all h t m = late (Memᴰ.cases_cons m)
      where
        late : (t ≡ q) ⊎ Memᴰ t rs → r.start ≤ t.start
        late (inl e) = rw e h
        late (inr n) = let k = s.0 t n in omega arith

    others : q.start ≤ r.start → From q.start (insert r rs)
    others h t m = late (Memᴰ.cases_cons (member_insert r rs t m))
      where
        late : (t ≡ r) ⊎ Memᴰ t rs → q.start ≤ t.start
        late (inl e) = rw e h
        late (inr n) = s.0 t n

    go : (t : Bool) → not_after r q ≡ t → Sorted (insert r rs) → Sorted (cond t (r ∷ q ∷ rs) (q ∷ insert r rs))
    go true e ih = (all (start_le r q (not_after_lem r q e)), s)
    go false e ih = (others (start_le q r (total r q e)), ih)

pub sort_sorted : (rs : List Range) → Sorted (sort rs)
unfolding sort
sort_sorted [] = tt
sort_sorted (r ∷ rs) = insert_sorted r (sort rs) (sort_sorted rs)

-- a range that no member comes before stands first
pub insert_least : (r : Range) (l : List Range) → ((q : Range) → Memᴰ q l → Le r q) → insert r l ≡ r ∷ l
insert_least r [] f = insert_none r
insert_least r (q ∷ l) f = insert_front r q l (is_not_after r q (f q (Memᴰ.head refl)))
