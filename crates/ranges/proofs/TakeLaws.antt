-- Taking ranges up in order: the last range is widened where they share a point or touch, else the new one is appended.
-- This is how `merged` and `union` build their answer, and that of any rest of a sorted list is said by `onto`.
use mathlib.Core.Path.{◌≡◌, refl, sym, ap, ◌∙◌}
use mathlib.Core.Logic.{◌⊎◌, inl, inr}
use mathlib.Core.Bool.{Bool, true, false, cond}
use mathlib.Core.List.Memᴰ
use mathlib.Core.List.{List, [], ◌∷◌, ◌++◌, Memᴰ}
use Prim.Native.Nat.{ℕ, zero, suc, ◌+◌, ◌≤◌, ◌<◌, max}
use native.Mathlib.Omega.{arith}
use lib.ListN.{length, set}
use lib.Dec.{leb}
use borrow.Author.Tests.{le-leb, lt-leb, eq-eqb, ne_eqb}
use Rattle.ranges.specs.declared.Range.{Range}
use Rattle.ranges.specs.Points.{range, Past, Apart, range_at}
use Rattle.ranges.specs.Merged.{sort, join, join_all, merged, joined}
use Rattle.ranges.specs.Inner.{taken}
use Rattle.ranges.proofs.SortLaws.{Le, le_trans, insert_least, sort_insert, member_sort}
use Rattle.ranges.proofs.MergeLaws.{join_none}

-- a list after all the ranges of a rest
unfoldable pub onto : List Range → List Range → List Range
onto [] rest = join_all rest
onto (a ∷ []) rest = join a rest
onto (a ∷ b ∷ ds) rest = a ∷ onto (b ∷ ds) rest

pub onto_start : (rs : List Range) → onto [] (sort rs) ≡ merged rs
unfolding onto merged
onto_start rs = refl

pub onto_none : (out : List Range) → onto out [] ≡ out
unfolding onto
onto_none [] = refl
onto_none (a ∷ []) = join_none a
onto_none (a ∷ b ∷ ds) = ap (λ (l : List Range). a ∷ l) (onto_none (b ∷ ds))

onto_behind : (a r d : Range) (ds rest : List Range) → onto (a ∷ taken (d ∷ ds) r) rest ≡ a ∷ onto (taken (d ∷ ds) r) rest
unfolding onto taken
onto_behind a r d [] rest = go (leb r.start (d.end + 1))
  where
    wide : Range
    wide = range d.start (max d.end r.end)

    go : (t : Bool) → onto (a ∷ cond t (wide ∷ []) (d ∷ r ∷ [])) rest ≡ a ∷ onto (cond t (wide ∷ []) (d ∷ r ∷ [])) rest
    go true = refl
    go false = refl
onto_behind a r d (e ∷ ds) rest = refl

pub onto_more : (out : List Range) (r : Range) (rest : List Range) → onto out (r ∷ rest) ≡ onto (taken out r) rest
unfolding onto taken join
onto_more [] r rest = refl
onto_more (a ∷ []) r rest = go (leb r.start (a.end + 1))
  where
    wide : Range
    wide = range a.start (max a.end r.end)

    go : (t : Bool) → cond t (join wide rest) (a ∷ join r rest) ≡ onto (cond t (wide ∷ []) (a ∷ r ∷ [])) rest
    go true = refl
    go false = refl
onto_more (a ∷ b ∷ ds) r rest = ap (λ (l : List Range). a ∷ l) (onto_more (b ∷ ds) r rest) ∙ sym (onto_behind a r b ds rest)

-- ---- the list after one range more, by its last range

pub taken_first : (out : List Range) (r : Range) → length out ≡ 0 → taken out r ≡ out ++ (r ∷ [])
unfolding taken
taken_first [] r h = refl
taken_first (a ∷ ds) r h = absurd (omega arith)

pub taken_wider : (out : List Range) (r : Range) (k : ℕ) → length out ≡ suc k → r.start ≤ (range_at out k).end + 1
    → taken out r ≡ set out k (range (range_at out k).start (max (range_at out k).end r.end))
unfolding taken
taken_wider [] r k h l = absurd (omega arith)
taken_wider (a ∷ []) r zero h l = rw (le-leb r.start (a.end + 1) l)
taken_wider (a ∷ []) r (suc k) h l = absurd (omega arith)
taken_wider (a ∷ b ∷ ds) r zero h l = absurd (omega arith)
taken_wider (a ∷ b ∷ ds) r (suc k) h l = ap (λ (t : List Range). a ∷ t) (taken_wider (b ∷ ds) r k (omega arith) l)

pub taken_next : (out : List Range) (r : Range) (k : ℕ) → length out ≡ suc k → (range_at out k).end + 1 < r.start → taken out r ≡ out ++ (r ∷ [])
unfolding taken
taken_next [] r k h l = absurd (omega arith)
taken_next (a ∷ []) r zero h l = rw (lt-leb r.start (a.end + 1) l)
taken_next (a ∷ []) r (suc k) h l = absurd (omega arith)
taken_next (a ∷ b ∷ ds) r zero h l = absurd (omega arith)
taken_next (a ∷ b ∷ ds) r (suc k) h l = ap (λ (t : List Range). a ∷ t) (taken_next (b ∷ ds) r k (omega arith) l)

-- `joined`, in the same words
pub joined_first : (out : List Range) (r : Range) → length out ≡ 0 → joined out r ≡ out ++ (r ∷ [])
unfolding joined
joined_first [] r h = refl
joined_first (a ∷ ds) r h = absurd (omega arith)

pub joined_longer : (out : List Range) (r : Range) (k : ℕ) → length out ≡ suc k → r.start ≡ (range_at out k).end + 1
    → joined out r ≡ set out k (range (range_at out k).start r.end)
unfolding joined
joined_longer [] r k h l = absurd (omega arith)
joined_longer (a ∷ []) r zero h l = rw (eq-eqb r.start (a.end + 1) l)
joined_longer (a ∷ []) r (suc k) h l = absurd (omega arith)
joined_longer (a ∷ b ∷ ds) r zero h l = absurd (omega arith)
joined_longer (a ∷ b ∷ ds) r (suc k) h l = ap (λ (t : List Range). a ∷ t) (joined_longer (b ∷ ds) r k (omega arith) l)

pub joined_next : (out : List Range) (r : Range) (k : ℕ) → length out ≡ suc k → (r.start ≡ (range_at out k).end + 1 → ⊥) → joined out r ≡ out ++ (r ∷ [])
unfolding joined
joined_next [] r k h l = absurd (omega arith)
joined_next (a ∷ []) r zero h l = rw (ne_eqb r.start (a.end + 1) l)
joined_next (a ∷ []) r (suc k) h l = absurd (omega arith)
joined_next (a ∷ b ∷ ds) r zero h l = absurd (omega arith)
joined_next (a ∷ b ∷ ds) r (suc k) h l = ap (λ (t : List Range). a ∷ t) (joined_next (b ∷ ds) r k (omega arith) l)

-- ---- two lists that are in order and apart: the next of both together is the earlier front

past_start : (x : ℕ) (rs : List Range) → Past x rs → (q : Range) → Memᴰ q rs → x < q.start
past_start x [] p q m = absurd (Memᴰ.not-nil m)
past_start x (r ∷ rs) p q m = go (Memᴰ.cases_cons m) (past_start r.end rs p.2 q)
  where
    go : (q ≡ r) ⊎ Memᴰ q rs → (Memᴰ q rs → r.end < q.start) → x < q.start
    go (inl e) ih = rw e p.0
    go (inr n) ih = let a = ih n in let b = p.0 in let c = p.1 in omega arith

apart_le : (r : Range) (rs : List Range) → Apart (r ∷ rs) → (q : Range) → Memᴰ q rs → Le r q
apart_le r rs p q m = inl (let a = past_start r.end rs p.1 q m in let b = p.0 in omega arith)

-- s stands no later than the front of the list, so no later than any of it
front_le : (s : Range) (rs : List Range) → Apart rs → ((r : Range) (ts : List Range) → rs ≡ r ∷ ts → Le s r) → (q : Range) → Memᴰ q rs → Le s q
front_le s [] p f q m = absurd (Memᴰ.not-nil m)
front_le s (r ∷ rs) p f q m = go (Memᴰ.cases_cons m)
  where
    go : (q ≡ r) ⊎ Memᴰ q rs → Le s q
    go (inl e) = rw e (f r rs refl)
    go (inr n) = le_trans s r q (f r rs refl) (apart_le r rs p q n)

module _ (rs ss : List Range) (s : Range) (le-rs : (q : Range) → Memᴰ q rs → Le s q) (le-ss : (q : Range) → Memᴰ q ss → Le s q) where
  least : (q : Range) → Memᴰ q (sort (rs ++ ss)) → Le s q
  least q m = go (Memᴰ.append_cases rs (member_sort (rs ++ ss) q m))
    where
      go : Memᴰ q rs ⊎ Memᴰ q ss → Le s q
      go (inl n) = le-rs q n
      go (inr n) = le-ss q n

  next_of : sort (rs ++ s ∷ ss) ≡ s ∷ sort (rs ++ ss)
  next_of = sort_insert rs s ss ∙ insert_least s (sort (rs ++ ss)) least

-- the first list's front is next
pub next_one : (r : Range) (rs ss : List Range) → Apart (r ∷ rs) → Apart ss → ((s : Range) (ts : List Range) → ss ≡ s ∷ ts → Le r s)
    → sort ((r ∷ rs) ++ ss) ≡ r ∷ sort (rs ++ ss)
unfolding sort
next_one r rs ss p q f = insert_least r (sort (rs ++ ss)) (least rs ss r (apart_le r rs p) (front_le r ss q f))

-- the second list's is
pub next_two : (rs : List Range) (s : Range) (ss : List Range) → Apart rs → Apart (s ∷ ss) → ((r : Range) (ts : List Range) → rs ≡ r ∷ ts → Le s r)
    → sort (rs ++ s ∷ ss) ≡ s ∷ sort (rs ++ ss)
next_two rs s ss p q f = next_of rs ss s (front_le s rs p f) (apart_le s ss q)
