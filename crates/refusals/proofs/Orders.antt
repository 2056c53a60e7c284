-- Laws of an entry's checks in its own order: of all refusals that they find the one of the lowest rank is given.
use Rattle.std.specs.Prelude.{Err}
use Prim.Native.Nat.{ℕ, zero, suc, ◌≤◌}
use native.Mathlib.Omega.{arith}
use mathlib.Core.Path.{◌≡◌, refl, sym, ap, ◌∙◌}
use mathlib.Core.Logic.{◌⊎◌, inl, inr}
use mathlib.Core.Bool.{Bool, true, false, cond, ◌&&◌}
use mathlib.Core.List.Memᴰ
use mathlib.Core.List.{List, [], ◌∷◌, ◌++◌, Memᴰ}
use lib.Dec.{leb}
use borrow.Author.Tests.{leb-true}
use Rattle.refusals.specs.Verdicts.{first, in_order, scan, check, counted_on, rank_of, Bad, Fine, Verdict}
use Rattle.refusals.specs.Orders.{Gives, Giving, rising, Ordered}
use Rattle.refusals.specs.declared.Refusal.{Refusal}
use Rattle.refusals.specs.declared.Refusal.TheVariants.{Count, Line, Edge, Inst, Stray, Piece, Space, List as ListFull, Want, Text, Align, Depth}
use Rattle.refusals.proofs.Laws.{first_assoc, check_last, bad_same}

-- ---- which refusal a check gives

pub check_gives : (r : Refusal) (t : Bool) → Gives r (check r t)
check_gives r true = refl
check_gives r false = tt

pub first_gives : (r : Refusal) (v w : Verdict) → Gives r v → Gives r w → Gives r (first v w)
unfolding first
first_gives r Fine w g h = h
first_gives r (Err e) w g h = g

pub counted_gives : (r : Refusal) (n : ℕ) (v : Verdict) → Gives r v → Gives r (counted_on n v)
counted_gives r n Fine g = tt
counted_gives r n (Err e) g = g

at_gives : (r : Refusal) (t : Bool) (i : ℕ) → Gives r (cond t (Bad r i) Fine)
at_gives r true i = refl
at_gives r false i = tt

pub scan_gives : (r : Refusal) (t : ℕ → Bool) (n : ℕ) → Gives r (scan r t n)
unfolding scan
scan_gives r t zero = tt
scan_gives r t (suc n) = first_gives r (scan r t n) (cond (t n) (Bad r n) Fine) (scan_gives r t n) (at_gives r (t n) n)

-- ---- checks behind checks

pub order_two : (v w : Verdict) → first v w ≡ in_order (v ∷ w ∷ [])
unfolding in_order
order_two v w = ap (first v) (sym (check_last w))

pub order_more : (v : Verdict) {w : Verdict} (vs : List Verdict) → w ≡ in_order vs → first v w ≡ in_order (v ∷ vs)
unfolding in_order
order_more v vs e = ap (first v) e

pub order_append : (vs ws : List Verdict) → in_order (vs ++ ws) ≡ first (in_order vs) (in_order ws)
unfolding in_order first
order_append [] ws = refl
order_append (v ∷ vs) ws = ap (first v) (order_append vs ws) ∙ sym (first_assoc v (in_order vs) (in_order ws))

pub giving_append : (rs ss : List Refusal) (vs ws : List Verdict) → Giving rs vs → Giving ss ws → Giving (rs ++ ss) (vs ++ ws)
giving_append [] ss [] ws g h = h
giving_append [] ss (v ∷ vs) ws g h = absurd g
giving_append (r ∷ rs) ss [] ws g h = absurd g
giving_append (r ∷ rs) ss (v ∷ vs) ws g h = (g.0, giving_append rs ss vs ws g.1 h)

-- ---- the lowest rank wins

and_left : (a b : Bool) → a && b ≡ true → a ≡ true
and_left true b e = refl
and_left false b e = e

and_right : (a b : Bool) → a && b ≡ true → b ≡ true
and_right true b e = e
and_right false b e = absurd (let z : ◌≡◌ {A = ℕ} 0 1 = cc in omega arith)

module _ (rank : Refusal → ℕ) where
  rises_first : (n : ℕ) (r : Refusal) (rs : List Refusal) → rising rank n (r ∷ rs) ≡ true → n ≤ rank r
  rises_first n r rs f = leb-true n (rank r) (and_left (leb n (rank r)) (rising rank (rank r) rs) f)

  rises_rest : (n : ℕ) (r : Refusal) (rs : List Refusal) → rising rank n (r ∷ rs) ≡ true → rising rank (rank r) rs ≡ true
  rises_rest n r rs f = and_right (leb n (rank r)) (rising rank (rank r) rs) f

  no_lower : (n : ℕ) (rs : List Refusal) (vs : List Verdict) → rising rank n rs ≡ true → Giving rs vs
      → (r : Refusal) (i : ℕ) → Memᴰ (Bad r i) vs → n ≤ rank r
  no_lower n [] [] f g r i m = absurd (Memᴰ.not-nil m)
  no_lower n [] (v ∷ vs) f g r i m = absurd g
  no_lower n (s ∷ rs) [] f g r i m = absurd g
  no_lower n (s ∷ rs) (v ∷ vs) f g r i m = go (Memᴰ.cases_cons m) (no_lower (rank s) rs vs (rises_rest n s rs f) g.1 r i)
    where
      own : (w : Verdict) → Gives s w → Bad r i ≡ w → r ≡ s
      own Fine h e = absurd (let z : ◌≡◌ {A = ℕ} 0 1 = cc in omega arith)
      own (Err x) h e = (bad_same e).0 ∙ h

      go : (Bad r i ≡ v) ⊎ Memᴰ (Bad r i) vs → (Memᴰ (Bad r i) vs → rank s ≤ rank r) → n ≤ rank r
      go (inl e) k = rw (own v g.0 e) (rises_first n s rs f)
      go (inr h) k = let l = k h in let o = rises_first n s rs f in omega arith

  lowest : (n : ℕ) (rs : List Refusal) (vs : List Verdict) → rising rank n rs ≡ true → Giving rs vs
      → (r s : Refusal) (i j : ℕ) → in_order vs ≡ Bad r i → Memᴰ (Bad s j) vs → rank r ≤ rank s
  unfolding in_order first
  lowest n [] [] f g r s i j e m = absurd (Memᴰ.not-nil m)
  lowest n [] (v ∷ vs) f g r s i j e m = absurd g
  lowest n (q ∷ rs) [] f g r s i j e m = absurd g
  lowest n (q ∷ rs) (Fine ∷ vs) f g r s i j e m = go (Memᴰ.cases_cons m) (lowest (rank q) rs vs (rises_rest n q rs f) g.1 r s i j e)
    where
      go : (Bad s j ≡ Fine) ⊎ Memᴰ (Bad s j) vs → (Memᴰ (Bad s j) vs → rank r ≤ rank s) → rank r ≤ rank s
      go (inl h) k = absurd (let z : ◌≡◌ {A = ℕ} 0 1 = cc in omega arith)
      go (inr h) k = k h
  lowest n (q ∷ rs) (Err x ∷ vs) f g r s i j e m = go (Memᴰ.cases_cons m) (no_lower (rank q) rs vs (rises_rest n q rs f) g.1 s j)
    where
      same : r ≡ q
      same = sym (bad_same e).0 ∙ g.0

      go : (Bad s j ≡ Err x) ⊎ Memᴰ (Bad s j) vs → (Memᴰ (Bad s j) vs → rank q ≤ rank s) → rank r ≤ rank s
      go (inl h) k = rw ((bad_same h).0 ∙ g.0 ∙ sym same) (omega arith)
      go (inr h) k = rw same (k h)

-- what an entry gives has the lowest rank of all refusals that its checks find: "lowest number wins" where the rank is the number
pub lowest_wins : (rank : Refusal → ℕ) (rs : List Refusal) (vs : List Verdict) → Ordered rank rs vs
    → (r s : Refusal) (i j : ℕ) → in_order vs ≡ Bad r i → Memᴰ (Bad s j) vs → rank r ≤ rank s
lowest_wins rank rs vs o r s i j e m = lowest rank 0 rs vs o.rises o.gives r s i j e m

-- all refusals in document 01's order: 11 first, then by number
abbrev pub base : List Refusal
base = Text ∷ Count ∷ Line ∷ Edge ∷ Inst ∷ Stray ∷ Piece ∷ Space ∷ ListFull ∷ Want ∷ Align ∷ Depth ∷ []

pub base_rises : rising rank_of 0 base ≡ true
base_rises = refl
