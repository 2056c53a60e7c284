-- The parts between separators, and a line's fields, one after another.
use Prim.Native.Nat.{ℕ, zero, suc, ◌≤◌, ◌<◌}
use native.Mathlib.Omega.{arith}
use native.Mathlib.Nat.{not-suc-le-zero}
use mathlib.Core.Path.{◌≡◌, refl, ap, sym, ◌∙◌}
use mathlib.Core.Bool.{Bool, true, false, cond}
use mathlib.Core.List.{List, [], ◌∷◌}
use lib.ListN.{length, get_or, take, drop}
use lib.Dec.{eqb, ltb, leb-suc-suc}
use borrow.Author.Tests.{lt-ltb, le-ltb}
use Rattle.text_grammar.specs.Numerals.{limit}
use Rattle.text_grammar.specs.Groups.{index_of}
use Rattle.text_grammar.specs.Lines.{onto, parts, meant, fits}

-- ---- the first part

pub index_within : (c : ℕ) (s : List ℕ) → index_of c s ≤ length s
unfolding index_of
index_within c [] = omega arith
index_within c (b ∷ s) = go (eqb b c) (index_within c s)
  where
    go : (t : Bool) → index_of c s ≤ length s → cond t 0 (suc (index_of c s)) ≤ suc (length s)
    go true h = omega arith
    go false h = omega arith

-- what stands behind the first separator
abbrev pub parts_after : ℕ → List ℕ → ℕ → List (List ℕ)
parts_after c s p = cond (ltb p (length s)) (parts c (drop (suc p) s)) []

after_on : (c b : ℕ) (s : List ℕ) (p : ℕ) → parts_after c s p ≡ parts_after c (b ∷ s) (suc p)
after_on c b s p = ap (λ (x : Bool). cond x (parts c (drop (suc p) s)) []) (sym (leb-suc-suc (suc p) (length s)))

pub parts_split : (c : ℕ) (s : List ℕ) → parts c s ≡ take (index_of c s) s ∷ parts_after c s (index_of c s)
unfolding parts index_of
parts_split c [] = refl
parts_split c (b ∷ s) = go (eqb b c) (parts_split c s)
  where
    go : (t : Bool) → parts c s ≡ take (index_of c s) s ∷ parts_after c s (index_of c s)
        → cond t ([] ∷ parts c s) (onto b (parts c s)) ≡ take (cond t 0 (suc (index_of c s))) (b ∷ s) ∷ parts_after c (b ∷ s) (cond t 0 (suc (index_of c s)))
    go true e = ap (λ (x : Bool). [] ∷ cond x (parts c s) []) (sym (lt-ltb 0 (suc (length s)) (omega arith)))
    go false e = ap (onto b) e ∙ ap (λ (r : List (List ℕ)). (b ∷ take (index_of c s) s) ∷ r) (after_on c b s (index_of c s))

module _ (c : ℕ) (s : List ℕ) where
  pub parts_last : index_of c s ≡ length s → parts c s ≡ take (index_of c s) s ∷ []
  parts_last e = parts_split c s ∙ ap (λ (x : Bool). take (index_of c s) s ∷ cond x (parts c (drop (suc (index_of c s)) s)) []) (le-ltb (index_of c s) (length s) (omega arith))

  pub parts_more : index_of c s < length s → parts c s ≡ take (index_of c s) s ∷ parts c (drop (suc (index_of c s)) s)
  parts_more h = parts_split c s ∙ ap (λ (x : Bool). take (index_of c s) s ∷ cond x (parts c (drop (suc (index_of c s)) s)) []) (lt-ltb (index_of c s) (length s) h)

-- ---- fields that fit

pub fits_head : (d f : ℕ) (ds fs : List ℕ) → meant d f < limit → fits (d ∷ ds) (f ∷ fs) ≡ fits ds fs
unfolding fits
fits_head d f ds fs h = rw (lt-ltb (meant d f) limit h)

pub fits_not : (d f : ℕ) (ds fs : List ℕ) → limit ≤ meant d f → fits (d ∷ ds) (f ∷ fs) ≡ false
unfolding fits
fits_not d f ds fs h = rw (le-ltb (meant d f) limit h)

pub fits_none : fits [] [] ≡ true
unfolding fits
fits_none = refl

pub fits_more : (f : ℕ) (fs : List ℕ) → fits [] (f ∷ fs) ≡ false
unfolding fits
fits_more f fs = refl

pub fits_fewer : (ds : List ℕ) → 0 < length ds → fits ds [] ≡ false
unfolding fits
fits_fewer [] h = absurd (not-suc-le-zero h)
fits_fewer (d ∷ ds) h = refl

pub get_d_step : (l : List ℕ) (j x : ℕ) (r : List ℕ) → drop j l ≡ x ∷ r → (get_or l j 0 ≡ x) × (j < length l)
get_d_step [] zero x r e = absurd (let z : ◌≡◌ {A = ℕ} 0 1 = cc in omega arith)
get_d_step [] (suc j) x r e = absurd (let z : ◌≡◌ {A = ℕ} 0 1 = cc in omega arith)
get_d_step (y ∷ l) zero x r e = (cc, omega arith)
get_d_step (y ∷ l) (suc j) x r e = ((get_d_step l j x r e).0, let h : j < length l = (get_d_step l j x r e).1 in omega arith)
