-- Case splits on numbers, and a list by index: after a store, and a part of it.
use mathlib.Core.Path.{◌≡◌, sym, ap, ◌∙◌, subst}
use mathlib.Core.Logic.{◌≢◌}
use mathlib.Core.List.{List, [], ◌∷◌}
use Prim.Native.Nat.{ℕ, suc, ◌+◌, ◌≤◌, ◌<◌}
use native.Mathlib.Nat.{lt_of_not-le}
use native.Mathlib.Decide.{dec_le, ℕ_discrete}
use native.Mathlib.Omega.{arith}
use native.Mathlib.Numerals.{add-one}
use lib.ListN.{length, take, drop, get_or, set, length-set, length-take, drop_of_length-le}
use lib.Seq.{slice, slice-cons, take-set-le, take-set-lt, drop-set-lt, get_or-set_same, get_or-set_other}

-- by cases: x ≤ y or y < x, x ≡ y or not
pub cut : {A : Type 0} (x y : ℕ) → (x ≤ y → A) → (y < x → A) → A
cut {A} x y f g = go (dec_le x y)
  where
    go : Dec (x ≤ y) → A
    go (yes h) = f h
    go (no h) = g (lt_of_not-le h)

pub same : {A : Type 0} (x y : ℕ) → (x ≡ y → A) → (x ≢ y → A) → A
same {A} x y f g = go (ℕ_discrete x y)
  where
    go : Dec (x ≡ y) → A
    go (yes h) = f h
    go (no h) = g h

-- what holds of the element at j after a store at i: shown of the new value where j is i, and of the old element elsewhere
pub stored : (p : ℕ → Type 0) (l : List ℕ) (i v j : ℕ) → i < length l → (j ≡ i → p v) → (j ≢ i → p (get_or l j 0)) → p (get_or (set l i v) j 0)
stored p l i v j h f g =
    same j i
    (λ e. subst (λ (k : ℕ). p (get_or (set l i v) k 0)) (sym e) (subst p (sym (get_or-set_same l i v 0 h)) (f e)))
    (λ e. subst p (sym (get_or-set_other l i j v 0 e)) (g e))

-- a range after a store before it, past it, or at its start
pub slice_set_before : (f t : ℕ) (l : List ℕ) (i v : ℕ) → i < f → slice f t (set l i v) ≡ slice f t l
slice_set_before f t l i v h =
    cut t i (λ k. ap (drop f) (take-set-le t l i v k)) (λ k. ap (drop f) (take-set-lt t l i v k) ∙ drop-set-lt f (take t l) i v h)

pub slice_set_past : (f t : ℕ) (l : List ℕ) (i v : ℕ) → t ≤ i → slice f t (set l i v) ≡ slice f t l
slice_set_past f t l i v h = ap (drop f) (take-set-le t l i v h)

pub slice_set_at : (f t : ℕ) (l : List ℕ) (v : ℕ) → f < t → t ≤ length l → slice f t (set l f v) ≡ v ∷ slice (f + 1) t l
slice_set_at f t l v h k =
    slice-cons f t (set l f v) 0 h (rw length-set k)
    ∙ ap (λ (x : ℕ). x ∷ slice (suc f) t (set l f v)) (get_or-set_same l f v 0 (omega arith))
    ∙ ap (λ (r : List ℕ). v ∷ r) (slice_set_before (suc f) t l f v (omega arith))
    ∙ ap (λ (q : ℕ). v ∷ slice q t l) (sym (add-one f))

pub slice_none : (f t : ℕ) (l : List ℕ) → t ≤ f → slice f t l ≡ []
slice_none f t l h = drop_of_length-le (take t l) {i = f} (rw (length-take t l) (omega arith))
