-- Which entries the lists by a test have.
use Prim.Native.Nat.{ℕ, zero, suc, ◌<◌}
use native.Mathlib.Omega.{arith}
use mathlib.Core.Path.{◌≡◌, refl, sym, ◌∙◌}
use mathlib.Core.Logic.{◌⊎◌, inl, inr}
use mathlib.Core.Bool.{Bool, true, false, cond, ◌||◌, true≢false, false≢true}
use mathlib.Core.List.Memᴰ
use mathlib.Core.List.{List, [], ◌∷◌, ◌++◌, Memᴰ}
use Rattle.words.proofs.Bools.{or_right, or_cases, or_left}
use Rattle.graph.proofs.RoundLaws.{last_or_less}
use Rattle.carrying.specs.Lists.{any, keep, gather, below}

module _ {A : Type 0} (f : A → Bool) where
  pub any_true : (l : List A) (a : A) → Memᴰ a l → f a ≡ true → any f l ≡ true
  unfolding any
  any_true [] a m e = absurd (Memᴰ.not-nil m)
  any_true (b ∷ l) a m e = go (Memᴰ.cases_cons m) (any_true l a)
    where
      go : (a ≡ b) ⊎ Memᴰ a l → (Memᴰ a l → f a ≡ true → any f l ≡ true) → f b || any f l ≡ true
      go (inl z) ih = or_left (f b) (any f l) (rw z at e)
      go (inr n) ih = or_right (f b) (any f l) (ih n e)

  pub any_entry : (l : List A) → any f l ≡ true → (a : A) × Memᴰ a l × (f a ≡ true)
  unfolding any
  any_entry [] e = absurd (false≢true e)
  any_entry (b ∷ l) e = go (or_cases (f b) (any f l) e) (any_entry l)
    where
      go : (f b ≡ true) ⊎ (any f l ≡ true) → (any f l ≡ true → (a : A) × Memᴰ a l × (f a ≡ true)) → (a : A) × Memᴰ a (b ∷ l) × (f a ≡ true)
      go (inl h) ih = (b, Memᴰ.head refl, h)
      go (inr h) ih =
          let (a, m, t) = ih h in
          (a, Memᴰ.tail m, t)

  pub any_false : (l : List A) → any f l ≡ false → (a : A) → Memᴰ a l → f a ≡ false
  any_false l e a m = go (f a) refl
    where
      go : (t : Bool) → f a ≡ t → f a ≡ false
      go false h = h
      go true h = absurd (true≢false (sym (any_true l a m h) ∙ e))

  pub false_any : (l : List A) → ((a : A) → Memᴰ a l → f a ≡ false) → any f l ≡ false
  false_any l g = go (any f l) refl
    where
      go : (t : Bool) → any f l ≡ t → any f l ≡ false
      go false h = h
      go true h =
          let (a, m, t) = any_entry l h in
          absurd (true≢false (sym t ∙ g a m))

  pub kept : (l : List A) (a : A) → Memᴰ a l → f a ≡ true → Memᴰ a (keep f l)
  unfolding keep
  kept [] a m e = absurd (Memᴰ.not-nil m)
  kept (b ∷ l) a m e = go (Memᴰ.cases_cons m) (f b) refl (kept l a)
    where
      go : (a ≡ b) ⊎ Memᴰ a l → (t : Bool) → f b ≡ t → (Memᴰ a l → f a ≡ true → Memᴰ a (keep f l)) → Memᴰ a (cond t (b ∷ keep f l) (keep f l))
      go (inl z) true h ih = Memᴰ.head z
      go (inl z) false h ih = absurd (true≢false (sym (rw z at e) ∙ h))
      go (inr n) true h ih = Memᴰ.tail (ih n e)
      go (inr n) false h ih = ih n e

  pub of_kept : (l : List A) (a : A) → Memᴰ a (keep f l) → Memᴰ a l × (f a ≡ true)
  unfolding keep
  of_kept [] a m = absurd (Memᴰ.not-nil m)
  of_kept (b ∷ l) a m = go (f b) refl m (of_kept l a)
    where
      later : Memᴰ a l × (f a ≡ true) → Memᴰ a (b ∷ l) × (f a ≡ true)
      later (n, t) = (Memᴰ.tail n, t)

      first : f b ≡ true → (a ≡ b) ⊎ Memᴰ a (keep f l) → (Memᴰ a (keep f l) → Memᴰ a l × (f a ≡ true)) → Memᴰ a (b ∷ l) × (f a ≡ true)
      first h (inl z) ih = (Memᴰ.head z, rw z h)
      first h (inr n) ih = later (ih n)

      go : (t : Bool) → f b ≡ t → Memᴰ a (cond t (b ∷ keep f l) (keep f l)) → (Memᴰ a (keep f l) → Memᴰ a l × (f a ≡ true)) → Memᴰ a (b ∷ l) × (f a ≡ true)
      go true h n ih = first h (Memᴰ.cases_cons n) ih
      go false h n ih = later (ih n)

module _ {A B : Type 0} (f : A → List B) where
  pub gathered : (l : List A) (a : A) (b : B) → Memᴰ a l → Memᴰ b (f a) → Memᴰ b (gather f l)
  unfolding gather
  gathered [] a b m n = absurd (Memᴰ.not-nil m)
  gathered (c ∷ l) a b m n = go (Memᴰ.cases_cons m) (gathered l a b)
    where
      go : (a ≡ c) ⊎ Memᴰ a l → (Memᴰ a l → Memᴰ b (f a) → Memᴰ b (gather f l)) → Memᴰ b (f c ++ gather f l)
      go (inl z) ih = Memᴰ.append_left (gather f l) (rw z at n)
      go (inr k) ih = Memᴰ.append_right (f c) (ih k n)

  pub of_gathered : (l : List A) (b : B) → Memᴰ b (gather f l) → (a : A) × Memᴰ a l × Memᴰ b (f a)
  unfolding gather
  of_gathered [] b m = absurd (Memᴰ.not-nil m)
  of_gathered (c ∷ l) b m = go (Memᴰ.append_cases (f c) m) (of_gathered l b)
    where
      go : Memᴰ b (f c) ⊎ Memᴰ b (gather f l) → (Memᴰ b (gather f l) → (a : A) × Memᴰ a l × Memᴰ b (f a))
          → (a : A) × Memᴰ a (c ∷ l) × Memᴰ b (f a)
      go (inl n) ih = (c, Memᴰ.head refl, n)
      go (inr n) ih =
          let (a, k, j) = ih n in
          (a, Memᴰ.tail k, j)

module _ (f : ℕ → Bool) where
  pub below_has : (n k : ℕ) → k < n → f k ≡ true → Memᴰ k (below n f)
  unfolding below
  below_has zero k h e = absurd (omega arith)
  below_has (suc n) k h e = go (last_or_less k n h) (below_has n k)
    where
      go : (k ≡ n) ⊎ (k < n) → (k < n → f k ≡ true → Memᴰ k (below n f)) → Memᴰ k (below n f ++ cond (f n) (n ∷ []) [])
      go (inl z) ih =
          let t : f n ≡ true = rw (← z) e in
          Memᴰ.append_right (below n f) (rw t (Memᴰ.head z))
      go (inr l) ih = Memᴰ.append_left (cond (f n) (n ∷ []) []) (ih l e)

  pub of_below : (n k : ℕ) → Memᴰ k (below n f) → (k < n) × (f k ≡ true)
  unfolding below
  of_below zero k m = absurd (Memᴰ.not-nil m)
  of_below (suc n) k m = go (Memᴰ.append_cases (below n f) m) (of_below n k)
    where
      last : (t : Bool) → f n ≡ t → Memᴰ k (cond t (n ∷ []) []) → (k < suc n) × (f k ≡ true)
      last true h l = one (Memᴰ.cases_cons l)
        where
          one : (k ≡ n) ⊎ Memᴰ k [] → (k < suc n) × (f k ≡ true)
          one (inl z) = (omega arith, rw z h)
          one (inr j) = absurd (Memᴰ.not-nil j)
      last false h l = absurd (Memᴰ.not-nil l)

      go : Memᴰ k (below n f) ⊎ Memᴰ k (cond (f n) (n ∷ []) []) → (Memᴰ k (below n f) → (k < n) × (f k ≡ true)) → (k < suc n) × (f k ≡ true)
      go (inl l) ih =
          let (h, t) = ih l in
          (omega arith, t)
      go (inr l) ih = last (f n) refl l
