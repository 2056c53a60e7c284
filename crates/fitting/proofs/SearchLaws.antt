-- The search finds exactly the lowest fitting cell within the budget, and spends no more than that.
use Prim.Native.Nat.{ℕ, zero, suc, ◌≤◌, ◌<◌}
use native.Mathlib.Omega.{arith}
use mathlib.Core.Path.{◌≡◌, refl, sym, ◌∙◌}
use mathlib.Core.Logic.{◌↔◌}
use mathlib.Core.Bool.{Bool, true, false, cond, true≢false}
use mathlib.Core.Option.{Option, some, none, none-ne-some, some-ne-none, some-injective}
use mathlib.Core.List.{List, [], ◌∷◌}
use lib.ListN.{length}
use Rattle.ranges.specs.declared.Range.{Range}
use Rattle.fitting.specs.Plan.{Cell, joinable, takes, Lowest, next, lowest, spent}

module _ (a : List Range) where
  lowest_shift : (c : Cell) (cs : List Cell) (b n : ℕ) → joinable c.area a ≡ false → Lowest cs b a n → Lowest (c ∷ cs) (suc b) a (suc n)
  lowest_shift c cs b n f r = record { there = omega (arith, r.there); met = omega (arith, r.met); fits = r.fits; least = least' }
    where
      least' : (m : ℕ) → m < suc n → takes (c ∷ cs) a m ≡ false
      least' zero h = f
      least' (suc m) h = r.least m (omega arith)

  lowest_back : (c : Cell) (cs : List Cell) (b n : ℕ) → Lowest (c ∷ cs) (suc b) a (suc n) → Lowest cs b a n
  lowest_back c cs b n r =
      record { there = omega (arith, r.there); met = omega (arith, r.met); fits = r.fits; least = λ m h. r.least (suc m) (omega arith) }

  pub lowest_found : (cs : List Cell) (b n : ℕ) → lowest cs b a ≡ some n → Lowest cs b a n
  unfolding lowest
  lowest_found [] b n e = absurd (none-ne-some n e)
  lowest_found (c ∷ cs) zero n e = absurd (none-ne-some n e)
  lowest_found (c ∷ cs) (suc b) n e = go (joinable c.area a) refl (lowest cs b a) refl e (lowest_found cs b)
    where
      go : (t : Bool) → joinable c.area a ≡ t → (o : Option ℕ) → lowest cs b a ≡ o → cond t (some 0) (next o) ≡ some n
          → ((m : ℕ) → lowest cs b a ≡ some m → Lowest cs b a m) → Lowest (c ∷ cs) (suc b) a n
      go true t o f e ih =
          let z : 0 ≡ n = some-injective 0 n e in
          rw (← z) (record { there = omega arith; met = omega arith; fits = t; least = λ m h. absurd (omega arith) })
      go false t none f e ih = absurd (none-ne-some n e)
      go false t (some m) f e ih =
          let z : suc m ≡ n = some-injective (suc m) n e in
          rw (← z) (lowest_shift c cs b m t (ih m f))

  pub found_lowest : (cs : List Cell) (b n : ℕ) → Lowest cs b a n → lowest cs b a ≡ some n
  unfolding lowest
  found_lowest [] b n r = absurd (omega (arith, r.there))
  found_lowest (c ∷ cs) zero n r = absurd (omega (arith, r.met))
  found_lowest (c ∷ cs) (suc b) zero r = rw r.fits
  found_lowest (c ∷ cs) (suc b) (suc n) r =
      rw (r.least 0 (omega arith), found_lowest cs b n (lowest_back c cs b n r))

  -- no cell is found exactly when none that the budget reaches takes the item
  pub lowest_none : (cs : List Cell) (b : ℕ) → lowest cs b a ≡ none → (n : ℕ) → n < length cs → n < b → takes cs a n ≡ false
  unfolding lowest
  lowest_none [] b e n h k = absurd (omega arith)
  lowest_none (c ∷ cs) zero e n h k = absurd (omega arith)
  lowest_none (c ∷ cs) (suc b) e n h k = go (joinable c.area a) refl (lowest cs b a) refl e n h k (lowest_none cs b)
    where
      go : (t : Bool) → joinable c.area a ≡ t → (o : Option ℕ) → lowest cs b a ≡ o → cond t (some 0) (next o) ≡ none
          → (n : ℕ) → n < suc (length cs) → n < suc b
          → (lowest cs b a ≡ none → (m : ℕ) → m < length cs → m < b → takes cs a m ≡ false) → takes (c ∷ cs) a n ≡ false
      go true t o f e n h k ih = absurd (some-ne-none 0 e)
      go false t (some m) f e n h k ih = absurd (some-ne-none (suc m) e)
      go false t none f e zero h k ih = t
      go false t none f e (suc n) h k ih = ih f n (omega arith) (omega arith)

  pub none_lowest : (cs : List Cell) (b : ℕ) → ((n : ℕ) → n < length cs → n < b → takes cs a n ≡ false) → lowest cs b a ≡ none
  none_lowest cs b f = go (lowest cs b a) refl
    where
      go : (o : Option ℕ) → lowest cs b a ≡ o → lowest cs b a ≡ none
      go none e = e
      go (some n) e =
          let r = lowest_found cs b n e in
          absurd (true≢false (sym r.fits ∙ f n r.there r.met))

  pub lowest_is : (cs : List Cell) (b n : ℕ) → (lowest cs b a ≡ some n) ↔ Lowest cs b a n
  lowest_is cs b n = (lowest_found cs b n, found_lowest cs b n)

  pub spent_le : (cs : List Cell) (b : ℕ) → spent cs b (lowest cs b a) ≤ b
  spent_le cs b = go (lowest cs b a) refl
    where
      go : (o : Option ℕ) → lowest cs b a ≡ o → spent cs b o ≤ b
      go none e = omega arith
      go (some n) e = omega (arith, (lowest_found cs b n e).met)
