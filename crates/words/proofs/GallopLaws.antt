-- Laws of the search that doubles its steps: of a test that no item passes behind one that fails it.
use mathlib.Core.Path.{◌≡◌, refl, sym, ap, ◌∙◌, subst}
use mathlib.Core.Bool.{Bool, true, false}
use mathlib.Core.List.{List, [], ◌∷◌}
use Prim.Native.Nat.{ℕ, ◌+◌, ◌-◌, ◌*◌, ◌/◌, ◌≤◌, ◌<◌}
use native.Mathlib.Omega.{arith}
use lib.ListN.{length, get_or, take, drop, length-drop}
use lib.Seq.{get_or-take, get_or-drop, length-take-le}
use denote.Param.Members.{Mut}
use Rattle.std.specs.Fn.{Called, AlwaysReturns}
use Rattle.std.proofs.lemmas.List.{get_or_default}
use Rattle.std.specs.List.{AllWithin, HoldsAt}
use Rattle.std.specs.List.Sorted.{IsPartitionedBy, IsPartitionPoint}
use Rattle.words.proofs.Points.{cut}

-- a closure that answers by p answers so at a call, and after it
pub answers_next : {F X R : Type 0} (g : Mut F X R) (P : X → R → Type 0) (f : F) (a : X) (r : R) (f' : F) → Called g f a r f' → AlwaysReturns g P f → P a r × AlwaysReturns g P f'
answers_next g P f a r f' c h = ((h.at (a ∷ []) r f' c).0, record { at = λ xs. (h.at (a ∷ xs) r f' c).1 })

-- what an index reads, at any default
pub at_read : {X : Type 0} (xs : List X) (P : X → Type 0) (i : ℕ) (x : X) → i < length xs → x ≡ get_or xs i x → P x → HoldsAt P xs i
at_read xs P i x h e v d = subst P (e ∙ get_or_default xs i x d h) v

module _ {X : Type 0} (p : X → Bool) (xs : List X) where
  -- what passes at the bound, passes before it
  pub doubled : (bound : ℕ) → bound < length xs → HoldsAt (λ y. p y ≡ true) xs bound → IsPartitionedBy p xs → AllWithin (λ y. p y ≡ true) xs 0 (bound * 2 / 2)
  doubled bound h at parted k d a b = parted k bound d (omega arith) h (at d)

  -- what fails at the bound, fails from there on
  pub failing : (bound : ℕ) → HoldsAt (λ y. p y ≡ false) xs bound → IsPartitionedBy p xs → AllWithin (λ y. p y ≡ false) xs bound (length xs)
  failing bound at parted k d a b = opposite (p (get_or xs k d)) (λ s. sym (at d) ∙ parted bound k d a b s)
    where
      opposite : (v : Bool) → (v ≡ true → false ≡ true) → v ≡ false
      opposite true f = sym (f refl)
      opposite false f = refl

  -- the point in the part between, counted on
  pub counted_on : (low high r : ℕ) → low ≤ high → high ≤ length xs → r ≤ length (take (high - low) (drop low xs))
      → (IsPartitionedBy p (take (high - low) (drop low xs)) → IsPartitionPoint (λ y. p y ≡ true) (λ y. p y ≡ false) (take (high - low) (drop low xs)) r)
      → IsPartitionedBy p xs → AllWithin (λ y. p y ≡ true) xs 0 low → AllWithin (λ y. p y ≡ false) xs high (length xs)
      → IsPartitionPoint (λ y. p y ≡ true) (λ y. p y ≡ false) xs (low + r)
  counted_on low high r l h within point parted front back = (
    λ k d a b. cut low k (λ q. on (λ y. p y ≡ true) k d q (omega (arith, long)) (q'.0 (k - low) d (omega arith) (omega arith))) (λ q. front k d a q),
    λ k d a b. cut high k (λ q. back k d q b) (λ q. on (λ y. p y ≡ false) k d (omega arith) q (q'.1 (k - low) d (omega arith) (omega (arith, long)))),
  )
    where
      ys : List X
      ys = take (high - low) (drop low xs)

      long : length ys ≡ high - low
      long = length-take-le (high - low) (drop low xs) (rw (length-drop low xs) (omega arith))

      item : (i : ℕ) (d : X) → i < high - low → get_or ys i d ≡ get_or xs (low + i) d
      item i d q = get_or-take (high - low) (drop low xs) i d q ∙ get_or-drop low xs i d

      on : (P : X → Type 0) (k : ℕ) (d : X) → low ≤ k → k < high → P (get_or ys (k - low) d) → P (get_or xs k d)
      on P k d q s v = let e : low + (k - low) ≡ k = omega arith in subst (λ (j : ℕ). P (get_or xs j d)) e (subst P (item (k - low) d (omega arith)) v)

      q' : IsPartitionPoint (λ y. p y ≡ true) (λ y. p y ≡ false) ys r
      q' = point (λ i j d a b s. ap p (item i d (omega (arith, long))) ∙ parted (low + i) (low + j) d (omega arith) (omega (arith, long)) (sym (ap p (item j d (omega (arith, long)))) ∙ s))
