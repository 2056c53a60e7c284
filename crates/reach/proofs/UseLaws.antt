-- Uses by position, and which registers the tests of single operands find.
use Prim.Native.Nat.{ℕ, zero, suc, ◌+◌, ◌<◌}
use native.Mathlib.Omega.{arith}
use mathlib.Core.Path.{◌≡◌, refl, sym, ◌∙◌}
use mathlib.Core.Logic.{◌⊎◌, inl, inr}
use mathlib.Core.Bool.{Bool, true, false, not, ◌&&◌, ◌||◌, true≢false}
use mathlib.Core.List.{List, [], ◌∷◌}
use lib.ListN.{length, get_or}
use lib.Dec.{eqb, ltb}
use borrow.Author.Tests.{eqb-true, eq-eqb, lt-ltb, ltb-true, not-true}
use Rattle.words.specs.Rows.{tabulate}
use Rattle.words.proofs.RowLaws.{length_tabulate, get_d_tabulate, mem_tabulate, mem_of_tabulate}
use Rattle.words.proofs.Bools.{and_both, or_cases, and_pair, both_ways}
use Rattle.carrying.specs.Lists.{any}
use Rattle.carrying.specs.Insts.{Operand, Inst, is_set, is_use, address_position, each_address}
use Rattle.carrying.proofs.ListLaws.{any_true, any_entry, any_false}
use Rattle.operands.specs.Inner.{addressing}
use Rattle.reach.specs.Inner.{escapes_in, hands_in}

-- the same with a proof by cases kept
pub by_bool : {A : Type 0} (t : Bool) → (t ≡ true → A) → (t ≡ false → A) → A
by_bool true f g = f refl
by_bool false f g = g refl

pub not_false : (t : Bool) → t ≡ false → not t ≡ true
not_false true e = absurd (true≢false e)
not_false false e = refl

-- some index below n passes
abbrev pub Some : ℕ → (ℕ → Bool) → Bool
Some n f = any f (tabulate n (λ k. k))

pub some_at : (n : ℕ) (f : ℕ → Bool) (k : ℕ) → k < n → f k ≡ true → Some n f ≡ true
some_at n f k h e = any_true f (tabulate n (λ k. k)) k (mem_tabulate n (λ k. k) k h) e

pub some_index : (n : ℕ) (f : ℕ → Bool) → Some n f ≡ true → (k : ℕ) × (k < n) × (f k ≡ true)
some_index n f e =
    let (a, m, t) = any_entry f (tabulate n (λ k. k)) e in
    let (k, h, z) = mem_of_tabulate n (λ k. k) m in
    (k, h, rw z at t)

pub none_at : (n : ℕ) (f : ℕ → Bool) → Some n f ≡ false → (k : ℕ) → k < n → f k ≡ false
none_at n f e k h = any_false f (tabulate n (λ k. k)) e k (mem_tabulate n (λ k. k) k h)

-- some of the first n values of g passes, by its index
pub entry_index : {A : Type 0} (f : A → Bool) (n : ℕ) (g : ℕ → A) → any f (tabulate n g) ≡ true → (k : ℕ) × (k < n) × (f (g k) ≡ true)
entry_index f n g e =
    let (a, m, t) = any_entry f (tabulate n g) e in
    let (k, h, z) = mem_of_tabulate n g m in
    (k, h, rw z at t)

pub index_entry : {A : Type 0} (f : A → Bool) (n : ℕ) (g : ℕ → A) (k : ℕ) → k < n → f (g k) ≡ true → any f (tabulate n g) ≡ true
index_entry f n g k h e = any_true f (tabulate n g) (g k) (mem_tabulate n g k h) e

-- ---- each use is an address

module _ (i : Inst) (r : ℕ) where
  pub each_at : (os : List Operand) (p : ℕ) → each_address i r p os ≡ true → (k : ℕ) → k < length os → (d : Operand) → is_use r (get_or os k d) ≡ true
      → (m : ℕ) → m ≡ p + k → address_position i m ≡ true
  unfolding each_address
  each_at [] p e k h d u m z = absurd (omega arith)
  each_at (o ∷ os) p e zero h d u m z =
      let (a, b) = and_both (not (is_use r o) || address_position i p) (each_address i r (suc p) os) e in
      go (or_cases (not (is_use r o)) (address_position i p) a)
    where
      go : (not (is_use r o) ≡ true) ⊎ (address_position i p ≡ true) → address_position i m ≡ true
      go (inl n) = absurd (true≢false (sym u ∙ not-true (is_use r o) n))
      go (inr t) = let q : m ≡ p = omega arith in rw q t
  each_at (o ∷ os) p e (suc k) h d u m z =
      let (a, b) = and_both (not (is_use r o) || address_position i p) (each_address i r (suc p) os) e in
      each_at os (suc p) b k (omega arith) d u m (omega arith)

  pub at_each : (os : List Operand) (p : ℕ) (d : Operand) → ((k m : ℕ) → k < length os → is_use r (get_or os k d) ≡ true → m ≡ p + k → address_position i m ≡ true)
      → each_address i r p os ≡ true
  unfolding each_address
  at_each [] p d f = refl
  at_each (o ∷ os) p d f =
      and_pair _ _ (go (is_use r o) refl) (at_each os (suc p) d (λ k m h u z. f (suc k) m (omega arith) u (omega arith)))
    where
      go : (t : Bool) → is_use r o ≡ t → not t || address_position i p ≡ true
      go false u = refl
      go true u = f 0 p (omega arith) u (omega arith)

-- by the values of g
module _ (i : Inst) (r n : ℕ) (g : ℕ → Operand) where
  pub each_index : each_address i r 0 (tabulate n g) ≡ true → (k : ℕ) → k < n → is_use r (g k) ≡ true → address_position i k ≡ true
  each_index e k h u =
      each_at i r (tabulate n g) 0 e k (rw (length_tabulate n g) h) (g k) (rw (get_d_tabulate n g k (g k) h) u) k (omega arith)

  pub index_each : ((k : ℕ) → k < n → is_use r (g k) ≡ true → address_position i k ≡ true) → each_address i r 0 (tabulate n g) ≡ true
  index_each f =
      at_each i r (tabulate n g) 0 (g 0)
      (λ k m h u z.
      let l : k < n = rw (length_tabulate n g) at h in
      let q : m ≡ k = omega arith in
      rw q (f k l (rw (get_d_tabulate n g k (g 0) l) at u)))

-- ---- what the tests of the operands find

module _ (v mem base index n : ℕ) (g : ℕ → Operand) where
  abbrev pub straying : ℕ → Bool
  straying k = not (is_set (g k).def) && (ltb (g k).register v && not (is_set mem && address_position (addressing base index) k))

  pub straying_low : (k : ℕ) → straying k ≡ true → (g k).register < v
  straying_low k e =
      let (d, y) = and_both (not (is_set (g k).def)) _ e in
      let (b, x) = and_both (ltb (g k).register v) (not (is_set mem && address_position (addressing base index) k)) y in
      ltb-true _ _ b

  use_of : (r k : ℕ) → not (is_set (g k).def) ≡ true → eqb (g k).register r ≡ true → is_use r (g k) ≡ true
  use_of r k d e = and_pair _ _ e d

  pub straying_found : (r : ℕ) → r < v → Some n (λ k. straying k && eqb (g k).register r) ≡ escapes_in mem base index (tabulate n g) r
  straying_found r l = both_ways _ _ to from
    where
      to : Some n (λ k. straying k && eqb (g k).register r) ≡ true → escapes_in mem base index (tabulate n g) r ≡ true
      to e =
          let (k, h, t) = some_index n (λ k. straying k && eqb (g k).register r) e in
          let (s, z) = and_both (straying k) (eqb (g k).register r) t in
          let (d, y) = and_both (not (is_set (g k).def)) _ s in
          let (b, x) = and_both (ltb (g k).register v) (not (is_set mem && address_position (addressing base index) k)) y in
          let u = use_of r k d z in
          and_pair (any (is_use r) (tabulate n g)) _ (index_entry (is_use r) n g k h u) (last k h u (is_set mem) refl (not-true _ x))
        where
          last : (k : ℕ) → k < n → is_use r (g k) ≡ true → (m : Bool) → is_set mem ≡ m → m && address_position (addressing base index) k ≡ false
              → not (m && each_address (addressing base index) r 0 (tabulate n g)) ≡ true
          last k h u false q x = refl
          last k h u true q x =
              by_bool (each_address (addressing base index) r 0 (tabulate n g))
              (λ e. absurd (true≢false (sym (each_index (addressing base index) r n g e k h u) ∙ x)))
              (λ e. not_false _ e)

      from : escapes_in mem base index (tabulate n g) r ≡ true → Some n (λ k. straying k && eqb (g k).register r) ≡ true
      from e =
          let (a, b) = and_both (any (is_use r) (tabulate n g)) _ e in
          go (is_set mem) refl a (not-true _ b)
        where
          put : (k : ℕ) → k < n → is_use r (g k) ≡ true → is_set mem && address_position (addressing base index) k ≡ false
              → Some n (λ k. straying k && eqb (g k).register r) ≡ true
          put k h u x =
              let (z, d) = and_both (eqb (g k).register r) (not (is_set (g k).def)) u in
              let q : (g k).register < v = let y = eqb-true (g k).register r z in omega arith in
              some_at n (λ k. straying k && eqb (g k).register r) k h
              (and_pair (straying k) _ (and_pair (not (is_set (g k).def)) _ d (and_pair (ltb (g k).register v) _ (lt-ltb _ _ q) (not_false _ x))) z)

          go : (m : Bool) → is_set mem ≡ m → any (is_use r) (tabulate n g) ≡ true → m && each_address (addressing base index) r 0 (tabulate n g) ≡ false
              → Some n (λ k. straying k && eqb (g k).register r) ≡ true
          go false q a b =
              let (k, h, u) = entry_index (is_use r) n g a in
              put k h u (rw q refl)
          go true q a b =
              by_bool (Some n (λ k. is_use r (g k) && not (address_position (addressing base index) k)))
              (λ e.
              let (k, h, t) = some_index n (λ k. is_use r (g k) && not (address_position (addressing base index) k)) e in
              let (u, x) = and_both (is_use r (g k)) _ t in
              put k h u (rw q (not-true _ x)))
              (λ e. absurd (true≢false (sym (index_each (addressing base index) r n g (λ k h u. all k h u e)) ∙ b)))
            where
              all : (k : ℕ) → k < n → is_use r (g k) ≡ true → Some n (λ k. is_use r (g k) && not (address_position (addressing base index) k)) ≡ false
                  → address_position (addressing base index) k ≡ true
              all k h u e =
                  by_bool (address_position (addressing base index) k) (λ t. t)
                  (λ t. absurd (true≢false (sym (and_pair (is_use r (g k)) _ u (not_false _ t)) ∙ none_at n (λ k. is_use r (g k) && not (address_position (addressing base index) k)) e k h)))

module _ (v base index n : ℕ) (g : ℕ → Operand) where
  abbrev pub handing : ℕ → Bool
  handing k =
      not (is_set (g k).def)
      && (ltb (g k).register v && (address_position (addressing base index) k && each_address (addressing base index) (g k).register 0 (tabulate n g)))

  pub handing_reads : (k : ℕ) → k < n → handing k ≡ true → ((g k).register < v) × (hands_in base index (tabulate n g) (g k).register ≡ true)
  handing_reads k h s =
      let (d, y) = and_both (not (is_set (g k).def)) _ s in
      let (b, x) = and_both (ltb (g k).register v) _ y in
      let (p, a) = and_both (address_position (addressing base index) k) _ x in
      (ltb-true _ _ b, and_pair (any (is_use (g k).register) (tabulate n g)) _ (index_entry (is_use (g k).register) n g k h (and_pair _ _ (eq-eqb (g k).register (g k).register refl) d)) a)

  pub reads_handing : (r : ℕ) → r < v → hands_in base index (tabulate n g) r ≡ true → (k : ℕ) × (k < n) × (handing k ≡ true) × ((g k).register ≡ r)
  reads_handing r l e =
      let (a, b) = and_both (any (is_use r) (tabulate n g)) _ e in
      let (k, h, u) = entry_index (is_use r) n g a in
      let (z, d) = and_both (eqb (g k).register r) (not (is_set (g k).def)) u in
      let y = eqb-true (g k).register r z in
      let q : (g k).register < v = omega arith in (
        k,
        h,
        and_pair (not (is_set (g k).def)) _ d (and_pair (ltb (g k).register v) _ (lt-ltb _ _ q) (and_pair (address_position (addressing base index) k) _ (each_index (addressing base index) r n g b k h u) (rw y b))),
        y,
      )

  pub handing_found : (r : ℕ) → r < v → Some n (λ k. handing k && eqb (g k).register r) ≡ hands_in base index (tabulate n g) r
  handing_found r l =
      both_ways _ _
      (λ e.
      let (k, h, t) = some_index n (λ k. handing k && eqb (g k).register r) e in
      let (s, z) = and_both (handing k) (eqb (g k).register r) t in
      let y = eqb-true (g k).register r z in
      rw y at (handing_reads k h s).1)
      (λ e.
      let (k, h, s, y) = reads_handing r l e in
      some_at n (λ k. handing k && eqb (g k).register r) k h (and_pair (handing k) _ s (eq-eqb _ _ y)))
