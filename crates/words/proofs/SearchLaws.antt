-- Laws of binary search: one for every test that holds at the front only.
use mathlib.Core.Path.{◌≡◌, refl, sym, ap, ◌∙◌}
use mathlib.Core.Bool.{Bool, true, false, cond}
use Prim.Native.Nat.{ℕ, ◌+◌, ◌-◌, ◌*◌, ◌/◌, ◌^◌, ◌≤◌, ◌<◌}
use native.Mathlib.Omega.{arith}
use lib.Dec.{leb, ltb}
use lib.ListN.{length, get_or}
use mathlib.Core.List.{List}
use Rattle.std.specs.List.Sorted.{IsPartitionedBy, IsPartitionPoint}
use Rattle.std.proofs.lemmas.List.{get_or_default}
use borrow.Author.Tests.{ltb-true, leb-true, leb-false, le-leb, lt-ltb}
use Rattle.words.specs.Inner.{Rising, Splits}
use Rattle.words.proofs.Points.{cut}
use Rattle.words.proofs.SortLaws.{rising_le}

-- where the test holds, it holds at every index before
abbrev pub Front : (ℕ → Bool) → ℕ → Type 0
Front t n = (i j : ℕ) → i ≤ j → j < n → t j ≡ true → t i ≡ true

pub front_le : (f : ℕ → ℕ) (n point : ℕ) → Rising f n → Front (λ i. leb (f i) point) n
front_le f n point r i j h l t = le-leb (f i) point (omega (arith, leb-true (f j) point t, rising_le f n r i j h l))

pub front_lt : (f : ℕ → ℕ) (n point : ℕ) → Rising f n → Front (λ i. ltb (f i) point) n
front_lt f n point r i j h l t = lt-ltb (f i) point (omega (arith, ltb-true (f j) point t, rising_le f n r i j h l))

-- the test holds before lo, and fails from hi on
pub record Between (t : ℕ → Bool) (n lo hi : ℕ) : Type 0 where
  pub front : Front t n
  pub lo_le : lo ≤ hi
  pub hi_le : hi ≤ n
  pub holds : (i : ℕ) → i < lo → t i ≡ true
  pub fails : (i : ℕ) → hi ≤ i → i < n → t i ≡ false

module _ {t : ℕ → Bool} {n lo hi : ℕ} (b : Between t n lo hi) where
  pub between_up : (m : ℕ) → lo ≤ m → m < hi → t m ≡ true → Between t n (m + 1) hi
  between_up m l h e = record {
    front = b.front;
    lo_le = omega arith;
    hi_le = b.hi_le;
    holds = λ i q. b.front i m (omega arith) (omega arith) e;
    fails = b.fails;
  }

  pub between_down : (m : ℕ) → lo ≤ m → m < hi → t m ≡ false → Between t n lo m
  between_down m l h e = record {
    front = b.front;
    lo_le = l;
    hi_le = omega arith;
    holds = b.holds;
    fails = λ i q r. not-held i (t i) refl (λ s. b.front m i q r s);
  }
    where
      not-held : (i : ℕ) (v : Bool) → t i ≡ v → (v ≡ true → t m ≡ true) → t i ≡ false
      not-held i true p f = absurd (let g = f refl in let z : ◌≡◌ {A = ℕ} 0 1 = cc in omega arith)
      not-held i false p f = p

  pub between_done : hi ≤ lo → Splits t n lo
  between_done h = record { within = omega arith; holds = b.holds; fails = λ i q r. b.fails i (omega arith) r }

-- where a list's items are tested, as its `partition_point` counts them
pub splits_point : {X : Type 0} (p : X → Bool) (d : X) (xs : List X) (t : ℕ → Bool) (n r : ℕ) → length xs ≡ n → ((i : ℕ) → i < n → p (get_or xs i d) ≡ t i)
    → Front t n → r ≤ length xs → (IsPartitionedBy p xs → IsPartitionPoint (λ y. p y ≡ true) (λ y. p y ≡ false) xs r) → Splits t n r
splits_point {X} p d xs t n r len same front bound point =
    let q = point (λ i j e l h s. at e i (omega arith) ∙ front i j l (omega arith) (sym (at e j (omega arith)) ∙ s)) in
    record {
      within = omega arith;
      holds = λ i l. sym (same i (omega arith)) ∙ q.0 i d (omega arith) l;
      fails = λ i l h. sym (same i h) ∙ q.1 i d l (omega arith);
    }
  where
    at : (e : X) (i : ℕ) → i < n → p (get_or xs i e) ≡ t i
    at e i l = ap p (get_or_default xs i e d (omega arith)) ∙ same i l

-- x ≤ y as a number, by a sum that reaches 2 to the 32 or not
pub no_more : (x y : ℕ) → x < 2 ^ 32 → y < 2 ^ 32 → (y + 4294967296 - x) / 4294967296 ≡ cond (leb x y) 1 0
no_more x y p q = go (leb x y) refl
  where
    go : (v : Bool) → leb x y ≡ v → (y + 4294967296 - x) / 4294967296 ≡ cond v 1 0
    go true e = omega (arith, leb-true x y e)
    go false e = omega (arith, leb-false x y e)

-- a half is taken where the test holds at its end
pub half_taken : (half : ℕ) (v : Bool) → half * cond v 1 0 ≡ cond v half 0
half_taken half true = omega arith
half_taken half false = omega arith

-- and is no more than itself
pub taken_le : (half c : ℕ) (v : Bool) → c ≡ cond v 1 0 → half * c ≤ half
taken_le half c true e = let q : half * c ≡ half * 1 = ap (λ (k : ℕ). half * k) e in omega (arith, q)
taken_le half c false e = let q : half * c ≡ half * 0 = ap (λ (k : ℕ). half * k) e in omega (arith, q)

pub one_at_most : (c : ℕ) (v : Bool) → c ≡ cond v 1 0 → c ≤ 1
one_at_most c true e = omega (arith, e)
one_at_most c false e = omega (arith, e)

-- the same by how many are left
pub between_all : (t : ℕ → Bool) (n : ℕ) → Front t n → Between t n 0 (0 + n)
between_all t n f = record { front = f; lo_le = omega arith; hi_le = omega arith; holds = λ i h. absurd (omega arith); fails = λ i h l. absurd (omega arith) }

module _ {t : ℕ → Bool} {n lo left : ℕ} (b : Between t n lo (lo + left)) where
  pub between_half : (half q : ℕ) → half < left → half + half ≤ left → q ≡ cond (t (lo + half)) half 0 → Between t n (lo + q) (lo + q + (left - half))
  between_half half q h g e = go (t (lo + half)) refl e
    where
      go : (v : Bool) → t (lo + half) ≡ v → q ≡ cond v half 0 → Between t n (lo + q) (lo + q + (left - half))
      go true p r =
          record {
            front = b.front;
            lo_le = omega arith;
            hi_le = omega (arith, b.hi_le, r);
            holds = λ i l. b.front i (lo + half) (omega (arith, l, r)) (omega (arith, b.hi_le)) p;
            fails = λ i l k. b.fails i (omega (arith, l, r)) k;
          }
      go false p r =
          record {
            front = b.front;
            lo_le = omega arith;
            hi_le = omega (arith, b.hi_le, r);
            holds = λ i l. b.holds i (omega (arith, l, r));
            fails = λ i l k. (between_down b (lo + half) (omega arith) (omega arith) p).fails i (omega (arith, l, r)) k;
          }

  pub between_turn : (half c : ℕ) → half < left → half + half ≤ left → c ≡ cond (t (lo + half)) 1 0 → Between t n (lo + half * c) (lo + half * c + (left - half))
  between_turn half c h g e = between_half half (half * c) h g (ap (λ (k : ℕ). half * k) e ∙ half_taken half (t (lo + half)))

  pub between_none : left ≡ 0 → Splits t n lo
  between_none e = between_done b (omega arith)

  pub between_last : (q : ℕ) → left ≡ 1 → q ≡ cond (t lo) 1 0 → Splits t n (lo + q)
  between_last q o e = go (t lo) refl e
    where
      go : (v : Bool) → t lo ≡ v → q ≡ cond v 1 0 → Splits t n (lo + q)
      go true p r =
          record {
            within = omega (arith, b.hi_le, r);
            holds = λ i l. (between_up b lo (omega arith) (omega arith) p).holds i (omega (arith, l, r));
            fails = λ i l k. b.fails i (omega (arith, l, r)) k;
          }
      go false p r =
          record {
            within = omega (arith, b.hi_le, r);
            holds = λ i l. b.holds i (omega (arith, l, r));
            fails = λ i l k. (between_down b lo (omega arith) (omega arith) p).fails i (omega (arith, l, r)) k;
          }

-- there is one such count
pub splits_once : {t : ℕ → Bool} {n r s : ℕ} → Splits t n r → Splits t n s → r ≡ s
splits_once {t} {n} {r} {s} p q = cut r s (λ h. cut s r (λ g. omega arith) (λ g. absurd (never (p.fails r (omega arith) (omega arith)) (q.holds r g)))) (λ g. absurd (never (q.fails s (omega arith) (omega arith)) (p.holds s g)))
  where
    never : {i : ℕ} → t i ≡ false → t i ≡ true → ⊥
    never a b = let z : ◌≡◌ {A = ℕ} 0 1 = cc in omega arith
