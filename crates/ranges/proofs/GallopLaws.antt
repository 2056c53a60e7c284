-- Galloping: a bound is doubled until the number there is not below a point, and what it passed last is searched.
use mathlib.Core.Path.{◌≡◌, refl}
use mathlib.Core.Logic.{◌⊎◌, inl, inr}
use mathlib.Core.Bool.{true}
use Prim.Native.Nat.{ℕ, ◌*◌, ◌/◌, ◌≤◌, ◌<◌}
use native.Mathlib.Omega.{arith}
use lib.Dec.{ltb}
use borrow.Author.Tests.{lt-ltb, le-ltb}
use Rattle.words.specs.Inner.{Rising}
use Rattle.words.proofs.SortLaws.{rising_le}
use Rattle.words.proofs.SearchLaws.{Between, front_lt}
use Rattle.ranges.specs.Inner.{Galloped}

-- while it is doubled
pub record Galloping (f : ℕ → ℕ) (n point bound : ℕ) : Type 0 where
  pub some : 0 < bound
  pub passed : (bound / 2 ≡ 0) ⊎ ((bound / 2 < n) × (f (bound / 2) < point))

pub gallop_start : (f : ℕ → ℕ) (n point : ℕ) → Galloping f n point 1
gallop_start f n point = record { some = omega arith; passed = inl refl }

module _ {f : ℕ → ℕ} {n point bound : ℕ} (g : Galloping f n point bound) where
  pub gallop_more : bound < n → f bound < point → Galloping f n point (bound * 2)
  gallop_more h l =
      let e : bound * 2 / 2 ≡ bound = omega arith in
      let s = g.some in
      record { some = omega arith; passed = inr (rw e (h, l)) }

  pub gallop_stop : point ≤ f bound → Galloped f n point bound
  gallop_stop h = record { some = g.some; passed = g.passed; stops = λ l. h }

  pub gallop_end : n ≤ bound → Galloped f n point bound
  gallop_end h = record { some = g.some; passed = g.passed; stops = λ l. absurd (omega arith) }

-- what is left to search
module _ {f : ℕ → ℕ} {n point bound : ℕ} (rising : Rising f n) (g : Galloped f n point bound) where
  half_le : bound / 2 ≤ n
  half_le = go g.passed
    where
      go : (bound / 2 ≡ 0) ⊎ ((bound / 2 < n) × (f (bound / 2) < point)) → bound / 2 ≤ n
      go (inl e) = omega arith
      go (inr (h, l)) = omega arith

  below_half : (i : ℕ) → i < bound / 2 → ltb (f i) point ≡ true
  below_half i h = go g.passed
    where
      go : (bound / 2 ≡ 0) ⊎ ((bound / 2 < n) × (f (bound / 2) < point)) → ltb (f i) point ≡ true
      go (inl e) = absurd (omega arith)
      go (inr (l, k)) = lt-ltb (f i) point (omega (arith, rising_le f n rising i (bound / 2) (omega arith) l))

  pub gallop_short : bound < n → Between (λ i. ltb (f i) point) n (bound / 2) bound
  gallop_short h = record {
    front = front_lt f n point rising;
    lo_le = omega arith;
    hi_le = omega arith;
    holds = below_half;
    fails = λ i q r. le-ltb (f i) point (omega (arith, g.stops h, rising_le f n rising bound i q r));
  }

  pub gallop_long : n ≤ bound → Between (λ i. ltb (f i) point) n (bound / 2) n
  gallop_long h = record {
    front = front_lt f n point rising;
    lo_le = half_le;
    hi_le = omega arith;
    holds = below_half;
    fails = λ i q r. absurd (omega arith);
  }

  -- whichever of the two ends it
  pub gallop_search : (high : ℕ) → ((bound < n) × (high ≡ bound)) ⊎ ((n ≤ bound) × (high ≡ n)) → Between (λ i. ltb (f i) point) n (bound / 2) high
  gallop_search high (inl (h, e)) = rw e (gallop_short h)
  gallop_search high (inr (h, e)) = rw e (gallop_long h)
