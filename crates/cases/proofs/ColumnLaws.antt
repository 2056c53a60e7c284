-- Columns that rise: one column more.
use native.Mathlib.Omega.{arith}
use Prim.Native.Nat.{ℕ, ◌+◌, ◌≤◌, ◌<◌}
use mathlib.Core.Path.{◌≡◌}
use mathlib.Core.List.{List}
use lib.ListN.{length, get_or, set}
use lib.Seq.{get_or-set_same, get_or-set_other}
use Rattle.words.proofs.Points.{cut}
use Rattle.cases.specs.Inner.{RisingTo}

pub rising_none : {ends : List ℕ} {most : ℕ} → RisingTo ends most 0
rising_none = record { rise = λ i h. omega arith; within = λ i h. omega arith }

-- more numbers behind the columns
pub rising_within : {ends : List ℕ} {most n : ℕ} (more : ℕ) → most ≤ more → RisingTo ends most n → RisingTo ends more n
rising_within more h d = record { rise = d.rise; within = λ i q. omega (arith, d.within i q) }

-- one column more, which ends behind all numbers so far
pub rising_more : {ends : List ℕ} {most n : ℕ} → n < length ends → RisingTo ends most n → RisingTo (set ends n most) most (n + 1)
rising_more {ends} {most} {n} h d = record {
  rise = λ i q. cut n (i + 1)
      (λ g. let e : i + 1 ≡ n = omega arith in rw (old i (omega arith)) (rw e (rw (get_or-set_same ends n most 0 h) (d.within i (omega arith)))))
      (λ g. rw (old i (omega arith)) (rw (old (i + 1) g) (d.rise i g)));
  within = λ i q. cut n i
      (λ g. let e : i ≡ n = omega arith in rw e (rw (get_or-set_same ends n most 0 h) (omega arith)))
      (λ g. rw (old i g) (d.within i g));
}
  where
    old : (i : ℕ) → i < n → get_or (set ends n most) i 0 ≡ get_or ends i 0
    old i g = get_or-set_other ends n i most 0 (λ e. omega arith)
