-- What a walk tells: by the range where it stops, of a want's part, and number 10 by its count.
use Rattle.std.specs.Prelude.{Err}
use Prim.Native.Nat.{ℕ, ◌+◌, ◌-◌, ◌≤◌, ◌<◌}
use native.Mathlib.Omega.{arith}
use mathlib.Core.Path.{◌≡◌, refl, ap, sym, ◌∙◌}
use mathlib.Core.Bool.{Bool, true, false, cond, not, ◌||◌, true≢false}
use mathlib.Core.List.{List}
use lib.ListN.{length, take, drop, length-take}
use lib.Dec.{ltb, eqb}
use borrow.Author.Tests.{lt-ltb, le-ltb, eq-eqb, ne_eqb}
use Rattle.refusals.specs.declared.Refusal.{Refusal}
use Rattle.refusals.specs.declared.Refusal.TheVariants.{Want}
use Rattle.refusals.specs.Verdicts.{scan, refuses, Bad, Fine, Verdict}
use Rattle.refusals.proofs.Laws.{scan_hit, scan_all, scan_bad}
use Rattle.words.specs.Widths.{range_count}
use Rattle.ranges.specs.declared.Range.{Range}
use Rattle.ranges.specs.Lent.{wrong_at, list_verdict, faulty}
use Rattle.ranges.specs.Forms.{areas_of}
use Rattle.range_walk.specs.Walk.{bad_part, up_to, looked_in, looked_at}
use Rattle.range_walk.proofs.PartLaws.{areas_length}

-- what a walk is to tell of a list
abbrev pub Told : List Range → Bool → ℕ → Type 0
Told rs fine looked = (fine ≡ not (faulty rs)) × (looked ≡ looked_in rs)

-- ---- a list: where the walk stops

pub told_wrong : (rs : List Range) (n i : ℕ) → length rs ≡ n → scan Want (wrong_at true rs) n ≡ Bad Want i → Told rs false (i + 1)
unfolding list_verdict
told_wrong rs n i l e = let v : list_verdict true rs ≡ Bad Want i = rw l e in (ap (λ (v : Verdict). not (refuses v)) (sym v), ap (up_to (length rs)) (sym v))

pub told_right : (rs : List Range) (n : ℕ) → length rs ≡ n → scan Want (wrong_at true rs) n ≡ Fine → Told rs true n
unfolding list_verdict
told_right rs n l e = let v : list_verdict true rs ≡ Fine = rw l e in (ap (λ (v : Verdict). not (refuses v)) (sym v), sym l ∙ ap (up_to (length rs)) (sym v))

-- ---- the count by the paper's words, and number 10 by the count

module _ (rs : List Range) where
  named : (r : Refusal) (i : ℕ) → list_verdict true rs ≡ Bad r i → (r ≡ Want) × (i < length rs)
  unfolding list_verdict
  named r i e = scan_bad Want (wrong_at true rs) (length rs) r i e

  -- "all"
  pub looked_all : faulty rs ≡ false → looked_in rs ≡ length rs
  looked_all e = go (list_verdict true rs) refl e
    where
      go : (v : Verdict) → list_verdict true rs ≡ v → refuses v ≡ false → up_to (length rs) v ≡ length rs
      go Fine q e = refl
      go (Err x) q e = absurd (true≢false e)

  -- "or up to and with the first that is reversed or starts no later than the one before ends"
  pub looked_first : (i : ℕ) → i < length rs → wrong_at true rs i ≡ true → ((j : ℕ) → j < i → wrong_at true rs j ≡ false) → looked_in rs ≡ i + 1
  unfolding list_verdict
  looked_first i l bad right = ap (up_to (length rs)) (scan_hit Want (wrong_at true rs) i (length rs) (scan_all Want (wrong_at true rs) i right) bad l)

  -- number 10 of a list that is lent by itself: the last range that is looked at
  pub looked_last : list_verdict true rs ≡ cond (faulty rs) (Bad Want (looked_in rs - 1)) Fine
  looked_last = go (list_verdict true rs) refl
    where
      go : (v : Verdict) → list_verdict true rs ≡ v → v ≡ cond (refuses v) (Bad Want (up_to (length rs) v - 1)) Fine
      go Fine q = refl
      go (Err x) q = let (e, l) = named x.0 x.1 q in let d : x.1 + 1 - 1 ≡ x.1 = omega arith in rw (e, d) refl

  most : looked_in rs ≤ length rs
  most = go (list_verdict true rs) refl
    where
      go : (v : Verdict) → list_verdict true rs ≡ v → up_to (length rs) v ≤ length rs
      go Fine q = omega arith
      go (Err e) q = let l = (named e.0 e.1 q).1 in omega arith

-- never more than the part has
pub looked_within : (areas : List Range) (present first count : ℕ) → looked_at areas present first count ≤ count
looked_within areas present first count = go (eqb present 0 || ltb (length areas) (first + count))
  where
    go : (b : Bool) → cond b 0 (looked_in (take count (drop first areas))) ≤ count
    go true = omega arith
    go false = omega (arith, most (take count (drop first areas)), length-take count (drop first areas))

-- ---- a want's part

module _ (s : List ℕ) (present first count : ℕ) where
  abbrev Answered : Bool → ℕ → Type 0
  Answered fine looked = (fine ≡ not (bad_part (areas_of s) present first count)) × (looked ≡ looked_at (areas_of s) present first count)

  pub walk_absent : present ≡ 0 → Answered true 0
  walk_absent e = let q = eq-eqb present 0 e in (rw q refl, rw q refl)

  pub walk_outside : (present ≡ 0 → ⊥) → range_count s < first + count → Answered false 0
  walk_outside d h = let q = lt-ltb (length (areas_of s)) (first + count) (rw (areas_length s) h) in (rw (ne_eqb present 0 d, q) refl, rw (ne_eqb present 0 d, q) refl)

  pub walk_inside : (present ≡ 0 → ⊥) → first + count ≤ range_count s → (fine : Bool) (looked : ℕ) → Told (take count (drop first (areas_of s))) fine looked → Answered fine looked
  walk_inside d h fine looked (e, n) = let q = le-ltb (length (areas_of s)) (first + count) (rw (areas_length s) h) in (rw (ne_eqb present 0 d, q) e, rw (ne_eqb present 0 d, q) n)
