-- Laws of a list by what is read of it: what is counted of it from a place on.
use mathlib.Core.Path.{◌≡◌, refl, sym}
use mathlib.Core.Bool.{Bool, true, false}
use mathlib.Core.List.{List}
use Prim.Native.Nat.{ℕ, ◌+◌, ◌-◌, ◌≤◌, ◌<◌}
use lib.ListN.{length, get_or}
use lib.Dec.{ltb}
use Rattle.std.specs.List.Sorted.{IsPartitionedBy, IsPartitionPoint}
use Rattle.words.specs.Inner.{Splits}
use Rattle.words.proofs.SearchLaws.{splits_point, front_lt}
use Rattle.ranges.specs.declared.Range.{Range}
use Rattle.ranges.specs.Points.{Apart, range_at}
use Rattle.ranges.proofs.FormLaws.{View}
use Rattle.ranges.proofs.SearchLaws.{ends_rising}

pub view : (rs : List Range) (n : ℕ) → n ≡ length rs → View rs n (λ i. (range_at rs i).start) (λ i. (range_at rs i).end)
view rs n e = record { len = sym e; at = λ i l. refl }

-- items that are tested as the ranges' ends from a place on, and counted
pub ends_counted : {X : Type 0} (p : X → Bool) (d : X) (xs : List X) (rs : List Range) (from point r : ℕ) → Apart rs → length xs ≡ length rs - from
    → ((i : ℕ) → i < length rs - from → p (get_or xs i d) ≡ ltb (range_at rs (from + i)).end point) → r ≤ length xs
    → (IsPartitionedBy p xs → IsPartitionPoint (λ y. p y ≡ true) (λ y. p y ≡ false) xs r) → Splits (λ k. ltb (range_at rs (from + k)).end point) (length rs - from) r
ends_counted p d xs rs from point r apart long same bound clause =
    splits_point p d xs _ (length rs - from) r long same
    (front_lt (λ k. (range_at rs (from + k)).end) (length rs - from) point (ends_rising (view rs (length rs) refl) apart from)) bound clause
