-- Areas one behind another stand while only words past their items change; a register that a slot holds is a small number.
use Prim.Native.Nat.{ℕ, ◌+◌, ◌≤◌, ◌<◌}
use native.Mathlib.Omega.{arith}
use mathlib.Core.Path.{◌≡◌, refl, ap, ◌∙◌}
use mathlib.Core.Bool.{Bool, true, false, cond}
use mathlib.Core.Option.{Option, some, none}
use mathlib.Core.List.{List, [], ◌∷◌, Memᴰ}
use lib.ListN.{length, get_or}
use lib.Dec.{eqb}
use Rattle.words.proofs.RegionLaws.{kept_part_list}
use Rattle.ranges.specs.declared.Range.{Range}
use Rattle.ranges.specs.Inner.{unpacked}
use Rattle.areas.specs.Slots.{Assigned, or_else, spilled}
use Rattle.slot_spots.specs.Inner.{held_word}
use Rattle.area_measure.specs.declared.Listing.{Listing}
use Rattle.area_measure.specs.Inner.Locals.{ListedBy}

pub listed_kept : (f : ℕ → Option (List Range) → ℕ) (o : Listing) (A : ℕ → Option (List Range)) {l total : ℕ} {w₀ : List ℕ} (w : List ℕ) → ListedBy f o A l total w₀ → length w ≡ length w₀
    → o.areas + o.room ≤ o.items → o.items + l ≤ length w₀ → ((i : ℕ) → i < o.items + l → get_or w i 0 ≡ get_or w₀ i 0) → ListedBy f o A l total w
listed_kept f o A {l} {total} {w₀} w D len room fit same = record {
  total_is = D.total_is;
  areas = λ h.
      ap unpacked (kept_part_list {w₀ = w₀} {w = w} {at = o.areas} {n = total} (record { same = λ i a b. same i (omega arith) }) (omega arith) len) ∙ D.areas h;
  items = λ i h. same (o.items + i) (omega arith) ∙ D.items i h;
}

-- ---- the register of a slot

module _ (bound : ℕ) where
  small_or : (a b : Option ℕ) → held_word a ≤ bound → held_word b ≤ bound → held_word (or_else a b) ≤ bound
  small_or none b x y = y
  small_or (some r) b x y = x

  small_one : (t : Bool) (r : ℕ) → r + 1 ≤ bound → held_word (cond t (some r) none) ≤ bound
  small_one true r h = h
  small_one false r h = omega arith

  pub held_bound : (l : List Assigned) (s : ℕ) → ((a : Assigned) → Memᴰ a l → a.register + 1 ≤ bound) → held_word (spilled l s) ≤ bound
  unfolding spilled
  held_bound [] s h = omega arith
  held_bound (a ∷ l) s h = small_or (spilled l s) (cond (eqb a.slot s) (some a.register) none) (held_bound l s (λ b m. h b (Memᴰ.tail m))) (small_one (eqb a.slot s) a.register (h a (Memᴰ.head refl)))
