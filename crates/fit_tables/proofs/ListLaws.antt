-- Lists behind the tables: each is as it was where its words are.
use Prim.Native.Nat.{ℕ, ◌+◌, ◌≤◌, ◌<◌}
use native.Mathlib.Omega.{arith}
use native.Mathlib.Decide.{ℕ_discrete}
use mathlib.Core.Path.{◌≡◌, ap, sym, ◌∙◌}
use mathlib.Core.Logic.{◌⊎◌, inl, inr, ⊎_elim}
use mathlib.Core.Option.{some}
use mathlib.Core.List.{List}
use lib.ListN.{length, get_or}
use Rattle.words.specs.Inner.{Kept}
use Rattle.words.proofs.RegionLaws.{kept_part_list}
use Rattle.ranges.specs.declared.Range.{Range}
use Rattle.ranges.specs.Inner.{unpacked}
use Rattle.fit_tables.specs.Inner.{behind, first_of, count_of, ranges_at, area_in, Proper, Listed}
use Rattle.fit_tables.proofs.TableLaws.{area_none, area_some}
use Rattle.fit_tables.specs.declared.Tables.{Tables}

-- an item's area is a list
pub proper_listed : {w : List ℕ} {t : Tables} {top x : ℕ} → Proper w t.at t.items x → Listed w t top x
proper_listed p = record { inside = inl p.inside; neat = p.neat }

-- where a list ends
pub listed_end : {w : List ℕ} {t : Tables} {top x : ℕ} → t.items ≤ top → Listed w t top x → t.at + (first_of x + count_of x) ≤ top
listed_end {w} {t} {top} {x} h l = go l.inside
  where
    go : (t.at + (first_of x + count_of x) ≤ t.items) ⊎ ((behind t ≤ t.at + first_of x) × (t.at + (first_of x + count_of x) ≤ top)) → t.at + (first_of x + count_of x) ≤ top
    go (inl i) = omega arith
    go (inr i) = i.1

pub listed_wide : {w : List ℕ} {t : Tables} {top top' x : ℕ} → top ≤ top' → Listed w t top x → Listed w t top' x
listed_wide {w} {t} {top} {top'} {x} h l = record { inside = ⊎_elim (λ i. inl i) (λ i. inr (i.0, omega (arith, i.1))) l.inside; neat = l.neat }

pub listed_proper : {w : List ℕ} {t : Tables} {top x : ℕ} → t.items ≤ top → Listed w t top x → Proper w t.at top x
listed_proper h l = record { inside = listed_end h l; neat = l.neat }

-- the words of the areas and of the lists are as they were
pub record Same (w₀ w : List ℕ) (t : Tables) (top : ℕ) : Type 0 where
  pub len : length w ≡ length w₀
  pub low : t.items ≤ top
  pub high : top ≤ length w₀
  pub word : (x : ℕ) → (x < t.items) ⊎ ((behind t ≤ x) × (x < top)) → get_or w x 0 ≡ get_or w₀ x 0

module _ {w₀ w : List ℕ} {t : Tables} {top : ℕ} (S : Same w₀ w t top) where
  pub list_ranges : {x : ℕ} → Listed w₀ t top x → ranges_at w t.at x ≡ ranges_at w₀ t.at x
  list_ranges {x} l = ap unpacked (kept_part_list (go l.inside) (omega (arith, listed_end S.low l, S.high)) S.len)
    where
      go : (t.at + (first_of x + count_of x) ≤ t.items) ⊎ ((behind t ≤ t.at + first_of x) × (t.at + (first_of x + count_of x) ≤ top)) → Kept w₀ w (t.at + first_of x) (count_of x)
      go (inl i) = record { same = λ y g h. S.word y (inl (omega arith)) }
      go (inr i) = record { same = λ y g h. S.word y (inr (omega (arith, i.0), omega (arith, i.1))) }

  pub list_kept : {x top' : ℕ} → top ≤ top' → Listed w₀ t top x → Listed w t top' x
  list_kept {x} {top'} h l = record { inside = go l.inside; neat = rw (list_ranges l) l.neat }
    where
      go : (t.at + (first_of x + count_of x) ≤ t.items) ⊎ ((behind t ≤ t.at + first_of x) × (t.at + (first_of x + count_of x) ≤ top))
          → (t.at + (first_of x + count_of x) ≤ t.items) ⊎ ((behind t ≤ t.at + first_of x) × (t.at + (first_of x + count_of x) ≤ top'))
      go (inl i) = inl i
      go (inr i) = inr (i.0, omega (arith, i.1))

  pub area_same : (x : ℕ) → (0 < x → Listed w₀ t top x) → area_in w t.at x ≡ area_in w₀ t.at x
  area_same x f = go (ℕ_discrete x 0)
    where
      go : Dec (x ≡ 0) → area_in w t.at x ≡ area_in w₀ t.at x
      go (yes e) = area_none w t.at x e ∙ sym (area_none w₀ t.at x e)
      go (no d) = area_some w t.at x (omega arith) ∙ ap (λ (rs : List Range). some rs) (list_ranges (f (omega arith))) ∙ sym (area_some w₀ t.at x (omega arith))
