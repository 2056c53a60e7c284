-- What `shared` answers of a local, as lines.
use Prim.Native.Nat.{ℕ, ◌+◌, ◌-◌, ◌≤◌}
use native.Mathlib.Omega.{arith}
use mathlib.Core.Path.{◌≡◌, refl, ap, sym, ◌∙◌}
use mathlib.Core.List.{List, [], map}
use lib.ListN.{take, drop}
use Rattle.refusals.specs.declared.Refusal.{Refusal}
use Rattle.refusals.specs.Outcomes.{Outcome, given, unless, found}
use Rattle.words.specs.Rows.{tabulate, flat}
use Rattle.words.specs.Widths.{range_count, range_start, range_end}
use Rattle.words.proofs.RowLaws.{take_tabulate, drop_tabulate, map_tabulate}
use Rattle.ranges.specs.declared.Range.{Range}
use Rattle.ranges.specs.Points.{range}
use Rattle.ranges.specs.Forms.{areas_of}
use Rattle.fitting.specs.Queries.{slots_of, shared}
use Rattle.queries.specs.Shares.{shared_part, shared_of, ranges_of}
use Rattle.queries.proofs.ShareLaws.{shared_area, shared_inside}
use Rattle.query_checks.proofs.CheckLaws.{shared_sound}
use Rattle.query_checks.specs.Checks.{shared_verdict}
use Rattle.text_plan.specs.Printed.{range_line, area_lines}
use Rattle.text_plan.specs.Inner.{row_line}
use Rattle.refusals.specs.Verdicts.{Fine, Verdict, Found}
use Rattle.std.specs.Prelude.{Ok, Err, Some, None, IsOk}
use Rattle.queries.specs.declared.Stretch.{Stretch}

-- a part of the area list, row by row
part_lines : (areas : List ℕ) (i start n : ℕ) → start + n ≤ range_count areas → flat (map (range_line i) (take n (drop start (areas_of areas)))) ≡ flat (tabulate n (λ j. row_line areas i (start + j)))
part_lines areas i start n h =
    ap flat
    (ap (λ (l : List Range). map (range_line i) (take n l)) (drop_tabulate start (range_count areas) (λ k. range (range_start areas k) (range_end areas k)) (omega arith))
    ∙ ap (map (range_line i)) (take_tabulate n (range_count areas - start) (λ k. range (range_start areas (start + k)) (range_end areas (start + k))) (omega arith))
    ∙ map_tabulate (range_line i) n (λ k. range (range_start areas (start + k)) (range_end areas (start + k))))

given_is : {A : Type 0} {a b : A} → ◌≡◌ {A = Outcome A} (given a) (given b) → a ≡ b
given_is e = cc

module _ (cells items areas : List ℕ) (locals i : ℕ) (fine : shared_verdict cells items areas locals ≡ Fine) where
  area_is : ranges_of (areas_of areas) (shared_part cells items locals i) ≡ shared (slots_of locals cells items areas) i
  area_is = shared_area cells items areas locals (shared_sound cells items areas locals fine) i

  part_is : (s x : Found Stretch) → found s ≡ shared_of cells items areas locals i → s ≡ x → found x ≡ given (shared_part cells items locals i)
  part_is s x a e = ap found (sym e) ∙ a ∙ ap (λ (v : Verdict). unless v (shared_part cells items locals i)) fine

  module _ {s : Found Stretch} (a : found s ≡ shared_of cells items areas locals i) where
    pub share_inside : (start n : ℕ) → s ≡ Ok (Some (record { first = start; count = n })) → start + n ≤ range_count areas
    share_inside start n e = shared_inside cells items areas locals i fine (record { first = start; count = n }) (sym (given_is (part_is s (Ok (Some (record { first = start; count = n }))) a e)))

    pub share_part : (start n : ℕ) → s ≡ Ok (Some (record { first = start; count = n })) → flat (tabulate n (λ j. row_line areas i (start + j))) ≡ area_lines i (shared (slots_of locals cells items areas) i)
    share_part start n e =
        sym (part_lines areas i start n (share_inside start n e))
        ∙ ap (area_lines i) (ap (ranges_of (areas_of areas)) (given_is (part_is s (Ok (Some (record { first = start; count = n }))) a e)) ∙ area_is)

    pub share_absent : s ≡ (Ok None) → [] ≡ area_lines i (shared (slots_of locals cells items areas) i)
    share_absent e = ap (area_lines i) (ap (ranges_of (areas_of areas)) (given_is (part_is s (Ok None) a e)) ∙ area_is)

    share_refused : (r : Refusal) (k : ℕ) → s ≡ Err (r, k) → ⊥
    share_refused r k e = let w = part_is s (Err (r, k)) a e in let z : ◌≡◌ {A = ℕ} 0 1 = cc in omega arith

    -- of a plan that was checked nothing is refused
    pub share_given : (x : Found Stretch) → s ≡ x → IsOk x
    share_given (Ok o) e = refl
    share_given (Err x) e = absurd (share_refused x.0 x.1 e)
