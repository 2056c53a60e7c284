-- Areas one behind another: one more is put behind those so far.
use Prim.Native.Nat.{ℕ, ◌+◌, ◌-◌, ◌≤◌, ◌<◌}
use native.Mathlib.Omega.{arith}
use native.Mathlib.Numerals.{add-one}
use mathlib.Core.Path.{◌≡◌, refl, sym, ap, ◌∙◌}
use mathlib.Core.Option.{Option}
use mathlib.Core.List.{List, [], ◌∷◌, ◌++◌}
use lib.ListN.{length, get_or}
use Rattle.words.specs.Rows.{tabulate}
use Rattle.words.specs.Inner.{part}
use Rattle.words.proofs.Points.{cut}
use Rattle.words.proofs.RowLaws.{tabulate_suc}
use Rattle.words.proofs.RegionLaws.{kept_part_list}
use Rattle.ranges.specs.declared.Range.{Range}
use Rattle.ranges.specs.Inner.{unpacked}
use Rattle.carrying.specs.Lists.{gather}
use Rattle.areas.specs.Job.{ranges_in, ranges_of}
use Rattle.area_pieces.proofs.AreaLaws.{unpacked_both}
use Rattle.area_pieces.proofs.HullLaws.{gather_append, gather_one}
use Rattle.area_measure.specs.declared.Listing.{Listing}
use Rattle.ranges.specs.Points.{listed}
use Rattle.area_measure.specs.Inner.Locals.{ListedBy}

pub ranges_append : (l m : List (Option (List Range))) → ranges_of (l ++ m) ≡ ranges_of l + ranges_of m
unfolding ranges_of
ranges_append [] m = omega arith
ranges_append (a ∷ l) m = let z = ranges_append l m in omega arith

ranges_one : (a : Option (List Range)) → ranges_of (a ∷ []) ≡ ranges_in a
unfolding ranges_of
ranges_one a = omega arith

-- the ranges of one item more
pub ranges_more : (A : ℕ → Option (List Range)) (l : ℕ) → ranges_of (tabulate (l + 1) A) ≡ ranges_of (tabulate l A) + ranges_in (A l)
ranges_more A l =
    ap (λ (n : ℕ). ranges_of (tabulate n A)) (add-one l) ∙ ap ranges_of (tabulate_suc l A) ∙ ranges_append (tabulate l A) (A l ∷ [])
    ∙ ap (λ (n : ℕ). ranges_of (tabulate l A) + n) (ranges_one (A l))

pub gather_more : (A : ℕ → Option (List Range)) (l : ℕ) → gather listed (tabulate (l + 1) A) ≡ gather listed (tabulate l A) ++ listed (A l)
gather_more A l =
    ap (λ (n : ℕ). gather listed (tabulate n A)) (add-one l) ∙ ap (gather listed) (tabulate_suc l A) ∙ gather_append listed (tabulate l A) (A l ∷ [])
    ∙ ap (λ (m : List Range). gather listed (tabulate l A) ++ m) (gather_one listed (A l))

module _ (f : ℕ → Option (List Range) → ℕ) (o : Listing) (A : ℕ → Option (List Range)) where
  pub listed_none : (w : List ℕ) → ListedBy f o A 0 0 w
  unfolding ranges_of gather tabulate
  listed_none w = record { total_is = refl; areas = λ _. refl; items = λ i h. absurd (omega arith) }

  module _ {l total : ℕ} {w₀ : List ℕ} (w : List ℕ) (r : ℕ) (D : ListedBy f o A l total w₀) (len : length w ≡ length w₀) (room : o.areas + o.room ≤ o.items) (fit : o.items + l < length w₀)
      (least : total ≤ r) (same : (i : ℕ) → i < o.areas + total → i < o.items → get_or w i 0 ≡ get_or w₀ i 0) (kept : (i : ℕ) → i < l → get_or w (o.items + i) 0 ≡ get_or w₀ (o.items + i) 0)
      (word : get_or w (o.items + l) 0 ≡ f total (A l)) (count : r ≡ total + ranges_in (A l)) (put : r ≤ o.room → listed (A l) ≡ unpacked (part (o.areas + total) (r - total) w)) where
    before : total ≤ o.room → part o.areas total w ≡ part o.areas total w₀
    before h = kept_part_list {w₀ = w₀} {w = w} {at = o.areas} {n = total} (record { same = λ i a b. same i b (omega arith) }) (omega arith) len

    areas_more : r ≤ o.room → unpacked (part o.areas r w) ≡ gather listed (tabulate (l + 1) A)
    areas_more h =
        let e : r ≡ total + (r - total) = omega arith in
        ap (λ (n : ℕ). unpacked (part o.areas n w)) e ∙ unpacked_both w o.areas total (r - total)
        ∙ ap (λ (m : List ℕ). unpacked m ++ unpacked (part (o.areas + total) (r - total) w)) (before (omega arith))
        ∙ ap (λ (m : List Range). m ++ unpacked (part (o.areas + total) (r - total) w)) (D.areas (omega arith))
        ∙ ap (λ (m : List Range). gather listed (tabulate l A) ++ m) (sym (put h))
        ∙ sym (gather_more A l)

    items_more : (i : ℕ) → i < l + 1 → get_or w (o.items + i) 0 ≡ f (ranges_of (tabulate i A)) (A i)
    items_more i h = cut l i
        (λ m.
        let e : i ≡ l = omega arith in
        ap (λ (n : ℕ). get_or w (o.items + n) 0) e ∙ word ∙ ap (λ (n : ℕ). f n (A l)) D.total_is
        ∙ sym (ap (λ (n : ℕ). f (ranges_of (tabulate n A)) (A n)) e))
        (λ m. kept i m ∙ D.items i m)

    pub listed_more : ListedBy f o A (l + 1) r w
    listed_more = record {
      total_is = count ∙ ap (λ (n : ℕ). n + ranges_in (A l)) D.total_is ∙ sym (ranges_more A l);
      areas = areas_more;
      items = items_more;
    }
