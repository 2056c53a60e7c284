-- A slot's area by its word, and an area put behind those so far.
use Prim.Native.Nat.{ℕ, suc, ◌+◌, ◌-◌, ◌*◌, ◌^◌, ◌≤◌, ◌<◌}
use native.Mathlib.Omega.{arith}
use mathlib.Core.Path.{◌≡◌, refl, sym, ap, subst, ◌∙◌}
use mathlib.Core.Logic.{◌⊎◌, inl, inr, ⊎_elim}
use mathlib.Core.Option.{Option, some, none}
use mathlib.Core.List.{List, []}
use lib.ListN.{length, get_or, set, length-set}
use Rattle.words.specs.Inner.{part}
use Rattle.words.specs.Widths.{piece_count, move_count}
use Rattle.words.proofs.Points.{cut, stored}
use Rattle.words.proofs.RegionLaws.{kept_store, kept_part_list, length_part}
use Rattle.ranges.specs.declared.Range.{Range}
use Rattle.ranges.specs.Inner.{unpacked}
use Rattle.ranges.proofs.FormLaws.{unpacked_length}
use Rattle.packed.specs.Inner.{Clear}
use Rattle.graph.specs.Line.{blocks_of}
use Rattle.graph.proofs.Within.{within_wider}
use Rattle.carrying.specs.Insts.{insts_of}
use Rattle.carrying.specs.Carried.{pieces_of}
use Rattle.areas.specs.Slots.{moves_of, moved, slot_area}
use Rattle.areas.specs.Job.{ranges_in}
use Rattle.slot_spots.specs.Inner.{held_word}
use Rattle.slot_areas.specs.declared.Found.{Found}
use Rattle.slot_areas.specs.Inner.{Stands, MovedIn, HeldIn}
use Rattle.area_pieces.specs.Inner.{Appended}
use Rattle.area_pieces.proofs.PushLaws.{set_other}
use Rattle.area_measure.specs.declared.Listing.{Listing}
use Rattle.area_measure.specs.Inner.Measure.{item_word}
use Rattle.ranges.specs.Points.{listed}
use Rattle.area_measure.specs.Inner.Locals.{word_of}
use Rattle.slot_measure.specs.Inner.{SlotIn, Placeable, Placed}

-- ---- by the word of the slot

module _ (points : ℕ) (blocks insts moves pieces : List ℕ) (held slot to : ℕ) where
  abbrev area : Option ℕ → Option (List Range)
  area a = slot_area (pieces_of pieces) a (moved points (blocks_of blocks) (insts_of insts []) (moves_of moves) slot)

  pub by_moves : {w₀ w : List ℕ} {f : Found} → get_or w₀ (held + slot) 0 ≡ 0 → MovedIn points blocks insts moves slot to w₀ w f → SlotIn points blocks insts moves pieces held slot to w₀ w f
  by_moves {w₀} {w} {f} z M = record {
    kept = within_wider to (to + move_count moves + move_count moves + piece_count pieces) (omega arith) (omega arith) M.kept;
    low = M.low;
    high = omega (arith, M.high);
    stands = λ a e. go a (sym z ∙ e);
  }
    where
      go : (a : Option ℕ) → 0 ≡ held_word a → Stands (area a) w f
      go none e = M.stands (pieces_of pieces)
      go (some r) e = absurd (omega arith)

  pub by_register : {w₀ w : List ℕ} {f : Found} (register : ℕ) → get_or w₀ (held + slot) 0 ≡ register + 1 → HeldIn points blocks insts moves pieces register slot to w₀ w f → SlotIn points blocks insts moves pieces held slot to w₀ w f
  by_register {w₀} {w} {f} register z H = record {
    kept = H.kept;
    low = H.low;
    high = H.high;
    stands = λ a e. go a (sym z ∙ e);
  }
    where
      go : (a : Option ℕ) → register + 1 ≡ held_word a → Stands (area a) w f
      go none e = absurd (omega arith)
      go (some r) e = let s : register ≡ r = omega arith in subst (λ (q : ℕ). Stands (area (some q)) w f) s H.stands

-- ---- put behind those so far

module _ (o : Listing) (item : ℕ) (f : Found) (total : ℕ) {w₀ : List ℕ} (P : Placeable o item f total w₀) where
  abbrev at : ℕ
  at = o.items + item

  -- without an area
  pub absent : (z : f.plus ≡ 0) → Placed o item f total w₀ (set w₀ at 0) total
  absent z = record {
    len = length-set w₀ at 0;
    least = omega arith;
    most = omega arith;
    same = λ i a d. set_other w₀ at 0 i P.item_in d;
    count = λ a S. let e = S.absent z in omega (arith, ap ranges_in e);
    word = λ a S. stored (λ y. y ≡ word_of total a) w₀ at 0 at P.item_in (λ _. sym (ap (word_of total) (S.absent z))) (λ d. absurd (d refl));
    put = λ a S q. let e : total - total ≡ 0 = omega arith in ap (λ (n : ℕ). unpacked (part (o.areas + total) n (set w₀ at 0))) e ∙ sym (ap listed (S.absent z));
  }

  module _ (k : ℕ) (z : f.plus ≡ suc k) where
    pub from_in : f.at + k ≤ length w₀
    from_in = omega (arith, P.fits, z)

    pub areas_in : o.areas + o.room ≤ length w₀
    areas_in = omega (arith, P.areas_fit, P.item_in)

    pub areas_clear : Clear o.areas o.room f.at k
    areas_clear = inl (omega (arith, P.areas_fit, P.items_fit))

    module _ {v : ℕ} (ev : v ≡ total * 2 ^ 32 + f.plus) {w : List ℕ} {r : ℕ} (Q : Appended (set w₀ at v) w o.areas o.room total f.at k r) where
      untouched : (i : ℕ) → (i < o.areas + total) ⊎ (o.areas + o.room ≤ i) → get_or w i 0 ≡ get_or (set w₀ at v) i 0
      untouched i h = cut (o.room + 1) r
          (λ m. ap (λ (l : List ℕ). get_or l i 0) (Q.full (omega arith)))
          (λ m. ⊎_elim (λ l. Q.before i l) (λ l. Q.after i (omega (arith, Q.total_is))) h)

      whole : part f.at k (set w₀ at v) ≡ part f.at k w₀
      whole = kept_part_list {w₀ = w₀} {w = set w₀ at v} {at = f.at} {n = k} (kept_store w₀ at v f.at k P.item_in (inl P.items_fit)) from_in (length-set w₀ at v)

      ranges : List Range
      ranges = unpacked (part f.at k w₀)

      long : length ranges ≡ k
      unfolding ranges
      long = unpacked_length (part f.at k w₀) ∙ length_part f.at k w₀ from_in

      is : (a : Option (List Range)) → Stands a w₀ f → a ≡ some ranges
      unfolding ranges
      is a S = S.present k z

      put-there : r ≤ o.room → unpacked (part (o.areas + total) (r - total) w) ≡ ranges
      unfolding ranges
      put-there q = let c : r - total ≡ k = omega (arith, Q.total_is) in ap (λ (n : ℕ). unpacked (part (o.areas + total) n w)) c ∙ ap unpacked (Q.put q ∙ whole)

      pub present : Placed o item f total w₀ w r
      present = record {
        len = Q.len ∙ length-set w₀ at v;
        least = omega (arith, Q.total_is);
        most = omega (arith, Q.total_is, z);
        same = λ i h d. untouched i h ∙ set_other w₀ at v i P.item_in d;
        count = λ a S. let e = is a S in omega (arith, Q.total_is, ap ranges_in e, long);
        word = λ a S. untouched at (inr (omega (arith, P.areas_fit)))
            ∙ stored (λ y. y ≡ word_of total a) w₀ at v at P.item_in (λ _. worth ∙ sym (ap (word_of total) (is a S))) (λ d. absurd (d refl));
        put = λ a S q. put-there q ∙ sym (ap listed (is a S));
      }
        where
          worth : v ≡ item_word total (length ranges)
          worth = omega (arith, ev, z, long)
