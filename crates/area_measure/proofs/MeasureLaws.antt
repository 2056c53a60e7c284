-- Laws of one local's area: by its kind, and put behind those so far.
use Prim.Native.Nat.{ℕ, ◌+◌, ◌-◌, ◌/◌, ◌%◌, ◌≤◌, ◌<◌}
use native.Mathlib.Omega.{arith}
use mathlib.Core.Path.{◌≡◌, refl, sym, ap, ◌∙◌}
use mathlib.Core.Logic.{◌⊎◌, inl, inr, ⊎_elim}
use mathlib.Core.Option.{some}
use mathlib.Core.List.{List}
use lib.ListN.{length, get_or, set, length-set}
use Rattle.words.specs.Inner.{part}
use Rattle.words.proofs.Points.{cut, stored}
use Rattle.words.proofs.RegionLaws.{kept_store, kept_part_list, length_part}
use Rattle.bits.specs.Bits.{bit_of}
use Rattle.ranges.specs.declared.Range.{Range}
use Rattle.ranges.specs.Inner.{unpacked}
use Rattle.ranges.proofs.FormLaws.{unpacked_length}
use Rattle.packed.specs.Inner.{Clear}
use Rattle.graph.proofs.Within.{within_wider}
use Rattle.carrying.specs.declared.Kind.{Kind}
use Rattle.areas.specs.Job.{area_by, ranges_in}
use Rattle.spots.specs.declared.Spots.{Spots}
use Rattle.spots.specs.Spots.{line_of}
use Rattle.spots.specs.Inner.{touches_at, ends_at}
use Rattle.area_pieces.specs.declared.Local.{Local}
use Rattle.area_pieces.specs.Inner.{Appended, PlainIn}
use Rattle.area_pieces.proofs.PushLaws.{set_other}
use Rattle.area_ends.specs.Inner.{EndingIn}
use Rattle.kind_numbers.proofs.KindLaws.{plain_kind, ending_kind}
use Rattle.area_measure.specs.declared.Listing.{Listing}
use Rattle.area_measure.specs.Inner.Measure.{most_of, item_word, Measurable, AreaIn, Listable, Measured}

module _ (blocks : List ℕ) (kind : ℕ) (t : Spots) (s : Local) {w₀ w : List ℕ} {r : ℕ} where
  pub area_plain : kind ≡ 1 → PlainIn blocks t s w₀ w r → AreaIn blocks kind t s w₀ w r
  area_plain e P = record {
    kept = within_wider s.mark (s.to + most_of blocks t) (omega arith) (omega arith) P.kept;
    unmarked = P.unmarked;
    count = omega (arith, P.count);
    is = λ es R. ap (λ (k : Kind). area_by (line_of blocks es) k (touches_at t w₀) (ends_at t w₀)) (plain_kind kind e) ∙ ap (λ (l : List Range). some l) (sym (P.is es (R.plain e)));
  }

  pub area_ending : 1 < kind → EndingIn blocks t s w₀ w r → AreaIn blocks kind t s w₀ w r
  area_ending h E = record {
    kept = E.kept;
    unmarked = E.unmarked;
    count = E.count;
    is = λ es R. ap (λ (k : Kind). area_by (line_of blocks es) k (touches_at t w₀) (ends_at t w₀)) (ending_kind kind h) ∙ ap (λ (l : List Range). some l) (sym (E.is es (R.ending h)));
  }

-- ---- put behind those so far

module _ (blocks : List ℕ) (kind : ℕ) (t : Spots) (s : Local) (o : Listing) (total : ℕ) {w₀ w₁ : List ℕ} {count : ℕ} (M : Measurable blocks kind t s w₀) (L : Listable blocks t s o total) (A : AreaIn blocks kind t s w₀ w₁ count) where
  abbrev slot : ℕ
  slot = o.items + s.local

  pub slot_in : slot < length w₁
  slot_in =
      let f = M.laid.free in
      omega (arith, L.items_fit, f.mark_fits, f.span_fits, f.fits, A.kept.len)

  pub area_in_lem : s.to + count ≤ length w₁
  area_in_lem = omega (arith, M.laid.free.fits, A.count, A.kept.len)

  pub areas_clear : Clear o.areas o.room s.to count
  areas_clear =
      let f = M.laid.free in
      inl (omega (arith, L.areas_fit, L.items_fit, f.mark_fits, f.span_fits))

  pub areas_in : o.areas + o.room ≤ length w₁
  areas_in = omega (arith, L.areas_fit, slot_in)

  module _ {v : ℕ} (ev : v ≡ item_word total count) {w : List ℕ} {r : ℕ} (P : Appended (set w₁ slot v) w o.areas o.room total s.to count r) where
    -- outside the room behind the ranges so far nothing is stored
    untouched : (i : ℕ) → (i < o.areas + total) ⊎ (o.areas + o.room ≤ i) → get_or w i 0 ≡ get_or (set w₁ slot v) i 0
    untouched i h = cut (o.room + 1) r
        (λ m. ap (λ (l : List ℕ). get_or l i 0) (P.full (omega arith)))
        (λ m. ⊎_elim (λ l. P.before i l) (λ l. P.after i (omega (arith, P.total_is))) h)

    past_slot : (i : ℕ) → (i < o.areas + total) ⊎ (o.areas + o.room ≤ i) → (i ≡ slot → ⊥) → get_or w i 0 ≡ get_or w₁ i 0
    past_slot i h d = untouched i h ∙ set_other w₁ slot v i slot_in d

    counted : r - total ≡ count
    counted = omega (arith, P.total_is)

    whole : part s.to count (set w₁ slot v) ≡ part s.to count w₁
    whole =
        let f = M.laid.free in
        kept_part_list {w₀ = w₁} {w = set w₁ slot v} {at = s.to} {n = count} (kept_store w₁ slot v s.to count slot_in (inl (omega (arith, L.items_fit, f.mark_fits, f.span_fits)))) area_in_lem (length-set w₁ slot v)

    pub measured : Measured blocks kind t s o total w₀ w r
    measured =
        let f = M.laid.free in
        record {
          len = P.len ∙ length-set w₁ slot v ∙ A.kept.len;
          least = omega (arith, P.total_is);
          most = omega (arith, P.total_is, A.count);
          word = untouched slot (inr (omega (arith, L.areas_fit))) ∙ stored (λ y. y ≡ item_word total (r - total)) w₁ slot v slot slot_in (λ _. ev ∙ ap (item_word total) (sym counted)) (λ d. absurd (d refl));
          unmarked = record {
            none = λ c h. ap (λ (y : ℕ). bit_of y (c % 64)) (past_slot (s.mark + c / 64) (inr (omega (arith, L.areas_fit, L.items_fit))) (λ e. absurd (omega (arith, L.items_fit)))) ∙ A.unmarked.none c h;
          };
          same = λ i h d b. past_slot i h d ∙ ⊎_elim (λ l. A.kept.below i l) (λ l. A.kept.past i l) b;
          count = λ es R. P.total_is ∙ ap (λ (k : ℕ). total + k) (sym (ap ranges_in (A.is es R) ∙ unpacked_length (part s.to count w₁) ∙ length_part s.to count w₁ area_in_lem));
          put = λ es R h. A.is es R ∙ ap (λ (l : List ℕ). some (unpacked l)) (sym (ap (λ (k : ℕ). part (o.areas + total) k w) counted ∙ P.put h ∙ whole));
        }
