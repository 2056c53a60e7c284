-- The tables of wants and the areas stay as they are while cells are made: so the wants that they hold do.
use Prim.Native.Nat.{ℕ, ◌+◌, ◌≤◌, ◌<◌}
use native.Mathlib.Omega.{arith}
use native.Mathlib.Decide.{ℕ_discrete}
use mathlib.Core.Path.{◌≡◌, ap, sym, ◌∙◌}
use mathlib.Core.Bool.{Bool, cond}
use mathlib.Core.Option.{some, none, none-ne-some, some-injective}
use mathlib.Core.List.{List}
use lib.ListN.{length, get_or, get_or-eq_default}
use borrow.Author.Tests.{eq-eqb, ne_eqb}
use Rattle.words.specs.Inner.{Kept}
use Rattle.words.proofs.RegionLaws.{kept_part_list}
use Rattle.words.proofs.RowLaws.{length_tabulate, get_d_tabulate, tabulate_eq}
use Rattle.words.proofs.Points.{cut}
use Rattle.ranges.specs.declared.Range.{Range}
use Rattle.ranges.specs.Points.{Apart}
use Rattle.ranges.specs.Inner.{unpacked}
use Rattle.fitting.specs.Wants.{Want, want_at}
use Rattle.fit_tables.specs.Inner.{Sized, want_table, order_table, first_of, count_of, ranges_at, area_in, want_in, wants_in, Proper, Lent}
use Rattle.fit_tables.specs.declared.Tables.{Tables}

pub area_none : (w : List ℕ) (at x : ℕ) → x ≡ 0 → area_in w at x ≡ none
area_none w at x e = ap (λ (t : Bool). cond t none (some (ranges_at w at x))) (eq-eqb x 0 e)

pub area_some : (w : List ℕ) (at x : ℕ) → 0 < x → area_in w at x ≡ some (ranges_at w at x)
area_some w at x h = ap (λ (t : Bool). cond t none (some (ranges_at w at x))) (ne_eqb x 0 (λ e. omega arith))

want_none : Want
want_none = record { size = 0; align = 0; area = none }

module _ {w₁ : List ℕ} {t : Tables} (L : Lent w₁ t) where
  -- the wants, by index
  pub want_at_lem : (i : ℕ) → i < t.n → want_at (wants_in w₁ t) i ≡ want_in w₁ t i
  want_at_lem i h = get_d_tabulate t.n (want_in w₁ t) i (record { size = 0; align = 0; area = none }) h

  pub sized : Sized (wants_in w₁ t) w₁ (want_table t) t.n
  sized = record {
    count = length_tabulate t.n (want_in w₁ t);
    size = λ i h. ap (λ (x : Want). x.size) (want_at_lem i h);
    align = λ i h. ap (λ (x : Want). x.align) (want_at_lem i h);
  }

  -- each want's area is in order and apart
  pub want_neat : (i : ℕ) (rs : List Range) → (want_at (wants_in w₁ t) i).area ≡ some rs → Apart rs
  want_neat i rs e = cut t.n i (λ h. absurd (none_there h)) (λ h. go h (ℕ_discrete (get_or w₁ (t.items + i) 0) 0))
    where
      none_there : t.n ≤ i → ⊥
      none_there h =
          none-ne-some rs
          (sym (ap (λ (x : Want). x.area) (get_or-eq_default (wants_in w₁ t) (record { size = 0; align = 0; area = none }) (rw (length_tabulate t.n (want_in w₁ t)) h))) ∙ e)

      go : i < t.n → Dec (get_or w₁ (t.items + i) 0 ≡ 0) → Apart rs
      go h (yes z) = absurd (none-ne-some rs (sym (area_none w₁ t.at (get_or w₁ (t.items + i) 0) z) ∙ sym (ap (λ (x : Want). x.area) (want_at_lem i h)) ∙ e))
      go h (no d) =
          let f : some (ranges_at w₁ t.at (get_or w₁ (t.items + i) 0)) ≡ some rs = sym (area_some w₁ t.at (get_or w₁ (t.items + i) 0) (omega arith)) ∙ sym (ap (λ (x : Want). x.area) (want_at_lem i h)) ∙ e in
          rw (some-injective _ rs f) at (L.proper i h (omega arith)).neat

  module _ (w : List ℕ) (len : length w ≡ length w₁) (kept : (x : ℕ) → (x < order_table t) → get_or w x 0 ≡ get_or w₁ x 0) where
    pub item_kept : (i : ℕ) → i < t.n → get_or w (t.items + i) 0 ≡ get_or w₁ (t.items + i) 0
    item_kept i h = kept (t.items + i) (omega arith)

    pub ranges_kept : (x : ℕ) → t.at + (first_of x + count_of x) ≤ t.items → ranges_at w t.at x ≡ ranges_at w₁ t.at x
    ranges_kept x h =
        let k : Kept w₁ w (t.at + first_of x) (count_of x) = record { same = λ y l q. kept y (omega arith) } in
        ap unpacked (kept_part_list k (omega (arith, L.room)) len)

    pub proper_kept : (i : ℕ) → i < t.n → 0 < get_or w (t.items + i) 0 → Proper w t.at t.items (get_or w (t.items + i) 0)
    proper_kept i h q =
        let p = L.proper i h (omega (arith, item_kept i h)) in
        rw (item_kept i h) (record { inside = p.inside; neat = rw (ranges_kept (get_or w₁ (t.items + i) 0) p.inside) p.neat })

    pub lent_kept : Lent w t
    lent_kept = record { few = L.few; room = omega (arith, L.room); proper = proper_kept }

    pub area_kept : (i : ℕ) → i < t.n → area_in w t.at (get_or w (t.items + i) 0) ≡ area_in w₁ t.at (get_or w₁ (t.items + i) 0)
    area_kept i h = ap (area_in w t.at) (item_kept i h) ∙ go (ℕ_discrete (get_or w₁ (t.items + i) 0) 0)
      where
        go : Dec (get_or w₁ (t.items + i) 0 ≡ 0) → area_in w t.at (get_or w₁ (t.items + i) 0) ≡ area_in w₁ t.at (get_or w₁ (t.items + i) 0)
        go (yes z) = area_none w t.at (get_or w₁ (t.items + i) 0) z ∙ sym (area_none w₁ t.at (get_or w₁ (t.items + i) 0) z)
        go (no d) =
            area_some w t.at (get_or w₁ (t.items + i) 0) (omega arith)
            ∙ ap some (ranges_kept (get_or w₁ (t.items + i) 0) (L.proper i h (omega arith)).inside) ∙ sym (area_some w₁ t.at (get_or w₁ (t.items + i) 0) (omega arith))

    want_kept : (i : ℕ) → i < t.n → want_in w t i ≡ want_in w₁ t i
    want_kept i h =
        let a = area_kept i h in
        let b : get_or w (want_table t + i) 0 ≡ get_or w₁ (want_table t + i) 0 = kept (want_table t + i) (omega arith) in
        cc

    pub wants_kept : wants_in w t ≡ wants_in w₁ t
    wants_kept = tabulate_eq t.n (want_in w t) (want_in w₁ t) want_kept
