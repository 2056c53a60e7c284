-- `shared` and `crowded`: what each answer is, and that the part answered is the area of the definition.
use Prim.Native.Nat.{ℕ, ◌+◌, ◌*◌, ◌≤◌, ◌<◌}
use native.Mathlib.Omega.{arith}
use native.Mathlib.Nat.{add-zero}
use mathlib.Core.Path.{◌≡◌, refl, ap, sym, ◌∙◌}
use mathlib.Core.Bool.{Bool, true, false, cond}
use mathlib.Core.Option.{Option, some, none}
use mathlib.Core.List.{List, [], ◌++◌}
use lib.ListN.{length, get_or, get_elem?, take, drop}
use lib.Dec.{ltb, eqb}
use borrow.Author.Tests.{lt-ltb, le-ltb, eq-eqb, ne_eqb, eqb-false}
use Rattle.refusals.specs.declared.Refusal.{Refusal}
use Rattle.refusals.specs.Outcomes.{given, unless, found}
use Rattle.words.specs.Widths.{item_width, item_cell, item_present, item_first, item_ranges, range_count}
use Rattle.words.proofs.Points.{cut}
use Rattle.ranges.specs.Forms.{areas_of}
use Rattle.fitting.specs.Queries.{Item, slots_of, crowd, shared_by, shared}
use Rattle.query_checks.specs.Checks.{shared_verdict, crowded_verdict}
use Rattle.queries.specs.Shares.{part_named, shared_part, shared_of, ranges_of, crowded_of, CrowdedBy}
use Rattle.query_checks.proofs.CheckLaws.{crowd_passed, Sound, sound, shared_sound, part_inside}
use Rattle.members.specs.Inner.{members_in, crowded_slots, Picked}
use Rattle.queries.proofs.QueryLaws.{there, not_there, item_at, locals_are}
use Rattle.queries.proofs.MemberLaws.{crowd_is, crowded_is}
use Rattle.refusals.specs.Verdicts.{Bad, Fine, Verdict}
use Rattle.std.specs.Prelude.{Ok, Err, Some, None}
use Rattle.queries.specs.declared.Stretch.{Stretch}

-- ---- `shared`: the part

module _ (cells items : List ℕ) (locals i : ℕ) where
  pub part_past : locals ≤ i → shared_part cells items locals i ≡ none
  part_past h = ap (λ (t : Bool). cond t (cond (crowd (slots_of locals cells items []) (item_cell items i)) (part_named items i) none) none) (le-ltb i locals h)

  module _ (h : i < locals) where
    part_here : shared_part cells items locals i ≡ cond (ltb 1 (members_in items (get_or items (item_width * i) 0))) (part_named items i) none
    part_here =
        ap (λ (t : Bool). cond t (cond (crowd (slots_of locals cells items []) (item_cell items i)) (part_named items i) none) none) (lt-ltb i locals h)
        ∙ ap (λ (t : Bool). cond t (part_named items i) none)
        (crowd_is [] cells items locals (item_cell items i) ∙ ap (λ (k : ℕ). ltb 1 (members_in items (get_or items k 0))) (add-zero (item_width * i)))

    pub part_absent : item_present items i ≡ 0 → shared_part cells items locals i ≡ none
    part_absent e =
        part_here
        ∙ ap (λ (t : Bool). cond (ltb 1 (members_in items (get_or items (item_width * i) 0))) (cond t none (some (record { first = item_first items i; count = item_ranges items i }))) none) (eq-eqb _ _ e)
        ∙ both (ltb 1 (members_in items (get_or items (item_width * i) 0)))
      where
        both : (t : Bool) → ◌≡◌ {A = Option Stretch} (cond t none none) none
        both true = refl
        both false = refl

    pub part_lone : members_in items (get_or items (item_width * i) 0) < 2 → shared_part cells items locals i ≡ none
    part_lone l = part_here ∙ ap (λ (t : Bool). cond t (part_named items i) none) (le-ltb 1 (members_in items (get_or items (item_width * i) 0)) (omega arith))

    pub part_shared : (item_present items i ≡ 0 → ⊥) → 2 ≤ members_in items (get_or items (item_width * i) 0)
        → shared_part cells items locals i ≡ some (record { first = item_first items i; count = item_ranges items i })
    part_shared d l =
        part_here ∙ ap (λ (t : Bool). cond t (part_named items i) none) (lt-ltb 1 (members_in items (get_or items (item_width * i) 0)) (omega arith))
        ∙ ap (λ (t : Bool). cond t none (some (record { first = item_first items i; count = item_ranges items i }))) (ne_eqb _ _ d)

module _ (cells items areas : List ℕ) (locals i : ℕ) where
  pub share_refused : (r : Refusal) (k : ℕ) → shared_verdict cells items areas locals ≡ Bad r k → found (Err (r, k)) ≡ shared_of cells items areas locals i
  share_refused r k e = rw e

  pub share_none : shared_verdict cells items areas locals ≡ Fine → shared_part cells items locals i ≡ none → found (Ok None) ≡ shared_of cells items areas locals i
  share_none e f = sym (ap (λ (v : Verdict). unless v (shared_part cells items locals i)) e ∙ ap (λ (o : Option Stretch). given o) f)

  pub share_some : shared_verdict cells items areas locals ≡ Fine → (first count : ℕ) → shared_part cells items locals i ≡ some (record { first = first; count = count })
      → found (Ok (Some (record { first = first; count = count }))) ≡ shared_of cells items areas locals i
  share_some e first count f = sym (ap (λ (v : Verdict). unless v (shared_part cells items locals i)) e ∙ ap (λ (o : Option Stretch). given o) f)

-- ---- `shared`: the area that the part is

module _ (cells items areas : List ℕ) (locals : ℕ) (S : Sound cells items locals) (i : ℕ) where
  shared_past : locals ≤ i → shared (slots_of locals cells items areas) i ≡ none
  shared_past h =
      ap (λ (l : List Item). shared_by (slots_of locals cells items areas) (get_elem? l i)) (locals_are areas cells items locals S)
      ∙ ap (shared_by (slots_of locals cells items areas)) (not_there locals (item_at areas items) i h)

  shared_at : i < locals → shared (slots_of locals cells items areas) i ≡ cond (crowd (slots_of locals cells items areas) (item_cell items i)) (item_at areas items i).area none
  shared_at h =
      ap (λ (l : List Item). shared_by (slots_of locals cells items areas) (get_elem? l i)) (locals_are areas cells items locals S)
      ∙ ap (shared_by (slots_of locals cells items areas)) (there locals (item_at areas items) i h)

  -- the ranges of the part are the area of the definition
  pub shared_area : ranges_of (areas_of areas) (shared_part cells items locals i) ≡ shared (slots_of locals cells items areas) i
  shared_area = cut locals i
      (λ h. ap (ranges_of (areas_of areas)) (part_past cells items locals i h) ∙ sym (shared_past h))
      (λ h.
      ap (λ (t : Bool). ranges_of (areas_of areas) (cond t (cond (crowd (slots_of locals cells items []) (item_cell items i)) (part_named items i) none) none)) (lt-ltb i locals h)
      ∙ ap (λ (t : Bool). ranges_of (areas_of areas) (cond t (part_named items i) none)) (crowd_is [] cells items locals (item_cell items i) ∙ sym (crowd_is areas cells items locals (item_cell items i)))
      ∙ go (crowd (slots_of locals cells items areas) (item_cell items i)) (eqb (item_present items i) 0) ∙ sym (shared_at h))
    where
      go : (b t : Bool) → ranges_of (areas_of areas) (cond b (cond t none (some (record { first = item_first items i; count = item_ranges items i }))) none)
          ≡ cond b (cond t none (some (take (item_ranges items i) (drop (item_first items i) (areas_of areas))))) none
      go true true = refl
      go true false = refl
      go false t = refl

module _ (cells items areas : List ℕ) (locals i : ℕ) (fine : shared_verdict cells items areas locals ≡ Fine) where
  -- a part that is answered lies in the area list
  pub shared_inside : (s : Stretch) → shared_part cells items locals i ≡ some s → s.first + s.count ≤ range_count areas
  shared_inside s e = cut locals i
      (λ h. absurd (let f = sym (part_past cells items locals i h) ∙ e in let z : ◌≡◌ {A = ℕ} 0 1 = cc in omega arith))
      (λ h. go h (ltb 1 (members_in items (get_or items (item_width * i) 0))) (eqb (item_present items i) 0) refl (sym (part_here cells items locals i h) ∙ e))
    where
      go : i < locals → (b t : Bool) → eqb (item_present items i) 0 ≡ t → cond b (cond t none (some (record { first = item_first items i; count = item_ranges items i }))) none ≡ some s → s.first + s.count ≤ range_count areas
      go h false t q f = absurd (let z : ◌≡◌ {A = ℕ} 0 1 = cc in omega arith)
      go h true true q f = absurd (let z : ◌≡◌ {A = ℕ} 0 1 = cc in omega arith)
      go h true false q f =
          let p = part_inside cells items areas locals fine i (omega (arith, (shared_sound cells items areas locals fine).whole.0)) (eqb-false _ _ q) in
          let x : item_first items i ≡ s.first = cc in
          let y : item_ranges items i ≡ s.count = cc in
          omega arith

-- ---- `crowded`

module _ (cells items : List ℕ) (locals room : ℕ) where
  pub crowded_refused : (out : List ℕ) (r : Refusal) (k : ℕ) → crowded_verdict cells items locals room ≡ Bad r k → CrowdedBy (crowded_of cells items locals room) out (Err (r, k)) out
  crowded_refused out r k e = record { answer = rw e; in_out = rw e }

  pub crowded_told : (out out' : List ℕ) (n : ℕ) → crowded_verdict cells items locals room ≡ Fine → Picked (crowded_slots items locals) out out' n
      → CrowdedBy (crowded_of cells items locals room) out (Ok n) out'
  crowded_told out out' n e p =
      let q = crowded_is cells items locals (sound cells items locals (crowd_passed cells items locals room e).plan) in
      record {
        answer = ap (λ (k : ℕ). given k) (p.count ∙ ap length (sym q)) ∙ rw e;
        in_out = p.list ∙ ap (λ (l : List ℕ). l ++ drop (length l) out) (sym q) ∙ rw e;
      }
