-- Slot after slot: what one leaves is what the next one asks, and its area stands behind the others.
use Prim.Native.Nat.{ℕ, ◌+◌, ◌*◌, ◌^◌, ◌≤◌, ◌<◌}
use native.Mathlib.Omega.{arith}
use mathlib.Core.Path.{◌≡◌, refl, sym, ap, subst, ◌∙◌}
use mathlib.Core.Logic.{inl, inr}
use mathlib.Core.Option.{Option}
use mathlib.Core.List.{List}
use lib.ListN.{get_or}
use Rattle.words.specs.Widths.{piece_count}
use Rattle.words.proofs.RegionLaws.{row_before}
use Rattle.ranges.specs.declared.Range.{Range}
use Rattle.areas.specs.Job.{ranges_in}
use Rattle.graph.proofs.Line.{blocks_length}
use Rattle.slot_spots.specs.declared.Places.{Places}
use Rattle.slot_spots.proofs.MoveLaws.{chains_kept}
use Rattle.slot_areas.specs.declared.Found.{Found}
use Rattle.area_measure.specs.declared.Listing.{Listing}
use Rattle.ranges.specs.Points.{listed}
use Rattle.area_measure.specs.Inner.Locals.{word_of, ListedBy}
use Rattle.area_measure.proofs.ListLaws.{listed_more}
use Rattle.slot_measure.specs.Inner.{SlotIn, Placeable, Placed, most_for, Ready, Spared, Next, AreasBy, HeldBy, MeasuredSlots}

module _ (points : ℕ) (blocks insts moves pieces : List ℕ) (p : Places) (keys held : ℕ) (o : Listing) (first : ℕ) where
  -- what stands, where nothing was changed that is read
  module _ {w₀ w : List ℕ} (R : Ready blocks insts moves pieces p keys held o first w₀) (S : Spared moves pieces p keys o w₀ w) where
    stay : (i : ℕ) → keys ≤ i → i < p.to → get_or w i 0 ≡ get_or w₀ i 0
    stay = S.between

    pub held_kept : (s : ℕ) → s < p.slots → get_or w (held + s) 0 ≡ get_or w₀ (held + s) 0
    held_kept s h = stay (held + s) (omega (arith, R.keys_fit)) (omega (arith, R.held_fits, R.laid.table_fits, R.laid.heads_fit, R.laid.nexts_fit))

    pub ready_kept : Ready blocks insts moves pieces p keys held o first w
    ready_kept =
        let L = R.laid in
        record {
          sound = R.sound;
          fine = R.fine;
          table = record {
            place = λ n h.
                let z = blocks_length blocks in
                stay (p.table + n) (omega (arith, R.keys_fit, R.held_fits)) (omega (arith, L.table_fits, L.heads_fit, L.nexts_fit)) ∙ R.table.place n h;
          };
          laid = record { table_fits = L.table_fits; heads_fit = L.heads_fit; nexts_fit = L.nexts_fit; fits = omega (arith, L.fits, S.len) };
          chains = chains_kept L.heads_fit (λ i a b. stay i (omega (arith, R.keys_fit, R.held_fits, L.table_fits)) (omega (arith, L.nexts_fit))) R.chains;
          order = record { keys = λ k h. stay (keys + k) (omega arith) (omega (arith, R.keys_fit, R.held_fits, L.table_fits, L.heads_fit, L.nexts_fit)) ∙ R.order.keys k h };
          few_pieces = R.few_pieces;
          few_moves = R.few_moves;
          areas_fit = R.areas_fit;
          items_fit = R.items_fit;
          keys_fit = R.keys_fit;
          held_fits = R.held_fits;
          fits = omega (arith, R.fits, S.len);
          held_small = λ s h. omega (arith, R.held_small s h, held_kept s h);
        }

  -- ---- one slot

  module _ (s total : ℕ) {w₀ w₁ : List ℕ} {f : Found} (R : Ready blocks insts moves pieces p keys held o first w₀) (h : s < p.slots) (few : total + most_for moves pieces < 2 ^ 32)
      (I : SlotIn points blocks insts moves pieces held s p.to w₀ w₁ f) where
    ahead : keys + piece_count pieces ≤ p.to
    ahead = omega (arith, R.keys_fit, R.held_fits, R.laid.table_fits, R.laid.heads_fit, R.laid.nexts_fit)

    pub placeable : Placeable o (first + s) f total w₁
    placeable = record {
      areas_fit = R.areas_fit;
      items_fit = omega (arith, R.items_fit, ahead, I.low);
      item_in = omega (arith, R.items_fit, ahead, R.fits, I.kept.len);
      fits = omega (arith, I.high, R.fits, I.kept.len);
      small = omega (arith, I.low, I.high);
    }

    pub next_done : {w : List ℕ} {r : ℕ} → Placed o (first + s) f total w₁ w r → Next points blocks insts moves pieces p keys held o first s total w₀ w r
    next_done {w} {r} P = record {
      spared = record {
        len = P.len ∙ I.kept.len;
        below = λ i b. P.same i (inl (omega arith)) (λ e. absurd (omega (arith, R.areas_fit))) ∙ I.kept.below i (omega (arith, R.areas_fit, R.items_fit, ahead));
        between = λ i a b. P.same i (inr (omega (arith, R.areas_fit, R.items_fit))) (λ e. absurd (omega (arith, R.items_fit))) ∙ I.kept.below i b;
        past = λ i a. P.same i (inr (omega (arith, R.areas_fit, R.items_fit, ahead))) (λ e. absurd (omega (arith, R.items_fit, ahead))) ∙ I.kept.past i a;
      };
      most = omega (arith, P.most, I.low, I.high);
      listed = λ A a is e D.
          let S = I.stands a is in
          let n = first + s in
          let back : (i : ℕ) → i < o.items + first + p.slots → get_or w₁ i 0 ≡ get_or w₀ i 0 = λ i b. I.kept.below i (omega (arith, R.items_fit, ahead)) in
          listed_more word_of o A w r D (P.len ∙ I.kept.len) R.areas_fit (omega (arith, R.items_fit, ahead, R.fits)) P.least
          (λ i b c. P.same i (inl b) (λ x. absurd (omega arith)) ∙ back i (omega arith))
          (λ i b. P.same (o.items + i) (inr (omega (arith, R.areas_fit))) (λ x. absurd (omega arith)) ∙ back (o.items + i) (omega arith))
          (P.word _ S ∙ sym (ap (word_of total) e)) (P.count _ S ∙ sym (ap (λ (x : Option (List Range)). total + ranges_in x) e)) (λ q. ap listed e ∙ sym (P.put _ S q));
    }

  -- ---- all of them

  -- the first s slots are measured, behind `total₀` ranges
  pub record Going (total₀ : ℕ) (w₀ w : List ℕ) (s total : ℕ) : Type 0 where
    pub s_le : s ≤ p.slots
    pub begun : Ready blocks insts moves pieces p keys held o first w₀
    pub small : total₀ + p.slots * most_for moves pieces < 2 ^ 32
    pub spared : Spared moves pieces p keys o w₀ w
    pub most : total ≤ total₀ + s * most_for moves pieces
    pub listed : (A : ℕ → Option (List Range)) (a : ℕ → Option ℕ) → HeldBy held p.slots w₀ a → AreasBy points blocks insts moves pieces first p.slots A a
        → ListedBy word_of o A first total₀ w₀ → ListedBy word_of o A (first + s) total w

  pub going_start : (total : ℕ) (w : List ℕ) → Ready blocks insts moves pieces p keys held o first w → total + p.slots * most_for moves pieces < 2 ^ 32 → Going total w w 0 total
  going_start total w R q = record {
    s_le = omega arith;
    begun = R;
    small = q;
    spared = record { len = refl; below = λ i b. refl; between = λ i a b. refl; past = λ i a. refl };
    most = omega arith;
    listed = λ A a H B D. let e : first ≡ first + 0 = omega arith in subst (λ (k : ℕ). ListedBy word_of o A k total w) e D;
  }

  module _ {total₀ : ℕ} {w₀ w : List ℕ} {s total : ℕ} (G : Going total₀ w₀ w s total) where
    pub going_ready : Ready blocks insts moves pieces p keys held o first w
    going_ready = ready_kept G.begun G.spared

    pub going_small : s < p.slots → total + most_for moves pieces < 2 ^ 32
    going_small h =
        let m : s * most_for moves pieces + most_for moves pieces ≤ p.slots * most_for moves pieces = row_before s p.slots (most_for moves pieces) h in
        omega (arith, G.most, G.small)

    pub going_more : {w' : List ℕ} {r : ℕ} → s < p.slots → Next points blocks insts moves pieces p keys held o first s total w w' r → Going total₀ w₀ w' (s + 1) r
    going_more {w'} {r} h N = record {
      s_le = omega arith;
      begun = G.begun;
      small = G.small;
      spared = record {
        len = N.spared.len ∙ G.spared.len;
        below = λ i b. N.spared.below i b ∙ G.spared.below i b;
        between = λ i a b. N.spared.between i a b ∙ G.spared.between i a b;
        past = λ i a. N.spared.past i a ∙ G.spared.past i a;
      };
      most = let z : (s + 1) * most_for moves pieces ≡ s * most_for moves pieces + most_for moves pieces = omega arith in omega (arith, N.most, G.most);
      listed = λ A a H B D.
          let e : first + s + 1 ≡ first + (s + 1) = omega arith in
          subst (λ (k : ℕ). ListedBy word_of o A k r w') e (N.listed A (a s) (held_kept G.begun G.spared s h ∙ H s h) (B s h) (G.listed A a H B D));
    }

    pub going_done : p.slots ≤ s → MeasuredSlots points blocks insts moves pieces p keys held o first total₀ w₀ w total
    going_done h =
        let e : s ≡ p.slots = omega (arith, G.s_le) in
        record {
          spared = G.spared;
          listed = λ A a H B D. subst (λ (k : ℕ). ListedBy word_of o A (first + k) total w) e (G.listed A a H B D);
        }
