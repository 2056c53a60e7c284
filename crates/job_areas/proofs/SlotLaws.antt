-- The slots' phase: their registers, the table of places and their moves stand, and then their areas are measured.
use Prim.Native.Nat.{ℕ, ◌+◌, ◌≤◌, ◌<◌}
use native.Mathlib.Omega.{arith}
use mathlib.Core.Path.{◌≡◌, refl, ◌∙◌}
use mathlib.Core.List.{List}
use lib.ListN.{length, get_or}
use Rattle.words.specs.Inner.{Region}
use Rattle.words.specs.Widths.{block_count}
use Rattle.graph.specs.Line.{blocks_of}
use Rattle.graph.specs.Inner.Work.{Tabled}
use Rattle.graph.proofs.Line.{blocks_length}
use Rattle.areas.specs.Slots.{assigned_of, spilled}
use Rattle.slot_spots.specs.declared.Places.{Places}
use Rattle.slot_spots.specs.Inner.{held_word, Chained}
use Rattle.area_measure.specs.declared.Listing.{Listing}
use Rattle.area_measure.specs.Inner.Locals.{word_of}
use Rattle.slot_measure.specs.Inner.{Ready, MeasuredSlots}
use Rattle.job_areas.specs.Inner.{SlotsAsked, SlotsIn}
use Rattle.job_areas.proofs.KeptLaws.{listed_kept}

module _ (points : ℕ) (blocks insts moves pieces assigned : List ℕ) (p : Places) (keys held : ℕ) (o : Listing) (first total : ℕ) {w₀ w₁ : List ℕ}
    (Q : SlotsAsked blocks insts moves pieces assigned p keys held o first total w₀) (H : Region w₀ w₁ held p.slots (λ s. held_word (spilled (assigned_of assigned) s))) where
  held_in : held + p.slots ≤ p.to
  held_in = let L = Q.laid in omega (arith, Q.held_fits, L.table_fits, L.heads_fit, L.nexts_fit)

  module _ {w₂ w₃ : List ℕ} (T : Tabled (blocks_of blocks) p.table w₁ w₂) (C : Chained p moves w₂ w₃) where
    -- before the registers nothing has changed, nor past the chains
    front : (i : ℕ) → i < held → get_or w₃ i 0 ≡ get_or w₀ i 0
    front i h = let L = Q.laid in C.kept.below i (omega (arith, Q.held_fits, L.table_fits)) ∙ T.kept.below i (omega (arith, Q.held_fits)) ∙ H.before i h

    long : length w₃ ≡ length w₀
    long = C.kept.len ∙ T.kept.len ∙ H.len

    table_since : (n : ℕ) → n < block_count blocks → get_or w₃ (p.table + n) 0 ≡ get_or w₂ (p.table + n) 0
    table_since n h = C.kept.below (p.table + n) (omega (arith, Q.laid.table_fits))

    held_since : (s : ℕ) → s < p.slots → get_or w₃ (held + s) 0 ≡ held_word (spilled (assigned_of assigned) s)
    held_since s h =
        let L = Q.laid in
        C.kept.below (held + s) (omega (arith, Q.held_fits, L.table_fits)) ∙ T.kept.below (held + s) (omega (arith, Q.held_fits)) ∙ H.inside (held + s) s refl h

    pub slots_ready : Ready blocks insts moves pieces p keys held o first w₃
    slots_ready =
        let L = Q.laid in
        record {
          sound = Q.sound;
          fine = Q.fine;
          table = record { place = λ n h. table_since n (omega (arith, blocks_length blocks)) ∙ T.table.place n h };
          laid = record { table_fits = L.table_fits; heads_fit = L.heads_fit; nexts_fit = L.nexts_fit; fits = omega (arith, L.fits, long) };
          chains = C.chains;
          order = record { keys = λ k h. front (keys + k) (omega (arith, Q.keys_fit)) ∙ Q.order.keys k h };
          few_pieces = Q.few_pieces;
          few_moves = Q.few_moves;
          areas_fit = Q.areas_fit;
          items_fit = Q.items_fit;
          keys_fit = Q.keys_fit;
          held_fits = Q.held_fits;
          fits = omega (arith, Q.fits, long);
          held_small = λ s h. omega (arith, held_since s h, Q.registers s);
        }

    pub slots_in : {w : List ℕ} {r : ℕ} → MeasuredSlots points blocks insts moves pieces p keys held o first total w₃ w r → SlotsIn points blocks insts moves pieces assigned p keys held o first total w₀ w r
    slots_in M =
        let L = Q.laid in
        record {
          kept = record {
            len = M.spared.len ∙ long;
            below = λ i h. M.spared.below i h ∙ front i (omega (arith, Q.areas_fit, Q.items_fit, Q.keys_fit));
            past = λ i h. M.spared.past i h ∙ C.kept.past i (omega (arith, L.nexts_fit)) ∙ T.kept.past i (omega (arith, blocks_length blocks, L.table_fits, L.heads_fit, L.nexts_fit)) ∙ H.after i (omega (arith, held_in));
          };
          listed = λ A B D.
              M.listed A (spilled (assigned_of assigned)) held_since B
              (listed_kept word_of o A w₃ D long Q.areas_fit (omega (arith, Q.items_fit, Q.keys_fit, held_in, Q.fits)) (λ i h. front i (omega (arith, Q.items_fit, Q.keys_fit))));
        }
