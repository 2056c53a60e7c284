-- Laws of fetching: one local's touches, then its ends, which are sorted.
use Prim.Native.Nat.{ℕ, zero, suc, ◌+◌, ◌-◌, ◌*◌, ◌^◌, ◌≤◌, ◌<◌}
use native.Mathlib.Omega.{arith}
use mathlib.Core.Path.{◌≡◌, refl, ap, ◌∙◌}
use mathlib.Core.Bool.{Bool, true, false, cond}
use mathlib.Core.List.{List, [], ◌∷◌, ◌++◌}
use lib.ListN.{length, get_or}
use lib.Dec.{eqb}
use Rattle.words.specs.Sort.{sort_of}
use Rattle.words.specs.Rows.{tabulate, field}
use Rattle.words.specs.Inner.{Region, part, Kept, touch_count, touch_local, stop_count, stop_local}
use Rattle.words.specs.Widths.{touch_width, stop_width}
use Rattle.words.proofs.RegionLaws.{length_part, part_is, kept_part_list}
use Rattle.words.proofs.SortLaws.{length_sort, sorted_rising}
use Rattle.ranges.specs.declared.Range.{Range}
use Rattle.ranges.specs.Points.{range}
use Rattle.ranges.specs.Inner.{pack, unpack, unpacked}
use Rattle.ranges.proofs.FormLaws.{unpack_pack}
use Rattle.graph.specs.Inner.Work.{Within}
use Rattle.graph.proofs.Within.{within_trans, within_wider, region_within}
use Rattle.carrying.specs.Lists.{gather}
use Rattle.reach.specs.Inner.{latest}
use Rattle.chains.specs.Inner.{Walkable, Walked}
use Rattle.chains.proofs.WalkLaws.{words_are}
use Rattle.local_spots.specs.declared.Places.{Places}
use Rattle.local_spots.specs.Inner.{Laid, Chains, Fetched, word_of, word_for, words_for}
use Rattle.local_spots.proofs.ChainLaws.{chains_kept}

-- the words of touches are the touches
unpacked_words : (l n : ℕ) (r : ℕ → ℕ → ℕ) → ((i : ℕ) → i < n → r i 2 < 2 ^ 32)
    → unpacked (gather (word_for 3 l) (tabulate n r)) ≡ gather (λ f. cond (eqb (f 0) l) (range (f 1) (f 2) ∷ []) []) (tabulate n r)
unfolding gather tabulate
unpacked_words l zero r small = refl
unpacked_words l (suc n) r small = go _ (eqb (r 0 0) l) (unpacked_words l n (λ i. r (suc i)) (λ i h. small (suc i) (omega arith)))
  where
    go : (ws : List ℕ) {ts : List Range} (t : Bool) → unpacked ws ≡ ts → unpacked (cond t (pack (range (r 0 1) (r 0 2)) ∷ []) [] ++ ws) ≡ cond t (range (r 0 1) (r 0 2) ∷ []) [] ++ ts
    go ws {ts} true e = ap (λ (x : List Range). unpack (pack (range (r 0 1) (r 0 2))) ∷ x) e ∙ ap (λ (t : Range). t ∷ ts) (unpack_pack (r 0 1) (r 0 2) (small 0 (omega arith)))
    go ws false e = e

module _ {p : Places} {touches ends w₀ : List ℕ} {l : ℕ} (L : Laid p (touch_count touches) (stop_count ends) w₀) (C : Chains p touches ends w₀) (h : l < p.locals) where
  pub touches_walkable : (top : ℕ) → top ≡ p.at + touch_count touches → Walkable (λ i. touch_local touches i) (touch_count touches) l p.heads p.nexts top w₀
  touches_walkable top e =
      let a = L.heads_fit in let b = L.nexts_fit in let c = L.at_fits in let d = L.ends_fit in
      record {
        heads_fit = omega arith;
        nexts_fit = omega arith;
        top_fits = omega arith;
        head = C.touches_chain.head l h;
        next = λ i g q. C.touches_chain.next i g (omega arith) ∙ ap (λ (m : ℕ). latest (λ j. touch_local touches j) m i) q;
      }

  module _ {w₁ : List ℕ} {top count : ℕ} (e : top ≡ p.at + touch_count touches) (A : Walked (λ i. touch_local touches i) (λ i. word_of 3 (field touch_width touches i)) (touch_count touches) l top w₀ w₁ count) where
    kept₁ : Within p.at p.ends w₀ w₁
    kept₁ = let c = L.at_fits in within_wider p.at p.ends (omega arith) (omega arith) A.kept

    pub ends_walkable : (last : ℕ) → last ≡ p.ends + stop_count ends → Walkable (λ i. stop_local ends i) (stop_count ends) l (p.heads + p.locals) (p.nexts + touch_count touches) last w₁
    ends_walkable last f =
        let a = L.heads_fit in let b = L.nexts_fit in let c = L.at_fits in let d = L.ends_fit in let k = kept₁.len in
        let D : Chains p touches ends w₁ = chains_kept L.heads_fit (λ i x y. kept₁.below i (omega arith)) C in
        record {
          heads_fit = omega arith;
          nexts_fit = omega arith;
          top_fits = omega arith;
          head = D.ends_chain.head l h;
          next = λ i g q. D.ends_chain.next i g (omega arith) ∙ ap (λ (m : ℕ). latest (λ j. stop_local ends j) m i) q;
        }

    module _ {w₂ w₃ : List ℕ} {last stops : ℕ} (f : last ≡ p.ends + stop_count ends) (B : Walked (λ i. stop_local ends i) (λ i. word_of 2 (field stop_width ends i)) (stop_count ends) l last w₁ w₂ stops)
        (R : Region w₂ w₃ (last - stops) stops (λ i. get_or (sort_of (part (last - stops) stops w₂)) i 0)) where
      pub ends_fit : last - stops + stops ≤ length w₂
      ends_fit = let d = L.ends_fit in let k = kept₁.len in let m = B.kept.len in let n = B.few in omega arith

      pub fetched : ((i : ℕ) → get_or touches i 0 < 2 ^ 32) → (at first : ℕ) → at ≡ top - count → first ≡ last - stops
          → Fetched p touches ends l w₀ w₃ (record { at = at; count = count; ends = first; stops = stops })
      fetched small at first x y = rw (x, y) whole
        where
          kept₃ : Within p.ends (p.ends + stop_count ends) w₁ w₃
          kept₃ = let n = B.few in within_trans (within_wider p.ends (p.ends + stop_count ends) (omega arith) (omega arith) B.kept)
              (within_wider p.ends (p.ends + stop_count ends) (omega arith) (omega arith) (region_within R))

          all : Within p.at (p.ends + stop_count ends) w₀ w₃
          all = let c = L.at_fits in within_trans (within_wider p.at (p.ends + stop_count ends) (omega arith) (omega arith) kept₁)
              (within_wider p.at (p.ends + stop_count ends) (omega arith) (omega arith) kept₃)

          -- the touches have stood since the first walk
          touches-part : part (top - count) count w₃ ≡ words_for touch_width touches l
          touches-part =
              let c = L.at_fits in let d = L.ends_fit in let n = A.few in let k = kept₁.len in
              let K : Kept w₁ w₃ (top - count) count = record { same = λ i a b. kept₃.below i (omega arith) } in
              kept_part_list K (omega arith) kept₃.len ∙ A.words ∙ words_are l (word_for 3 l) (field touch_width touches) (λ i. touch_local touches i) (λ i. word_of 3 (field touch_width touches i)) (touch_count touches) (λ i. refl)

          sorted : part (last - stops) stops w₃ ≡ sort_of (part (last - stops) stops w₂)
          sorted = part_is (last - stops) stops w₃ (sort_of (part (last - stops) stops w₂)) (let z = R.len in omega (arith, ends_fit))
              (length_sort (part (last - stops) stops w₂) ∙ length_part (last - stops) stops w₂ ends_fit) (λ i g. R.inside (last - stops + i) i refl g)

          whole : Fetched p touches ends l w₀ w₃ (record { at = top - count; count = count; ends = last - stops; stops = stops })
          whole = record {
            kept = all;
            touches_are = ap unpacked touches-part ∙ unpacked_words l (touch_count touches) (field touch_width touches) (λ i g. small (touch_width * i + 2));
            ends_are = sorted ∙ ap sort_of (B.words ∙ words_are l (word_for 2 l) (field stop_width ends) (λ i. stop_local ends i) (λ i. word_of 2 (field stop_width ends i)) (stop_count ends) (λ i. refl));
            stand = record {
              touches_fit = let c = L.at_fits in let d = L.ends_fit in let n = A.few in let k = all.len in omega arith;
              ends_fit = let z = R.len in omega (arith, ends_fit);
              rising = sorted_rising (part (last - stops) stops w₂) w₃ (last - stops) stops (let z = length_part (last - stops) stops w₂ ends_fit in omega arith) (λ i g. R.inside (last - stops + i) i refl g);
            };
            touches_low = let n = A.few in omega arith;
            touches_high = let n = A.few in omega arith;
            ends_low = let n = B.few in omega arith;
            ends_high = let n = B.few in omega arith;
          }
