-- Laws of the moves of a slot: the chains, and what the two walks write.
use Prim.Native.Nat.{ℕ, zero, suc, ◌+◌, ◌-◌, ◌^◌, ◌≤◌, ◌<◌, min}
use native.Mathlib.Omega.{arith}
use mathlib.Core.Path.{◌≡◌, refl, sym, ap, subst, ◌∙◌}
use mathlib.Core.Logic.{inl, inr}
use mathlib.Core.Bool.{Bool, true, false, cond}
use mathlib.Core.List.{List, [], ◌∷◌, ◌++◌, append_assoc}
use lib.ListN.{get_or, take, drop}
use lib.Seq.{take-add, drop-drop}
use lib.Dec.{eqb}
use Rattle.words.specs.Rows.{tabulate}
use Rattle.words.specs.Inner.{Region, part, Kept, move_to, move_from}
use Rattle.words.specs.Widths.{block_count, move_count}
use Rattle.words.proofs.RegionLaws.{kept_part_list}
use Rattle.ranges.specs.declared.Range.{Range}
use Rattle.ranges.specs.Points.{range}
use Rattle.ranges.specs.Inner.{pack, unpack, unpacked}
use Rattle.ranges.proofs.FormLaws.{map_append, unpack_pack}
use Rattle.ranges.specs.Merged.{Permuted}
use Rattle.graph.specs.Line.{Stretch, blocks_of}
use Rattle.graph.specs.Inner.Work.{Within, Table}
use Rattle.graph.proofs.Line.{blocks_length}
use Rattle.graph.proofs.Within.{within_trans, within_wider}
use Rattle.carrying.specs.Lists.{gather}
use Rattle.carrying.specs.Insts.{Inst, insts_of}
use Rattle.areas.specs.Slots.{Move, moves_of, moved, bad_move}
use Rattle.areas.proofs.PermuteLaws.{perm_refl, perm_front, perm_exchange}
use Rattle.reach.specs.Inner.{latest}
use Rattle.move_points.specs.Inner.{position_at, move_row}
use Rattle.move_points.proofs.MoveLaws.{point_is}
use Rattle.chains.specs.Inner.{Linked, Walkable, words_of, Walked}
use Rattle.chains.proofs.ChainLaws.{chain_kept}
use Rattle.chains.proofs.WalkLaws.{words_are}
use Rattle.slot_spots.specs.declared.Places.{Places}
use Rattle.slot_spots.specs.Inner.{cover_of, moved_to, moved_from, Laid, Chains, Chained, Fetched}
use Rattle.std.specs.Prelude.{Some}

-- ---- the chains

-- both chains, where all of the heads and of what stands before has stayed
pub chains_kept : {p : Places} {moves : List ℕ} {w w' : List ℕ} → p.heads + p.slots + p.slots ≤ p.nexts
    → ((i : ℕ) → p.heads ≤ i → i < p.nexts + move_count moves + move_count moves → get_or w' i 0 ≡ get_or w i 0) → Chains p moves w → Chains p moves w'
chains_kept h s C = record {
  to_chain = chain_kept C.to_chain (λ i a b. s i a (omega arith)) (λ i a b. s i (omega arith) (omega arith));
  from_chain = chain_kept C.from_chain (λ i a b. s i (omega arith) (omega arith)) (λ i a b. s i (omega arith) (omega arith));
}

module _ (p : Places) (moves : List ℕ) (q : p.heads + p.slots + p.slots ≤ p.nexts) {w₀ w₁ : List ℕ} (Z : Region w₀ w₁ p.heads (p.slots + p.slots) (λ _. 0)) where
  pub to_none : (l : ℕ) → l < p.slots → get_or w₁ (p.heads + l) 0 ≡ 0
  to_none l h = Z.inside (p.heads + l) l refl (omega arith)

  module _ {w₂ : List ℕ} (A : Linked (λ i. move_to moves i) (move_count moves) p.slots p.heads p.nexts w₁ w₂) where
    pub from_none : (l : ℕ) → l < p.slots → get_or w₂ (p.heads + p.slots + l) 0 ≡ 0
    from_none l h =
        A.outside (p.heads + p.slots + l) (inr (omega arith)) (inl (omega arith)) ∙ Z.inside (p.heads + p.slots + l) (p.slots + l) (omega arith) (omega arith)

    pub chained : {w₃ : List ℕ} → Linked (λ i. move_from moves i) (move_count moves) p.slots (p.heads + p.slots) (p.nexts + move_count moves) w₂ w₃ → Chained p moves w₀ w₃
    chained B = record {
      kept = record {
        len = B.len ∙ A.len ∙ Z.len;
        below = λ i h. B.outside i (inl (omega arith)) (inl (omega arith)) ∙ A.outside i (inl (omega arith)) (inl (omega arith)) ∙ Z.before i (omega arith);
        past = λ i h. B.outside i (inr (omega arith)) (inr (omega arith)) ∙ A.outside i (inr (omega arith)) (inr (omega arith)) ∙ Z.after i (omega arith);
      };
      chains = record {
        to_chain = chain_kept A.chain (λ i a b. B.outside i (inl (omega arith)) (inl (omega arith))) (λ i a b. B.outside i (inr (omega arith)) (inl (omega arith)));
        from_chain = B.chain;
      };
    }

-- ---- one slot's moves

-- the table, where nothing before `lo` has changed
pub table_kept : (blocks : List ℕ) {at lo hi : ℕ} {w w' : List ℕ} → at + block_count blocks ≤ lo → Within lo hi w w' → Table (blocks_of blocks) at w → Table (blocks_of blocks) at w'
table_kept blocks {at} h k t = record { place = λ n g. k.below (at + n) (let z = blocks_length blocks in omega arith) ∙ t.place n g }

-- a move's cover, by the point that was found
pub cover_is : (points : ℕ) (bs : List Stretch) (is : List Inst) (m : Move) (p s e x : ℕ) → bad_move bs is m.kind m.number ≡ false → Some p ≡ position_at bs is m.kind m.number
    → s ≡ p - 1 → e ≡ min (p + 1) points → x ≡ pack (range s e) → x ≡ pack (cover_of points bs is m)
cover_is points bs is m p s e x fine at es ee ex =
    ex ∙ ap (λ (k : ℕ). pack (range k e)) es ∙ ap (λ (k : ℕ). pack (range (p - 1) k)) ee ∙ ap pack (point_is points bs is 0 m p fine at)

-- the words of covers are the covers
unpacked_words : (points : ℕ) (bs : List Stretch) (is : List Inst) (key : Move → ℕ) (s n : ℕ) (r : ℕ → Move) → points < 2 ^ 32
    → unpacked (gather (λ m. cond (eqb (key m) s) (pack (cover_of points bs is m) ∷ []) []) (tabulate n r)) ≡ gather (λ m. cond (eqb (key m) s) (cover_of points bs is m ∷ []) []) (tabulate n r)
unfolding gather tabulate
unpacked_words points bs is key s zero r small = refl
unpacked_words points bs is key s (suc n) r small = go _ (eqb (key (r 0)) s) (unpacked_words points bs is key s n (λ i. r (suc i)) small)
  where
    go : (ws : List ℕ) {ts : List Range} (t : Bool) → unpacked ws ≡ ts → unpacked (cond t (pack (cover_of points bs is (r 0)) ∷ []) [] ++ ws) ≡ cond t (cover_of points bs is (r 0) ∷ []) [] ++ ts
    go ws {ts} true e =
        ap (λ (x : List Range). unpack (pack (cover_of points bs is (r 0))) ∷ x) e
        ∙ ap (λ (t : Range). t ∷ ts) (unpack_pack (cover_of points bs is (r 0)).start (cover_of points bs is (r 0)).end (omega arith))
    go ws false e = e

-- a part that reaches from one part over the next
part_join : (a m n : ℕ) (w : List ℕ) → part a (m + n) w ≡ part a m w ++ part (a + m) n w
part_join a m n w = take-add m n (drop a w) ∙ ap (λ (k : List ℕ). part a m w ++ take n k) (drop-drop m a w)

-- what is gathered from both ends of each move, and from one end of all and then from the other
gather_two : {A : Type 0} (f g : A → List Range) (l : List A) → Permuted (gather g l ++ gather f l) (gather (λ a. f a ++ g a) l)
unfolding gather
gather_two f g [] = perm_refl []
gather_two f g (a ∷ l) = step (f a) (g a) (gather f l) (gather g l) (gather_two f g l)
  where
    step : (x y xs ys : List Range) {zs : List Range} → Permuted (ys ++ xs) zs → Permuted ((y ++ ys) ++ (x ++ xs)) ((x ++ y) ++ zs)
    step x y xs ys {zs} q =
        subst (λ (k : List Range). Permuted k ((x ++ y) ++ zs)) (sym (append_assoc y ys (x ++ xs)))
        (subst (λ (k : List Range). Permuted (y ++ (ys ++ (x ++ xs))) k) (sym (append_assoc x y zs))
        (Permuted.then (perm_front y (perm_exchange ys x xs)) (Permuted.then (perm_exchange y x (ys ++ xs)) (perm_front x (perm_front y q)))))

-- the moves from a slot and the moves to it are those of `moved`, whatever the order
pub moved_permuted : (points : ℕ) (bs : List Stretch) (is : List Inst) (ms : List Move) (s : ℕ)
    → Permuted (moved_from points bs is ms s ++ moved_to points bs is ms s) (moved points bs is ms s)
moved_permuted points bs is ms s =
    gather_two (λ m. cond (eqb m.to s) (cover_of points bs is m ∷ []) []) (λ m. cond (eqb m.from s) (cover_of points bs is m ∷ []) []) ms

module _ (blocks : List ℕ) {p : Places} {moves w₀ : List ℕ} {slot : ℕ} (L : Laid p (block_count blocks) (move_count moves) w₀) (C : Chains p moves w₀) (h : slot < p.slots) where
  pub to_walkable : (top : ℕ) → top ≡ p.to + move_count moves + move_count moves → Walkable (λ i. move_to moves i) (move_count moves) slot p.heads p.nexts top w₀
  to_walkable top e =
      let a = L.heads_fit in let b = L.nexts_fit in let c = L.fits in
      record {
        heads_fit = omega arith;
        nexts_fit = omega arith;
        top_fits = omega arith;
        head = C.to_chain.head slot h;
        next = λ i g q. C.to_chain.next i g (omega arith) ∙ ap (λ (m : ℕ). latest (λ j. move_to moves j) m i) q;
      }

  module _ {v : ℕ → ℕ} {w₁ : List ℕ} {top count : ℕ} (e : top ≡ p.to + move_count moves + move_count moves)
      (A : Walked (λ i. move_to moves i) v (move_count moves) slot top w₀ w₁ count) where
    kept₁ : Within p.to (p.to + move_count moves + move_count moves) w₀ w₁
    kept₁ = within_wider p.to (p.to + move_count moves + move_count moves) (omega arith) (omega arith) A.kept

    pub from_table : Table (blocks_of blocks) p.table w₀ → Table (blocks_of blocks) p.table w₁
    from_table t = let a = L.table_fits in let b = L.heads_fit in let c = L.nexts_fit in table_kept blocks (omega arith) kept₁ t

    pub from_walkable : (last : ℕ) → last ≡ top - count → Walkable (λ i. move_from moves i) (move_count moves) slot (p.heads + p.slots) (p.nexts + move_count moves) last w₁
    from_walkable last f =
        let a = L.heads_fit in let b = L.nexts_fit in let c = L.fits in let k = kept₁.len in let n = A.few in
        let D : Chains p moves w₁ = chains_kept L.heads_fit (λ i x y. kept₁.below i (omega arith)) C in
        record {
          heads_fit = omega arith;
          nexts_fit = omega arith;
          top_fits = omega arith;
          head = D.from_chain.head slot h;
          next = λ i g q. D.from_chain.next i g (omega arith) ∙ ap (λ (m : ℕ). latest (λ j. move_from moves j) m i) q;
        }

    module _ {w₂ : List ℕ} {last more : ℕ} (f : last ≡ top - count) (points : ℕ) (insts : List ℕ)
        (v-is : v ≡ (λ i. pack (cover_of points (blocks_of blocks) (insts_of insts []) (move_row moves i))))
        (B : Walked (λ i. move_from moves i) v (move_count moves) slot last w₁ w₂ more) where
      pub fetched : points < 2 ^ 32 → (r : ℕ) → r ≡ count + more → Fetched points blocks insts moves slot p.to w₀ w₂ r
      fetched small r e₂ = record { kept = all; few = let a = A.few in let b = B.few in omega arith; is = whole }
        where
          all : Within p.to (p.to + move_count moves + move_count moves) w₀ w₂
          all = let a = A.few in within_trans kept₁ (within_wider p.to (p.to + move_count moves + move_count moves) (omega arith) (omega arith) B.kept)

          to-words : unpacked (part (top - count) count w₂) ≡ moved_to points (blocks_of blocks) (insts_of insts []) (moves_of moves) slot
          to-words =
              let a = A.few in let c = L.fits in let k = kept₁.len in
              let K : Kept w₁ w₂ (top - count) count = record { same = λ i x y. B.kept.past i (omega arith) } in
              ap unpacked (kept_part_list K (omega arith) B.kept.len ∙ A.words ∙ ap (λ (u : ℕ → ℕ). words_of (λ i. move_to moves i) u slot (move_count moves)) v-is
              ∙ words_are slot (λ (m : Move). cond (eqb m.to slot) (pack (cover_of points (blocks_of blocks) (insts_of insts []) m) ∷ []) []) (move_row moves) (λ i. move_to moves
              i) (λ i. pack (cover_of points (blocks_of blocks) (insts_of insts []) (move_row moves i))) (move_count moves) (λ i. refl))
              ∙ unpacked_words points (blocks_of blocks) (insts_of insts []) (λ m. m.to) slot (move_count moves) (move_row moves) small

          from-words : unpacked (part (last - more) more w₂) ≡ moved_from points (blocks_of blocks) (insts_of insts []) (moves_of moves) slot
          from-words =
              ap unpacked (B.words ∙ ap (λ (u : ℕ → ℕ). words_of (λ i. move_from moves i) u slot (move_count moves)) v-is
              ∙ words_are slot (λ (m : Move). cond (eqb m.from slot) (pack (cover_of points (blocks_of blocks) (insts_of insts []) m) ∷ []) []) (move_row moves) (λ i. move_from
              moves i) (λ i. pack (cover_of points (blocks_of blocks) (insts_of insts []) (move_row moves i))) (move_count moves) (λ i. refl))
              ∙ unpacked_words points (blocks_of blocks) (insts_of insts []) (λ m. m.from) slot (move_count moves) (move_row moves) small

          whole : unpacked (part (p.to + move_count moves + move_count moves - r) r w₂) ≡ moved_from points (blocks_of blocks) (insts_of insts []) (moves_of moves) slot ++ moved_to points (blocks_of blocks) (insts_of insts []) (moves_of moves) slot
          whole =
              let a = A.few in let b = B.few in let c = L.fits in let k = all.len in
              let x : p.to + move_count moves + move_count moves - r ≡ last - more = omega arith in
              let y : r ≡ more + count = omega arith in
              let z : last - more + more ≡ top - count = omega arith in
              ap (λ (j : ℕ). unpacked (part j r w₂)) x
              ∙ ap (λ (j : ℕ). unpacked (part (last - more) j w₂)) y
              ∙ ap unpacked (part_join (last - more) more count w₂)
              ∙ map_append unpack (part (last - more) more w₂) (part (last - more + more) count w₂)
              ∙ ap (λ (j : ℕ). unpacked (part (last - more) more w₂) ++ unpacked (part j count w₂)) z
              ∙ ap (λ (l : List Range). l ++ unpacked (part (top - count) count w₂)) from-words
              ∙ ap (λ (l : List Range). moved_from points (blocks_of blocks) (insts_of insts []) (moves_of moves) slot ++ l) to-words
