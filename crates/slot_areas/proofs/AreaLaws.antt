-- Laws of a slot's area: the order of its moves does not matter.
use Prim.Native.Nat.{ℕ, suc, ◌+◌, ◌-◌, ◌≤◌, ◌<◌}
use native.Mathlib.Omega.{arith}
use mathlib.Core.Path.{◌≡◌, refl, sym, ap, subst, ◌∙◌}
use mathlib.Core.Option.{some, none}
use mathlib.Core.List.{List, [], ◌∷◌, ◌++◌}
use lib.ListN.{length}
use Rattle.words.specs.Inner.{part, Kept}
use Rattle.words.specs.Widths.{block_count, piece_count, move_count}
use Rattle.words.proofs.RegionLaws.{length_part, kept_part_list}
use Rattle.ranges.specs.declared.Range.{Range}
use Rattle.ranges.specs.Merged.{merged, Permuted}
use Rattle.ranges.specs.Inner.{unpacked}
use Rattle.ranges.proofs.MergeLaws.{merged_permuted}
use Rattle.ranges.proofs.FormLaws.{unpacked_length}
use Rattle.packed.specs.Inner.{MergedIn}
use Rattle.graph.specs.Line.{blocks_of}
use Rattle.graph.specs.Inner.Work.{Table}
use Rattle.graph.proofs.Within.{within_trans, within_wider}
use Rattle.carrying.specs.Insts.{insts_of}
use Rattle.carrying.specs.Carried.{Piece, pieces_of, live_pieces}
use Rattle.areas.specs.Slots.{moves_of, moved, slot_area, live_area}
use Rattle.areas.proofs.PermuteLaws.{perm_refl, perm_append, perm_turn}
use Rattle.slot_spots.specs.Inner.{Laid, Chains, Fetched}
use Rattle.slot_spots.proofs.MoveLaws.{moved_permuted, table_kept, chains_kept}
use Rattle.slot_spots.specs.declared.Places.{Places}
use Rattle.live.specs.Inner.{Fetched as LiveFetched}
use Rattle.area_pieces.proofs.AreaLaws.{unpacked_both}
use Rattle.slot_areas.specs.Inner.{MovedIn, HeldIn}

-- as many ranges in another order
perm_length : {rs ss : List Range} → Permuted rs ss → length rs ≡ length ss
perm_length Permuted.none = refl
perm_length (Permuted.keep r p) = ap suc (perm_length p)
perm_length (Permuted.swap r s rs) = refl
perm_length (Permuted.then p q) = perm_length p ∙ perm_length q

no_moves : (ps : List Piece) (ms : List Range) → length ms ≡ 0 → slot_area ps none ms ≡ none
no_moves ps [] e = refl
no_moves ps (m ∷ ms) e = absurd (omega arith)

some_moves : (ps : List Piece) (ms : List Range) → 0 < length ms → slot_area ps none ms ≡ some (merged ms)
some_moves ps [] h = absurd (omega arith)
some_moves ps (m ∷ ms) h = refl

module _ {points : ℕ} {blocks insts moves : List ℕ} {slot to : ℕ} {w₀ w₁ : List ℕ} {c : ℕ} (F : Fetched points blocks insts moves slot to w₀ w₁ c)
    (top : ℕ) (e : top ≡ to + move_count moves + move_count moves) (fits : top ≤ length w₀) where
  pub perm : Permuted (unpacked (part (top - c) c w₁)) (moved points (blocks_of blocks) (insts_of insts []) (moves_of moves) slot)
  perm =
      subst (λ (rs : List Range). Permuted rs (moved points (blocks_of blocks) (insts_of insts []) (moves_of moves) slot))
      (sym (ap (λ (k : ℕ). unpacked (part (k - c) c w₁)) e ∙ F.is)) (moved_permuted points (blocks_of blocks) (insts_of insts []) (moves_of moves) slot)

  count_is : length (moved points (blocks_of blocks) (insts_of insts []) (moves_of moves) slot) ≡ c
  count_is = let a = F.few in let b = F.kept.len in
      sym (perm_length perm) ∙ unpacked_length (part (top - c) c w₁) ∙ length_part (top - c) c w₁ (omega arith)

  pub moves_none : c ≡ 0 → MovedIn points blocks insts moves slot to w₀ w₁ (record { at = top; plus = 0 })
  moves_none z = record {
    kept = F.kept;
    low = omega arith;
    high = omega arith;
    stands = λ ps. record { absent = λ _. no_moves ps (moved points (blocks_of blocks) (insts_of insts []) (moves_of moves) slot) (count_is ∙ z); present = λ k h. absurd (omega arith) };
  }

  pub moves_some : {w₂ : List ℕ} {r : ℕ} → 0 < c → length w₂ ≡ length w₁ → MergedIn w₁ w₂ (top - c) c r → MovedIn points blocks insts moves slot to w₀ w₂ (record { at = top - c; plus = r + 1 })
  moves_some {w₂} {r} h l M =
      let a = F.few in let b = M.within in
      record {
        kept = within_trans F.kept (record { len = l; below = λ i g. M.before i (omega arith); past = λ i g. M.after i (omega arith) });
        low = omega arith;
        high = omega arith;
        stands = λ ps. record {
          absent = λ z. absurd (omega arith);
          present = λ k g. let q : r ≡ k = omega arith in
              some_moves ps (moved points (blocks_of blocks) (insts_of insts []) (moves_of moves) slot) (let z = count_is in omega arith)
              ∙ ap some (sym (merged_permuted perm) ∙ sym M.is ∙ ap (λ (j : ℕ). unpacked (part (top - c) j w₂)) q);
        };
      }

-- ---- with a register

no_live : (l ms : List Range) → length l ≡ 0 → live_area l ms ≡ none
no_live [] ms e = refl
no_live (x ∷ l) ms e = absurd (omega arith)

some_live : (l ms : List Range) → 0 < length l → live_area l ms ≡ some (merged (l ++ ms))
some_live [] ms h = absurd (omega arith)
some_live (x ∷ l) ms h = refl

module _ (points : ℕ) (blocks insts moves pieces : List ℕ) (slot : ℕ) {p : Places} {register : ℕ} {w₀ w₁ : List ℕ} {n : ℕ} (D : Laid p (block_count blocks) (move_count moves) w₀)
    (top : ℕ) (e : top ≡ p.to + move_count moves + move_count moves) (fits : top + piece_count pieces ≤ length w₀) (L : LiveFetched pieces register top w₀ w₁ n) where
  pub held_table : Table (blocks_of blocks) p.table w₀ → Table (blocks_of blocks) p.table w₁
  held_table t = table_kept blocks (let a = D.table_fits in let b = D.heads_fit in let c = D.nexts_fit in omega arith) L.kept t

  pub held_laid : Laid p (block_count blocks) (move_count moves) w₁
  held_laid = let k = L.kept.len in record { table_fits = D.table_fits; heads_fit = D.heads_fit; nexts_fit = D.nexts_fit; fits = let f = D.fits in omega arith }

  pub held_chains : Chains p moves w₀ → Chains p moves w₁
  held_chains C = chains_kept D.heads_fit (λ i a b. L.kept.below i (let c = D.nexts_fit in omega arith)) C

  live_count : length (live_pieces (pieces_of pieces) register) ≡ n
  live_count = let k = L.kept.len in let q = L.count in ap length (sym L.is) ∙ unpacked_length (part top n w₁) ∙ length_part top n w₁ (omega arith)

  pub held_none : n ≡ 0 → HeldIn points blocks insts moves pieces register slot p.to w₀ w₁ (record { at = top; plus = 0 })
  held_none z = record {
    kept = within_wider p.to (p.to + move_count moves + move_count moves + piece_count pieces) (omega arith) (let q = L.count in omega arith) L.kept;
    low = omega arith;
    high = omega arith;
    stands = record { absent = λ _. no_live (live_pieces (pieces_of pieces) register) (moved points (blocks_of blocks) (insts_of insts []) (moves_of moves) slot) (live_count ∙ z); present = λ k h. absurd (omega arith) };
  }

  pub held_some : {w₂ w₃ : List ℕ} {c r : ℕ} → 0 < n → Fetched points blocks insts moves slot p.to w₁ w₂ c → length w₃ ≡ length w₂ → MergedIn w₂ w₃ (top - c) (c + n) r
      → HeldIn points blocks insts moves pieces register slot p.to w₀ w₃ (record { at = top - c; plus = r + 1 })
  held_some {w₂} {w₃} {c} {r} h F l M =
      let a = F.few in let b = M.within in let q = L.count in let k₁ = L.kept.len in let k₂ = F.kept.len in
      let K : Kept w₁ w₂ top n = record { same = λ i x y. F.kept.past i (omega arith) } in
      let z : top - c + c ≡ top = omega arith in
      let both : unpacked (part (top - c) (c + n) w₂) ≡ unpacked (part (top - c) c w₂) ++ live_pieces (pieces_of pieces) register =
      unpacked_both w₂ (top - c) c n
      ∙ ap (λ (j : ℕ). unpacked (part (top - c) c w₂) ++ unpacked (part j n w₂)) z
      ∙ ap (λ (m : List ℕ). unpacked (part (top - c) c w₂) ++ unpacked m) (kept_part_list K (omega arith) F.kept.len)
      ∙ ap (λ (m : List Range). unpacked (part (top - c) c w₂) ++ m) L.is in
      let turned : merged (unpacked (part (top - c) c w₂) ++ live_pieces (pieces_of pieces) register) ≡ merged (live_pieces (pieces_of pieces) register ++ moved points (blocks_of blocks) (insts_of insts []) (moves_of moves) slot) =
      merged_permuted (Permuted.then (perm_append (perm F top e (omega arith)) (perm_refl (live_pieces (pieces_of pieces) register)))
      (perm_turn (moved points (blocks_of blocks) (insts_of insts []) (moves_of moves) slot) (live_pieces (pieces_of pieces) register))) in
      record {
        kept = within_trans (within_wider p.to (p.to + move_count moves + move_count moves + piece_count pieces) (omega arith) (omega arith) L.kept)
            (within_trans (within_wider p.to (p.to + move_count moves + move_count moves + piece_count pieces) (omega arith) (omega arith) F.kept)
            (record { len = l; below = λ i g. M.before i (omega arith); past = λ i g. M.after i (omega arith) }));
        low = omega arith;
        high = omega arith;
        stands = record {
          absent = λ y. absurd (omega arith);
          present = λ k g. let y : r ≡ k = omega arith in
              some_live (live_pieces (pieces_of pieces) register) (moved points (blocks_of blocks) (insts_of insts []) (moves_of moves) slot) (let u = live_count in omega arith)
              ∙ ap some (sym turned ∙ ap merged (sym both) ∙ sym M.is ∙ ap (λ (j : ℕ). unpacked (part (top - c) j w₃)) y);
        };
      }
