-- The entry `moved`: what a verdict without refusal says, and its two ways out.
use Prim.Native.Nat.{ℕ, ◌+◌, ◌*◌, ◌%◌, ◌≤◌}
use native.Mathlib.Omega.{arith}
use mathlib.Core.Path.{◌≡◌, refl, sym, ap, ◌∙◌}
use mathlib.Core.Bool.{not}
use mathlib.Core.List.{List, [], ◌∷◌, ◌++◌}
use lib.ListN.{length, drop, replicate, length-replicate}
use lib.Dec.{eqb}
use borrow.Author.Tests.{eq-eqb, ne_eqb}
use Rattle.refusals.specs.declared.Refusal.{Refusal}
use Rattle.refusals.specs.declared.Refusal.TheVariants.{Count}
use Rattle.refusals.specs.Verdicts.{first, in_order, check, Bad, Fine, Verdict}
use Rattle.refusals.specs.Outcomes.{given}
use Rattle.refusals.proofs.Laws.{first_fine, first_bad, first_left, first_right, first_assoc, bad_fine, check_last}
use Rattle.words.specs.Regions.{cleared}
use Rattle.words.specs.Widths.{block_count, inst_count, operand_count, move_width, move_count, range_width}
use Rattle.words.proofs.Points.{cut}
use Rattle.words.proofs.RegionLaws.{drop_same}
use Rattle.ranges.specs.declared.Range.{Range}
use Rattle.graph.specs.Line.{blocks_of, line_verdict, Sound}
use Rattle.graph.specs.Inner.Work.{Within}
use Rattle.graph.proofs.Line.{blocks_length, line_sound}
use Rattle.carrying.specs.Insts.{insts_of}
use Rattle.carrying.specs.Checks.{inst_verdict}
use Rattle.insts.specs.Counts.{rows_verdict, most_verdict, block_counts, inst_counts}
use Rattle.insts.specs.Rows.{AddsUp}
use Rattle.insts.proofs.CheckLaws.{most_few, rows_few, blocks_few, blocks_some, insts_counted}
use Rattle.refusals.proofs.RoomLaws.{room_answer, room_work}
use Rattle.areas.specs.Slots.{moves_of, moved, move_verdict}
use Rattle.moved_ranges.specs.Moved.{rows_of, Wrote, moved_counts, moved_space, moved_room, moved_verdict, moved_of, MovedTo}
use Rattle.move_covers.proofs.MovedLaws.{rows_length}
use Rattle.spill_checks.proofs.OperandLaws.{moves_whatever, moved_whatever}
use Rattle.std.specs.Prelude.{Ok, Err}

-- ---- the checks

-- an answer list that is no whole rows
module _ (lent : ℕ) where
  pub odd_rows : (lent % 2 ≡ 0 → ⊥) → Bad Count 0 ≡ check Count (not (eqb (lent % 2) 0))
  odd_rows d = simp (ne_eqb (lent % 2) 0 d)

  pub whole_rows_lem : lent % 2 ≡ 0 → Fine ≡ check Count (not (eqb (lent % 2) 0))
  whole_rows_lem e = simp (eq-eqb (lent % 2) 0 e)

module _ (v : ℕ) (blocks insts operands moves : List ℕ) (lent : ℕ) where
  pub counts_chain : {a b c d e f g h r : Verdict} → a ≡ most_verdict 65535 v → b ≡ block_counts blocks → c ≡ inst_counts insts operands → d ≡ rows_verdict move_width 65536 (length moves)
      → e ≡ check Count (not (eqb (lent % 2) 0)) → f ≡ first d e → g ≡ first c f → h ≡ first b g → r ≡ first a h → r ≡ moved_counts v blocks insts operands moves lent
  unfolding moved_counts
  counts_chain ea eb ec ed ee ef eg eh er = cc

  pub record Counted : Type 0 where
    pub registers : v ≤ 65535
    pub some : 1 ≤ block_count blocks
    pub few : block_count blocks ≤ 4096
    pub few_insts : inst_count insts ≤ 65536
    pub few_operands : operand_count operands ≤ 262144
    pub few_moves : move_count moves ≤ 65536
    pub adds : AddsUp insts operands

  pub counted : moved_counts v blocks insts operands moves lent ≡ Fine → Counted
  unfolding moved_counts
  counted e =
      let a = first_left (most_verdict 65535 v) _ e in
      let b = first_right (most_verdict 65535 v) _ e in
      let c = first_left (block_counts blocks) _ b in
      let d = first_right (block_counts blocks) _ b in
      let i = insts_counted insts operands (first_left (inst_counts insts operands) _ d) in
      record {
        registers = most_few 65535 v a;
        some = blocks_some blocks c;
        few = blocks_few blocks c;
        few_insts = i.few;
        few_operands = i.few_operands;
        few_moves = rows_few move_width 65536 (length moves) (first_left _ _ (first_right (inst_counts insts operands) _ d));
        adds = i.adds;
      }

-- the checks in the order in which the code joins them
joined : (c l i m r : Verdict) → in_order (c ∷ l ∷ i ∷ m ∷ r ∷ []) ≡ first c (first (first l i) (first m r))
unfolding in_order
joined c l i m r = ap (first c) (ap (λ (x : Verdict). first l (first i (first m x))) (check_last r) ∙ sym (first_assoc l i (first m r)))

module _ (points v : ℕ) (blocks insts operands moves : List ℕ) (lent work : ℕ) where
  abbrev Located : Verdict
  Located = first (line_verdict (blocks_of blocks) points) (inst_verdict (blocks_of blocks) v (insts_of insts operands))

  all_checks : moved_verdict points v blocks insts operands moves lent work
      ≡ first (moved_counts v blocks insts operands moves lent) (first Located (first (move_verdict (blocks_of blocks) (insts_of insts operands) (moves_of moves))
      (moved_room lent (move_count moves) work (moved_space v blocks insts operands moves))))
  unfolding moved_verdict
  all_checks = joined _ _ _ _ _

  pub by_counts : (r : Refusal) (i : ℕ) → moved_counts v blocks insts operands moves lent ≡ Bad r i → Bad r i ≡ moved_verdict points v blocks insts operands moves lent work
  by_counts r i e = sym (all_checks ∙ first_bad _ _ r i e)

  pub by_place : (r : Refusal) (i : ℕ) → moved_counts v blocks insts operands moves lent ≡ Fine → Located ≡ Bad r i → Bad r i ≡ moved_verdict points v blocks insts operands moves lent work
  by_place r i e f = sym (all_checks ∙ first_fine _ _ e ∙ first_bad _ _ r i f)

  pub by_moves : {a b r : Verdict} → moved_counts v blocks insts operands moves lent ≡ Fine → Located ≡ Fine
      → a ≡ move_verdict (blocks_of blocks) (insts_of insts []) (moves_of moves) → b ≡ moved_room lent (move_count moves) work (moved_space v blocks insts operands moves)
      → r ≡ first a b → r ≡ moved_verdict points v blocks insts operands moves lent work
  by_moves {a} {b} {r} e f p q z =
      z ∙ ap (λ (x : Verdict). first x b) (p ∙ moves_whatever (blocks_of blocks) insts operands moves)
      ∙ ap (first (move_verdict (blocks_of blocks) (insts_of insts operands) (moves_of moves))) q
      ∙ sym (all_checks ∙ first_fine _ _ e ∙ first_fine _ _ f)

  -- what no refusal says
  pub record Fit : Type 0 where
    pub counts : Counted v blocks insts operands moves lent
    pub sound : Sound (blocks_of blocks)
    pub moves_fine : move_verdict (blocks_of blocks) (insts_of insts []) (moves_of moves) ≡ Fine
    pub answer : 4 * move_count moves ≤ lent
    pub space : moved_space v blocks insts operands moves ≤ work

  pub fit : moved_verdict points v blocks insts operands moves lent work ≡ Fine → Fit
  fit e =
      let a = first_left (moved_counts v blocks insts operands moves lent) _ (sym all_checks ∙ e) in
      let b = first_right (moved_counts v blocks insts operands moves lent) _ (sym all_checks ∙ e) in
      let c = first_left Located _ b in
      let d = first_right Located _ b in
      let k = counted v blocks insts operands moves lent a in
      let m = first_left (move_verdict (blocks_of blocks) (insts_of insts operands) (moves_of moves)) _ d in
      let s = first_right (move_verdict (blocks_of blocks) (insts_of insts operands) (moves_of moves)) (moved_room lent (move_count moves) work (moved_space v blocks insts operands moves)) d in
      let p = cut {A = 4 * move_count moves ≤ lent} (4 * move_count moves) lent (λ h. h) (λ h. absurd (bad_fine (room_answer lent (4 * move_count moves) work (moved_space v blocks insts operands moves) h ∙ s))) in
      record {
        counts = k;
        sound = line_sound (blocks_of blocks) points (let n = blocks_length blocks in let q = k.some in omega arith) (first_left _ _ c);
        moves_fine = moves_whatever (blocks_of blocks) insts operands moves ∙ m;
        answer = p;
        space = cut (moved_space v blocks insts operands moves) work (λ h. h)
            (λ h. absurd (bad_fine (room_work lent (4 * move_count moves) work (moved_space v blocks insts operands moves) p h ∙ s)));
      }

-- ---- the two ways out

rows_none : (o : List ℕ) → o ≡ rows_of [] ++ drop (2 * 0) o
unfolding rows_of
rows_none o = refl

module _ (points v : ℕ) (blocks insts operands moves : List ℕ) (slot : ℕ) (out₀ work₀ : List ℕ) where
  pub moved_refused : (r : Refusal) (i : ℕ) → moved_verdict points v blocks insts operands moves (length out₀) (length work₀) ≡ Bad r i
      → MovedTo points v blocks insts operands moves slot out₀ work₀ (Err (r, i)) out₀ work₀
  moved_refused r i e = record { outcome = rw e; list = rw e; space = rw e }

  pub moved_given : {out work₁ work : List ℕ} {n : ℕ} → moved_verdict points v blocks insts operands moves (length out₀) (length work₀) ≡ Fine
      → Within 0 (0 + length (blocks_of blocks)) work₀ work₁ → Wrote out₀ out 0 n (moved points (blocks_of blocks) (insts_of insts []) (moves_of moves) slot)
      → (words : ℕ) → words ≡ moved_space v blocks insts operands moves → work ≡ cleared words work₁ → MovedTo points v blocks insts operands moves slot out₀ work₀ (Ok n) out work
  moved_given {out} {work₁} {work} {n} e k w words d c =
      let same : moved points (blocks_of blocks) (insts_of insts []) (moves_of moves) slot ≡ moved_of points blocks insts operands moves slot
      = moved_whatever (blocks_of blocks) insts operands points slot (moves_of moves) in
      let l = w.count in
      let f : n ≡ length (moved_of points blocks insts operands moves slot) = (let z : n ≡ length (moved points (blocks_of blocks) (insts_of insts []) (moves_of moves) slot) = omega arith in z ∙ ap length same) in
      let g : range_width * n ≡ length (rows_of (moved_of points blocks insts operands moves slot)) = ap (λ (x : ℕ). range_width * x) f ∙ sym (rows_length (moved_of points blocks insts operands moves slot)) in
      record {
        outcome = rw e (ap given f);
        list = rw e (w.list [] out₀ refl refl (rows_none out₀) ∙ ap (λ (rs : List Range). rows_of rs ++ drop (range_width * n) out₀) same
            ∙ ap (λ (x : ℕ). rows_of (moved_of points blocks insts operands moves slot) ++ drop x out₀) g);
        space = rw e (c ∙ ap (λ (x : ℕ). cleared x work₁) d ∙ ap (λ (t : List ℕ). replicate (moved_space v blocks insts operands moves) 0 ++ t) rest
            ∙ ap (λ (x : ℕ). replicate (moved_space v blocks insts operands moves) 0 ++ drop x work₀) (sym (length-replicate (moved_space v blocks insts operands moves) 0)));
      }
    where
      rest : drop (moved_space v blocks insts operands moves) work₁ ≡ drop (moved_space v blocks insts operands moves) work₀
      rest = drop_same (moved_space v blocks insts operands moves) work₀ work₁ k.len (λ i h. k.past i (let n = blocks_length blocks in omega arith))
