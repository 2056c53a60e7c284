-- Where a move stands, and what it covers.
use Prim.Native.Nat.{ℕ, ◌+◌, ◌≤◌, ◌<◌}
use native.Mathlib.Omega.{arith}
use mathlib.Core.Path.{◌≡◌, refl, sym, ap, ◌∙◌}
use mathlib.Core.Logic.{◌≢◌}
use mathlib.Core.Bool.{Bool, true, false, cond, not, ◌||◌}
use mathlib.Core.List.{List, [], ◌∷◌, ◌++◌}
use lib.ListN.{length}
use lib.Dec.{eqb}
use borrow.Author.Tests.{eq-eqb, ne_eqb, leb-false}
use Rattle.refusals.specs.declared.Refusal.TheVariants.{Stray as StrayWord}
use Rattle.refusals.proofs.Laws.{scan_fine}
use Rattle.words.specs.Widths.{block_count, block_start, block_end, inst_count, move_count}
use Rattle.words.specs.Inner.{inst_early, inst_late, move_kind, move_number}
use Rattle.words.proofs.Bools.{or_neither}
use Rattle.ranges.specs.declared.Range.{Range}
use Rattle.graph.specs.declared.Block.{Block}
use Rattle.graph.specs.declared.Place.{Place}
use Rattle.graph.specs.Line.{Stretch, blocks_of, block_at, place_in, Sound}
use Rattle.graph.specs.Inner.Line.{place_of}
use Rattle.graph.proofs.Line.{blocks_length, place_lt, start_is, end_is}
use Rattle.carrying.specs.Insts.{Inst, insts_of, inst_at, is_set}
use Rattle.carrying.specs.Checks.{absent}
use Rattle.insts.proofs.DealtLaws.{insts_length, early_is, late_is}
use Rattle.areas.specs.Slots.{Move, moves_of, around, position, covering, bad_move, move_at, move_verdict}
use Rattle.move_points.specs.Inner.{position_at}
use Rattle.spill_checks.specs.declared.Position.{Position}
use Rattle.spill_checks.specs.declared.Position.TheVariants.{Early, Late, Start, End, Stray}
use Rattle.spill_checks.specs.Inner.{position_of}
use Rattle.spill_checks.proofs.CheckLaws.{kind_0, kind_1, kind_2, kind_3, move_at_lem, moves_length}
use Rattle.spill_checks.proofs.PositionLaws.{told, stray_told}
use Rattle.refusals.specs.Verdicts.{Fine}
use Rattle.std.specs.Prelude.{Some, None}

-- ---- where a move stands

-- the place of a block that is there is in the line
pub row_there : (blocks : List ℕ) → Sound (blocks_of blocks) → (b : Block) (p : Place) → b.0 < length (blocks_of blocks) → p ≡ place_of (blocks_of blocks) b
    → (p.0 ≡ place_in (blocks_of blocks) b.0) × (p.0 < block_count blocks)
row_there blocks s b p h e =
    let q : p.0 ≡ place_in (blocks_of blocks) b.0 = ap (λ (x : Place). x.0) e in
    (q, (let l = place_lt s b.0 h in let n = blocks_length blocks in omega arith))

-- a move that was accepted stands where `position` says
pub spot_is : (bs : List Stretch) (is : List Inst) (k n : ℕ) → bad_move bs is k n ≡ false → position_at bs is k n ≡ Some (position bs is k n)
spot_is bs is k n e = rw e

module _ (blocks insts : List ℕ) (k n : ℕ) where
  abbrev Here : Position
  Here = position_of (blocks_of blocks) (insts_of insts []) k n

  there : (absent (insts_of insts []) n || not (is_set (inst_at (insts_of insts []) n).placed)) ≡ false → n < inst_count insts
  there e =
      let a = (or_neither (absent (insts_of insts []) n) _ e).0 in
      let l = leb-false (length (insts_of insts [])) n a in
      let q = insts_length insts [] in
      omega arith

  -- the instruction or block of a position is there, and its field is the point
  pub at_early : (i : ℕ) → Here ≡ Early i → (i < inst_count insts) × (Some (inst_early insts i) ≡ position_at (blocks_of blocks) (insts_of insts []) k n)
  at_early i e =
      let t = told (blocks_of blocks) (insts_of insts []) k n (Early i) e (λ q. let z : ◌≡◌ {A = ℕ} 0 1 = cc in omega arith) in
      let h = there (sym (kind_0 (blocks_of blocks) (insts_of insts []) n k t.1) ∙ t.0) in
      (rw t.2 at h, ap (λ (x : ℕ). Some (inst_early insts x)) (sym t.2) ∙ ap Some (sym (early_is insts [] n h)) ∙ ap (λ (x : ℕ). Some (position (blocks_of blocks) (insts_of insts []) x n)) (sym t.1) ∙ sym (spot_is _ _ k n t.0))

  pub at_late : (i : ℕ) → Here ≡ Late i → (i < inst_count insts) × (Some (inst_late insts i) ≡ position_at (blocks_of blocks) (insts_of insts []) k n)
  at_late i e =
      let t = told (blocks_of blocks) (insts_of insts []) k n (Late i) e (λ q. let z : ◌≡◌ {A = ℕ} 0 1 = cc in omega arith) in
      let h = there (sym (kind_1 (blocks_of blocks) (insts_of insts []) n k t.1) ∙ t.0) in
      (rw t.2 at h, ap (λ (x : ℕ). Some (inst_late insts x)) (sym t.2) ∙ ap Some (sym (late_is insts [] n h)) ∙ ap (λ (x : ℕ). Some (position (blocks_of blocks) (insts_of insts []) x n)) (sym t.1) ∙ sym (spot_is _ _ k n t.0))

  pub start_there : (b : Block) → Here ≡ Start b → b.0 < length (blocks_of blocks)
  start_there b e =
      let t = told (blocks_of blocks) (insts_of insts []) k n (Start b) e (λ q. let z : ◌≡◌ {A = ℕ} 0 1 = cc in omega arith) in
      let h = leb-false (length (blocks_of blocks)) n (sym (kind_2 (blocks_of blocks) (insts_of insts []) n k t.1) ∙ t.0) in
      rw t.2 at h

  pub end_there : (b : Block) → Here ≡ End b → b.0 < length (blocks_of blocks)
  end_there b e =
      let t = told (blocks_of blocks) (insts_of insts []) k n (End b) e (λ q. let z : ◌≡◌ {A = ℕ} 0 1 = cc in omega arith) in
      let h = leb-false (length (blocks_of blocks)) n (sym (kind_3 (blocks_of blocks) (insts_of insts []) n k t.1) ∙ t.0) in
      rw t.2 at h

  pub at_start : (b : Block) (p : ℕ) → Here ≡ Start b → p ≡ place_in (blocks_of blocks) b.0 → p < block_count blocks → Some (block_start blocks p) ≡ position_at (blocks_of blocks) (insts_of insts []) k n
  at_start b p e q h =
      let t = told (blocks_of blocks) (insts_of insts []) k n (Start b) e (λ q. let z : ◌≡◌ {A = ℕ} 0 1 = cc in omega arith) in
      ap Some (sym (start_is blocks p h) ∙ ap (λ (x : ℕ). (block_at (blocks_of blocks) x).start) (q ∙ ap (place_in (blocks_of blocks)) (sym t.2)))
      ∙ ap (λ (x : ℕ). Some (position (blocks_of blocks) (insts_of insts []) x n)) (sym t.1) ∙ sym (spot_is _ _ k n t.0)

  pub at_end : (b : Block) (p : ℕ) → Here ≡ End b → p ≡ place_in (blocks_of blocks) b.0 → p < block_count blocks → Some (block_end blocks p) ≡ position_at (blocks_of blocks) (insts_of insts []) k n
  at_end b p e q h =
      let t = told (blocks_of blocks) (insts_of insts []) k n (End b) e (λ q. let z : ◌≡◌ {A = ℕ} 0 1 = cc in omega arith) in
      ap Some (sym (end_is blocks p h) ∙ ap (λ (x : ℕ). (block_at (blocks_of blocks) x).end) (q ∙ ap (place_in (blocks_of blocks)) (sym t.2)))
      ∙ ap (λ (x : ℕ). Some (position (blocks_of blocks) (insts_of insts []) x n)) (sym t.1) ∙ sym (spot_is _ _ k n t.0)

  pub at_none : Here ≡ Stray → None ≡ position_at (blocks_of blocks) (insts_of insts []) k n
  at_none e = rw (stray_told (blocks_of blocks) (insts_of insts []) k n e)

pub move_fine : (bs : List Stretch) (is : List Inst) (s : List ℕ) (i : ℕ) → move_verdict bs is (moves_of s) ≡ Fine → i < move_count s
    → bad_move bs is (move_kind s i) (move_number s i) ≡ false
move_fine bs is s i v h =
    ap (λ (m : Move). bad_move bs is m.kind m.number) (sym (move_at_lem s i h))
    ∙ scan_fine StrayWord (λ n. bad_move bs is (move_at (moves_of s) n).kind (move_at (moves_of s) n).number) (length (moves_of s)) v i (let q = moves_length s in omega arith)

-- ---- what a move covers

module _ (points : ℕ) (bs : List Stretch) (is : List Inst) (slot : ℕ) (m : Move) where
  abbrev A : Range
  A = around points (position bs is m.kind m.number)

  covered : (t u : Bool) → eqb m.to slot ≡ t → eqb m.from slot ≡ u → covering points bs is slot m ≡ cond t (A ∷ []) [] ++ cond u (A ∷ []) []
  covered t u e f = rw (e, f)

  pub covers_both : m.to ≡ slot → m.from ≡ slot → covering points bs is slot m ≡ (A ∷ []) ++ (A ∷ [])
  covers_both e f = covered true true (eq-eqb m.to slot e) (eq-eqb m.from slot f)

  pub covers_to : m.to ≡ slot → m.from ≢ slot → covering points bs is slot m ≡ A ∷ []
  covers_to e f = covered true false (eq-eqb m.to slot e) (ne_eqb m.from slot f)

  pub covers_from : m.to ≢ slot → m.from ≡ slot → covering points bs is slot m ≡ A ∷ []
  covers_from e f = covered false true (ne_eqb m.to slot e) (eq-eqb m.from slot f)

  pub covers_none : m.to ≢ slot → m.from ≢ slot → covering points bs is slot m ≡ []
  covers_none e f = covered false false (ne_eqb m.to slot e) (ne_eqb m.from slot f)

  pub covers_two : length (covering points bs is slot m) ≤ 2
  covers_two = go (eqb m.to slot) (eqb m.from slot)
    where
      go : (t u : Bool) → length (cond t (A ∷ []) [] ++ cond u (A ∷ []) []) ≤ 2
      go true true = omega arith
      go true false = omega arith
      go false true = omega arith
      go false false = omega arith

  -- the point that was found
  pub point_is : (p : ℕ) → bad_move bs is m.kind m.number ≡ false → Some p ≡ position_at bs is m.kind m.number → around points p ≡ A
  point_is p e q = ap (around points) (same_point p (position bs is m.kind m.number) (q ∙ spot_is bs is m.kind m.number e))
    where
      same_point : (a b : ℕ) → Some a ≡ Some b → a ≡ b
      same_point a b z = cc

  pub not_nowhere : bad_move bs is m.kind m.number ≡ false → None ≡ position_at bs is m.kind m.number → ⊥
  not_nowhere e q = let r = q ∙ spot_is bs is m.kind m.number e in let z : ◌≡◌ {A = ℕ} 0 1 = cc in omega arith
