-- Document 02, (i): number 8 has no input. Every range that is computed on a checked job's way starts no later than it ends.
use Prim.Native.Nat.{ℕ, zero, suc, pred, ◌-◌, ◌≤◌, ◌<◌}
use native.Mathlib.Omega.{arith}
use mathlib.Core.Path.{◌≡◌, refl}
use mathlib.Core.Bool.{Bool, true, false, cond, true≢false}
use mathlib.Core.List.Memᴰ
use mathlib.Core.List.{List, [], ◌∷◌, ◌++◌, map, Memᴰ}
use lib.ListN.{length}
use lib.Dec.{eqb, leb, ltb}
use borrow.Author.Tests.{ltb-true, ltb-false, leb-false, eq-eqb, not-false}
use Rattle.words.proofs.Bools.{or_neither}
use Rattle.refusals.specs.declared.Refusal.TheVariants.{Line, Stray}
use Rattle.refusals.proofs.Laws.{scan_fine}
use Rattle.ranges.specs.declared.Range.{Range}
use Rattle.ranges.specs.Points.{range, Upright}
use Rattle.ranges.proofs.PointLaws.{upright_none, upright_cons, upright_append}
use Rattle.graph.specs.Line.{Sound, Stretch, block_at, used_before, place_in, bad_block, past_points, gap_at}
use Rattle.graph.proofs.Line.{place_lt, at_mem}
use Rattle.carrying.specs.Lists.{keep, gather}
use Rattle.carrying.specs.Carried.{ends_of}
use Rattle.carrying.proofs.ListLaws.{of_kept, of_gathered}
use Rattle.areas.specs.Blocks.{Graph, top, bottom, whole, block_of, bounds, clip, until, cover, AllInLine}
use Rattle.areas.specs.Pieces.{through}
use Rattle.areas.specs.Slots.{Move, position, around, covering, moved, bad_move, move_at, move_verdict}
use Rattle.areas.specs.Job.{Job, Checked, graph_of, touches_in}
use Rattle.areas.specs.Upright.{UprightOf, UprightIn}
use Rattle.areas.proofs.BlockLaws.{clip_up, block_below, bottoms}
use Rattle.areas.proofs.PlainLaws.{clip_fits, span_upright}
use Rattle.areas.proofs.EndLaws.{until_has}
use Rattle.areas.proofs.JobLaws.{order_first, order_rest, line_fine, job_line, live_in, touches_in_lem, placed_in_lem}
use Rattle.refusals.specs.Verdicts.{Fine}

-- every range of lists put one after another
gather_upright : {A : Type 0} (f : A → List Range) (l : List A) → ((a : A) → Memᴰ a l → Upright (f a)) → Upright (gather f l)
gather_upright f l u r m =
    let (a, n, k) = of_gathered f l r m in
    u a n r k

module _ (G : Graph) (S : Sound G.blocks) (ts : List Range) (fine : AllInLine G.blocks ts) where
  through_upright : (t : Range) → Upright (through G t)
  through_upright t = go (ltb (suc (block_of G t.start)) (block_of G t.end)) refl
    where
      go : (u : Bool) → ltb (suc (block_of G t.start)) (block_of G t.end) ≡ u
          → Upright (cond u (range (top G (suc (block_of G t.start))) (bottom G (pred (block_of G t.end))) ∷ []) [])
      go true e =
          let h : suc (block_of G t.start) < block_of G t.end = ltb-true _ _ e in
          let l = block_below G S t.end in
          let a = bottoms G S (suc (block_of G t.start)) (pred (block_of G t.end)) (omega arith) (omega arith) in
          let b = S.upright (suc (block_of G t.start)) (omega arith) in
          upright_cons (range (top G (suc (block_of G t.start))) (bottom G (pred (block_of G t.end)))) [] (omega arith) upright_none
      go false e = upright_none

  module _ (es : List ℕ) where
    until_up : (z b : ℕ) → z ≤ b → z ≤ until es z b
    until_up z b h = until_has es z b z h (λ e m l. l)

    covers_upright : (k : ℕ) → Upright (map (cover G es k) (keep (bounds G k) ts))
    covers_upright k r m =
        let (t, n, e) = Memᴰ.of_map (cover G es k) (keep (bounds G k) ts) m in
        let (i, b) = of_kept (bounds G k) ts t n in
        let u = clip_up G S t (fine t i) k b in
        let v = until_up (clip G k t).end (bottom G k) (omega arith) in
        rw (← e) (omega arith)

    -- of touches that are upright and in the line, whoever lends them
    pub local_upright : UprightOf G ts es
    local_upright = record {
      clipped = λ k c m. (clip_fits G S ts fine k c m).1;
      betweens = gather_upright (through G) ts (λ t m. through_upright t);
      spans = λ k u v l. span_upright G S k u v _ l (clip_fits G S ts fine k);
      wholes = λ k l. upright_cons (whole G k) [] (S.upright k l) upright_none;
      covers = covers_upright;
      arrivals = λ k l. upright_cons (range (top G k) (until es (top G k) (bottom G k))) [] (until_up (top G k) (bottom G k) (S.upright k l)) upright_none;
    }

not_past : (bs : List Stretch) (points i : ℕ) → bad_block bs points i ≡ false → past_points bs points i ≡ false
unfolding bad_block
not_past bs points i e =
    let r = (or_neither (leb (length bs) (block_at bs i).number) _ e).1 in
    let r₂ = (or_neither (used_before bs (block_at bs i).number i) _ r).1 in
    let r₃ = (or_neither (ltb (block_at bs i).end (block_at bs i).start) _ r₂).1 in
    (or_neither (gap_at bs i) _ r₃).1

module _ (J : Job) (C : Checked J) (some_block : 0 < length J.blocks) where
  -- "last end > points" is refused
  last_point : bottom (graph_of J) (length J.blocks - 1) ≤ J.points
  last_point =
      past (eq-eqb (suc (length J.blocks - 1)) (length J.blocks) (omega arith))
      (not_past J.blocks J.points (length J.blocks - 1)
      (scan_fine Line (bad_block J.blocks J.points) (length J.blocks) (line_fine J C some_block) (length J.blocks - 1) (omega arith)))
    where
      past : eqb (suc (length J.blocks - 1)) (length J.blocks) ≡ true → past_points J.blocks J.points (length J.blocks - 1) ≡ false
          → bottom (graph_of J) (length J.blocks - 1) ≤ J.points
      past e f = ltb-false J.points (bottom (graph_of J) (length J.blocks - 1)) (rw e at f)

  moves_fine : move_verdict J.blocks J.code.insts J.moves ≡ Fine
  moves_fine = order_first _ _ (order_rest _ _ (order_rest _ _ (order_rest _ _ (order_rest _ _ (order_rest _ _ (order_rest _ _ C))))))

  in_points : (k x : ℕ) → k < length J.blocks → x ≤ bottom (graph_of J) k → x ≤ J.points
  in_points k x h l =
      let a = bottoms (graph_of J) (job_line J C some_block) k (length J.blocks - 1) (omega arith) (omega arith) in
      let b = last_point in
      omega arith

  -- a move's position is a point of the job
  position_in : (k n : ℕ) → bad_move J.blocks J.code.insts k n ≡ false → position J.blocks J.code.insts k n ≤ J.points
  position_in zero n e =
      let (a, b) = or_neither _ _ e in
      let (k, h, x, y) = placed_in_lem J C some_block n (leb-false _ _ a) (not-false _ b) in
      in_points k _ h (omega arith)
  position_in (suc zero) n e =
      let (a, b) = or_neither _ _ e in
      let (k, h, x, y) = placed_in_lem J C some_block n (leb-false _ _ a) (not-false _ b) in
      in_points k _ h y
  position_in (suc (suc zero)) n e =
      let l = place_lt (job_line J C some_block) n (leb-false _ _ e) in
      in_points (place_in J.blocks n) _ l ((job_line J C some_block).upright _ l)
  position_in (suc (suc (suc zero))) n e =
      let l = place_lt (job_line J C some_block) n (leb-false _ _ e) in
      in_points (place_in J.blocks n) _ l (omega arith)
  position_in (suc (suc (suc (suc k)))) n e = absurd (true≢false e)

  moved_upright : (s : ℕ) → Upright (moved J.points J.blocks J.code.insts J.moves s)
  moved_upright s = gather_upright (covering J.points J.blocks J.code.insts s) J.moves each
    where
      each : (m : Move) → Memᴰ m J.moves → Upright (covering J.points J.blocks J.code.insts s m)
      each m l =
          let (i, h, e) = at_mem J.moves m (record { kind = 0; number = 0; to = 0; from = 0 }) l in
          let c : bad_move J.blocks J.code.insts m.kind m.number ≡ false =
          rw e at (scan_fine Stray (λ n. bad_move J.blocks J.code.insts (move_at J.moves n).kind (move_at J.moves n).number) (length J.moves) moves_fine i h) in
          two (eqb m.to s) (eqb m.from s) (position_in m.kind m.number c)
        where
          piece : Range
          piece = around J.points (position J.blocks J.code.insts m.kind m.number)

          one : (t : Bool) → position J.blocks J.code.insts m.kind m.number ≤ J.points → Upright (cond t (piece ∷ []) [])
          one true h = upright_cons piece [] (omega arith) upright_none
          one false h = upright_none

          two : (t u : Bool) → position J.blocks J.code.insts m.kind m.number ≤ J.points → Upright (cond t (piece ∷ []) [] ++ cond u (piece ∷ []) [])
          two t u h = upright_append (cond t (piece ∷ []) []) (cond u (piece ∷ []) []) (one t h) (one u h)

  -- in a job number 8 has no input
  pub job_upright : UprightIn J
  job_upright = record {
    locals = λ l. local_upright (graph_of J) (job_line J C some_block) (touches_in J l) (touches_in_lem J C some_block l) (ends_of J.code l);
    pieces = λ r s m. (live_in J C some_block r s m).upright;
    moves = moved_upright;
  }
