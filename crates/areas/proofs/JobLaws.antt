-- What numbers 2 to 6 leave of a job: a sound line, edges between places, and touches that are upright and in the line.
use Prim.Native.Nat.{ℕ, ◌-◌, ◌≤◌, ◌<◌}
use native.Mathlib.Omega.{arith}
use mathlib.Core.Path.{◌≡◌, sym}
use mathlib.Core.Logic.{◌⊎◌, inl, inr}
use mathlib.Core.Bool.{Bool, true, false, not, ◌&&◌, ◌||◌, true≢false}
use mathlib.Core.List.Memᴰ
use mathlib.Core.List.{List, ◌∷◌, map, Memᴰ}
use lib.ListN.{length, get_or}
use lib.Dec.{eqb}
use borrow.Author.Tests.{leb-false, ltb-false, not-false}
use Rattle.words.proofs.Bools.{or_neither}
use Rattle.refusals.specs.declared.Refusal.TheVariants.{Inst as InstWord, Stray, Piece as PieceWord}
use Rattle.refusals.specs.Verdicts.{in_order, Fine, Verdict}
use Rattle.refusals.proofs.Laws.{first_left, first_right, scan_fine}
use Rattle.ranges.specs.Points.{range}
use Rattle.graph.specs.Paths.{Between}
use Rattle.graph.specs.Line.{Stretch, Sound, place_in, line_verdict}
use Rattle.graph.proofs.Line.{line_sound, place_lt, edges_between, at_mem}
use Rattle.carrying.specs.Lists.{keep, gather}
use Rattle.carrying.specs.Insts.{Inst, inst_at, is_set}
use Rattle.carrying.specs.Carried.{Mention, Piece, mentions, mentioned, carried, live_pieces, touches_of}
use Rattle.carrying.specs.Checks.{misplaced, bad_inst, inst_verdict, absent, mention_at, address_verdict}
use Rattle.carrying.proofs.ListLaws.{of_kept, of_gathered}
use Rattle.areas.specs.Blocks.{top, bottom, InLine, AllInLine}
use Rattle.areas.specs.Slots.{off_line, bad_piece, piece_verdict}
use Rattle.areas.specs.Job.{Job, Checked, graph_of, touches_in}
use Rattle.areas.proofs.BlockLaws.{tops, bottoms}

pub order_first : (v : Verdict) (vs : List Verdict) → in_order (v ∷ vs) ≡ Fine → v ≡ Fine
unfolding in_order
order_first v vs e = first_left v (in_order vs) e

pub order_rest : (v : Verdict) (vs : List Verdict) → in_order (v ∷ vs) ≡ Fine → in_order vs ≡ Fine
unfolding in_order
order_rest v vs e = first_right v (in_order vs) e

pub and_rest : (s t : Bool) → s ≡ true → s && t ≡ false → t ≡ false
and_rest true t e f = f
and_rest false t e f = absurd (true≢false (sym e))

-- number 6 leaves what is upright and in the line
pub in_line : (bs : List Stretch) (start end : ℕ) → off_line bs start end ≡ false → InLine bs (range start end)
unfolding off_line
in_line bs start end e =
    let (a, r) = or_neither _ _ e in
    let (b, c) = or_neither _ _ r in
    record { upright = ltb-false _ _ a; first = ltb-false _ _ b; last = ltb-false _ _ c }

module _ (J : Job) (C : Checked J) (some_block : 0 < length J.blocks) where
  -- the verdicts, one by one
  pub line_fine : line_verdict J.blocks J.points ≡ Fine
  line_fine = order_first _ _ C

  pub job_line : Sound J.blocks
  job_line = line_sound J.blocks J.points some_block line_fine

  pub job_edges : Between (length J.blocks) (graph_of J).edges
  job_edges = edges_between J.blocks J.jumps job_line (order_first _ _ (order_rest _ _ C))

  insts_fine : inst_verdict J.blocks J.code.numbered J.code.insts ≡ Fine
  insts_fine = order_first _ _ (order_rest _ _ (order_rest _ _ C))

  addresses_fine : address_verdict J.code.insts J.code.addresses ≡ Fine
  addresses_fine = order_first _ _ (order_rest _ _ (order_rest _ _ (order_rest _ _ (order_rest _ _ C))))

  pieces_fine : piece_verdict J.blocks J.code.numbered J.pieces ≡ Fine
  pieces_fine = order_first _ _ (order_rest _ _ (order_rest _ _ (order_rest _ _ (order_rest _ _ (order_rest _ _ (order_rest _ _ (order_rest _ _ C)))))))

  piece_in : (p : Piece) → Memᴰ p J.pieces → InLine J.blocks (range p.start p.end)
  piece_in p m =
      let (i, h, e) = at_mem J.pieces p (record { register = 0; start = 0; end = 0 }) m in
      let c : bad_piece J.blocks J.code.numbered p ≡ false =
      rw e at (scan_fine PieceWord (λ n. bad_piece J.blocks J.code.numbered (get_or J.pieces n (record { register = 0; start = 0; end = 0 }))) (length J.pieces) pieces_fine i h) in
      in_line J.blocks p.start p.end (or_neither (off_line J.blocks p.start p.end) _ c).0

  -- a placed instruction is upright and lies in its block
  pub placed_in_lem : (n : ℕ) → n < length J.code.insts → is_set (inst_at J.code.insts n).placed ≡ true
      → (k : ℕ) × (k < length J.blocks) × ((top (graph_of J) k ≤ (inst_at J.code.insts n).early) × ((inst_at J.code.insts n).early ≤ (inst_at J.code.insts n).late))
      × ((inst_at J.code.insts n).late ≤ bottom (graph_of J) k)
  unfolding bad_inst
  placed_in_lem n h s =
      let c : bad_inst J.blocks J.code.numbered (inst_at J.code.insts n) ≡ false =
      scan_fine InstWord (λ k. bad_inst J.blocks J.code.numbered (inst_at J.code.insts k)) (length J.code.insts) insts_fine n h in
      let (d, r) = or_neither _ _ c in
      let (f, g) = or_neither (is_set (inst_at J.code.insts n).placed && misplaced J.blocks (inst_at J.code.insts n)) _ r in
      go (inst_at J.code.insts n) (ltb-false _ _ d) (and_rest _ _ s f)
    where
      go : (i : Inst) → i.early ≤ i.late → misplaced J.blocks i ≡ false
          → (k : ℕ) × (k < length J.blocks) × ((top (graph_of J) k ≤ i.early) × (i.early ≤ i.late)) × (i.late ≤ bottom (graph_of J) k)
      go i u f =
          let (a, r) = or_neither _ _ f in
          let (b, c) = or_neither _ _ r in
          (place_in J.blocks i.block, place_lt job_line i.block (leb-false _ _ a), (ltb-false _ _ b, u), ltb-false _ _ c)

  inst_in : (n : ℕ) → n < length J.code.insts → is_set (inst_at J.code.insts n).placed ≡ true
      → InLine J.blocks (range (inst_at J.code.insts n).early (inst_at J.code.insts n).late)
  inst_in n h s =
      let (k, l, (x, u), y) = placed_in_lem n h s in
      let t = tops (graph_of J) job_line 0 k (omega arith) l in
      let v = bottoms (graph_of J) job_line k (length J.blocks - 1) (omega arith) (omega arith) in
      record { upright = u; first = omega arith; last = omega arith }

  listed_in : (m : Mention) → Memᴰ m J.code.addresses → InLine J.blocks (range (mentioned J.code m).early (mentioned J.code m).late)
  listed_in m l =
      let (i, h, e) = at_mem J.code.addresses m (record { inst = 0; local = 0 }) l in
      let c : absent J.code.insts m.inst || not (is_set (inst_at J.code.insts m.inst).placed) ≡ false =
      rw e at (scan_fine Stray (λ n. absent J.code.insts (mention_at J.code.addresses n).inst || not (is_set (inst_at J.code.insts (mention_at J.code.addresses n).inst).placed))
      (length J.code.addresses) addresses_fine i h) in
      let (a, b) = or_neither _ _ c in
      inst_in m.inst (leb-false _ _ a) (not-false _ b)

  pub live_in : (r : ℕ) → AllInLine J.blocks (live_pieces J.pieces r)
  live_in r t m =
      let (p, i, e) = Memᴰ.of_map (λ p. range p.start p.end) (keep (λ p. eqb p.register r) J.pieces) m in
      rw (← e) (piece_in p (of_kept (λ p. eqb p.register r) J.pieces p i).0)

  pub touches_in_lem : (l : ℕ) → AllInLine J.blocks (touches_in J l)
  unfolding touches_of
  touches_in_lem l t m = go (Memᴰ.append_cases (gather (live_pieces J.pieces) (carried J.code l)) m)
    where
      go : Memᴰ t (gather (live_pieces J.pieces) (carried J.code l))
          ⊎ Memᴰ t (map (λ m. range (mentioned J.code m).early (mentioned J.code m).late) (mentions J.code.addresses l)) → InLine J.blocks t
      go (inl n) =
          let (r, i, k) = of_gathered (live_pieces J.pieces) (carried J.code l) t n in
          live_in r t k
      go (inr n) =
          let (a, i, e) = Memᴰ.of_map (λ m. range (mentioned J.code m).early (mentioned J.code m).late) (mentions J.code.addresses l) n in
          rw (← e) (listed_in a (of_kept (λ k. eqb k.local l) J.code.addresses a i).0)
