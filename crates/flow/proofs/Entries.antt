-- Laws of the entry: each way out.
use Prim.Native.Nat.{ℕ, ◌+◌, ◌*◌, ◌/◌, ◌%◌, ◌^◌, ◌≤◌, ◌<◌}
use mathlib.Core.Path.{◌≡◌, refl, sym, ap, ◌∙◌, subst}
use mathlib.Core.Logic.{inl, ◌↔◌}
use mathlib.Core.Bool.{true, not, ◌||◌}
use mathlib.Core.List.{List, [], ◌∷◌}
use mir.Syntax.{w64}
use mir.Val.{Fits}
use native.Mathlib.Omega.{arith}
use lib.Dec.{eqb, ltb}
use lib.ListN.{length, get_or, length-append, length-replicate, length-drop}
use Rattle.refusals.specs.declared.Refusal.{Refusal}
use Rattle.refusals.specs.declared.Refusal.TheVariants.{Count, Line, Edge as EdgeWord, Space}
use Rattle.refusals.specs.Verdicts.{number_of, first, in_order, room_verdict, Bad, Fine, Verdict}
use Rattle.refusals.specs.Orders.{Ordered}
use Rattle.refusals.proofs.Laws.{first_fine, first_bad, first_left, first_right, bad_fine, check_last, bad_same}
use Rattle.refusals.proofs.Orders.{check_gives, order_append, giving_append}
use Rattle.words.specs.Inner.{Region}
use Rattle.words.specs.Regions.{cleared}
use Rattle.words.specs.Widths.{block_count, edge_count}
use Rattle.words.proofs.RegionLaws.{row_before}
use Rattle.bits.specs.Bits.{bit, bit_of}
use Rattle.bits.proofs.WordLaws.{rows_by_bits}
use Rattle.graph.specs.Paths.{Edge, Between}
use Rattle.graph.specs.Line.{blocks_of, jumps_of}
use Rattle.graph.specs.Checks.{graph_checks, graph_verdict, rows_verdict, space_of}
use Rattle.graph.specs.Inner.Work.{EdgeRows, Neighbours}
use Rattle.graph.proofs.CheckLaws.{graph_gives}
use Rattle.graph.proofs.Line.{blocks_length, edges_between}
use Rattle.graph.proofs.Within.{within_trans, within_wider, region_within, rows_moved}
use Rattle.line_checks.proofs.Refusals.{Passed, passed, rows_told, space_told}
use Rattle.tarjan.specs.Inner.Components.{InOrder, Walkable, Found}
use Rattle.components.specs.Entry.{edges_in}
use Rattle.components.proofs.Entries.{cleared_same}
use Rattle.flow_rows.specs.declared.Flow.{Flow}
use Rattle.flow.specs.declared.Over.{Over}
use Rattle.flow_rows.specs.Inner.{which, order, touched_bit, Laid, Flowed}
use Rattle.flow.specs.Entry.{FlowsTo, flowed_checks, verdict_of, row_bit, Turned, Answered}
use Rattle.flow.specs.Inner.{way_of, base_of, Solved}
use Rattle.flow_rows.proofs.Moved.{components_as, order_as, reaching_as}
use Rattle.flow.proofs.Ways.{flows_as, rows_as}

-- ---- the refusals

module _ (blocks edges : List ℕ) (points lent words answer work : ℕ) where
  abbrev space : Verdict
  space = room_verdict answer (block_count blocks * words) work (space_of (block_count blocks) (edge_count edges) (block_count blocks * words))

  -- "lowest number wins": 1, 2, 3, then 7
  pub flowed_ordered : Ordered number_of (Count ∷ Count ∷ Line ∷ EdgeWord ∷ Space ∷ []) (flowed_checks blocks edges points lent words answer work)
  flowed_ordered = record {
    gives = (
      check_gives Count (not (eqb lent (block_count blocks * words))),
      giving_append (Count ∷ Line ∷ EdgeWord ∷ []) (Space ∷ []) (graph_checks blocks edges points) (space ∷ [])
          (graph_gives blocks edges points) (check_gives Space (ltb answer (block_count blocks * words) || ltb work (space_of (block_count blocks) (edge_count edges) (block_count blocks * words))), tt),
    );
    rises = refl;
  }

  -- the rows' check, the graph's, then the space
  verdict_as : verdict_of blocks edges points lent words answer work ≡ first (rows_verdict lent (block_count blocks) words) (first (graph_verdict blocks edges points) space)
  unfolding verdict_of graph_verdict in_order
  verdict_as =
      ap (first (rows_verdict lent (block_count blocks) words))
      (order_append (graph_checks blocks edges points) (space ∷ []) ∙ ap (first (in_order (graph_checks blocks edges points))) (check_last space))

  pub rows_refused : (r : Refusal) (i : ℕ) → rows_verdict lent (block_count blocks) words ≡ Bad r i → Bad r i ≡ verdict_of blocks edges points lent words answer work
  rows_refused r i e = sym (verdict_as ∙ first_bad _ _ r i e)

  pub graph_refused : (r : Refusal) (i : ℕ) → rows_verdict lent (block_count blocks) words ≡ Fine → graph_verdict blocks edges points ≡ Bad r i → Bad r i ≡ verdict_of blocks edges points lent words answer work
  graph_refused r i f e = sym (verdict_as ∙ first_fine _ _ f ∙ first_bad _ _ r i e)

  pub space_last : (v : Verdict) → rows_verdict lent (block_count blocks) words ≡ Fine → graph_verdict blocks edges points ≡ Fine
      → v ≡ room_verdict answer lent work (space_of (block_count blocks) (edge_count edges) lent) → v ≡ verdict_of blocks edges points lent words answer work
  space_last v f g e = e
      ∙ ap (λ (y : ℕ). room_verdict answer y work (space_of (block_count blocks) (edge_count edges) y)) (rows_told lent (block_count blocks) words f)
      ∙ sym (verdict_as ∙ first_fine _ _ f ∙ first_fine _ _ g)

  -- what is known of an input that is not refused
  pub record Known : Type 0 where
    pub rows : lent ≡ block_count blocks * words
    pub graph : Passed blocks edges points
    pub answer_fits : lent ≤ answer
    pub work_fits : space_of (block_count blocks) (edge_count edges) lent ≤ work

  pub known : verdict_of blocks edges points lent words answer work ≡ Fine → Known
  known e =
      let f = sym verdict_as ∙ e in
      let a = rows_told lent (block_count blocks) words (first_left (rows_verdict lent (block_count blocks) words) _ f) in
      let b = first_right (rows_verdict lent (block_count blocks) words) _ f in
      let s = space_told answer (block_count blocks * words) work (block_count blocks) (edge_count edges) (block_count blocks * words) (first_right (graph_verdict blocks edges points) _ b) in
      record { rows = a; graph = passed blocks edges points (first_left (graph_verdict blocks edges points) _ b); answer_fits = omega (arith, s.0); work_fits = omega (arith, s.1) }

pub refused_is : (over : Over) (blocks edges : List ℕ) (points : ℕ) (touched : List ℕ) (words : ℕ) (out work : List ℕ) (r : Refusal) (i : ℕ)
    → verdict_of blocks edges points (length touched) words (length out) (length work) ≡ Bad r i → Answered over blocks edges points touched words out work (Bad r i) out work
refused_is over blocks edges points touched words out work r i e = record {
  answered = λ f. bad_fine (sym e ∙ f);
  turned_back = λ k j f. same_bad k j (sym e ∙ f);
}
  where
    same_bad : (k : Refusal) (j : ℕ) → Bad r i ≡ Bad k j → Turned k j out work (Bad r i) out work
    same_bad k j q = record { outcome = let (a, b) = bad_same q in rw (a, b) refl; out_kept = refl; work_kept = refl }

-- ---- the answer

-- where `solve` has the rows it was lent
abbrev lent_at : List ℕ → List ℕ → ℕ
lent_at blocks edges = base_of blocks edges + 6 * (block_count blocks)

-- what is computed from n blocks, e edges and t words that were lent fits, in a work space of w words
pub record Sums (n e t : ℕ) : Type 0 where
  pub edges : Fits w64 (e + e)
  pub one : Fits w64 (n + 1)
  pub row : Fits w64 (n + 1 + e)
  pub base : Fits w64 (e + e + (n + 1 + e))
  pub six : Fits w64 (6 * n)
  pub lent : Fits w64 (e + e + (n + 1 + e) + 6 * n)
  pub out : Fits w64 (e + e + (n + 1 + e) + 6 * n + t)
  pub graph : Fits w64 (n + e)
  pub all : Fits w64 (n + e + t)
  pub space : Fits w64 (8 * (n + e + t))

pub sums : (n e t w : ℕ) → 1 ≤ n → 8 * (n + e + t) ≤ w → w * 8 < 2 ^ 63 → Sums n e t
sums n e t w s h r =
    let all : 8 * (n + e + t) < 2 ^ 60 = omega arith in
    record {
      edges = omega (arith, all);
      one = omega (arith, all);
      row = omega (arith, all);
      base = omega (arith, all);
      six = omega (arith, all);
      lent = omega (arith, all);
      out = omega (arith, all);
      graph = omega (arith, all);
      all = omega (arith, all);
      space = omega (arith, all);
    }

module _ (over : Over) (blocks edges touched : List ℕ) (words : ℕ) (w₀ w₁ : List ℕ)
    (some : 1 ≤ block_count blocks) (lent : length touched ≡ block_count blocks * words)
    (fits : 8 * (block_count blocks + edge_count edges + length touched) ≤ length w₀)
    (N : Neighbours (way_of over (edges_in blocks edges)) (block_count blocks) (edge_count edges) 0 w₀ w₁) where
  abbrev es : List Edge
  es = way_of over (edges_in blocks edges)

  abbrev f : Flow
  f = record { n = block_count blocks; at = edge_count edges + edge_count edges; base = base_of blocks edges; words = words; touched = lent_at blocks edges; out = lent_at blocks edges + length touched }

  rows₁ : EdgeRows es (block_count blocks) (edge_count edges + edge_count edges) w₁
  rows₁ = subst (λ (y : ℕ). EdgeRows es (block_count blocks) y w₁) (omega arith) N.rows

  pub walkable : Walkable (block_count blocks) (edge_count edges + edge_count edges) (base_of blocks edges) w₁
  walkable = record { edges = es; between = N.between; rows = rows₁; below = omega (arith, N.count); room = omega (arith, N.kept.len) }

  module _ {w₂ : List ℕ} {count : ℕ} (F : Found (block_count blocks) (edge_count edges + edge_count edges) (base_of blocks edges) w₁ w₂ count) where
    pub copy_fits : lent_at blocks edges + length touched ≤ length w₂
    copy_fits = omega (arith, N.kept.len, F.kept.len)

    module _ {w₃ : List ℕ} (R : Region w₂ w₃ (lent_at blocks edges) (length touched) (λ i. get_or touched (0 + i) 0)) where
      below : (i : ℕ) → i < base_of blocks edges → get_or w₃ i 0 ≡ get_or w₁ i 0
      below i h = R.before i (omega arith) ∙ F.kept.below i h

      rows₃ : EdgeRows es (block_count blocks) (edge_count edges + edge_count edges) w₃
      rows₃ = rows_moved N.between (omega (arith, N.count)) below rows₁

      which_is : (k : ℕ) → k < block_count blocks → which f w₃ k ≡ get_or w₂ (base_of blocks edges + k) 0
      which_is k h = R.before (base_of blocks edges + k) (omega arith)

      order_is : (i : ℕ) → i < block_count blocks
          → order f w₃ i ≡ get_or w₂ (base_of blocks edges + block_count blocks + block_count blocks + block_count blocks + block_count blocks + block_count blocks + i) 0
      order_is i h = R.before _ (omega arith)

      pub ordered : InOrder (block_count blocks) (which f w₃) (order f w₃)
      ordered = order_as which_is order_is F.order

      pub laid : Laid f w₃
      laid = record {
        rising = rows₃.rising;
        rows_fit = λ u h. omega (arith, rows₃.ends u h, N.count);
        below = omega arith;
        nodes = λ u k h a b. N.between.to _ (rows₃.only u k h a b);
        listed = ordered.listed;
        base_fits = omega arith;
        out_fits = omega (arith, N.kept.len, F.kept.len, R.len);
        touched_fits = omega (arith, N.kept.len, F.kept.len, R.len);
        apart = inl (omega arith);
      }

      touched_is : (k b : ℕ) → k < block_count blocks → b < words * 64 → touched_bit f w₃ k b ≡ row_bit touched words k b
      touched_is k b h l =
          let r = row_before k (block_count blocks) words h in
          let e : lent_at blocks edges + k * words + b / 64 ≡ lent_at blocks edges + (k * words + b / 64) = omega arith in
          let z : 0 + (k * words + b / 64) ≡ k * words + b / 64 = omega arith in
          ap (λ (y : ℕ). bit_of y (b % 64)) (R.inside (lent_at blocks edges + k * words + b / 64) (k * words + b / 64) e (omega arith) ∙ ap (λ (y : ℕ). get_or touched y 0) z)

      pub solved : {w₄ : List ℕ} → Flowed f w₃ w₄ → Solved over blocks edges touched words (lent_at blocks edges + length touched) w₀ w₄
      solved {w₄} X = record {
        kept = within_trans (within_wider 0 _ (omega arith) (omega arith) N.kept)
            (within_trans (within_wider 0 _ (omega arith) (omega arith) F.kept)
            (within_trans (within_wider 0 _ (omega arith) (omega arith) (region_within R)) (within_wider 0 _ (omega arith) (omega arith) X.kept)));
        inside = omega arith;
        bits = λ v b h l.
            let r = X.bits es count N.between rows₃ (components_as N.between which_is (F.components es N.between rows₁)) v b h l in
            let t = flows_as over (edges_in blocks edges) (λ k. row_bit touched words k b) v in (
              (λ o. t.0 (reaching_as N.between (λ k a. touched_is k b a l) (r.0 o))),
              (λ o. r.1 (reaching_as N.between (λ k a. sym (touched_is k b a l)) (t.1 o))),
            );
      }

module _ (over : Over) (blocks edges : List ℕ) (points : ℕ) (touched : List ℕ) (words : ℕ) (out₀ out work₀ work₁ work₂ : List ℕ)
    (e : verdict_of blocks edges points (length touched) words (length out₀) (length work₀) ≡ Fine) {at : ℕ} (S : Solved over blocks edges touched words at work₀ work₁) where
  pub given_is : ((i : ℕ) → get_or out i 0 < 2 ^ 64) → Region out₀ out 0 (length touched) (λ i. get_or work₁ (at + i) 0)
      → work₂ ≡ cleared (8 * (block_count blocks + edge_count edges + length touched)) work₁
      → Answered over blocks edges points touched words out₀ work₀ Fine out work₂
  given_is fits R C = record {
    answered = λ _. record {
      outcome = refl;
      in_out = rows_by_bits (block_count blocks) words _ out₀ out R.len (omega (arith, K.rows, K.answer_fits)) fits
          (λ v b h l. rows_as over (edges_in blocks edges) (block_count blocks) between (λ k. row_bit touched words k b) v (row_bit out words v b) (paths v b h l))
          (λ i h. R.after i (omega (arith, K.rows)));
      bits = paths;
      work_cleared = C ∙ cleared_same (8 * (block_count blocks + edge_count edges + length touched)) work₀ work₁ S.kept ∙ ap (λ (y : ℕ). cleared (8 * (block_count blocks + edge_count edges + y)) work₀) K.rows;
    };
    turned_back = λ k i f. bad_fine (sym f ∙ e);
  }
    where
      K : Known blocks edges points (length touched) words (length out₀) (length work₀)
      K = known blocks edges points (length touched) words (length out₀) (length work₀) e

      between : Between (block_count blocks) (edges_in blocks edges)
      between = subst (λ (y : ℕ). Between y (edges_in blocks edges)) (blocks_length blocks) (edges_between (blocks_of blocks) (jumps_of edges) K.graph.sound K.graph.edges_fine)

      out_is : (v b : ℕ) → v < block_count blocks → b < words * 64 → row_bit out words v b ≡ bit work₁ (at + v * words) b
      out_is v b h l =
          let r = row_before v (block_count blocks) words h in
          let z : at + (v * words + b / 64) ≡ at + v * words + b / 64 = omega arith in
          ap (λ (y : ℕ). bit_of y (b % 64)) (R.inside (v * words + b / 64) (v * words + b / 64) (omega arith) (omega (arith, K.rows)) ∙ ap (λ (y : ℕ). get_or work₁ y 0) z)

      paths : (v b : ℕ) → v < block_count blocks → b < words * 64 → (row_bit out words v b ≡ true) ↔ FlowsTo over (edges_in blocks edges) (λ k. row_bit touched words k b) v
      paths v b h l = let r = S.bits v b h l in ((λ o. r.0 (sym (out_is v b h l) ∙ o)), (λ o. out_is v b h l ∙ r.1 o))

-- ---- what the entry does behind `solve`

pub copied : (t n : ℕ) → t ≤ n → 0 + t ≤ n
copied t n h = omega arith

pub cleared_length : (n : ℕ) (w : List ℕ) → n ≤ length w → length (cleared n w) ≡ length w
cleared_length n w h = simp (length-append, length-replicate, length-drop) (omega arith)

module _ {over : Over} {blocks edges touched : List ℕ} {words at : ℕ} {w₀ w : List ℕ} (S : Solved over blocks edges touched words at w₀ w)
    (fits : space_of (block_count blocks) (edge_count edges) (length touched) ≤ length w₀) where
  pub as_wide : space_of (block_count blocks) (edge_count edges) (length touched) ≤ length w
  as_wide = omega (arith, S.kept.len)

  pub inside : at + length touched ≤ length w
  inside = omega (arith, S.inside, as_wide)
