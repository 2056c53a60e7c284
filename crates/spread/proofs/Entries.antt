-- Laws of the entries: each way out.
use Prim.Native.Nat.{ℕ, ◌+◌, ◌*◌, ◌/◌, ◌%◌, ◌^◌, ◌≤◌, ◌<◌}
use mathlib.Core.Path.{◌≡◌, refl, sym, ap, ◌∙◌, subst}
use mathlib.Core.Logic.{◌↔◌}
use mathlib.Core.Bool.{true, not}
use mathlib.Core.List.{List, [], ◌∷◌}
use mir.Syntax.{w64}
use mir.Val.{Fits}
use native.Mathlib.Omega.{arith}
use lib.Dec.{eqb}
use lib.ListN.{length, get_or}
use Rattle.refusals.specs.declared.Refusal.{Refusal}
use Rattle.refusals.specs.declared.Refusal.TheVariants.{Count, Line, Edge as EdgeWord, Space}
use Rattle.refusals.specs.Verdicts.{number_of, first, in_order, Bad, Fine, Verdict}
use Rattle.refusals.specs.Orders.{Ordered}
use Rattle.refusals.proofs.Laws.{first_fine, first_bad, first_left, first_right, bad_fine, bad_same}
use Rattle.refusals.proofs.Orders.{check_gives}
use Rattle.words.specs.Inner.{Region}
use Rattle.words.specs.Regions.{cleared}
use Rattle.words.specs.Widths.{block_count, edge_count}
use Rattle.words.proofs.Bools.{both_ways}
use Rattle.words.proofs.RegionLaws.{row_before}
use Rattle.bits.specs.Bits.{bit, bit_of}
use Rattle.bits.proofs.WordLaws.{rows_by_bits}
use Rattle.graph.specs.Paths.{Edge, Between}
use Rattle.graph.specs.Line.{blocks_of, jumps_of}
use Rattle.graph.specs.Flow.{Arrives}
use Rattle.graph.specs.Rounds.{arriving_row}
use Rattle.graph.specs.Checks.{rows_verdict, space_of}
use Rattle.graph.specs.Inner.Work.{EdgeRows, Neighbours}
use Rattle.graph.proofs.Line.{blocks_length, edges_between}
use Rattle.graph.proofs.RoundLaws.{arriving}
use Rattle.graph.proofs.Within.{within_trans, within_wider, region_within, rows_moved}
use Rattle.line_checks.proofs.Refusals.{rows_told}
use Rattle.components.specs.Entry.{edges_in, verdict_of as orderVerdict}
use Rattle.components.proofs.Entries.{cleared_same}
use Rattle.postorder.specs.Settling.{Settling}
use Rattle.postorder.specs.Inner.{Walkable, Ordered as InOrder}
use Rattle.flow.specs.Entry.{row_bit, verdict_of as rowVerdict}
use Rattle.flow.specs.Inner.{base_of}
use Rattle.flow.proofs.Entries.{flowed_ordered, Known as RowsKnown, known as rows-known}
use Rattle.spread_rows.specs.declared.Layout.{Layout}
use Rattle.spread_rows.specs.Inner.{leave_bit, pass_bit, Laid, Arrived}
use Rattle.spread.specs.Entry.{Turned, Settled, spread_checks, verdict_of, Answered}
use Rattle.spread.specs.Inner.{Prepared, Solved}
use Rattle.spread_rows.proofs.Turns.{arrives_as}

same_bad : (r : Refusal) (i : ℕ) (list work : List ℕ) (k : Refusal) (j : ℕ) → Bad r i ≡ Bad k j → Turned k j list work (Bad r i) list work
same_bad r i list work k j q = record { outcome = let (a, b) = bad_same q in rw (a, b) refl; list_kept = refl; work_kept = refl }

-- ---- what is computed fits

-- of n blocks and e edges
pub record RowSums (n e : ℕ) : Type 0 where
  pub edges : Fits w64 (e + e)
  pub one : Fits w64 (n + 1)
  pub row : Fits w64 (n + 1 + e)
  pub base : Fits w64 (e + e + (n + 1 + e))
  pub graph : Fits w64 (n + e)
  pub space : Fits w64 (8 * (n + e))

pub row_sums : (n e w : ℕ) → 1 ≤ n → 8 * (n + e) ≤ w → w * 8 < 2 ^ 63 → RowSums n e
row_sums n e w s h r =
    let all : 8 * (n + e) < 2 ^ 60 = omega arith in
    record { edges = omega (arith, all); one = omega (arith, all); row = omega (arith, all); base = omega (arith, all); graph = omega (arith, all); space = omega (arith, all) }

-- the order from `at` on, and t words of either kind of rows
pub record RankSums (n e t at : ℕ) : Type 0 where
  pub edges : Fits w64 (e + e)
  pub rank : Fits w64 (at + n)
  pub lent : Fits w64 (at + n + n)
  pub pass : Fits w64 (at + n + n + t)
  pub wait : Fits w64 (at + n + n + t + t)
  pub words : Fits w64 (n / 64 + 1)
  pub answer : Fits w64 (at + n + n + t + t + (n / 64 + 1))

pub rank_sums : (n e t at w : ℕ) → 1 ≤ n → at ≡ e + e + (n + 1 + e) → 8 * (n + e + t) ≤ w → w * 8 < 2 ^ 63 → RankSums n e t at
rank_sums n e t at w s q h r =
    let all : 8 * (n + e + t) < 2 ^ 60 = omega arith in
    record {
      edges = omega (arith, all);
      rank = omega (arith, all);
      lent = omega (arith, all);
      pass = omega (arith, all);
      wait = omega (arith, all);
      words = omega (arith, all);
      answer = omega (arith, all);
    }

pub no_rows : (n e w : ℕ) → 8 * (n + e + 0) ≤ w → 8 * (n + e) ≤ w
no_rows n e w h = omega arith

pub fewer_rows : (n e t w : ℕ) → 8 * (n + e + t) ≤ w → 8 * (n + e) ≤ w
fewer_rows n e t w h = omega arith

pub as_wide : (n w₀ w : ℕ) → w ≡ w₀ → n ≤ w₀ → n ≤ w
as_wide n w₀ w e h = omega arith

-- both kinds of rows are as long
pub both : (a b n : ℕ) → a ≡ n → b ≡ n → a ≤ b
both a b n e f = omega arith

-- ---- the rows, and the order

module _ (blocks edges : List ℕ) (w₀ w₁ : List ℕ) (some : 1 ≤ block_count blocks) (fits : 8 * (block_count blocks + edge_count edges) ≤ length w₀)
    (N : Neighbours (edges_in blocks edges) (block_count blocks) (edge_count edges) 0 w₀ w₁) where
  rows₁ : EdgeRows (edges_in blocks edges) (block_count blocks) (edge_count edges + edge_count edges) w₁
  rows₁ = subst (λ (y : ℕ). EdgeRows (edges_in blocks edges) (block_count blocks) y w₁) (omega arith) N.rows

  pub walkable : Walkable (block_count blocks) (edge_count edges + edge_count edges) (base_of blocks edges) w₁
  walkable = record { edges = edges_in blocks edges; between = N.between; rows = rows₁; below = omega (arith, N.count); room = omega (arith, N.kept.len) }

  pub prepared : {w₂ : List ℕ} → InOrder (block_count blocks) (edge_count edges + edge_count edges) (base_of blocks edges) w₁ w₂ → Prepared blocks edges (base_of blocks edges) w₀ w₂
  prepared {w₂} P = record {
    at_is = refl;
    kept = within_trans (within_wider 0 _ (omega arith) (omega arith) N.kept) (within_wider 0 _ (omega arith) (omega arith) P.kept);
    count = N.count;
    between = N.between;
    rows = rows_moved N.between (omega (arith, N.count)) P.kept.below rows₁;
    settling = P.settling (edges_in blocks edges) N.between rows₁;
    ranks = P.ranks;
  }

-- ---- settling

pub order_refused : (blocks edges : List ℕ) (points : ℕ) (order work : List ℕ) (r : Refusal) (i : ℕ) → orderVerdict blocks edges points (length order) (length work) ≡ Bad r i
    → Settled blocks edges points order work (Bad r i) order work
order_refused blocks edges points order work r i e = record { answered = λ f. bad_fine (sym e ∙ f); turned_back = λ k j f. same_bad r i order work k j (sym e ∙ f) }

pub small : {blocks edges : List ℕ} {at : ℕ} {w₀ w : List ℕ} → Prepared blocks edges at w₀ w → block_count blocks ≤ 4096 → (i : ℕ) → i < block_count blocks → get_or w (at + i) 0 < 4294967296
small P few i h = omega (arith, P.settling.listed i h)

settling_as : {es : List Edge} {n : ℕ} {o o' : ℕ → ℕ} → ((i : ℕ) → i < n → o' i ≡ o i) → Settling es n o → Settling es n o'
settling_as is X = record {
  listed = λ i h. omega (arith, is i h, X.listed i h);
  every = λ k h. let r = X.every k h in (r.0, r.1, is r.0 r.1 ∙ r.2);
  once = λ i j h l e. X.once i j h l (sym (is i h) ∙ e ∙ is j l);
  before = λ j k l never p q h m ep eq. X.before j k l never p q h m (sym (is p h) ∙ ep) (sym (is q m) ∙ eq);
}

pub order_given : (blocks edges : List ℕ) (points : ℕ) (order₀ order work₀ work₁ work₂ : List ℕ) → orderVerdict blocks edges points (length order₀) (length work₀) ≡ Fine
    → 1 ≤ block_count blocks → {at : ℕ} → Prepared blocks edges at work₀ work₁
    → Region order₀ order 0 (block_count blocks) (λ i. get_or work₁ (at + i) 0) → work₂ ≡ cleared (8 * (block_count blocks + edge_count edges)) work₁
    → Settled blocks edges points order₀ work₀ Fine order work₂
order_given blocks edges points order₀ order work₀ work₁ work₂ e some P R C =
    let eight : 8 * (block_count blocks + edge_count edges) ≡ 8 * (block_count blocks + edge_count edges + 0) = omega arith in
    record {
      answered = λ _. record {
        outcome = refl;
        settling = settling_as (λ i h. R.inside i i (omega arith) h) P.settling;
        length_kept = R.len;
        past = λ i h. R.after i (omega arith);
        work_cleared = C ∙ ap (λ (y : ℕ). cleared y work₁) eight ∙ cleared_same (space_of (block_count blocks) (edge_count edges) 0) work₀ work₁ (within_wider 0 _ (omega arith) (omega arith) P.kept);
      };
      turned_back = λ k i f. bad_fine (sym f ∙ e);
    }

pub order_inside : {blocks edges : List ℕ} {at : ℕ} {w₀ w : List ℕ} → Prepared blocks edges at w₀ w → 8 * (block_count blocks + edge_count edges) ≤ length w₀ → 1 ≤ block_count blocks
    → at + block_count blocks ≤ length w
order_inside P h s = omega (arith, P.at_is, P.kept.len)

-- ---- spread: the refusals

module _ (blocks edges : List ℕ) (points leaving passing words answer work : ℕ) where
  -- "lowest number wins": 1, 2, 3, then 7
  pub spread_ordered : Ordered number_of (Count ∷ Count ∷ Count ∷ Line ∷ EdgeWord ∷ Space ∷ []) (spread_checks blocks edges points leaving passing words answer work)
  spread_ordered = record { gives = (check_gives Count (not (eqb passing (block_count blocks * words))), (flowed_ordered blocks edges points leaving words answer work).gives); rises = refl }

  -- the other rows' check, then those of `flowed`
  verdict_as : verdict_of blocks edges points leaving passing words answer work ≡ first (rows_verdict passing (block_count blocks) words) (rowVerdict blocks edges points leaving words answer work)
  unfolding verdict_of rowVerdict in_order
  verdict_as = refl

  pub passing_refused : (r : Refusal) (i : ℕ) → rows_verdict passing (block_count blocks) words ≡ Bad r i → Bad r i ≡ verdict_of blocks edges points leaving passing words answer work
  passing_refused r i e = sym (verdict_as ∙ first_bad _ _ r i e)

  pub rest_last : (v : Verdict) → rows_verdict passing (block_count blocks) words ≡ Fine → v ≡ rowVerdict blocks edges points leaving words answer work → v ≡ verdict_of blocks edges points leaving passing words answer work
  rest_last v f e = e ∙ sym (verdict_as ∙ first_fine _ _ f)

  pub record Known : Type 0 where
    pub passing_rows : passing ≡ block_count blocks * words
    pub rest : RowsKnown blocks edges points leaving words answer work

  pub known : verdict_of blocks edges points leaving passing words answer work ≡ Fine → Known
  known e =
      let f = sym verdict_as ∙ e in
      record {
        passing_rows = rows_told passing (block_count blocks) words (first_left (rows_verdict passing (block_count blocks) words) _ f);
        rest = rows-known blocks edges points leaving words answer work (first_right (rows_verdict passing (block_count blocks) words) _ f);
      }

pub rows_refused : (blocks edges : List ℕ) (points : ℕ) (leaves passes : List ℕ) (words : ℕ) (out work : List ℕ) (r : Refusal) (i : ℕ)
    → verdict_of blocks edges points (length leaves) (length passes) words (length out) (length work) ≡ Bad r i → Answered blocks edges points leaves passes words out work (Bad r i) out work
rows_refused blocks edges points leaves passes words out work r i e = record { answered = λ f. bad_fine (sym e ∙ f); turned_back = λ k j f. same_bad r i out work k j (sym e ∙ f) }

-- ---- spread: the answer

-- bit b of row k, in rows that were copied
bit_copied : {w w' : List ℕ} {at m : ℕ} (rows : List ℕ) (n words : ℕ) → Region w w' at m (λ i. get_or rows (0 + i) 0) → m ≡ n * words → (k b : ℕ) → k < n → b < words * 64 → bit w' (at + k * words) b ≡ row_bit rows words k b
bit_copied {at = at} rows n words R e k b h l =
    let r = row_before k n words h in
    let p : at + k * words + b / 64 ≡ at + (k * words + b / 64) = omega arith in
    let z : 0 + (k * words + b / 64) ≡ k * words + b / 64 = omega arith in
    ap (λ (y : ℕ). bit_of y (b % 64)) (R.inside (at + k * words + b / 64) (k * words + b / 64) p (omega arith) ∙ ap (λ (y : ℕ). get_or rows y 0) z)

module _ (blocks edges leaves passes : List ℕ) (words : ℕ) (w₀ w₁ : List ℕ) (few : block_count blocks ≤ 4096) (some : 1 ≤ block_count blocks)
    (leaving : length leaves ≡ block_count blocks * words) (passing : length passes ≡ block_count blocks * words)
    (fits : 8 * (block_count blocks + edge_count edges + length leaves) ≤ length w₀) {base : ℕ} (P : Prepared blocks edges base w₀ w₁) where
  abbrev lent_at : ℕ
  lent_at = base + block_count blocks + block_count blocks

  abbrev answer_at : ℕ
  answer_at = lent_at + length leaves + length leaves + (block_count blocks / 64 + 1)

  at_base : base ≡ base_of blocks edges
  at_base = P.at_is

  abbrev s : Layout
  s = record {
    n = block_count blocks;
    at = edge_count edges + edge_count edges;
    order = base;
    rank = base + block_count blocks;
    words = words;
    leaves = lent_at;
    passes = lent_at + length leaves;
    wait = lent_at + length leaves + length leaves;
  }

  pub room : answer_at + length leaves ≤ length w₁
  room = omega (arith, at_base, P.kept.len)

  pub leaves_in : lent_at + length leaves ≤ length w₁
  leaves_in = omega (arith, room)

  pub passes_in : (n : ℕ) → n ≡ length w₁ → lent_at + length leaves + length leaves ≤ n
  passes_in n e = omega (arith, room)

  module _ {w₂ w₃ : List ℕ} (A : Region w₁ w₂ (lent_at) (length leaves) (λ i. get_or leaves (0 + i) 0))
      (B : Region w₂ w₃ (lent_at + length leaves) (length leaves) (λ i. get_or passes (0 + i) 0)) where
    below : (i : ℕ) → i < lent_at → get_or w₃ i 0 ≡ get_or w₁ i 0
    below i h = B.before i (omega arith) ∙ A.before i h

    rows₃ : EdgeRows (edges_in blocks edges) (block_count blocks) (edge_count edges + edge_count edges) w₃
    rows₃ = rows_moved P.between (omega (arith, at_base, P.count)) below P.rows

    order_is : (i : ℕ) → i < block_count blocks → get_or w₃ (base + i) 0 ≡ get_or w₁ (base + i) 0
    order_is i h = below (base + i) (omega arith)

    rank_at : (i : ℕ) → i < block_count blocks → get_or w₃ (base + block_count blocks + get_or w₃ (base + i) 0) 0 ≡ i
    rank_at i h =
        ap (λ (y : ℕ). get_or w₃ (base + block_count blocks + y) 0) (order_is i h)
        ∙ below _ (omega (arith, P.settling.listed i h)) ∙ P.ranks i h

    -- the place of a rank, and the rank of a place
    ranked_at : (v : ℕ) → v < block_count blocks → (i : ℕ) × (i < block_count blocks) × (get_or w₃ (base + i) 0 ≡ v) × (get_or w₃ (base + block_count blocks + v) 0 ≡ i)
    ranked_at v h =
        let r = P.settling.every v h in
        let e = order_is r.0 r.1 ∙ r.2 in
        (r.0, r.1, e, ap (λ (y : ℕ). get_or w₃ (base + block_count blocks + y) 0) (sym e) ∙ rank_at r.0 r.1)

    pub laid : Laid s w₃
    laid = record {
      few = few;
      rising = rows₃.rising;
      rows_fit = λ u h. omega (arith, at_base, rows₃.ends u h, P.count);
      below = omega (arith, at_base);
      nodes = λ u k h a b. P.between.to _ (rows₃.only u k h a b);
      order_fits = omega arith;
      rank_fits = omega arith;
      leaves_fit = omega arith;
      passes_fit = omega arith;
      out_fits = omega (arith, room, A.len, B.len);
      placed = λ r h. omega (arith, order_is r h, P.settling.listed r h);
      ranked = λ v h. let r = ranked_at v h in omega (arith, r.1, r.3);
      rank_of_lem = rank_at;
      order_of_lem = λ v h. let r = ranked_at v h in ap (λ (y : ℕ). get_or w₃ (base + y) 0) r.3 ∙ r.2;
    }

    leave_is : (k b : ℕ) → k < block_count blocks → b < words * 64 → leave_bit s w₃ k b ≡ row_bit leaves words k b
    leave_is k b h l =
        let r = row_before k (block_count blocks) words h in
        ap (λ (y : ℕ). bit_of y (b % 64)) (B.before (lent_at + k * words + b / 64) (omega arith)) ∙ bit_copied leaves (block_count blocks) words A leaving k b h l

    pass_is : (k b : ℕ) → k < block_count blocks → b < words * 64 → pass_bit s w₃ k b ≡ row_bit passes words k b
    pass_is k b h l = bit_copied passes (block_count blocks) words B leaving k b h l

    pub solved : {w₄ : List ℕ} → Arrived s w₃ w₄ → Solved blocks edges leaves passes words answer_at w₀ w₄
    solved {w₄} X = record {
      kept = within_trans (within_wider 0 _ (omega arith) (omega (arith, at_base)) P.kept)
          (within_trans (within_wider 0 _ (omega arith) (omega (arith, at_base)) (region_within A))
          (within_trans (within_wider 0 _ (omega arith) (omega (arith, at_base)) (region_within B)) (within_wider 0 _ (omega arith) (omega (arith, at_base)) X.kept)));
      inside = omega (arith, at_base);
      bits = λ v b h l.
          let r = X.bits (edges_in blocks edges) P.between rows₃ v b h l in (
            (λ o. arrives_as (edges_in blocks edges) P.between (λ k a. leave_is k b a l) (λ k a. pass_is k b a l) (r.0 o)),
            (λ o. r.1 (arrives_as (edges_in blocks edges) P.between (λ k a. sym (leave_is k b a l)) (λ k a. sym (pass_is k b a l)) o)),
          );
    }

pub rows_given : (blocks edges : List ℕ) (points : ℕ) (leaves passes : List ℕ) (words : ℕ) (out₀ out work₀ work₁ work₂ : List ℕ)
    → verdict_of blocks edges points (length leaves) (length passes) words (length out₀) (length work₀) ≡ Fine → {at : ℕ} → Solved blocks edges leaves passes words at work₀ work₁
    → ((i : ℕ) → get_or out i 0 < 2 ^ 64) → Region out₀ out 0 (length leaves) (λ i. get_or work₁ (at + i) 0) → work₂ ≡ cleared (8 * (block_count blocks + edge_count edges + length leaves)) work₁
    → Answered blocks edges points leaves passes words out₀ work₀ Fine out work₂
rows_given blocks edges points leaves passes words out₀ out work₀ work₁ work₂ e {at} S fits R C = record {
  answered = λ _. record {
    outcome = refl;
    in_out = rows_by_bits (block_count blocks) words _ out₀ out R.len (omega (arith, K.rows, K.answer_fits)) fits rounds (λ i h. R.after i (omega (arith, K.rows)));
    bits = paths;
    work_cleared = C ∙ cleared_same (8 * (block_count blocks + edge_count edges + length leaves)) work₀ work₁ S.kept ∙ ap (λ (y : ℕ). cleared (8 * (block_count blocks + edge_count edges + y)) work₀) K.rows;
  };
  turned_back = λ k i f. bad_fine (sym f ∙ e);
}
  where
    K : RowsKnown blocks edges points (length leaves) words (length out₀) (length work₀)
    K = (known blocks edges points (length leaves) (length passes) words (length out₀) (length work₀) e).rest

    out_is : (v b : ℕ) → v < block_count blocks → b < words * 64 → row_bit out words v b ≡ bit work₁ (at + v * words) b
    out_is v b h l =
        let r = row_before v (block_count blocks) words h in
        let z : at + (v * words + b / 64) ≡ at + v * words + b / 64 = omega arith in
        ap (λ (y : ℕ). bit_of y (b % 64)) (R.inside (v * words + b / 64) (v * words + b / 64) (omega arith) (omega (arith, K.rows)) ∙ ap (λ (y : ℕ). get_or work₁ y 0) z)

    between : Between (block_count blocks) (edges_in blocks edges)
    between = subst (λ (y : ℕ). Between y (edges_in blocks edges)) (blocks_length blocks) (edges_between (blocks_of blocks) (jumps_of edges) K.graph.sound K.graph.edges_fine)

    paths : (v b : ℕ) → v < block_count blocks → b < words * 64 → (row_bit out words v b ≡ true) ↔ Arrives (edges_in blocks edges) (λ k. row_bit leaves words k b) (λ k. row_bit passes words k b) v
    paths v b h l = let r = S.bits v b h l in ((λ o. r.0 (sym (out_is v b h l) ∙ o)), (λ o. out_is v b h l ∙ r.1 o))

    rounds : (v b : ℕ) → v < block_count blocks → b < words * 64
        → row_bit out words v b ≡ arriving_row (block_count blocks) (edges_in blocks edges) (λ k. row_bit leaves words k b) (λ k. row_bit passes words k b) v
    rounds v b h l =
        let p = paths v b h l in
        let r = arriving (edges_in blocks edges) (block_count blocks) between (λ k. row_bit leaves words k b) (λ k. row_bit passes words k b) v in
        both_ways (row_bit out words v b) _ (λ o. r.1 (p.0 o)) (λ o. p.1 (r.0 o))
