-- What each way out of a check comes to: numbers 1, 2 and 3.
use Prim.Native.Nat.{ℕ, zero, suc, ◌+◌, ◌-◌, ◌*◌, ◌/◌, ◌%◌, ◌≤◌, ◌<◌}
use mathlib.Core.Path.{◌≡◌, refl, sym, ap, ◌∙◌}
use mathlib.Core.Logic.{◌≢◌}
use mathlib.Core.Bool.{Bool, true, false, cond, not, ◌||◌}
use mathlib.Core.List.{List}
use native.Mathlib.Numerals.{add-one}
use native.Mathlib.Nat.{div-add-mod', mul-div_cancel}
use native.Mathlib.Omega.{arith}
use lib.Dec.{eqb, ltb}
use lib.ListN.{length, get_or, replicate, get_or-replicate}
use borrow.Author.Tests.{eq-eqb, ne_eqb, lt-ltb, le-ltb, le-leb, lt-leb}
use Rattle.refusals.specs.declared.Refusal.{Refusal}
use Rattle.refusals.specs.declared.Refusal.TheVariants.{Count, Space}
use Rattle.refusals.specs.Verdicts.{in_order, room_verdict, Bad, Fine, Verdict}
use Rattle.refusals.proofs.Laws.{first_fine, first_bad, first_left, first_right, check_last}
use Rattle.bits.specs.Bits.{bit, bit_of}
use Rattle.bits.specs.Inner.{PutBit}
use Rattle.bits.proofs.DigitLaws.{bit_zero}
use Rattle.words.proofs.Points.{cut, same}
use Rattle.words.proofs.Bools.{or_cond}
use Rattle.graph.specs.Line.{Stretch, blocks_of, jumps_of, block_at, used_before, gap_at, bad_block, line_verdict, bad_edge, edge_verdict, Sound}
use Rattle.graph.specs.Checks.{bad_count, count_verdict, graph_verdict, rows_verdict, space_of}
use Rattle.graph.specs.Inner.Checks.{bad_span}
use Rattle.graph.proofs.Line.{blocks_length, from_is, to_is, line_sound}
use Rattle.words.specs.Widths.{block_width, block_count, edge_width, edge_count}
use Rattle.words.specs.Inner.{edge_into}

-- ---- number 1

module _ (blocks edges : List ℕ) where
  pub not_whole : length blocks % block_width ≢ 0 → Bad Count 0 ≡ count_verdict blocks edges
  unfolding bad_count
  not_whole h = simp (ne_eqb (length blocks % block_width) 0 h)

  pub no_block : length blocks % block_width ≡ 0 → block_count blocks < 1 → Bad Count 0 ≡ count_verdict blocks edges
  unfolding bad_count
  no_block h a = simp (eq-eqb (length blocks % block_width) 0 h, lt-ltb (block_count blocks) 1 a)

  pub many_blocks : length blocks % block_width ≡ 0 → 1 ≤ block_count blocks → 4096 < block_count blocks → Bad Count 0 ≡ count_verdict blocks edges
  unfolding bad_count
  many_blocks h a b = simp (eq-eqb (length blocks % block_width) 0 h, le-ltb (block_count blocks) 1 a, lt-ltb 4096 (block_count blocks) b)

  pub edges_cut : length blocks % block_width ≡ 0 → 1 ≤ block_count blocks → block_count blocks ≤ 4096 → length edges % edge_width ≢ 0 → Bad Count 0 ≡ count_verdict blocks edges
  unfolding bad_count
  edges_cut h a b g = simp (eq-eqb (length blocks % block_width) 0 h, le-ltb (block_count blocks) 1 a, le-ltb 4096 (block_count blocks) b, ne_eqb (length edges % edge_width) 0 g)

  pub many_edges : length blocks % block_width ≡ 0 → 1 ≤ block_count blocks → block_count blocks ≤ 4096 → length edges % edge_width ≡ 0 → 16384 < edge_count edges → Bad Count 0 ≡ count_verdict blocks edges
  unfolding bad_count
  many_edges h a b g d = simp (eq-eqb (length blocks % block_width) 0 h, le-ltb (block_count blocks) 1 a, le-ltb 4096 (block_count blocks) b, eq-eqb (length edges % edge_width) 0 g, lt-ltb 16384 (edge_count edges) d)

  pub counts_fine : length blocks % block_width ≡ 0 → 1 ≤ block_count blocks → block_count blocks ≤ 4096 → length edges % edge_width ≡ 0 → edge_count edges ≤ 16384 → Fine ≡ count_verdict blocks edges
  unfolding bad_count
  counts_fine h a b g d = simp (eq-eqb (length blocks % block_width) 0 h, le-ltb (block_count blocks) 1 a, le-ltb 4096 (block_count blocks) b, eq-eqb (length edges % edge_width) 0 g, le-ltb 16384 (edge_count edges) d)

  -- what a fine verdict says
  pub record Counts : Type 0 where
    pub whole : length blocks % block_width ≡ 0
    pub some : 1 ≤ block_count blocks
    pub few : block_count blocks ≤ 4096
    pub whole_edges : length edges % edge_width ≡ 0
    pub few_edges : edge_count edges ≤ 16384

  bad_fine : Bad Count 0 ≡ Fine → ⊥
  bad_fine e = let z : ◌≡◌ {A = ℕ} 0 1 = cc in omega arith

  pub counts : count_verdict blocks edges ≡ Fine → Counts
  counts v =
      same (length blocks % block_width) 0
      (λ a. cut 1 (block_count blocks)
      (λ b. cut (block_count blocks) 4096
      (λ d. same (length edges % edge_width) 0
      (λ e. cut (edge_count edges) 16384
      (λ f. record { whole = a; some = b; few = d; whole_edges = e; few_edges = f })
      (λ f. absurd (bad_fine (many_edges a b d e f ∙ v))))
      (λ e. absurd (bad_fine (edges_cut a b d e ∙ v))))
      (λ d. absurd (bad_fine (many_blocks a b d ∙ v))))
      (λ b. absurd (bad_fine (no_block a b ∙ v))))
      (λ a. absurd (bad_fine (not_whole a ∙ v)))

-- ---- number 2

module _ (bs : List Stretch) (points i : ℕ) where
  pub by_number : length bs ≤ (block_at bs i).number → bad_block bs points i ≡ true
  unfolding bad_block
  by_number h = simp (le-leb (length bs) (block_at bs i).number h)

  pub by_use : (block_at bs i).number < length bs → used_before bs (block_at bs i).number i ≡ true → bad_block bs points i ≡ true
  unfolding bad_block
  by_use h u = simp (lt-leb (length bs) (block_at bs i).number h, u)

  pub by_span : (block_at bs i).number < length bs → used_before bs (block_at bs i).number i ≡ false → bad_block bs points i ≡ bad_span bs points i
  unfolding bad_block
  by_span h u = simp (lt-leb (length bs) (block_at bs i).number h, u)

module _ (bs : List Stretch) (points i : ℕ) where
  pub reversed : (block_at bs i).end < (block_at bs i).start → true ≡ bad_span bs points i
  reversed h = simp (lt-ltb (block_at bs i).end (block_at bs i).start h)

  pub gap_first : i ≤ 0 → gap_at bs i ≡ false
  gap_first h = let e : i ≡ 0 = omega arith in rw e refl

  pub gapped : (block_at bs i).start ≤ (block_at bs i).end → gap_at bs i ≡ true → true ≡ bad_span bs points i
  gapped h g = simp (le-ltb (block_at bs i).end (block_at bs i).start h, g)

  pub at_end : (block_at bs i).start ≤ (block_at bs i).end → gap_at bs i ≡ false → suc i ≡ length bs → ltb points (block_at bs i).end ≡ bad_span bs points i
  at_end h g l = simp (le-ltb (block_at bs i).end (block_at bs i).start h, g, eq-eqb (suc i) (length bs) l)

  pub inside : (block_at bs i).start ≤ (block_at bs i).end → gap_at bs i ≡ false → suc i ≢ length bs → false ≡ bad_span bs points i
  inside h g l = simp (le-ltb (block_at bs i).end (block_at bs i).start h, g, ne_eqb (suc i) (length bs) l)

pub gap_next : (bs : List Stretch) (i : ℕ) → 0 < i → (t : Bool) → t ≡ eqb (block_at bs i).start ((block_at bs (i - 1)).end + 1) → gap_at bs i ≡ not t
gap_next bs zero h t e = absurd (omega arith)
gap_next bs (suc k) h t e =
    let q : suc k - 1 ≡ k = omega arith in
    sym (ap not (e ∙ ap (λ (y : ℕ). eqb (block_at bs (suc k)).start ((block_at bs y).end + 1)) q))

-- the numbers seen, as bits
pub used_none : (bs : List Stretch) (x : ℕ) → x < 4096 → bit (replicate 64 0) 0 x ≡ used_before bs x 0
unfolding used_before
used_none bs x h = ap (λ (y : ℕ). bit_of y (x % 64)) (ap (λ (y : ℕ). get_or (replicate 64 0) y 0) (zero_plus (x / 64)) ∙ get_or-replicate 64 (x / 64) 0 0 (omega arith)) ∙ bit_zero (x % 64)
  where
    zero_plus : (y : ℕ) → 0 + y ≡ y
    zero_plus y = omega arith

    or_none : (u : Bool) → (u || false) ≡ u
    or_none true = refl
    or_none false = refl

used_step : (bs : List Stretch) (x i : ℕ) → used_before bs x (suc i) ≡ (used_before bs x i || eqb (block_at bs i).number x)
unfolding used_before
used_step bs x i = refl

pub used_more : (bs : List Stretch) (i b : ℕ) (w₀ w : List ℕ) → b ≡ (block_at bs i).number → PutBit w₀ w 0 b true → ((x : ℕ) → x < 4096 → bit w₀ 0 x ≡ used_before bs x i)
    → (x : ℕ) → x < 4096 → bit w 0 x ≡ used_before bs x (i + 1)
used_more bs i b w₀ w e p f x h =
    p.bits x ∙ ap (λ (u : Bool). cond (eqb x b) true u) (f x h) ∙ or_cond (used_before bs x i) x b
    ∙ ap (λ (y : ℕ). used_before bs x i || eqb y x) e ∙ sym (ap (used_before bs x) (add-one i) ∙ used_step bs x i)

-- ---- number 3

module _ (n : ℕ) (js : List ℕ) (i : ℕ) (l : i < edge_count js) where
  pub from_bad : n ≤ get_or js (edge_width * i) 0 → bad_edge n (jumps_of js) i ≡ true
  from_bad h = simp (le-leb n (get_or (jumps_of js) i (record { from = 0; to = 0 })).from (omega (arith, from_is js i l)))

  pub to_bad : get_or js (edge_width * i) 0 < n → n ≤ edge_into js i → bad_edge n (jumps_of js) i ≡ true
  to_bad g h = simp (lt-leb n (get_or (jumps_of js) i (record { from = 0; to = 0 })).from (omega (arith, from_is js i l)), le-leb n (get_or (jumps_of js) i (record { from = 0; to = 0 })).to (omega (arith, to_is js i l)))

  pub edge_fine : get_or js (edge_width * i) 0 < n → edge_into js i < n → bad_edge n (jumps_of js) i ≡ false
  edge_fine g h = simp (lt-leb n (get_or (jumps_of js) i (record { from = 0; to = 0 })).from (omega (arith, from_is js i l)), lt-leb n (get_or (jumps_of js) i (record { from = 0; to = 0 })).to (omega (arith, to_is js i l)))

-- ---- the three in order

module _ (blocks edges : List ℕ) (points : ℕ) where
  pub count_bad : (r : Refusal) (i : ℕ) → count_verdict blocks edges ≡ Bad r i → Bad r i ≡ graph_verdict blocks edges points
  unfolding graph_verdict in_order
  count_bad r i e = sym (first_bad _ _ r i e)

  pub line_bad : (r : Refusal) (i : ℕ) → count_verdict blocks edges ≡ Fine → line_verdict (blocks_of blocks) points ≡ Bad r i → Bad r i ≡ graph_verdict blocks edges points
  unfolding graph_verdict in_order
  line_bad r i f e = sym (first_fine _ _ f ∙ first_bad _ _ r i e)

  pub edge_last : (v : Verdict) → count_verdict blocks edges ≡ Fine → line_verdict (blocks_of blocks) points ≡ Fine → v ≡ edge_verdict (blocks_of blocks) (jumps_of edges) → v ≡ graph_verdict blocks edges points
  unfolding graph_verdict in_order
  edge_last v f g e = e ∙ sym (first_fine _ _ f ∙ first_fine _ _ g ∙ check_last (edge_verdict (blocks_of blocks) (jumps_of edges)))

  -- a graph that is not refused
  pub record Passed : Type 0 where
    pub counts : Counts blocks edges
    pub sound : Sound (blocks_of blocks)
    pub edges_fine : edge_verdict (blocks_of blocks) (jumps_of edges) ≡ Fine

  pub passed : graph_verdict blocks edges points ≡ Fine → Passed
  unfolding graph_verdict in_order
  passed e =
      let a = first_left (count_verdict blocks edges) _ e in
      let b = first_right (count_verdict blocks edges) _ e in
      let c = counts blocks edges a in
      record {
        counts = c;
        sound = line_sound (blocks_of blocks) points (omega (arith, blocks_length blocks, c.some)) (first_left (line_verdict (blocks_of blocks) points) _ b);
        edges_fine = first_left (edge_verdict (blocks_of blocks) (jumps_of edges)) _ (first_right (line_verdict (blocks_of blocks) points) _ b);
      }

-- ---- rows of bits, and the space

module _ (lent n words : ℕ) where
  pub rows_fine : lent ≡ n * words → Fine ≡ rows_verdict lent n words
  rows_fine h = simp (eq-eqb lent (n * words) h)

  pub rows_bad : lent ≢ n * words → Bad Count 0 ≡ rows_verdict lent n words
  rows_bad h = simp (ne_eqb lent (n * words) h)

  pub rows_told : rows_verdict lent n words ≡ Fine → lent ≡ n * words
  rows_told e = same lent (n * words) (λ h. h) (λ h. absurd (let q = rows_bad h ∙ e in let z : ◌≡◌ {A = ℕ} 0 1 = cc in omega arith))

-- a number by its quotient and its remainder
pub quotient : (a n w : ℕ) → 0 < w → a / w ≡ n → a % w ≡ 0 → a ≡ n * w
quotient a n w p q r = sym (div-add-mod' a w) ∙ rw (q, r) (omega arith)

pub quotient_not : (a n w : ℕ) → 0 < w → a / w ≢ n → a ≢ n * w
quotient_not a n w p q e = q (ap (λ (y : ℕ). y / w) e ∙ mul-div_cancel n p)

pub remainder_not : (a n w : ℕ) → 0 < w → a / w ≡ n → a % w ≢ 0 → a ≢ n * w
remainder_not a n w p q r e = r (let s = div-add-mod' a w in let t : a / w * w ≡ n * w = ap (λ (y : ℕ). y * w) q in omega arith)

module _ (answer most work n e rows : ℕ) where
  pub short_answer : answer < most → Bad Space 0 ≡ room_verdict answer most work (space_of n e rows)
  short_answer h = simp (lt-ltb answer most h)

  pub short_work : most ≤ answer → work < space_of n e rows → Bad Space 0 ≡ room_verdict answer most work (space_of n e rows)
  short_work h l = simp (le-ltb answer most h, lt-ltb work (8 * (n + e + rows)) l)

  pub enough : most ≤ answer → space_of n e rows ≤ work → Fine ≡ room_verdict answer most work (space_of n e rows)
  enough h l = simp (le-ltb answer most h, le-ltb work (8 * (n + e + rows)) l)

  pub space_told : room_verdict answer most work (space_of n e rows) ≡ Fine → (most ≤ answer) × (space_of n e rows ≤ work)
  space_told v = cut most answer
      (λ a. cut (space_of n e rows) work
      (λ b. (a, b))
      (λ b. absurd (let q = short_work a b ∙ v in let z : ◌≡◌ {A = ℕ} 0 1 = cc in omega arith)))
      (λ a. absurd (let q = short_answer a ∙ v in let z : ◌≡◌ {A = ℕ} 0 1 = cc in omega arith))
