-- Laws of the blocks of each local: the rows turned, and what they say of plain and of ending locals.
use Prim.Native.Nat.{ℕ, ◌+◌, ◌*◌, ◌/◌, ◌%◌, ◌≤◌, ◌<◌}
use native.Mathlib.Omega.{arith}
use mathlib.Core.Path.{◌≡◌, refl, sym, ap, ◌∙◌, subst}
use mathlib.Core.Logic.{◌⊎◌, inl, inr, ⊎_elim}
use mathlib.Core.Bool.{Bool, true, false, ◌&&◌, ◌||◌, or-false}
use mathlib.Core.List.{List}
use lib.ListN.{length, get_or}
use Rattle.words.specs.Inner.{Region}
use Rattle.words.specs.Widths.{block_count}
use Rattle.words.proofs.RegionLaws.{row_before}
use Rattle.words.proofs.Bools.{not_both}
use Rattle.bits.specs.Bits.{bit_of}
use Rattle.bits.proofs.DigitLaws.{bit_zero}
use Rattle.graph.specs.Paths.{Edge, Between, Route, one, more}
use Rattle.graph.specs.Flow.{Arrives, left, passed}
use Rattle.graph.specs.Line.{blocks_of}
use Rattle.graph.specs.Rounds.{reached_row, reaching_row, arriving_row}
use Rattle.graph.specs.Inner.Work.{Within}
use Rattle.graph.proofs.Within.{within_trans, region_within}
use Rattle.graph.proofs.Line.{blocks_length}
use Rattle.graph.proofs.RoundLaws.{reached, reaching, arriving as arriving-row}
use Rattle.flow_rows.proofs.Moved.{reaching_as}
use Rattle.spread_rows.proofs.Turns.{arrives_as}
use Rattle.ranges.specs.declared.Range.{Range}
use Rattle.areas.specs.Blocks.{Graph, touched, leaves, passes}
use Rattle.areas.specs.Pieces.{before_row, after_row, arrives_row}
use Rattle.row_turns.specs.declared.Turn.{Turn}
use Rattle.row_turns.specs.Inner.{Turnable, Turned}
use Rattle.area_flow.specs.declared.Grid.{Grid}
use Rattle.area_flow.specs.Inner.{row_bit, arriving, block_bit, Laid, Quiet, AreaRows, Flowing, Still, Blocked}
use Rattle.area_flow.proofs.FlowLaws.{both_ways}

-- ---- turning

twice : (a b : Bool) → (a && a || (b || false)) ≡ (b || a)
twice true true = refl
twice true false = refl
twice false true = refl
twice false false = refl

same_and : (a : Bool) → (a && a) ≡ a
same_and true = refl
same_and false = refl

module _ (g : Grid) (n : ℕ) {w₀ w₁ : List ℕ} (S : Still g n w₀) (Z : Region w₀ w₁ g.to (g.locals * g.width) (λ _. 0)) where
  abbrev flows_turn : Turn
  flows_turn = record { n = n; words = g.words; one = g.written; two = g.read; locals = g.locals; width = g.width; to = g.to }

  abbrev arrives_turn : Turn
  arrives_turn = record { n = n; words = g.words; one = arriving g n; two = arriving g n; locals = g.locals; width = g.width; to = g.to }

  -- rows that stand before the locals'
  before : {w : List ℕ} → Within g.to (g.to + g.locals * g.width) w₀ w → (from k l : ℕ) → from + n * g.words ≤ g.to → k < n → l < g.words * 64 → row_bit g from w k l ≡ row_bit g from w₀ k l
  before K from k l a h m =
      let r = row_before k n g.words h in
      ap (λ (y : ℕ). bit_of y (l % 64)) (K.below (from + k * g.words + l / 64) (omega arith))

  turnable : {w : List ℕ} → Within g.to (g.to + g.locals * g.width) w₀ w → (a b : ℕ) → a + n * g.words ≤ g.to → b + n * g.words ≤ g.to
      → ((k l : ℕ) → k < n → g.locals ≤ l → l < g.words * 64 → (row_bit g a w₀ k l && row_bit g b w₀ k l) ≡ false)
      → Turnable (record { n = n; words = g.words; one = a; two = b; locals = g.locals; width = g.width; to = g.to }) w
  turnable {w} K a b x y f = record {
    one_in = omega (arith, K.len, S.to_fits);
    two_in = omega (arith, K.len, S.to_fits);
    to_in = omega (arith, K.len, S.to_fits);
    one_apart = inl x;
    two_apart = inl y;
    wide = S.wide;
    long = S.long;
    none = λ k l h p q.
        ap (λ (z : Bool). z && row_bit g b w k l) (before K a k l x h q) ∙ ap (λ (z : Bool). row_bit g a w₀ k l && z) (before K b k l y h q) ∙ f k l h p q;
  }

  pub flows_turnable : Turnable flows_turn w₁
  flows_turnable = turnable (region_within Z) g.written g.read (omega (arith, S.written_fits, S.read_fits, S.wait_fits)) (omega (arith, S.read_fits, S.wait_fits)) S.flows

  module _ {w₂ : List ℕ} (A : Turned flows_turn w₁ w₂) where
    kept₂ : Within g.to (g.to + g.locals * g.width) w₀ w₂
    kept₂ = within_trans (region_within Z) A.kept

    pub arrives_turnable : Turnable arrives_turn w₂
    arrives_turnable = turnable kept₂ (arriving g n) (arriving g n) S.wait_fits S.wait_fits (λ k l h p q. ap (λ (x : Bool). x && x) (S.arrives k l h p q))

    zero_bit : (l b : ℕ) → l < g.locals → b < g.width * 64 → block_bit g w₁ l b ≡ false
    zero_bit l b h m =
        let r = row_before l g.locals g.width h in
        let z : g.to + l * g.width + b / 64 ≡ g.to + (l * g.width + b / 64) = omega arith in
        ap (λ (y : ℕ). bit_of y (b % 64)) (Z.inside (g.to + l * g.width + b / 64) (l * g.width + b / 64) z (omega arith)) ∙ bit_zero (b % 64)

    pub blocked : {w₃ : List ℕ} → Turned arrives_turn w₂ w₃ → Blocked g n w₀ w₃
    blocked {w₃} B = record {
      kept = within_trans kept₂ B.kept;
      blocks = λ l k h m.
          let q : l < g.words * 64 = omega (arith, S.long) in
          B.bits l k h m
          ∙ ap (λ (x : Bool). x && x || block_bit g w₂ l k) (before kept₂ (arriving g n) k l S.wait_fits m q)
          ∙ ap (λ (x : Bool). row_bit g (arriving g n) w₀ k l && row_bit g (arriving g n) w₀ k l || x) (A.bits l k h m
          ∙ ap (λ (x : Bool). x && row_bit g g.read w₁ k l || block_bit g w₁ l k) (before (region_within Z) g.written k l (omega (arith, S.written_fits, S.read_fits, S.wait_fits)) m q)
          ∙ ap (λ (x : Bool). row_bit g g.written w₀ k l && x || block_bit g w₁ l k) (before (region_within Z) g.read k l (omega (arith, S.read_fits, S.wait_fits)) m q)
          ∙ ap (λ (x : Bool). row_bit g g.written w₀ k l && row_bit g g.read w₀ k l || x) (zero_bit l k h (omega (arith, S.wide))))
          ∙ twice (row_bit g (arriving g n) w₀ k l) (row_bit g g.written w₀ k l && row_bit g g.read w₀ k l);
      rest = λ l b h m q. B.rest l b h m q ∙ A.rest l b h m q ∙ zero_bit l b h q;
    }

-- ---- the whole

false_when : (t : Bool) → (t ≡ true → ⊥) → t ≡ false
false_when true f = absurd (f refl)
false_when false f = refl

and_left : (a b : Bool) → a ≡ false → (a && b) ≡ false
and_left a b e = rw e refl

-- what flows or arrives comes from a place that is touched or left
route_start : {es : List Edge} {n j k : ℕ} → Between n es → Route es j k → j < n
route_start B (one l) = B.from _ l
route_start B (more r l) = route_start B r

arrives_start : {es : List Edge} {n : ℕ} {lv ps : ℕ → Bool} {k : ℕ} → Between n es → Arrives es lv ps k → (j : ℕ) × (j < n) × (lv j ≡ true)
arrives_start B (left {j} l o) = (j, B.from _ l, o)
arrives_start B (passed l r o) = arrives_start B r

-- rows of bits that agree at the places
module _ {es : List Edge} {n : ℕ} (B : Between n es) where
  pub reached_same : (f t : ℕ → Bool) → ((j : ℕ) → j < n → f j ≡ t j) → (k : ℕ) → reached_row n es f k ≡ reached_row n es t k
  reached_same f t e k = both_ways _ _ (reached es n B f k) (
    (λ o. let r = (reached es n B t k).0 o in (r.0, e r.0 (route_start B r.2) ∙ r.1, r.2)),
    (λ r. (reached es n B t k).1 (r.0, sym (e r.0 (route_start B r.2)) ∙ r.1, r.2)),
  )

  pub reaching_same : (f t : ℕ → Bool) → ((j : ℕ) → j < n → f j ≡ t j) → (k : ℕ) → reaching_row n es f k ≡ reaching_row n es t k
  reaching_same f t e k = both_ways _ _ (reaching es n B f k) (
    (λ o. reaching_as B (λ j h. sym (e j h)) ((reaching es n B t k).0 o)),
    (λ r. (reaching es n B t k).1 (reaching_as B e r)),
  )

  pub arriving_same : (f t p q : ℕ → Bool) → ((j : ℕ) → j < n → f j ≡ t j) → ((j : ℕ) → j < n → p j ≡ q j) → (k : ℕ) → arriving_row n es f p k ≡ arriving_row n es t q k
  arriving_same f t p q d e k = both_ways _ _ (arriving-row es n B f p k) (
    (λ o. arrives_as es B (λ j h. sym (d j h)) (λ j h. sym (e j h)) ((arriving-row es n B t q k).0 o)),
    (λ r. (arriving-row es n B t q k).1 (arrives_as es B d e r)),
  )

  -- where no place is touched, or left, none is reached
  pub reached_none : (f : ℕ → Bool) → ((j : ℕ) → j < n → f j ≡ false) → (k : ℕ) → reached_row n es f k ≡ false
  reached_none f e k = false_when (reached_row n es f k) (λ o. let r = (reached es n B f k).0 o in not_both r.1 (e r.0 (route_start B r.2)))

  pub arriving_none : (f p : ℕ → Bool) → ((j : ℕ) → j < n → f j ≡ false) → (k : ℕ) → arriving_row n es f p k ≡ false
  arriving_none f p e k = false_when (arriving_row n es f p k) (λ o. let (j, h, x) = arrives_start B ((arriving-row es n B f p k).0 o) in not_both x (e j h))

module _ (es : List Edge) (g : Grid) (n e : ℕ) {w₀ w₁ : List ℕ} (L : Laid g n e w₀) (F : Flowing es g n w₀ w₁) where
  pub still : Quiet g n w₀ → Still g n w₁
  still Q = record {
    written_fits = L.written_fits;
    read_fits = L.read_fits;
    wait_fits = L.wait_fits;
    to_fits = omega (arith, L.to_fits, F.kept.len);
    wide = L.wide;
    long = L.long;
    flows = λ k l h a m. and_left _ _ (F.written k l h m ∙ reached_none F.between (λ j. row_bit g g.touched w₀ j l) (λ j b. Q.touched j l b a m) k);
    arrives = λ k l h a m. F.arrives k l h m ∙ arriving_none F.between (λ j. row_bit g g.leaves w₀ j l) (λ j. row_bit g g.passes w₀ j l) (λ j b. Q.leaves j l b a m) k;
  }

  module _ {w₂ : List ℕ} (B : Blocked g n w₁ w₂) where
    -- rows that stand before the locals'
    row_kept : (from k l : ℕ) → from + n * g.words ≤ g.to → k < n → l < g.words * 64 → row_bit g from w₂ k l ≡ row_bit g from w₁ k l
    row_kept from k l a h m =
        let r = row_before k n g.words h in
        ap (λ (y : ℕ). bit_of y (l % 64)) (B.kept.below (from + k * g.words + l / 64) (omega arith))

    all_kept : (i : ℕ) → (i < g.base) ⊎ (g.tarjan + n + n + n + n + n + n ≤ i) → (i < g.written) ⊎ (g.to + g.locals * g.width ≤ i) → get_or w₂ i 0 ≡ get_or w₀ i 0
    all_kept i a b =
        ⊎_elim (λ x. B.kept.below i (omega (arith, L.written_fits, L.read_fits, L.wait_fits))) (λ x. B.kept.past i x) b
        ∙ F.kept.same i a (⊎_elim (λ x. inl x) (λ x. inr (omega (arith, L.wait_fits))) b)

    pub area_rows_lem : AreaRows es g n w₀ w₂
    area_rows_lem = record {
      kept = record { len = B.kept.len ∙ F.kept.len; same = all_kept };
      between = F.between;
      written = λ k l h m. row_kept g.written k l (omega (arith, L.written_fits, L.read_fits, L.wait_fits)) h m ∙ F.written k l h m;
      read = λ k l h m. row_kept g.read k l (omega (arith, L.read_fits, L.wait_fits)) h m ∙ F.read k l h m;
      blocks = λ l k h m.
          let q : l < g.words * 64 = omega (arith, L.long) in
          B.blocks l k h m
          ∙ ap (λ (x : Bool). x && row_bit g g.read w₁ k l || row_bit g (arriving g n) w₁ k l) (F.written k l m q)
          ∙ ap (λ (x : Bool). reached_row n es (λ j. row_bit g g.touched w₀ j l) k && x || row_bit g (arriving g n) w₁ k l) (F.read k l m q)
          ∙ ap (λ (x : Bool). reached_row n es (λ j. row_bit g g.touched w₀ j l) k && reaching_row n es (λ j. row_bit g g.touched w₀ j l) k || x) (F.arrives k l m q);
      rest = B.rest;
    }

-- ---- the rows of one local, by its touches and its ends

-- the blocks lent are as many as the line's
pub by_line : {es : List Edge} {g : Grid} {w₀ w : List ℕ} (blocks : List ℕ) → AreaRows es g (block_count blocks) w₀ w → AreaRows es g (length (blocks_of blocks)) w₀ w
by_line {es} {g} {w₀} {w} blocks A = subst (λ (n : ℕ). AreaRows es g n w₀ w) (sym (blocks_length blocks)) A

module _ (G : Graph) (g : Grid) {w₀ w : List ℕ} (A : AreaRows G.edges g (length G.blocks) w₀ w) (ts : List Range) (ends : List ℕ) (l k : ℕ) (local : l < g.locals) (long : l < g.words * 64) (h : k < length G.blocks) where
  -- of a plain local, whose touched places are marked
  module _ (marks : (j : ℕ) → j < length G.blocks → row_bit g g.touched w₀ j l ≡ touched G ts j) where
    pub plain_written : row_bit g g.written w k l ≡ before_row G ts k
    plain_written = A.written k l h long ∙ reached_same A.between (λ j. row_bit g g.touched w₀ j l) (touched G ts) marks k

    pub plain_read : row_bit g g.read w k l ≡ after_row G ts k
    plain_read = A.read k l h long ∙ reaching_same A.between (λ j. row_bit g g.touched w₀ j l) (touched G ts) marks k

    pub plain_blocks : ((j : ℕ) → j < length G.blocks → row_bit g g.leaves w₀ j l ≡ false) → block_bit g w l k ≡ (before_row G ts k && after_row G ts k)
    plain_blocks none =
        A.blocks l k local h
        ∙ ap (λ (x : Bool). (reached_row (length G.blocks) G.edges (λ j. row_bit g g.touched w₀ j l) k && reaching_row (length G.blocks) G.edges (λ j. row_bit g g.touched w₀ j l) k) || x) (arriving_none A.between (λ j. row_bit g g.leaves w₀ j l) (λ j. row_bit g g.passes w₀ j l) none k)
        ∙ or-false (reached_row (length G.blocks) G.edges (λ j. row_bit g g.touched w₀ j l) k && reaching_row (length G.blocks) G.edges (λ j. row_bit g g.touched w₀ j l) k)
        ∙ ap (λ (x : Bool). x && reaching_row (length G.blocks) G.edges (λ j. row_bit g g.touched w₀ j l) k) (reached_same A.between (λ j. row_bit g g.touched w₀ j l) (touched G ts) marks k)
        ∙ ap (λ (x : Bool). before_row G ts k && x) (reaching_same A.between (λ j. row_bit g g.touched w₀ j l) (touched G ts) marks k)

    -- of a local with both kinds of marks
    pub both_blocks : ((j : ℕ) → j < length G.blocks → row_bit g g.leaves w₀ j l ≡ leaves G ts ends j) → ((j : ℕ) → j < length G.blocks → row_bit g g.passes w₀ j l ≡ passes G ends j)
        → block_bit g w l k ≡ (before_row G ts k && after_row G ts k || arrives_row G ts ends k)
    both_blocks lv ps =
        A.blocks l k local h
        ∙ ap (λ (x : Bool). (reached_row (length G.blocks) G.edges (λ j. row_bit g g.touched w₀ j l) k && reaching_row (length G.blocks) G.edges (λ j. row_bit g g.touched w₀ j l)
        k) || x) (arriving_same A.between (λ j. row_bit g g.leaves w₀ j l) (leaves G ts ends) (λ j. row_bit g g.passes w₀ j l) (passes G ends) lv ps k)
        ∙ ap (λ (x : Bool). x && reaching_row (length G.blocks) G.edges (λ j. row_bit g g.touched w₀ j l) k || arrives_row G ts ends k) (reached_same A.between (λ j. row_bit g g.touched w₀ j l) (touched G ts) marks k)
        ∙ ap (λ (x : Bool). before_row G ts k && x || arrives_row G ts ends k) (reaching_same A.between (λ j. row_bit g g.touched w₀ j l) (touched G ts) marks k)

  -- of an ending local, whose leaving and passing places are marked and no other
  pub ending_blocks : ((j : ℕ) → j < length G.blocks → row_bit g g.touched w₀ j l ≡ false) → ((j : ℕ) → j < length G.blocks → row_bit g g.leaves w₀ j l ≡ leaves G ts ends j)
      → ((j : ℕ) → j < length G.blocks → row_bit g g.passes w₀ j l ≡ passes G ends j) → block_bit g w l k ≡ arrives_row G ts ends k
  ending_blocks none lv ps =
      A.blocks l k local h
      ∙ ap (λ (x : Bool). x && reaching_row (length G.blocks) G.edges (λ j. row_bit g g.touched w₀ j l) k || arriving_row (length G.blocks) G.edges (λ j. row_bit g g.leaves w₀ j l) (λ j. row_bit g g.passes w₀ j l) k)
      (reached_none A.between (λ j. row_bit g g.touched w₀ j l) none k)
      ∙ arriving_same A.between (λ j. row_bit g g.leaves w₀ j l) (leaves G ts ends) (λ j. row_bit g g.passes w₀ j l) (passes G ends) lv ps k
