-- The areas in the work space: the regions fit, and each phase leaves what the next one asks.
use Prim.Native.Nat.{ℕ, zero, ◌+◌, ◌*◌, ◌/◌, ◌%◌, ◌^◌, ◌≤◌, ◌<◌}
use native.Mathlib.Nat.{mul-le-mul_right}
use mir.Syntax.{w64}
use mir.Val.{Fits as WordFits}
use native.Mathlib.Omega.{arith}
use mathlib.Core.Path.{◌≡◌, refl, sym, ap, ◌∙◌}
use mathlib.Core.Logic.{inl, inr, ⊎_elim}
use mathlib.Core.Bool.{Bool, true, false, cond}
use mathlib.Core.List.Memᴰ
use mathlib.Core.List.{List, [], ◌∷◌, Memᴰ}
use lib.ListN.{length, get_or}
use lib.Dec.{eqb}
use Rattle.refusals.specs.declared.Refusal.TheVariants.{Piece}
use Rattle.refusals.proofs.Laws.{scan_fine}
use Rattle.words.specs.Rows.{row_count, field, records}
use Rattle.words.specs.Widths.{block_count, edge_count, touch_width, range_width}
use Rattle.words.specs.Inner.{touch_count, stop_count}
use Rattle.words.proofs.RowLaws.{mem_of_tabulate}
use Rattle.bits.specs.Bits.{bit_of}
use Rattle.bits.proofs.DigitLaws.{bit_zero}
use Rattle.ranges.specs.Points.{range}
use Rattle.graph.specs.Paths.{Edge}
use Rattle.graph.specs.Line.{blocks_of}
use Rattle.carrying.proofs.ListLaws.{of_gathered}
use Rattle.components.specs.Entry.{edges_in}
use Rattle.areas.specs.Blocks.{AllInLine}
use Rattle.areas.specs.Slots.{off_line}
use Rattle.areas.proofs.JobLaws.{in_line}
use Rattle.spots.specs.Spots.{line_of}
use Rattle.area_flow.specs.declared.Grid.{Grid}
use Rattle.area_flow.specs.Inner.{Laid as GridLaid}
use Rattle.local_spots.specs.declared.Places.{Places}
use Rattle.local_spots.specs.Locals.{kind_for, touches_for, ends_for}
use Rattle.local_spots.specs.Inner.{Laid, Chained}
use Rattle.local_marks.specs.Inner.{MarkedAll, Ready as MarkReady, RowsBy}
use Rattle.local_marks.proofs.RowLaws.{rows_by}
use Rattle.kind_numbers.proofs.KindLaws.{plain_kind, ending_kind}
use Rattle.area_measure.specs.Locals.{area_for}
use Rattle.area_measure.specs.Inner.Locals.{word_of, Fits, Ready, RowsOf, MeasuredAll}
use Rattle.area_measure.proofs.ListLaws.{listed_none}
use Rattle.area_measure.proofs.LocalLaws.{chains_kept}
use Rattle.area_layout.specs.declared.Sizes.{Sizes}
use Rattle.area_layout.specs.Layout.{space_for}
use Rattle.area_layout.specs.Inner.{Small, Placed, Gridded, mark_of}
use Rattle.area_checks.specs.Checks.{sizes_of, touch_verdict}
use Rattle.area_checks.specs.Inner.{Lent}
use Rattle.lent_areas.specs.Areas.{graph_for}
use Rattle.lent_areas.specs.Inner.{listing, Markable, Marking, Rowed, Solved}
use Rattle.words.proofs.FitLaws.{rows_few}
use Rattle.area_layout.proofs.FitLaws.{layout_fits}
use Rattle.refusals.specs.Verdicts.{Fine}

-- the ends' room is not far
pub past_ends : (z : Sizes) (p : Places) → Small z → Placed z p → p.ends + z.ends ≤ 1048576
past_ends z p s l = omega (arith, s.few_locals, s.few_touches, s.few_ends, s.few_ranges, l.heads_at, l.nexts_at, l.touches_at, l.ends_at)

pub near : (n : ℕ) → n ≤ 1048576 → WordFits w64 n
near n h = omega arith

-- ---- the touches

-- number 6 leaves each local touches that are upright and in the line
pub lent_in_line : (blocks touches : List ℕ) → touch_verdict blocks touches ≡ Fine → (l : ℕ) → AllInLine (blocks_of blocks) (touches_for touches l)
lent_in_line blocks touches e l t m =
    let (f, n, k) = of_gathered (λ (f : ℕ → ℕ). cond (eqb (f 0) l) (range (f 1) (f 2) ∷ []) []) (records touch_width (λ f. f) touches) t m in
    let (i, h, z) = mem_of_tabulate (row_count touch_width touches) (λ i. field touch_width touches i) n in
    rw (own (eqb (f 0) l) (f 1) (f 2) k, z)
    (in_line (blocks_of blocks) (field touch_width touches i 1) (field touch_width touches i 2)
    (scan_fine Piece (λ j. off_line (blocks_of blocks) (field touch_width touches j 1) (field touch_width touches j 2)) (row_count touch_width touches) e i h))
  where
    own : (b : Bool) (x y : ℕ) → Memᴰ t (cond b (range x y ∷ []) []) → t ≡ range x y
    own true x y q = ⊎_elim (λ a. a) (λ a. absurd (Memᴰ.not-nil a)) (Memᴰ.cases_cons q)
    own false x y q = absurd (Memᴰ.not-nil q)

-- ---- the marks

module _ (p : Places) (g : Grid) (blocks kinds touches ends : List ℕ) {w₀ w₁ : List ℕ} (M : Markable p g blocks kinds touches ends w₀) (C : Chained p touches ends w₀ w₁) where
  pub mark_ready : MarkReady p g blocks touches ends w₁
  mark_ready =
      let L = M.laid in
      record {
        line = M.line;
        in_line = M.in_line;
        laid = record { heads_fit = L.heads_fit; nexts_fit = L.nexts_fit; at_fits = L.at_fits; ends_fit = omega (arith, L.ends_fit, C.kept.len) };
        chains = C.chains;
        counted = M.counted;
        long = M.long;
        apart = M.apart;
        touched_fits = M.touched_fits;
        leaves_fit = M.leaves_fit;
        passes_fit = omega (arith, M.passes_fit, C.kept.len);
      }

  pub mark_done : {w : List ℕ} → ((es : List Edge) → MarkedAll (line_of blocks es) kinds touches ends p g (block_count blocks) w₁ w) → Marking p g blocks kinds touches ends w₀ w
  mark_done {w} A =
      let L = M.laid in
      record {
        kept = record {
          len = (A []).kept.len ∙ C.kept.len;
          below = λ i h. (A []).kept.below i (omega (arith, L.heads_fit, L.nexts_fit)) ∙ C.kept.below i h;
          past = λ i h. (A []).kept.past i h ∙ C.kept.past i (omega (arith, L.nexts_fit, L.at_fits, M.apart, M.touched_fits, M.leaves_fit));
        };
        chains = chains_kept touches ends p mark_ready.laid (λ i a b. (A []).kept.below i b) C.chains;
        marks = λ es. (A es).marks;
      }

-- ---- where it all stands

module _ (blocks edges kinds touches ends : List ℕ) (areas : ℕ) (p : Places) (g : Grid) {w₀ : List ℕ} (N : Lent blocks edges kinds touches ends areas w₀) (some : 0 < length kinds)
    (P : Placed (sizes_of blocks edges (length kinds) (length touches) (length ends) areas) p)
    (G : Gridded (sizes_of blocks edges (length kinds) (length touches) (length ends) areas) (p.ends + stop_count ends) g) where
  abbrev n : ℕ
  n = block_count blocks

  abbrev z : Sizes
  z = sizes_of blocks edges (length kinds) (length touches) (length ends) areas

  fit : mark_of g + g.width + n + (3 * touch_count touches + n) ≤ space_for z
  fit = layout_fits z p g N.small some P G

  -- the regions in their order
  pub record Order : Type 0 where
    pub heads : p.heads ≡ areas / range_width + length kinds
    pub ends_by : p.ends + stop_count ends ≤ g.touched
    pub base_by : g.base ≡ p.ends + stop_count ends
    pub rows_by : g.written + n * g.words ≤ g.read
    pub touched_by : g.touched + n * g.words ≤ g.leaves
    pub leaves_by_lem : g.leaves + n * g.words ≤ g.passes
    pub passes_by : g.passes + n * g.words ≤ g.written
    pub read_by : g.read + n * g.words ≤ g.wait
    pub wait_by : g.wait + (n / 64 + 1) + n * g.words ≤ g.to
    pub mark_by : mark_of g + g.width + n + (3 * touch_count touches + n) ≤ length w₀

  pub order : Order
  order = record {
    heads = P.heads_at;
    ends_by = omega (arith, G.tarjan_at, G.touched_at);
    base_by = G.base_is;
    rows_by = omega (arith, G.read_at);
    touched_by = omega (arith, G.leaves_at);
    leaves_by_lem = omega (arith, G.passes_at);
    passes_by = omega (arith, G.written_at);
    read_by = omega (arith, G.wait_at);
    wait_by = omega (arith, G.to_at);
    mark_by = omega (arith, fit, N.space);
  }

  pub places_laid : {w : List ℕ} → length w ≡ length w₀ → Laid p (touch_count touches) (stop_count ends) w
  places_laid e =
      let o = order in
      record {
        heads_fit = omega (arith, P.nexts_at, P.locals_are);
        nexts_fit = omega (arith, P.touches_at);
        at_fits = omega (arith, P.ends_at);
        ends_fit = omega (arith, o.ends_by, o.touched_by, o.leaves_by_lem, o.passes_by, o.rows_by, o.read_by, o.wait_by, o.mark_by);
      }

  pub long : g.locals ≤ g.words * 64
  long = omega (arith, G.words_are, G.locals_are)

  pub markable : Markable p g blocks kinds touches ends w₀
  markable =
      let o = order in
      record {
        line = N.sound;
        in_line = lent_in_line blocks touches N.touches_fine;
        laid = places_laid refl;
        counted = G.locals_are ∙ sym P.locals_are;
        kinds_lent = omega (arith, P.locals_are);
        long = long;
        apart = o.ends_by;
        touched_fits = o.touched_by;
        leaves_fit = o.leaves_by_lem;
        passes_fit = omega (arith, o.passes_by, o.rows_by, o.read_by, o.wait_by, o.mark_by);
      }

  pub grid_laid : {w : List ℕ} → length w ≡ length w₀ → GridLaid g n (edge_count edges) w
  grid_laid e =
      let o = order in
      record {
        few = N.small.few_blocks;
        edges_fit = omega (arith, G.base_is, G.tarjan_at);
        tarjan_fits = omega (arith, G.touched_at);
        touched_fits = o.touched_by;
        leaves_fit = o.leaves_by_lem;
        passes_fit = o.passes_by;
        written_fits = o.rows_by;
        read_fits = o.read_by;
        wait_fits = o.wait_by;
        to_fits = omega (arith, o.mark_by);
        wide = omega (arith, G.width_is);
        long = long;
      }

  pub mark_room : {w : List ℕ} → Marking p g blocks kinds touches ends w₀ w → mark_of g + g.width ≤ length w
  mark_room M = omega (arith, order.mark_by, M.kept.len)

  -- no sum is too long
  pub from_small : mark_of g + g.width + n < 2 ^ 64
  from_small =
      let s = N.small in
      let r = rows_few s.few_blocks s.few_locals in
      omega (arith, fit, s.few_blocks, s.few_edges, s.few_locals, s.few_touches, s.few_ends, s.few_ranges)

  pub mark_fits : WordFits w64 (g.locals * g.width) × WordFits w64 (mark_of g)
  mark_fits = let a = from_small in (omega (arith, a), omega (arith, a))

  few : length kinds * (3 * touch_count touches + n) < 2 ^ 32
  few =
      let s = N.small in
      let a : length kinds * (3 * touch_count touches + n) ≤ 2048 * (3 * touch_count touches + n) = mul-le-mul_right (3 * touch_count touches + n) s.few_locals in
      omega (arith, s.few_touches, s.few_blocks)

  measure_fits : {w : List ℕ} → length w ≡ length w₀ → Fits blocks kinds touches ends p g (mark_of g) (listing (areas / range_width)) w
  measure_fits e =
      let o = order in
      let x : g.locals * g.width ≡ length kinds * g.width = ap (λ (k : ℕ). k * g.width) G.locals_are in
      record {
        locals_are = P.locals_are;
        areas_fit = omega arith;
        items_fit = omega (arith, o.heads);
        spots = places_laid e;
        spots_fit = omega (arith, o.ends_by, o.touched_by, o.leaves_by_lem, o.passes_by);
        written_fits = o.rows_by;
        read_fits = omega (arith, o.read_by, o.wait_by);
        to_fits = omega (arith, x);
        fits = omega (arith, o.mark_by);
        small = from_small;
        wide = omega (arith, G.width_is);
        narrow = omega (arith, G.width_is, N.small.few_blocks);
        long = omega (arith, long, G.locals_are);
        few = few;
      }

  -- ---- the rows of the locals

  abbrev es : List Edge
  es = edges_in blocks edges

  module _ {w₁ w₂ : List ℕ} (M : Marking p g blocks kinds touches ends w₀ w₁) (R : Rowed es g n (mark_of g) w₁ w₂) where
    module _ (l : ℕ) (h : l < length kinds) where
      rows_for_lem : RowsBy (graph_for blocks edges) (kind_for kinds l) (touches_for touches l) (ends_for ends l) g n l w₂
      rows_for_lem = rows_by blocks w₂ (grid_laid M.kept.len) (M.marks es) R.area (λ i x. R.zero.before i x) l (omega (arith, G.locals_are))

      pub rows_are : RowsOf blocks kinds touches ends g (mark_of g) w₂ es l
      rows_are = record {
        plain = λ e. record { written = rows_for_lem.written (plain_kind (get_or kinds l 0) e); read = rows_for_lem.read (plain_kind (get_or kinds l 0) e) };
        ending = λ e. record { arriving = rows_for_lem.arrives (ending_kind (get_or kinds l 0) e) };
      }

    chained : (i : ℕ) → p.heads ≤ i → i < p.at → get_or w₂ i 0 ≡ get_or w₁ i 0
    chained i a b =
        let o = order in
        let L = places_laid {w = w₀} refl in
        R.zero.before i (omega (arith, L.at_fits, o.ends_by, o.touched_by, o.leaves_by_lem, o.passes_by, o.rows_by, o.read_by, o.wait_by))
        ∙ R.area.kept.same i (inl (omega (arith, L.at_fits, o.base_by))) (inl (omega (arith, L.at_fits, o.ends_by, o.touched_by, o.leaves_by_lem, o.passes_by)))

    length_is : length w₂ ≡ length w₀
    length_is = R.zero.len ∙ R.area.kept.len ∙ M.kept.len

    pub ready : Ready blocks kinds touches ends p g (mark_of g) (listing (areas / range_width)) w₂
    ready = record {
      laid = measure_fits length_is;
      chains = chains_kept touches ends p (places_laid M.kept.len) chained M.chains;
      unmarked = λ c h. ap (λ (y : ℕ). bit_of y (c % 64)) (R.zero.inside (mark_of g + c / 64) (c / 64) refl (omega arith)) ∙ bit_zero (c % 64);
      rest = λ l b h m q. (rows_for_lem l h).rest b m q;
      both = λ l k h e m. (rows_for_lem l h).both (plain_kind (get_or kinds l 0) e) k m;
      in_line = lent_in_line blocks touches N.touches_fine;
    }

    pub solved : {w : List ℕ} {t : ℕ} → MeasuredAll blocks kinds touches ends p g (mark_of g) (listing (areas / range_width)) w₂ w t → Solved blocks edges kinds touches ends areas w₀ w t
    solved {w} {t} D =
        let o = order in
        record {
          kept = record {
            len = D.spared.len ∙ length_is;
            below = λ i h. absurd (omega arith);
            past = λ i h.
                D.spared.past i (omega (arith, fit)) ∙ R.zero.after i (omega (arith, fit))
                ∙ R.area.kept.same i (inr (omega (arith, fit, G.touched_at, o.touched_by, o.leaves_by_lem, o.passes_by, o.rows_by, o.read_by, o.wait_by))) (inr (omega (arith, fit)))
                ∙ M.kept.past i (omega (arith, fit, o.passes_by, o.rows_by, o.read_by, o.wait_by));
          };
          listed = D.listed.is es rows_are;
        }

-- without locals
pub solved_none : (blocks edges kinds touches ends : List ℕ) (areas : ℕ) (w : List ℕ) → length kinds ≡ 0 → Solved blocks edges kinds touches ends areas w w 0
solved_none blocks edges kinds touches ends areas w e = record {
  kept = record { len = refl; below = λ i h. refl; past = λ i h. refl };
  listed = rw e (listed_none word_of (listing (areas / range_width)) (area_for (graph_for blocks edges) kinds touches ends) w);
}
