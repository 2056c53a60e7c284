-- What each way out of the checks comes to, and what is left where none refuses.
use Prim.Native.Nat.{ℕ, ◌+◌, ◌*◌, ◌/◌, ◌%◌, ◌≤◌, ◌<◌}
use native.Mathlib.Omega.{arith}
use mathlib.Core.Path.{◌≡◌, sym, ap, ◌∙◌}
use mathlib.Core.Bool.{not, ◌||◌}
use mathlib.Core.List.{List}
use lib.ListN.{length, get_or}
use lib.Dec.{eqb, leb, ltb}
use borrow.Author.Tests.{lt-ltb, le-ltb, ltb-false}
use Rattle.words.proofs.Bools.{or_neither}
use Rattle.refusals.specs.declared.Refusal.{Refusal}
use Rattle.refusals.specs.declared.Refusal.TheVariants.{Count, Inst, Space}
use Rattle.refusals.specs.Verdicts.{first, scan, Bad, Fine, Verdict}
use Rattle.refusals.proofs.Laws.{first_fine, first_bad, first_left, first_right, check_told}
use Rattle.words.specs.Rows.{row_count, field}
use Rattle.words.specs.Widths.{touch_width, stop_width, part_width, range_width}
use Rattle.graph.specs.Checks.{graph_verdict}
use Rattle.line_checks.proofs.Refusals.{passed}
use Rattle.insts.specs.Inner.{bad_rows}
use Rattle.insts.specs.Counts.{rows_verdict, most_verdict}
use Rattle.insts.proofs.DealtLaws.{scan_same}
use Rattle.area_layout.specs.declared.Sizes.{Sizes}
use Rattle.area_layout.specs.Layout.{space_for}
use Rattle.area_layout.specs.Inner.{Small}
use Rattle.area_checks.specs.Checks.{row_counts, sizes_of, kinds_verdict, touch_verdict, space_verdict, lent_verdict}
use Rattle.area_checks.specs.Inner.{Lent}

rows_told : (width limit n : ℕ) → rows_verdict width limit n ≡ Fine → n / width ≤ limit
rows_told width limit n e = ltb-false limit (n / width) (or_neither (not (eqb (n % width) 0)) _ (check_told Count (bad_rows width limit n) e)).1

module _ (kinds touches ends areas items : ℕ) where
  pub counts_chain : {a b c d e r₁ r₂ r₃ r : Verdict} → a ≡ most_verdict 2048 kinds → b ≡ rows_verdict touch_width 65536 touches → c ≡ rows_verdict stop_width 65536 ends → d ≡ rows_verdict range_width 65536 areas → e ≡ rows_verdict part_width items items
      → r₁ ≡ first d e → r₂ ≡ first c r₁ → r₃ ≡ first b r₂ → r ≡ first a r₃ → r ≡ row_counts kinds touches ends areas items
  unfolding row_counts
  counts_chain ea eb ec ed ee e₁ e₂ e₃ e₄ = cc

  pub record Counted : Type 0 where
    pub few_kinds : kinds ≤ 2048
    pub few_touches : touches / touch_width ≤ 65536
    pub few_ends : ends / stop_width ≤ 65536
    pub few_ranges : areas / range_width ≤ 65536

  pub counted : row_counts kinds touches ends areas items ≡ Fine → Counted
  unfolding row_counts
  counted e =
      let b = first_right (most_verdict 2048 kinds) _ e in
      let c = first_right (rows_verdict touch_width 65536 touches) _ b in
      let d = first_right (rows_verdict stop_width 65536 ends) _ c in
      record {
        few_kinds = ltb-false 2048 kinds (check_told Count (ltb 2048 kinds) (first_left (most_verdict 2048 kinds) _ e));
        few_touches = rows_told touch_width 65536 touches (first_left (rows_verdict touch_width 65536 touches) _ b);
        few_ends = rows_told stop_width 65536 ends (first_left (rows_verdict stop_width 65536 ends) _ c);
        few_ranges = rows_told range_width 65536 areas (first_left (rows_verdict range_width 65536 areas) _ d);
      }

-- ---- number 4

pub kinds_are : (kinds : List ℕ) → scan Inst (λ n. leb 3 (field 1 kinds n 0)) (row_count 1 kinds) ≡ kinds_verdict kinds
kinds_are kinds =
    let e : row_count 1 kinds ≡ length kinds = omega arith in
    ap (scan Inst (λ n. leb 3 (field 1 kinds n 0))) e
    ∙ scan_same Inst (λ n. leb 3 (field 1 kinds n 0)) (λ l. ltb 2 (get_or kinds l 0)) (length kinds)
    (λ i h. let z : 1 * i + 0 ≡ i = omega arith in ap (λ (k : ℕ). leb 3 (get_or kinds k 0)) z)

-- ---- number 7

module _ (z : Sizes) (items work : ℕ) where
  pub short_work : work < space_for z → Bad Space 0 ≡ space_verdict z items work
  short_work h = simp (lt-ltb work (space_for z) h)

  pub short_items : space_for z ≤ work → items / part_width < z.locals → Bad Space 0 ≡ space_verdict z items work
  short_items h m = simp (le-ltb work (space_for z) h, lt-ltb (items / part_width) z.locals m)

  pub enough : space_for z ≤ work → z.locals ≤ items / part_width → Fine ≡ space_verdict z items work
  enough h m = simp (le-ltb work (space_for z) h, le-ltb (items / part_width) z.locals m)

-- ---- all of them

module _ (blocks edges : List ℕ) (points : ℕ) (kinds touches : List ℕ) (ends areas items work : ℕ) where
  abbrev z : Sizes
  z = sizes_of blocks edges (length kinds) (length touches) ends areas

  abbrev count : Verdict
  count = row_counts (length kinds) (length touches) ends areas items

  abbrev all : Verdict
  all = lent_verdict blocks edges points kinds touches ends areas items work

  pub small : count ≡ Fine → graph_verdict blocks edges points ≡ Fine → Small z
  small e f =
      let c = counted (length kinds) (length touches) ends areas items e in
      let k = (passed blocks edges points f).counts in
      record {
        some_block = omega (arith, k.some);
        few_blocks = k.few;
        few_edges = k.few_edges;
        few_locals = c.few_kinds;
        few_touches = c.few_touches;
        few_ends = c.few_ends;
        few_ranges = c.few_ranges;
      }

  pub by_counts : (r : Refusal) (i : ℕ) → count ≡ Bad r i → Bad r i ≡ all
  unfolding lent_verdict
  by_counts r i e = sym (first_bad _ _ r i e)

  module _ (e : count ≡ Fine) where
    pub by_graph : (r : Refusal) (i : ℕ) → graph_verdict blocks edges points ≡ Bad r i → Bad r i ≡ all
    unfolding lent_verdict
    by_graph r i f = sym (first_fine count _ e ∙ first_bad _ _ r i f)

    pub by_rest : graph_verdict blocks edges points ≡ Fine → {v k t s u : Verdict} → k ≡ kinds_verdict kinds → t ≡ touch_verdict blocks touches → s ≡ space_verdict z items work → u ≡ first t s → v ≡ first k u
        → v ≡ all
    unfolding lent_verdict
    by_rest f {v} g h q j l =
        let x : v ≡ first (kinds_verdict kinds) (first (touch_verdict blocks touches) (space_verdict z items work)) = cc in
        x ∙ sym (first_fine count _ e ∙ first_fine (graph_verdict blocks edges points) _ f)

-- where nothing is refused
module _ (blocks edges : List ℕ) (points : ℕ) (kinds touches ends : List ℕ) (areas items : ℕ) (w : List ℕ) where
  pub lent : lent_verdict blocks edges points kinds touches (length ends) areas items (length w) ≡ Fine → Lent blocks edges kinds touches ends areas w × (part_width * length kinds ≤ items)
  unfolding lent_verdict
  lent e =
      let c = first_left (row_counts (length kinds) (length touches) (length ends) areas items) _ e in
      let f = first_right (row_counts (length kinds) (length touches) (length ends) areas items) _ e in
      let g = first_left (graph_verdict blocks edges points) _ f in
      let k = first_right (kinds_verdict kinds) _ (first_right (graph_verdict blocks edges points) _ f) in
      let p = passed blocks edges points g in
      let z = sizes_of blocks edges (length kinds) (length touches) (length ends) areas in
      let (a, b) = or_neither (ltb (length w) (space_for z)) _ (check_told Space (ltb (length w) (space_for z) || ltb (items / part_width) (length kinds)) (first_right (touch_verdict blocks touches) _ k)) in (
        record {
          small = small blocks edges points kinds touches (length ends) areas items (length w) c g;
          sound = p.sound;
          edges_fine = p.edges_fine;
          touches_fine = first_left (touch_verdict blocks touches) _ k;
          space = ltb-false (length w) (space_for z) a;
        },
        omega (arith, ltb-false (items / part_width) (length kinds) b),
      )
