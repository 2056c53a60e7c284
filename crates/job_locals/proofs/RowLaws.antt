-- From the marks of all locals to their rows.
use Prim.Native.Nat.{ℕ, ◌+◌, ◌/◌, ◌%◌, ◌≤◌, ◌<◌}
use native.Mathlib.Omega.{arith}
use mathlib.Core.Path.{◌≡◌, refl, ap, ◌∙◌}
use mathlib.Core.Logic.{inl, inr}
use mathlib.Core.List.{List, []}
use lib.ListN.{get_or}
use Rattle.words.specs.Inner.{Region}
use Rattle.words.specs.Widths.{block_count, edge_count}
use Rattle.bits.specs.Bits.{bit_of}
use Rattle.bits.proofs.DigitLaws.{bit_zero}
use Rattle.components.specs.Entry.{edges_in}
use Rattle.reach.specs.declared.Lay.{Lay}
use Rattle.follow.specs.declared.Sizes.{Sizes}
use Rattle.area_flow.specs.declared.Grid.{Grid}
use Rattle.area_flow.specs.Inner.{Quiet, AreaRows, Laid as GridLaid}
use Rattle.local_marks.proofs.RowLaws.{rows_by}
use Rattle.job_spots.specs.declared.Places.{Places}
use Rattle.job_marks.specs.Inner.{MarkedAll}
use Rattle.job_locals.specs.Inner.{RowsAsked, RowsIn}

module _ (blocks edges insts addresses ends pieces : List ℕ) (lay : Lay) (p : Places) (z : Sizes) (g : Grid) (mark : ℕ) {w₀ w₁ : List ℕ}
    (R : RowsAsked blocks edges insts addresses ends pieces lay p z g mark w₀) (M : MarkedAll blocks insts addresses ends pieces lay p z g w₀ w₁) where
  abbrev n : ℕ
  n = block_count blocks

  pub grid_since : GridLaid g n (edge_count edges) w₁
  grid_since =
      let G = R.grid in
      record {
        few = G.few;
        edges_fit = G.edges_fit;
        tarjan_fits = G.tarjan_fits;
        touched_fits = G.touched_fits;
        leaves_fit = G.leaves_fit;
        passes_fit = G.passes_fit;
        written_fits = G.written_fits;
        read_fits = G.read_fits;
        wait_fits = G.wait_fits;
        to_fits = omega (arith, G.to_fits, M.kept.len);
        wide = G.wide;
        long = G.long;
      }

  pub quiet : Quiet g n w₁
  quiet = let L = R.marks.locals in (M.marks L.operands L.crossings L.prepared []).quiet

  module _ {w₂ w : List ℕ} (A : AreaRows (edges_in blocks edges) g n w₁ w₂) (Z : Region w₂ w mark g.width (λ _. 0)) where
    -- one region behind another
    queue_by : lay.queue ≤ p.heads
    queue_by = let L = R.marks.locals.laid in omega (arith, L.queue_fit)

    spots_by : p.heads ≤ p.at
    spots_by = let L = R.marks.locals.laid in omega (arith, L.heads_fit, L.nexts_fit)

    ends_by : p.at ≤ g.base
    ends_by = let L = R.marks.locals.laid in omega (arith, L.at_fits, R.base_fits)

    base_by : g.base ≤ g.written
    base_by = let G = R.grid in omega (arith, G.edges_fit, G.tarjan_fits, G.touched_fits, G.leaves_fit, G.passes_fit)

    to_by : g.written ≤ g.to
    to_by = let G = R.grid in omega (arith, G.written_fits, G.read_fits, G.wait_fits)

    tarjan_by : g.tarjan + n + n + n + n + n + n ≤ g.to
    tarjan_by = let G = R.grid in omega (arith, G.tarjan_fits, G.touched_fits, G.leaves_fit, G.passes_fit, to_by)

    before : (i : ℕ) → i < g.base → get_or w i 0 ≡ get_or w₁ i 0
    before i h = Z.before i (omega (arith, base_by, to_by, R.to_fits)) ∙ A.kept.same i (inl h) (inl (omega (arith, base_by)))

    pub rows_in_lem : RowsIn blocks edges insts addresses ends pieces lay p z g mark w₀ w
    rows_in_lem = record {
      kept = record {
        len = Z.len ∙ A.kept.len ∙ M.kept.len;
        below = λ i h. before i (omega (arith, queue_by, spots_by, ends_by)) ∙ M.kept.below i h;
        past = λ i h. Z.after i h ∙ A.kept.same i (inr (omega (arith, tarjan_by, R.to_fits))) (inr (omega (arith, R.to_fits)))
            ∙ M.kept.past i (let G = R.grid in omega (arith, G.passes_fit, to_by, R.to_fits));
      };
      chains_kept = λ i a b. before i (omega (arith, ends_by)) ∙ M.chains_kept i a b;
      unmarked = λ c h. ap (λ (y : ℕ). bit_of y (c % 64)) (Z.inside (mark + c / 64) (c / 64) refl (omega arith)) ∙ bit_zero (c % 64);
      rows = λ operands crossings P l h.
          rows_by blocks w grid_since (M.marks operands crossings P (edges_in blocks edges)) A (λ i b. Z.before i (omega (arith, R.to_fits))) l (omega (arith, R.marks.counted));
    }
