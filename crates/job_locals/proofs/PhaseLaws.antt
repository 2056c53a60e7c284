-- The locals' phase: what the tables leave is what the rows ask, and what the rows leave is what measuring asks.
use Prim.Native.Nat.{ℕ, ◌+◌, ◌*◌, ◌≤◌}
use native.Mathlib.Omega.{arith}
use mathlib.Core.Path.{◌≡◌, refl, ap, ◌∙◌}
use mathlib.Core.List.{List}
use Rattle.words.specs.Widths.{block_count, edge_count, end_count}
use Rattle.components.specs.Entry.{edges_in}
use Rattle.reach.specs.declared.Lay.{Lay}
use Rattle.reach.specs.Prepared.{code_of}
use Rattle.reach.specs.Inner.{Prepared}
use Rattle.follow.specs.declared.Sizes.{Sizes}
use Rattle.area_flow.specs.declared.Grid.{Grid}
use Rattle.area_flow.specs.Inner.{Laid as GridLaid}
use Rattle.area_measure.specs.declared.Listing.{Listing}
use Rattle.job_spots.specs.declared.Places.{Places}
use Rattle.job_spots.specs.Inner as fetching
use Rattle.job_spots.proofs.FetchLaws.{prepared_kept, ready_since}
use Rattle.job_measure.specs.Inner.{Fits, MeasuredLocals, Ready as MeasureReady}
use Rattle.job_locals.specs.Inner.{sizes, TablesIn, RowsAsked, RowsIn, Asked, LocalsIn}

module _ (blocks edges insts operands crossings addresses ends pieces : List ℕ) (v locals : ℕ) (lay : Lay) (p : Places) (g : Grid) (mark : ℕ) (o : Listing) {w₀ w₁ : List ℕ} {n : ℕ}
    (K : Asked blocks edges insts operands crossings addresses ends pieces v locals lay p g mark o w₀) (T : TablesIn insts operands crossings addresses ends v locals lay p w₀ w₁ n) where
  abbrev z : Sizes
  z = sizes v insts locals n

  abbrev spots : fetching.Ready insts addresses ends pieces lay p z w₁
  spots =
      let L = K.laid in
      record {
        laid = record {
          keys_fit = L.keys_fit;
          entries_fit = L.entries_fit;
          queue_fit = L.queue_fit;
          heads_fit = L.heads_fit;
          nexts_fit = L.nexts_fit;
          at_fits = L.at_fits;
          ends_fit = omega (arith, L.ends_fit, T.kept.len);
          few_pieces = L.few_pieces;
          insts_are = refl;
          ends_found = L.ends_found;
        };
        walks = T.walks;
        keys = record { keys = λ k h. T.kept.below (p.keys + k) (omega (arith, L.keys_fit)) ∙ K.keys.keys k h };
        stops = T.stops;
        operands = operands;
        crossings = crossings;
        prepared = T.prepared;
      }

  grid₁ : GridLaid g (block_count blocks) (edge_count edges) w₁
  grid₁ =
      let G = K.grid in
      record {
        few = G.few;
        edges_fit = G.edges_fit;
        tarjan_fits = G.tarjan_fits;
        touched_fits = G.touched_fits;
        leaves_fit = G.leaves_fit;
        passes_fit = G.passes_fit;
        written_fits = G.written_fits;
        read_fits = G.read_fits;
        wait_fits = G.wait_fits;
        to_fits = omega (arith, G.to_fits, T.kept.len);
        wide = G.wide;
        long = G.long;
      }

  -- the rows of what flows end before those of the locals
  passes_by : g.passes + block_count blocks * g.words ≤ g.to
  passes_by = let G = K.grid in omega (arith, G.passes_fit, G.written_fits, G.read_fits, G.wait_fits)

  pub rows_asked : RowsAsked blocks edges insts addresses ends pieces lay p z g mark w₁
  rows_asked =
      let G = K.grid in
      record {
        marks = record {
          line = K.sound;
          locals = spots;
          in_line = K.in_line;
          counted = K.counted;
          long = G.long;
          apart = omega (arith, K.base_fits, G.edges_fit, G.tarjan_fits);
          touched_fits = G.touched_fits;
          leaves_fit = G.leaves_fit;
          passes_fit = omega (arith, passes_by, K.to_fits, K.fits, T.kept.len);
        };
        edges_fine = K.edges_fine;
        grid = grid₁;
        base_fits = K.base_fits;
        to_fits = K.to_fits;
        mark_fits = omega (arith, K.fits, T.kept.len);
      }

  module _ {w₂ : List ℕ} (Q : RowsIn blocks edges insts addresses ends pieces lay p z g mark w₁ w₂) where
    prepared₂ : Prepared (code_of v insts operands crossings addresses ends) lay w₂ locals n
    prepared₂ = prepared_kept spots Q.kept operands crossings T.prepared

    fits₂ : Fits blocks addresses ends pieces p z g mark o w₂
    fits₂ =
        let G = K.grid in
        let x : g.locals * g.width ≡ locals * g.width = ap (λ (k : ℕ). k * g.width) K.counted in
        record {
          areas_fit = K.areas_fit;
          items_fit = K.items_fit;
          spots_fit = omega (arith, K.base_fits, G.edges_fit, G.tarjan_fits, G.touched_fits, G.leaves_fit, G.passes_fit);
          written_fits = G.written_fits;
          read_fits = omega (arith, G.read_fits, G.wait_fits);
          to_fits = omega (arith, K.to_fits, x);
          fits = omega (arith, K.fits, Q.kept.len, T.kept.len);
          small = K.small;
          wide = G.wide;
          narrow = K.narrow;
          long = omega (arith, G.long, K.counted);
          few = K.few;
        }

    pub measure_ready : MeasureReady blocks insts addresses ends pieces lay p z g mark o w₂
    measure_ready = record {
      sound = K.sound;
      laid = fits₂;
      spots = ready_since spots Q.kept Q.chains_kept;
      unmarked = Q.unmarked;
      edges = edges_in blocks edges;
      operands = operands;
      crossings = crossings;
      prepared = prepared₂;
      rows = Q.rows operands crossings T.prepared;
      in_line = K.in_line;
    }

    pub locals_in : {w : List ℕ} {r : ℕ} → MeasuredLocals blocks insts addresses ends pieces lay p z g mark o w₂ w r
        → LocalsIn blocks edges insts operands crossings addresses ends pieces v locals lay p g mark o w₀ w r
    locals_in M =
        let L = K.laid in
        let t = K.tables.laid in
        let escapes-by : lay.escapes ≤ lay.queue = omega arith in
        let keys_by : p.keys ≤ lay.escapes = omega (arith, L.keys_fit) in
        let spots_by : lay.queue ≤ g.base = omega (arith, L.queue_fit, L.heads_fit, L.nexts_fit, L.at_fits, K.base_fits) in
        let nexts-by : p.nexts + end_count ends ≤ g.base = omega (arith, L.nexts_fit, L.at_fits, K.base_fits) in
        let base_by : g.base ≤ mark = (let G = K.grid in omega (arith, G.edges_fit, G.tarjan_fits, G.touched_fits, G.leaves_fit, passes_by, K.to_fits)) in
        record {
          len = M.spared.len ∙ Q.kept.len ∙ T.kept.len;
          below = λ i h. M.spared.below i h ∙ Q.kept.below i (omega (arith, K.areas_fit, K.items_fit, keys_by, escapes-by)) ∙ T.kept.below i (omega (arith, K.areas_fit, K.items_fit, keys_by));
          keys = λ i a b. M.spared.tables i a (omega (arith, escapes-by)) ∙ Q.kept.below i (omega (arith, escapes-by)) ∙ T.kept.below i b;
          past = λ i h. M.spared.past i h ∙ Q.kept.past i (omega arith) ∙ T.kept.past i (omega (arith, nexts-by, base_by));
          most = M.most;
          listed = λ A e. M.listed.is operands crossings prepared₂ (edges_in blocks edges) (Q.rows operands crossings T.prepared) A e;
        }
