-- Laws of the pass over the locals of a job: the first l are marked.
use Prim.Native.Nat.{ℕ, ◌+◌, ◌*◌, ◌≤◌, ◌<◌}
use native.Mathlib.Omega.{arith}
use mathlib.Core.Path.{◌≡◌, refl, ◌∙◌}
use mathlib.Core.List.{List}
use lib.ListN.{get_or}
use Rattle.words.specs.Widths.{block_count}
use Rattle.graph.specs.Paths.{Edge}
use Rattle.graph.specs.Inner.Work.{Within}
use Rattle.graph.proofs.Within.{within_refl, within_trans, within_wider}
use Rattle.carrying.specs.Carried.{Code, pieces_of, kind_of, touches_of, ends_of}
use Rattle.reach.specs.declared.Lay.{Lay}
use Rattle.reach.specs.Prepared.{code_of}
use Rattle.reach.specs.Inner.{Prepared}
use Rattle.follow.specs.declared.Sizes.{Sizes}
use Rattle.spots.specs.Spots.{line_of}
use Rattle.area_flow.specs.declared.Grid.{Grid}
use Rattle.area_flow.specs.Inner.{Unmarked}
use Rattle.job_spots.specs.declared.Places.{Places}
use Rattle.job_spots.proofs.FetchLaws.{ready_since, prepared_kept}
use Rattle.local_marks.proofs.SweepLaws.{MarkedTo, marked_start, marked_next, marked_done}
use Rattle.job_marks.specs.Inner.{Ready, MarkedAll, MarkedOne}

abbrev pub MarkedOf : List ℕ → List ℕ → Code → Grid → ℕ → List ℕ → List Edge → Type 0
MarkedOf blocks pieces C g l w es = MarkedTo (line_of blocks es) (kind_of C) (touches_of C (pieces_of pieces)) (ends_of C) g (block_count blocks) l w

module _ {blocks insts addresses ends pieces : List ℕ} {lay : Lay} {p : Places} {z : Sizes} {g : Grid} where
  -- a change from the queue on, but not of the chains
  pub ready_kept : {w w' : List ℕ} {hi : ℕ} → Ready blocks insts addresses ends pieces lay p z g w → Within lay.queue hi w w' → ((i : ℕ) → p.heads ≤ i → i < p.at → get_or w' i 0 ≡ get_or w i 0)
      → Ready blocks insts addresses ends pieces lay p z g w'
  ready_kept {w} {w'} R K s =
      let X = ready_since R.locals K s in
      record {
        line = R.line;
        locals = record {
          laid = X.laid;
          walks = X.walks;
          keys = X.keys;
          stops = X.stops;
          operands = R.locals.operands;
          crossings = R.locals.crossings;
          prepared = prepared_kept R.locals K R.locals.operands R.locals.crossings R.locals.prepared;
        };
        in_line = R.in_line;
        counted = R.counted;
        long = R.long;
        apart = R.apart;
        touched_fits = R.touched_fits;
        leaves_fit = R.leaves_fit;
        passes_fit = let a = R.passes_fit in let b = K.len in omega arith;
      }

-- the first l locals are marked, for whatever code the tables were prepared when the pass began
pub record Sweep (blocks insts addresses ends pieces : List ℕ) (lay : Lay) (p : Places) (z : Sizes) (g : Grid) (w₀ w : List ℕ) (l : ℕ) : Type 0 where
  pub begun : Ready blocks insts addresses ends pieces lay p z g w₀
  pub kept : Within lay.queue (g.passes + block_count blocks * g.words) w₀ w
  pub chains_kept : (i : ℕ) → p.heads ≤ i → i < p.at → get_or w i 0 ≡ get_or w₀ i 0
  pub l_le : l ≤ z.locals
  pub so_far_lem : (operands crossings : List ℕ) → Prepared (code_of z.v insts operands crossings addresses ends) lay w₀ z.locals z.edges
      → (es : List Edge) → MarkedOf blocks pieces (code_of z.v insts operands crossings addresses ends) g l w es

module _ {blocks insts addresses ends pieces : List ℕ} {lay : Lay} {p : Places} {z : Sizes} {g : Grid} where
  module _ {v w₀ : List ℕ} (R : Ready blocks insts addresses ends pieces lay p z g v) (U : Unmarked g (block_count blocks) v w₀) where
    before : (p.heads ≤ p.at) × (p.at ≤ g.touched) × (lay.queue ≤ p.heads)
    before =
        let a = R.apart in let b = R.locals.laid.at_fits in let c = R.locals.laid.nexts_fit in let d = R.locals.laid.heads_fit in let q = R.locals.laid.queue_fit in
        (omega arith, omega arith, omega arith)

    pub cleared_kept : Within lay.queue (g.passes + block_count blocks * g.words) v w₀
    cleared_kept = let b = before in within_wider lay.queue (g.passes + block_count blocks * g.words) (omega arith) (omega arith) U.kept

    cleared_chains : (i : ℕ) → p.heads ≤ i → i < p.at → get_or w₀ i 0 ≡ get_or v i 0
    cleared_chains i x y = U.kept.below i (let b = before in omega arith)

    pub sweep_start : Sweep blocks insts addresses ends pieces lay p z g w₀ w₀ 0
    sweep_start = record {
      begun = ready_kept R cleared_kept cleared_chains;
      kept = within_refl _ _ w₀;
      chains_kept = λ i x y. refl;
      l_le = omega arith;
      so_far_lem = λ operands crossings P es. marked_start U;
    }

    pub sweep_done : {w : List ℕ} {l : ℕ} → Sweep blocks insts addresses ends pieces lay p z g w₀ w l → z.locals ≤ l → MarkedAll blocks insts addresses ends pieces lay p z g v w
    sweep_done d h =
        let a = d.l_le in let b = R.counted in
        record {
          kept = within_trans cleared_kept d.kept;
          chains_kept = λ i x y. d.chains_kept i x y ∙ cleared_chains i x y;
          marks = λ operands crossings P es. marked_done (d.so_far_lem operands crossings (prepared_kept R.locals cleared_kept operands crossings P) es) (omega arith) R.long;
        }

  module _ {w₀ w : List ℕ} {l : ℕ} (d : Sweep blocks insts addresses ends pieces lay p z g w₀ w l) where
    pub sweep_ready : Ready blocks insts addresses ends pieces lay p z g w
    sweep_ready = ready_kept d.begun d.kept d.chains_kept

    pub sweep_more : {w' : List ℕ} → l < z.locals → MarkedOne blocks insts addresses ends pieces lay p z g l w w' → Sweep blocks insts addresses ends pieces lay p z g w₀ w' (l + 1)
    sweep_more h O = record {
      begun = d.begun;
      kept = within_trans d.kept O.kept;
      chains_kept = λ i x y. O.chains_kept i x y ∙ d.chains_kept i x y;
      l_le = omega arith;
      so_far_lem = λ operands crossings P es.
          marked_next (d.so_far_lem operands crossings P es) (let a = d.begun.counted in let b = d.begun.long in omega arith)
          (O.marks operands crossings (prepared_kept d.begun.locals d.kept operands crossings P) es);
    }
