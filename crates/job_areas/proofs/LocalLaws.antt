-- The locals' phase of a job that no check refuses: where it stands, and what it gives.
use Prim.Native.Nat.{ℕ, ◌+◌, ◌/◌, ◌^◌, ◌≤◌, ◌<◌}
use native.Mathlib.Omega.{arith}
use mathlib.Core.Path.{◌≡◌, refl, sym, ap, subst, ◌∙◌}
use mathlib.Core.List.{List}
use lib.ListN.{length}
use Rattle.words.specs.Widths.{block_count, local_count, end_count, range_width}
use Rattle.graph.specs.Line.{blocks_of}
use Rattle.graph.proofs.Line.{blocks_length}
use Rattle.carrying.specs.Carried.{pieces_of, touches_of}
use Rattle.areas.proofs.JobLaws.{touches_in_lem}
use Rattle.reach.specs.declared.Lay.{Lay}
use Rattle.reach.specs.Prepared.{code_of}
use Rattle.area_flow.specs.declared.Grid.{Grid}
use Rattle.area_layout.specs.Inner.{Gridded, mark_of}
use Rattle.areas.specs.Blocks.{AllInLine}
use Rattle.live.specs.Inner.{InOrder}
use Rattle.slot_spots.specs.declared.Places.{Places as SlotPlaces}
use Rattle.area_measure.specs.Inner.Locals.{word_of}
use Rattle.area_measure.proofs.ListLaws.{listed_none}
use Rattle.job_spots.specs.declared.Places.{Places}
use Rattle.job_locals.specs.Inner.{Asked, LocalsIn}
use Rattle.job_space.specs.declared.Sizes.{Sizes}
use Rattle.job_space.specs.Space.{sizes_of, space_of, Small}
use Rattle.job_checks.specs.Job.{job_of}
use Rattle.words.proofs.FitLaws.{rows_few}
use Rattle.job_layout.specs.declared.Regions.{Regions}
use Rattle.job_layout.specs.Inner.{grid_sizes, Placed, LaidFrom, SlotsFrom, most_of_local, LocalsLaid}
use Rattle.job_layout.proofs.FitLaws.{ranges_small, locals_laid, layout_fits}
use Rattle.area_tables.specs.Inner.{listing}
use Rattle.job_areas.specs.Inner.{Lent, LocalsDone}
use Rattle.job_space.specs.Rows.{Rows}

-- the slots' regions as `slots` gives them
abbrev slot_places : Sizes → ℕ → SlotPlaces
slot_places z from =
    record {
      slots = z.slots;
      table = from + z.slots;
      heads = from + z.slots + z.blocks;
      nexts = from + z.slots + z.blocks + z.slots + z.slots;
      to = from + z.slots + z.blocks + z.slots + z.slots + z.moves + z.moves;
    }

slots_from : (z : Sizes) (from : ℕ) → SlotsFrom z from (slot_places z from)
slots_from z from = record { slots_are = refl; table_at = refl; heads_at = refl; nexts_at = refl; to_at = refl }

-- where one local's touches and ends go
abbrev pub places_in : Regions → Places
places_in r = record { keys = r.keys; heads = r.heads; nexts = r.nexts; at = r.at; ends = r.ends }

module _ (R : Rows) (areas : ℕ) (r : Regions) {w₀ : List ℕ}
    (N : Lent R areas w₀)
    (P : Placed (sizes_of R areas) r) where
  abbrev z : Sizes
  z = sizes_of R areas

  in_line : (l : ℕ) → AllInLine (blocks_of R.blocks) (touches_of (code_of R.v R.insts R.operands R.crossings R.addresses R.ends) (pieces_of R.pieces) l)
  in_line l = touches_in_lem (job_of R) N.passed.checked (let q = blocks_length R.blocks in let b = N.passed.small.some_block in omega arith) l

  -- without locals there is nothing to do
  pub locals_none : local_count R.locals ≡ 0 → LocalsDone R areas r w₀ w₀ 0
  locals_none e = record {
    len = refl;
    keys = λ i a b. refl;
    past = λ i h. refl;
    most = omega arith;
    listed = λ A h. rw e (listed_none word_of (listing (areas / range_width) r.items) A w₀);
  }

  module _ (lay : Lay) (g : Grid) (some : 0 < local_count R.locals) (K : InOrder R.pieces r.keys w₀) (L : LaidFrom z r.free lay) (G : Gridded (grid_sizes z) r.base g) where
    S : Small z
    S = N.passed.small

    laid : LocalsLaid z r lay g w₀
    laid = locals_laid z r g (slot_places z r.free) S P G (slots_from z r.free) w₀ N.space L some

    within : mark_of g + g.width + block_count R.blocks + most_of_local z ≤ space_of z
    within = let f = (layout_fits z r g (slot_places z r.free) S P G (slots_from z r.free)).locals_fit some in omega arith

    space_small : space_of z < 2 ^ 32
    space_small =
        let m = rows_few S.few_blocks S.few_locals in
        omega (arith, S.registers, S.few_blocks, S.few_edges, S.few_insts, S.few_operands, S.few_crossings, S.few_locals, S.few_slots, S.few_addresses, S.few_ends, S.few_pieces, S.few_assigned, S.few_moves, S.few_ranges)

    pub locals_asked : {m : ℕ} → m ≡ mark_of g
        → Asked R.blocks R.edges R.insts R.operands R.crossings R.addresses R.ends R.pieces R.v (local_count R.locals) lay (places_in r) g m (listing (areas / range_width) r.items) w₀
    locals_asked {m} e =
        let o = laid.order in
        let c = laid.carry in
        record {
          tables = record {
            adds = N.passed.adds;
            few_insts = S.few_insts;
            registers = S.registers;
            laid = c;
            found = N.passed.found;
            ended = N.passed.ended;
            queue_fit = o.queue_fit;
            heads_fit = o.heads_fit;
            nexts_fit = omega (arith, o.nexts_fit, o.at_fits, ends_in);
          };
          sound = N.passed.sound;
          edges_fine = N.passed.edges_fine;
          in_line = λ l h. in_line l;
          keys = K;
          laid = record {
            keys_fit = o.keys_fit;
            entries_fit = c.nexts_fits;
            queue_fit = o.queue_fit;
            heads_fit = o.heads_fit;
            nexts_fit = o.nexts_fit;
            at_fits = o.at_fits;
            ends_fit = ends_in;
            few_pieces = S.few_pieces;
            insts_are = refl;
            ends_found = N.passed.ended;
          };
          grid = laid.grid;
          counted = G.locals_are;
          areas_fit = omega (arith, P.items_at);
          items_fit = omega (arith, o.items_fit);
          base_fits = o.ends_fit;
          to_fits = omega (arith, e);
          fits = omega (arith, e, laid.fits);
          small = omega (arith, e, within, space_small);
          narrow = o.narrow;
          few = let q = ranges_small S in omega arith;
        }
      where
        ends_in : r.ends + end_count R.ends ≤ length w₀
        ends_in =
            let o = laid.order in
            omega (arith, o.ends_fit, o.base_fits, o.touched_fits, o.leaves_fit, o.passes_fit, o.written_fits, o.read_fits, o.to_fits, laid.fits)

    pub locals_done : {m n : ℕ} {w : List ℕ} → m ≡ mark_of g
        → LocalsIn R.blocks R.edges R.insts R.operands R.crossings R.addresses R.ends R.pieces R.v (local_count R.locals) lay (places_in r) g m (listing (areas / range_width) r.items) w₀ w n
        → LocalsDone R areas r w₀ w n
    locals_done e I = record {
      len = I.len;
      keys = λ i a b. I.keys i a (omega (arith, L.escapes_at));
      past = λ i h. I.past i (omega (arith, e, within));
      most = I.most;
      listed = λ A h. I.listed A h;
    }

-- ---- the same, by counts that are the records'

module _ (R : Rows) (areas : ℕ) (r : Regions) {w₀ : List ℕ}
    (N : Lent R areas w₀) (z : Sizes) (by-sizes : z ≡ sizes_of R areas) (P : Placed z r) where
  abbrev counts : Sizes
  counts = sizes_of R areas

  placed : Placed counts r
  placed = subst (λ (y : Sizes). Placed y r) by-sizes P

  pub small_for : Small z
  small_for = subst Small (sym by-sizes) N.passed.small

  pub none_for : z.locals ≡ 0 → LocalsDone R areas r w₀ w₀ 0
  none_for e = locals_none R areas r N placed (sym (ap (λ (y : Sizes). y.locals) by-sizes) ∙ e)

  module _ (lay : Lay) (g : Grid) (some : 0 < z.locals) (K : InOrder R.pieces r.keys w₀) (L : LaidFrom z r.free lay) (G : Gridded (grid_sizes z) r.base g) {m : ℕ} (e : m ≡ mark_of g) where
    some_local : 0 < local_count R.locals
    some_local = subst (λ (y : Sizes). 0 < y.locals) by-sizes some

    laid_for : LaidFrom counts r.free lay
    laid_for = subst (λ (y : Sizes). LaidFrom y r.free lay) by-sizes L

    gridded_for : Gridded (grid_sizes counts) r.base g
    gridded_for = subst (λ (y : Sizes). Gridded (grid_sizes y) r.base g) by-sizes G

    pub asked_for : Asked R.blocks R.edges R.insts R.operands R.crossings R.addresses R.ends R.pieces R.v z.locals lay (places_in r) g m (listing z.room r.items) w₀
    asked_for = subst (λ (y : Sizes). Asked R.blocks R.edges R.insts R.operands R.crossings R.addresses R.ends R.pieces R.v y.locals lay (places_in r) g m (listing y.room r.items) w₀) (sym by-sizes)
        (locals_asked R areas r N placed lay g some_local K laid_for gridded_for e)

    pub done_for : {n : ℕ} {w : List ℕ} → LocalsIn R.blocks R.edges R.insts R.operands R.crossings R.addresses R.ends R.pieces R.v z.locals lay (places_in r) g m (listing z.room r.items) w₀ w n
        → LocalsDone R areas r w₀ w n
    done_for {n} {w} I = locals_done R areas r N placed lay g some_local K laid_for gridded_for e
        (subst (λ (y : Sizes). LocalsIn R.blocks R.edges R.insts R.operands R.crossings R.addresses R.ends R.pieces R.v y.locals lay (places_in r) g m (listing y.room r.items) w₀ w n) by-sizes I)
