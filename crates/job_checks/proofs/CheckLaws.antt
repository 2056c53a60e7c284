-- The checks of a job's records: what the functions join, and what no refusal says.
use Rattle.std.specs.Prelude.{Err}
use Prim.Native.Nat.{ℕ, ◌/◌, ◌%◌, ◌≤◌}
use native.Mathlib.Omega.{arith}
use mathlib.Core.Path.{◌≡◌, refl, sym, ap, ◌∙◌}
use mathlib.Core.Bool.{not}
use mathlib.Core.List.{List, [], ◌∷◌, ◌++◌}
use lib.ListN.{length}
use lib.Dec.{eqb}
use borrow.Author.Tests.{eqb-true, not-false}
use Rattle.words.proofs.Bools.{or_neither}
use Rattle.refusals.specs.declared.Refusal.{Refusal}
use Rattle.refusals.specs.declared.Refusal.TheVariants.{Count, Edge as EdgeWord}
use Rattle.refusals.specs.Verdicts.{first, in_order, scan, Bad, Fine, Verdict}
use Rattle.refusals.proofs.Laws.{first_fine, first_bad, first_left, first_right, check_last, check_told}
use Rattle.refusals.proofs.Orders.{order_append}
use Rattle.words.specs.Widths.{block_count, edge_width, piece_width, assigned_width, move_width, range_width}
use Rattle.graph.specs.Line.{blocks_of, jumps_of, line_verdict, bad_edge, edge_verdict, Sound}
use Rattle.graph.proofs.Line.{blocks_length, line_sound}
use Rattle.carrying.specs.Insts.{insts_of}
use Rattle.carrying.specs.Carried.{mentions_of, pieces_of}
use Rattle.carrying.specs.Checks.{inst_verdict, crossing_verdict, address_verdict, end_verdict}
use Rattle.areas.specs.Slots.{assigned_of, moves_of, move_verdict, piece_verdict, assigned_verdict}
use Rattle.areas.specs.Job.{checks}
use Rattle.insts.specs.Inner.{bad_rows}
use Rattle.insts.specs.Counts.{rows_verdict, most_verdict}
use Rattle.insts.proofs.CheckLaws.{most_few, rows_few}
use Rattle.carry_checks.specs.Checks.{carry_counts}
use Rattle.carry_checks.specs.Inner.{stray_verdict as mentionVerdict}
use Rattle.carry_checks.proofs.CheckLaws.{counted, Counted, stray_whatever, addresses_found, ends_found}
use Rattle.spill_checks.proofs.OperandLaws.{moves_whatever}
use Rattle.job_space.specs.Rows.{Rows}
use Rattle.job_space.specs.Space.{sizes_of, Small}
use Rattle.job_checks.specs.Job.{job_of, other_counts, count_verdict, Passed}
use Rattle.job_checks.specs.Inner.{place_verdict, stray_verdict, live_verdict, placed_verdict}

-- ---- number 1

module _ (edges slots pieces assigned moves areas : ℕ) where
  pub others_chain : {a b c d e f g h i j r : Verdict} → a ≡ rows_verdict edge_width 16384 edges → b ≡ most_verdict 2048 slots → c ≡ rows_verdict piece_width 65536 pieces → d ≡ rows_verdict assigned_width 65536 assigned
      → e ≡ rows_verdict move_width 65536 moves → f ≡ rows_verdict range_width 65536 areas
      → g ≡ first e f → h ≡ first d g → i ≡ first c h → j ≡ first b i → r ≡ first a j → r ≡ other_counts edges slots pieces assigned moves areas
  unfolding other_counts
  others_chain ea eb ec ed ee ef eg eh ei ej er = cc

  record OthersCounted : Type 0 where
    few_edges : edges / edge_width ≤ 16384
    few_slots : slots ≤ 2048
    few_pieces : pieces / piece_width ≤ 65536
    few_assigned : assigned / assigned_width ≤ 65536
    few_moves : moves / move_width ≤ 65536
    few_ranges : areas / range_width ≤ 65536

  others_counted : other_counts edges slots pieces assigned moves areas ≡ Fine → OthersCounted
  unfolding other_counts
  others_counted e =
      let a = first_right (rows_verdict edge_width 16384 edges) _ e in
      let b = first_right (most_verdict 2048 slots) _ a in
      let c = first_right (rows_verdict piece_width 65536 pieces) _ b in
      let d = first_right (rows_verdict assigned_width 65536 assigned) _ c in
      record {
        few_edges = rows_few edge_width 16384 edges (first_left _ _ e);
        few_slots = most_few 2048 slots (first_left _ _ a);
        few_pieces = rows_few piece_width 65536 pieces (first_left _ _ b);
        few_assigned = rows_few assigned_width 65536 assigned (first_left _ _ c);
        few_moves = rows_few move_width 65536 moves (first_left _ _ d);
        few_ranges = rows_few range_width 65536 areas (first_right (rows_verdict move_width 65536 moves) _ d);
      }

module _ (R : Rows) (areas : ℕ) where
  pub counts_chain : {a b r : Verdict} → a ≡ carry_counts R.v R.blocks R.insts R.operands R.crossings R.locals R.addresses R.ends
      → b ≡ other_counts (length R.edges) (length R.slots) (length R.pieces) (length R.assigned) (length R.moves) areas → r ≡ first a b
      → r ≡ count_verdict R areas
  unfolding count_verdict
  counts_chain ea eb er = cc

  -- what is known of the counts
  pub record Told : Type 0 where
    pub carried : Counted R.v R.blocks R.insts R.operands R.crossings R.locals R.addresses R.ends
    pub small : Small (sizes_of R areas)

  pub told : count_verdict R areas ≡ Fine → Told
  unfolding count_verdict
  told e =
      let carry = carry_counts R.v R.blocks R.insts R.operands R.crossings R.locals R.addresses R.ends in
      let c = counted R.v R.blocks R.insts R.operands R.crossings R.locals R.addresses R.ends (first_left carry _ e) in
      let o = others_counted (length R.edges) (length R.slots) (length R.pieces) (length R.assigned) (length R.moves) areas (first_right carry _ e) in
      record {
        carried = c;
        small = record {
          registers = c.registers;
          some_block = (let q = c.some in omega arith);
          few_blocks = c.few;
          few_edges = o.few_edges;
          few_insts = c.few_insts;
          few_operands = c.few_operands;
          few_crossings = c.few_crossings;
          few_locals = c.few_locals;
          few_slots = o.few_slots;
          few_addresses = c.few_addresses;
          few_ends = c.few_ends;
          few_pieces = o.few_pieces;
          few_assigned = o.few_assigned;
          few_moves = o.few_moves;
          few_ranges = o.few_ranges;
        };
      }

  -- the area list is whole rows
  pub whole_areas : count_verdict R areas ≡ Fine → areas % range_width ≡ 0
  unfolding count_verdict other_counts
  whole_areas e =
      let a = first_right (carry_counts R.v R.blocks R.insts R.operands R.crossings R.locals R.addresses R.ends) _ e in
      let b = first_right (rows_verdict edge_width 16384 (length R.edges)) _ a in
      let c = first_right (most_verdict 2048 (length R.slots)) _ b in
      let d = first_right (rows_verdict piece_width 65536 (length R.pieces)) _ c in
      let f = first_right (rows_verdict assigned_width 65536 (length R.assigned)) _ d in
      let g = first_right (rows_verdict move_width 65536 (length R.moves)) _ f in
      eqb-true (areas % range_width) 0 (not-false (eqb (areas % range_width) 0) (or_neither (not (eqb (areas % range_width) 0)) _ (check_told Count (bad_rows range_width 65536 areas) g)).0)

-- ---- numbers 2 to 6, by the functions that check them

module _ (points v : ℕ) (blocks edges insts operands : List ℕ) where
  pub by_line : (r : Refusal) (i : ℕ) → line_verdict (blocks_of blocks) points ≡ Bad r i → Bad r i ≡ place_verdict points v blocks edges insts operands
  by_line r i e = sym (first_bad _ _ r i e)

  pub by_edge : {a b r : Verdict} → line_verdict (blocks_of blocks) points ≡ Fine → a ≡ scan EdgeWord (bad_edge (block_count blocks) (jumps_of edges)) (length (jumps_of edges))
      → b ≡ inst_verdict (blocks_of blocks) v (insts_of insts operands) → r ≡ first a b → r ≡ place_verdict points v blocks edges insts operands
  by_edge {a} {b} {r} e ea eb er =
      let q : a ≡ edge_verdict (blocks_of blocks) (jumps_of edges) = ea ∙ ap (λ (n : ℕ). scan EdgeWord (bad_edge n (jumps_of edges)) (length (jumps_of edges))) (sym (blocks_length blocks)) in
      er ∙ ap (λ (x : Verdict). first x b) q ∙ ap (first (edge_verdict (blocks_of blocks) (jumps_of edges))) eb ∙ sym (first_fine _ _ e)

pub some_sound : (blocks : List ℕ) (points : ℕ) → 1 ≤ block_count blocks → line_verdict (blocks_of blocks) points ≡ Fine → Sound (blocks_of blocks)
some_sound blocks points h e = line_sound (blocks_of blocks) points (omega (arith, blocks_length blocks)) e

-- ---- all of them

-- nine checks as the functions join them
nine : (a b c d e f g h i : Verdict) → first (first a (first b c)) (first d (first (first (first e f) g) (first h i))) ≡ in_order (a ∷ b ∷ c ∷ d ∷ e ∷ f ∷ g ∷ h ∷ i ∷ [])
unfolding first in_order
nine (Err x) b c d e f g h i = refl
nine Fine (Err x) c d e f g h i = refl
nine Fine Fine (Err x) d e f g h i = refl
nine Fine Fine Fine (Err x) e f g h i = refl
nine Fine Fine Fine Fine (Err e) f g h i = refl
nine Fine Fine Fine Fine Fine (Err e) g h i = refl
nine Fine Fine Fine Fine Fine Fine (Err e) h i = refl
nine Fine Fine Fine Fine Fine Fine Fine (Err e) i = refl
nine Fine Fine Fine Fine Fine Fine Fine Fine (Err e) = refl
nine Fine Fine Fine Fine Fine Fine Fine Fine Fine = refl

module _ (points v : ℕ) (blocks edges insts operands crossings addresses ends pieces assigned moves : List ℕ) where
  pub by_place : (r : Refusal) (i : ℕ) → place_verdict points v blocks edges insts operands ≡ Bad r i → Bad r i ≡ placed_verdict points v blocks edges insts operands crossings addresses ends pieces assigned moves
  by_place r i e = sym (first_bad _ _ r i e)

  pub by_rest : {x a b s r : Verdict} → place_verdict points v blocks edges insts operands ≡ Fine → x ≡ crossing_verdict v crossings → a ≡ stray_verdict blocks insts [] addresses ends moves
      → b ≡ live_verdict v blocks pieces assigned → s ≡ first a b → r ≡ first x s → r ≡ placed_verdict points v blocks edges insts operands crossings addresses ends pieces assigned moves
  by_rest {x} {a} {b} {s} {r} f k p q y z =
      let w = stray_whatever insts operands addresses ends in
      let m = moves_whatever (blocks_of blocks) insts operands moves in
      let u : r ≡ first (crossing_verdict v crossings) (first (stray_verdict blocks insts operands addresses ends moves) (live_verdict v blocks pieces assigned)) = cc in
      u ∙ sym (first_fine _ _ f)

module _ (R : Rows) where
  -- what `placed` says of a job's rows
  abbrev pub placed_of : Verdict
  placed_of = placed_verdict R.points R.v R.blocks R.edges R.insts R.operands R.crossings R.addresses R.ends R.pieces R.assigned R.moves

  pub placed_checks : placed_of ≡ in_order (checks (job_of R))
  placed_checks =
      nine (line_verdict (blocks_of R.blocks) R.points) (edge_verdict (blocks_of R.blocks) (jumps_of R.edges)) (inst_verdict (blocks_of R.blocks) R.v (insts_of R.insts R.operands))
      (crossing_verdict R.v R.crossings) (address_verdict (insts_of R.insts R.operands) (mentions_of R.addresses)) (end_verdict (insts_of R.insts R.operands) (mentions_of R.ends))
      (move_verdict (blocks_of R.blocks) (insts_of R.insts R.operands) (moves_of R.moves)) (piece_verdict (blocks_of R.blocks) R.v (pieces_of R.pieces)) (assigned_verdict R.v (assigned_of R.assigned))

  -- records that no check refuses
  pub records_checked : (areas : ℕ) → count_verdict R areas ≡ Fine → in_order (checks (job_of R)) ≡ Fine → Passed R areas
  records_checked areas e k =
      let t = told R areas e in
      let g = placed_checks ∙ k in
      let p = first_left (place_verdict R.points R.v R.blocks R.edges R.insts R.operands) _ g in
      let q = first_right (crossing_verdict R.v R.crossings) _ (first_right (place_verdict R.points R.v R.blocks R.edges R.insts R.operands) _ g) in
      let s = first_left (stray_verdict R.blocks R.insts R.operands R.addresses R.ends R.moves) _ q in
      let l = first_right (stray_verdict R.blocks R.insts R.operands R.addresses R.ends R.moves) _ q in
      let m = first_left (mentionVerdict R.insts R.operands R.addresses R.ends) _ s in
      let x = first_right (line_verdict (blocks_of R.blocks) R.points) _ p in
      record {
        small = t.small;
        adds = t.carried.adds;
        checked = k;
        sound = some_sound R.blocks R.points t.carried.some (first_left (line_verdict (blocks_of R.blocks) R.points) _ p);
        edges_fine = first_left (edge_verdict (blocks_of R.blocks) (jumps_of R.edges)) _ x;
        insts_fine = first_right (edge_verdict (blocks_of R.blocks) (jumps_of R.edges)) _ x;
        found = addresses_found R.insts R.operands R.addresses R.ends m;
        ended = ends_found R.insts R.operands R.addresses R.ends m;
        moves_fine = moves_whatever (blocks_of R.blocks) R.insts R.operands R.moves ∙ first_right (mentionVerdict R.insts R.operands R.addresses R.ends) _ s;
        pieces_fine = first_left (piece_verdict (blocks_of R.blocks) R.v (pieces_of R.pieces)) _ l;
        assigned_fine = first_right (piece_verdict (blocks_of R.blocks) R.v (pieces_of R.pieces)) _ l;
      }

-- ---- the checks of an entry before anything is measured: one of its own, number 1 of the records, numbers 2 to 6, and number 7

module _ (R : Rows) (areas : ℕ) (own space : Verdict) where
  abbrev lent : Verdict
  lent = in_order (own ∷ count_verdict R areas ∷ (checks (job_of R) ++ (space ∷ [])))

  nested : lent ≡ first own (first (count_verdict R areas) (first (placed_of R) space))
  unfolding in_order
  nested =
      ap (λ (x : Verdict). first own (first (count_verdict R areas) x))
      (order_append (checks (job_of R)) (space ∷ []) ∙ ap (first (in_order (checks (job_of R)))) (check_last space) ∙ ap (λ (x : Verdict). first x space) (sym (placed_checks R)))

  pub by_own : (r : Refusal) (i : ℕ) → own ≡ Bad r i → Bad r i ≡ lent
  by_own r i e = sym (nested ∙ first_bad _ _ r i e)

  pub by_counts : (r : Refusal) (i : ℕ) → own ≡ Fine → count_verdict R areas ≡ Bad r i → Bad r i ≡ lent
  by_counts r i e f = sym (nested ∙ first_fine _ _ e ∙ first_bad _ _ r i f)

  pub by_placed : (r : Refusal) (i : ℕ) → own ≡ Fine → count_verdict R areas ≡ Fine → placed_of R ≡ Bad r i → Bad r i ≡ lent
  by_placed r i e f g = sym (nested ∙ first_fine _ _ e ∙ first_fine _ _ f ∙ first_bad _ _ r i g)

  pub by_space : {x : Verdict} → own ≡ Fine → count_verdict R areas ≡ Fine → placed_of R ≡ Fine → x ≡ space → x ≡ lent
  by_space e f g h = h ∙ sym (nested ∙ first_fine _ _ e ∙ first_fine _ _ f ∙ first_fine _ _ g)

  -- where none refuses
  pub lent_counted : lent ≡ Fine → count_verdict R areas ≡ Fine
  lent_counted e = first_left (count_verdict R areas) _ (first_right own _ (sym nested ∙ e))

  pub lent_passed : lent ≡ Fine → Passed R areas
  lent_passed e = records_checked R areas (lent_counted e) (sym (placed_checks R) ∙ first_left (placed_of R) space (first_right (count_verdict R areas) _ (first_right own _ (sym nested ∙ e))))

  pub lent_space : lent ≡ Fine → space ≡ Fine
  lent_space e = first_right (placed_of R) space (first_right (count_verdict R areas) _ (first_right own _ (sym nested ∙ e)))
