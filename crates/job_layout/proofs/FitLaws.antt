-- The regions of a job fit W for every count within the limits, and stand as the functions that work in them ask.
use Prim.Native.Nat.{ℕ, ◌+◌, ◌*◌, ◌/◌, ◌^◌, ◌≤◌, ◌<◌}
use native.Mathlib.Nat.{mul-le-mul_left}
use native.Mathlib.Omega.{arith}
use mathlib.Core.Path.{◌≡◌, sym, ap, ◌∙◌, subst}
use mathlib.Core.List.{List}
use lib.ListN.{length}
use Rattle.reach.specs.declared.Lay.{Lay}
use Rattle.reach.specs.Inner.{Laid as CarryLaid}
use Rattle.area_flow.specs.declared.Grid.{Grid}
use Rattle.area_flow.specs.Inner.{Laid as GridLaid}
use Rattle.area_layout.specs.Inner.{Gridded, mark_of, Small as GridSmall}
use Rattle.area_layout.proofs.FitLaws.{rows_fit}
use Rattle.slot_spots.specs.declared.Places.{Places}
use Rattle.slot_spots.specs.Inner.{Laid as SlotLaid}
use Rattle.job_space.specs.declared.Sizes.{Sizes}
use Rattle.job_space.specs.Space.{space_of, Small}
use Rattle.words.proofs.FitLaws.{rows_few}
use Rattle.job_layout.specs.declared.Regions.{Regions}
use Rattle.job_layout.specs.Inner.{grid_sizes, Placed, LaidFrom, SlotsFrom, most_of_local, most_of_slot, Fits, Order, SlotOrder, LocalsLaid, SlotsLaid}
use Rattle.words.specs.Regions.{row_words}

pub grid_small : {z : Sizes} → Small z → GridSmall (grid_sizes z)
grid_small S = record {
  some_block = S.some_block;
  few_blocks = S.few_blocks;
  few_edges = S.few_edges;
  few_locals = S.few_locals;
  few_touches = omega arith;
  few_ends = omega arith;
  few_ranges = omega arith;
}

-- ---- no place is far

module _ {z : Sizes} {r : Regions} (S : Small z) (P : Placed z r) where
  pub free_small : r.free ≤ 135168
  free_small = omega (arith, P.items_at, P.keys_at, P.free_at, S.few_ranges, S.few_locals, S.few_slots, S.few_pieces)

  pub base_small : r.base ≤ 1048576
  base_small = omega (arith, free_small, P.heads_at, P.nexts_at, P.touches_at, P.ends_at, P.base_at_lem, S.registers, S.few_insts, S.few_operands, S.few_locals, S.few_addresses, S.few_ends, S.few_pieces)

-- the grid's products by the counts
module _ (z : Sizes) {base : ℕ} {g : Grid} (G : Gridded (grid_sizes z) base g) where
  rows_are : z.blocks * g.words ≡ z.blocks * row_words z.locals
  rows_are = ap (λ (k : ℕ). z.blocks * k) G.words_are

  columns_are : g.locals * g.width ≡ z.locals * row_words z.blocks
  columns_are = ap (λ (k : ℕ). k * g.width) G.locals_are ∙ ap (λ (k : ℕ). z.locals * k) G.width_is

module _ {z : Sizes} {base : ℕ} {g : Grid} (S : Small z) (G : Gridded (grid_sizes z) base g) where
  pub columns_small : g.locals * g.width ≤ 131072
  columns_small =
      let l : row_words z.blocks ≤ 64 = omega (arith, S.few_blocks) in
      let a = mul-le-mul_left z.locals l in
      omega (arith, columns_are z G, S.few_locals)

  pub to_small : base ≤ 1048576 → g.to ≤ 2097152
  to_small h =
      omega (arith, rows_are z G, rows_few S.few_blocks S.few_locals, S.few_blocks, S.few_edges, G.tarjan_at, G.touched_at, G.leaves_at, G.passes_at, G.written_at, G.read_at, G.wait_at, G.to_at)

-- ---- W is enough

-- where the grid begins and where it ends
base_is : (z : Sizes) (r : Regions) → Placed z r
    → r.base ≡ z.room + 4 * z.locals + z.slots + 3 * z.pieces + 3 * row_words z.v + 3 * z.insts + z.operands + 2 * z.addresses + 2 * z.ends
base_is z r P = omega arith

mark_is : (z : Sizes) (base : ℕ) (g : Grid) → Gridded (grid_sizes z) base g
    → mark_of g ≡ base + 3 * z.edges + 7 * z.blocks + 6 * (z.blocks * row_words z.locals) + (z.blocks / 64 + 2) + z.locals * row_words z.blocks
mark_is z base g G = let w = rows_are z G in let x = columns_are z G in omega arith

locals_sum : (z : Sizes) (base mark : ℕ)
    → base ≡ z.room + 4 * z.locals + z.slots + 3 * z.pieces + 3 * row_words z.v + 3 * z.insts + z.operands + 2 * z.addresses + 2 * z.ends
    → mark ≡ base + 3 * z.edges + 7 * z.blocks + 6 * (z.blocks * row_words z.locals) + (z.blocks / 64 + 2) + z.locals * row_words z.blocks
    → 3 + z.blocks / 64 + z.blocks + row_words z.blocks + z.locals * row_words z.blocks ≤ 2 * (z.blocks * row_words z.locals) + 4 * z.locals
    → mark + row_words z.blocks + z.blocks + most_of_local z < space_of z
locals_sum z base mark e f h = omega arith

slots_sum : (z : Sizes) (free to : ℕ) → free ≡ z.room + z.locals + z.slots + z.pieces → to ≡ free + 3 * z.slots + z.blocks + 2 * z.moves → to + most_of_slot z ≤ space_of z
slots_sum z free to e f = omega arith

slots_end : (z : Sizes) (free : ℕ) (p : Places) → SlotsFrom z free p → p.to ≡ free + 3 * z.slots + z.blocks + 2 * z.moves
slots_end z free p Q = omega arith

free_is : (z : Sizes) (r : Regions) → Placed z r → r.free ≡ z.room + z.locals + z.slots + z.pieces
free_is z r P = omega arith

pub slots_within : (z : Sizes) (r : Regions) (p : Places) → Placed z r → SlotsFrom z r.free p → p.to + most_of_slot z ≤ space_of z
slots_within z r p P Q = slots_sum z r.free p.to (free_is z r P) (slots_end z r.free p Q)

pub layout_fits : (z : Sizes) (r : Regions) (g : Grid) (p : Places) → Small z → Placed z r → Gridded (grid_sizes z) r.base g → SlotsFrom z r.free p → Fits z g p
layout_fits z r g p S P G Q = record {
  locals_fit = λ h.
      subst (λ (m : ℕ). mark_of g + m + z.blocks + most_of_local z < space_of z) (sym G.width_is)
      (locals_sum z r.base (mark_of g) (base_is z r P) (mark_is z r.base g G) (rows_fit z.blocks z.locals S.some_block S.few_blocks h));
  slots_fit = slots_within z r p P Q;
}

-- the job of one block and one local
abbrev pub one_local : Sizes
one_local = record { v = 0; blocks = 1; edges = 0; insts = 0; operands = 0; crossings = 0; locals = 1; slots = 0; addresses = 0; ends = 0; pieces = 0; assigned = 0; moves = 0; room = 0 }

one_sum : (base mark : ℕ) → base ≡ 4 → mark ≡ base + 0 + 7 + 6 + 2 + 1 → mark + 1 + 1 + 1 + 1 ≡ 24
one_sum base mark e f = omega arith

-- one block and one local leave one word, and no job leaves less (`locals_fit`)
pub one_left : (r : Regions) (g : Grid) → Placed one_local r → Gridded (grid_sizes one_local) r.base g → mark_of g + g.width + 1 + most_of_local one_local + 1 ≡ space_of one_local
one_left r g P G =
    subst (λ (m : ℕ). mark_of g + m + 1 + most_of_local one_local + 1 ≡ space_of one_local) (sym G.width_is)
    (let e = base_is one_local r P in let f = mark_is one_local r.base g G in one_sum r.base (mark_of g) e f)

-- the areas' ranges are counted in 32 bits
pub ranges_small : {z : Sizes} → Small z → z.locals * most_of_local z + z.slots * most_of_slot z < 2 ^ 32
ranges_small {z} S =
    let a : z.locals * most_of_local z ≤ z.locals * 397312 = mul-le-mul_left z.locals (omega (arith, S.few_pieces, S.few_addresses, S.few_blocks)) in
    let b : z.slots * most_of_slot z ≤ z.slots * 196608 = mul-le-mul_left z.slots (omega (arith, S.few_pieces, S.few_moves)) in
    omega (arith, a, b, S.few_locals, S.few_slots)

-- ---- as the functions ask

module _ {z : Sizes} {r : Regions} {lay : Lay} (P : Placed z r) (L : LaidFrom z r.free lay) where
  pub queue_last : lay.queue + z.insts ≡ r.heads
  queue_last = omega (arith, P.heads_at, L.escapes_at, L.dead_at, L.seen_at, L.defs_at, L.firsts_at, L.edges_at, L.heads_at, L.nexts_at, L.ended_at, L.queue_at)

  pub carry_laid : (n : ℕ) → r.heads ≤ n → CarryLaid lay z.v z.insts z.operands z.locals z.addresses n
  carry_laid n h = record {
    escapes_fits = omega (arith, L.dead_at);
    dead_fits = omega (arith, L.seen_at);
    seen_fits = omega (arith, L.defs_at);
    defs_fits = omega (arith, L.firsts_at);
    firsts_fits = omega (arith, L.edges_at);
    edges_fits = omega (arith, L.heads_at);
    heads_fits = omega (arith, L.nexts_at);
    nexts_fits = omega (arith, L.ended_at);
    ended_fits = omega (arith, L.queue_at);
    queue_fits = omega (arith, queue_last);
  }

  module _ {g : Grid} (S : Small z) (G : Gridded (grid_sizes z) r.base g) where
    pub in_order_lem : Order z r lay g
    in_order_lem = record {
      items_fit = omega (arith, P.keys_at);
      keys_fit = omega (arith, P.free_at, L.escapes_at);
      queue_fit = omega (arith, queue_last);
      heads_fit = omega (arith, P.nexts_at);
      nexts_fit = omega (arith, P.touches_at);
      at_fits = omega (arith, P.ends_at);
      ends_fit = omega (arith, P.base_at_lem, G.base_is);
      base_fits = omega (arith, G.base_is, G.tarjan_at, G.touched_at);
      touched_fits = omega (arith, G.leaves_at);
      leaves_fit = omega (arith, G.passes_at);
      passes_fit = omega (arith, G.written_at);
      written_fits = omega (arith, G.read_at);
      read_fits = omega (arith, G.wait_at, G.to_at);
      to_fits = (let e : z.locals * g.width ≡ g.locals * g.width = ap (λ (k : ℕ). k * g.width) (sym G.locals_are) in omega (arith, e));
      small = omega (arith, to_small S G (base_small S P), columns_small S G, G.width_is, S.few_blocks);
      wide = omega (arith, G.width_is);
      narrow = omega (arith, G.width_is, S.few_blocks);
      long = omega (arith, G.words_are);
    }

module _ {z : Sizes} {base : ℕ} {g : Grid} (S : Small z) (G : Gridded (grid_sizes z) base g) where
  pub grid_laid : (w : List ℕ) → mark_of g ≤ length w → GridLaid g z.blocks z.edges w
  grid_laid w h = record {
    few = S.few_blocks;
    edges_fit = omega (arith, G.base_is, G.tarjan_at);
    tarjan_fits = omega (arith, G.touched_at);
    touched_fits = omega (arith, G.leaves_at);
    leaves_fit = omega (arith, G.passes_at);
    passes_fit = omega (arith, G.written_at);
    written_fits = omega (arith, G.read_at);
    read_fits = omega (arith, G.wait_at);
    wait_fits = omega (arith, G.to_at);
    to_fits = h;
    wide = omega (arith, G.width_is);
    long = omega (arith, G.words_are, G.locals_are);
  }

module _ {z : Sizes} {r : Regions} {p : Places} (P : Placed z r) (Q : SlotsFrom z r.free p) where
  pub slots_in_order : SlotOrder z r p
  slots_in_order = record {
    items_fit = omega (arith, P.keys_at, Q.slots_are);
    keys_fit = omega (arith, P.free_at);
    held_fits = omega (arith, Q.table_at, Q.slots_are);
    keys_by = omega (arith, P.free_at, Q.table_at, Q.heads_at, Q.nexts_at, Q.to_at);
  }

  pub slots_laid : (w : List ℕ) → p.to + most_of_slot z ≤ length w → SlotLaid p z.blocks z.moves w
  slots_laid w h = record {
    table_fits = omega (arith, Q.heads_at);
    heads_fit = omega (arith, Q.nexts_at, Q.slots_are);
    nexts_fit = omega (arith, Q.to_at);
    fits = omega arith;
  }

-- ---- sums

at_most : {a b c : ℕ} → a ≤ b → b ≤ c → a ≤ c
at_most h k = omega arith

below_most : {a b c : ℕ} → a < b → b ≤ c → a ≤ c
below_most h k = omega arith

marked : (m x y t n : ℕ) → m + x + y + t ≤ n → m ≤ n
marked m x y t n h = omega arith

heads_below : {z : Sizes} {r : Regions} {lay : Lay} {g : Grid} {n : ℕ} → Order z r lay g → mark_of g ≤ n → r.heads ≤ n
heads_below o h =
    omega (arith, o.heads_fit, o.nexts_fit, o.at_fits, o.ends_fit, o.base_fits, o.touched_fits, o.leaves_fit, o.passes_fit, o.written_fits, o.read_fits, o.to_fits)

-- ---- in a work space of W words or more

module _ (z : Sizes) (r : Regions) (g : Grid) (p : Places) (S : Small z) (P : Placed z r) (G : Gridded (grid_sizes z) r.base g) (Q : SlotsFrom z r.free p) (w : List ℕ) (room : space_of z ≤ length w) where
  pub locals_laid : {lay : Lay} → LaidFrom z r.free lay → 0 < z.locals → LocalsLaid z r lay g w
  locals_laid L some =
      let f = below_most ((layout_fits z r g p S P G Q).locals_fit some) room in
      let m = marked _ _ _ _ (length w) f in
      let o = in_order_lem P L S G in
      record {
        order = o;
        carry = carry_laid P L (length w) (heads_below o m);
        grid = grid_laid S G w m;
        fits = f;
      }

  pub slots_are_laid : SlotsLaid z r p w
  slots_are_laid =
      let f = at_most (layout_fits z r g p S P G Q).slots_fit room in
      record { order = slots_in_order P Q; laid = slots_laid P Q w f; fits = f }
