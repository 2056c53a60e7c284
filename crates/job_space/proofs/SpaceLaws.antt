-- W: how large it can be, and of the job of document 01's ★1; number 1 of what only fitting takes.
use Prim.Native.Nat.{ℕ, ◌%◌, ◌^◌, ◌≤◌, ◌<◌}
use native.Mathlib.Nat.{mul-le-mul_left}
use native.Mathlib.Omega.{arith}
use mathlib.Core.Path.{◌≡◌, refl, ◌∙◌}
use mathlib.Core.Bool.{Bool, true, not}
use mathlib.Core.List.{[], ◌∷◌}
use lib.Dec.{eqb}
use borrow.Author.Tests.{lt-ltb, le-ltb, eq-eqb, ne_eqb}
use Rattle.fitting.specs.declared.Terms.{Terms}
use Rattle.job_space.specs.declared.Sizes.{Sizes}
use Rattle.job_space.specs.Rows.{Rows, rows_of}
use Rattle.job_space.specs.Space.{job_words, sizes_of, space_of, Small, bad_shape}
use Rattle.job_space.specs.Inner.{Counted}
use Rattle.words.specs.Widths.{cell_width, item_width}
use Rattle.words.specs.Regions.{row_words}

-- ★1 with an area list of 64 ranges: 7 records, one block with a row of one word, 64 ranges and no register
pub star_1_space : space_of (sizes_of (rows_of 20 0 (0 ∷ 0 ∷ 19 ∷ []) []
    (1 ∷ 0 ∷ 2 ∷ 3 ∷ 0 ∷ 0 ∷ 256 ∷ 256 ∷ 0 ∷ 1 ∷ 0 ∷ 6 ∷ 7 ∷ 0 ∷ 0 ∷ 256 ∷ 256 ∷ 0 ∷ []) [] []
    (8 ∷ 8 ∷ 4 ∷ 4 ∷ []) [] (0 ∷ 0 ∷ 1 ∷ 1 ∷ []) [] [] [] []) 128) ≡ 576
star_1_space = refl

-- W by the rows is W by their numbers
pub job_words_lem : (R : Rows) (areas : ℕ) → job_words R areas ≡ space_of (sizes_of R areas)
job_words_lem R areas = refl

-- W of any 32-bit numbers is far below 64 bits
pub space_fits : {z : Sizes} → Counted z → space_of z < 2 ^ 62
space_fits {z} C =
    let w : row_words z.locals ≤ 67108864 = omega (arith, C.locals) in
    let a = mul-le-mul_left z.blocks w in
    omega (arith, C.registers, C.blocks, C.edges, C.insts, C.operands, C.crossings, C.locals, C.slots, C.addresses, C.ends, C.pieces, C.assigned, C.moves, C.ranges)

pub small_counted : {z : Sizes} → Small z → Counted z
small_counted S = record {
  registers = omega (arith, S.registers);
  blocks = omega (arith, S.few_blocks);
  edges = omega (arith, S.few_edges);
  insts = omega (arith, S.few_insts);
  operands = omega (arith, S.few_operands);
  crossings = omega (arith, S.few_crossings);
  locals = omega (arith, S.few_locals);
  slots = omega (arith, S.few_slots);
  addresses = omega (arith, S.few_addresses);
  ends = omega (arith, S.few_ends);
  pieces = omega (arith, S.few_pieces);
  assigned = omega (arith, S.few_assigned);
  moves = omega (arith, S.few_moves);
  ranges = omega (arith, S.few_ranges);
}

-- ---- number 1 of the budget, the cells and the items

module _ (t : Terms) (cells items : ℕ) where
  pub over_budget : 1048576 < t.budget → true ≡ bad_shape t cells items
  over_budget h = simp (lt-ltb 1048576 t.budget h)

  pub odd_cells : t.budget ≤ 1048576 → (cells % cell_width ≡ 0 → ⊥) → true ≡ bad_shape t cells items
  odd_cells h d = simp (le-ltb 1048576 t.budget h, ne_eqb (cells % cell_width) 0 d)

  pub by_items : (r : Bool) → t.budget ≤ 1048576 → cells % cell_width ≡ 0 → r ≡ not (eqb (items % item_width) 0) → r ≡ bad_shape t cells items
  by_items r h e g = g ∙ simp (le-ltb 1048576 t.budget h, eq-eqb (cells % cell_width) 0 e)
