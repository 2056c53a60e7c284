-- Document 02, (a): "cells are laid below the frame base in cell order": depths, offsets, and numbers 12 and 13. Over any list of sizes and alignments.
use Rattle.std.specs.Prelude.{ℕ, zero, suc, ◌+◌, ◌-◌, ◌*◌, ◌/◌, ◌^◌, ◌<◌, ◌≡◌, Bool, false, not, ◌||◌, List, [], ◌∷◌, map, ℤ, pos, neg_ℤ, ◌+ℤ◌, ◌*ℤ◌, ◌≤ℤ◌, length, get_or, eqb, ltb}
use Rattle.refusals.specs.declared.Refusal.TheVariants.{Align, Depth}
use Rattle.refusals.specs.Verdicts.{first, in_order, scan, Verdict}
use Rattle.words.specs.Rows.{tabulate}
use Rattle.words.specs.Widths.{cell_size, cell_align}
use Rattle.fitting.specs.Plan.{Plan}
use Rattle.fitting.specs.Queries.{Room, room_in}

-- cell n of a list, and a plan's cells by size and alignment
abbrev pub room_by : List Room → ℕ → Room
room_by cs n = get_or cs n (record { size = 0; align = 0 })

abbrev pub rooms_in : Plan → List Room
rooms_in p = map room_in p.cells

-- "rounded up to its alignment": the least multiple of a that is not below d
unfoldable pub round_up : ℕ → ℕ → ℕ
round_up d a = (d + (a - 1)) / a * a

-- "each depth is the one before plus the cell's size, rounded up to its alignment"
abbrev pub deeper : ℕ → Room → ℕ
deeper before c = round_up (before + c.size) c.align

-- the depth before cell n: 0 before the first, then that of the cell before
unfoldable pub depth_before : List Room → ℕ → ℕ
depth_before cs zero = 0
depth_before cs (suc n) = deeper (depth_before cs n) (room_by cs n)

-- the depth of cell n
abbrev pub depth_at : List Room → ℕ → ℕ
depth_at cs n = deeper (depth_before cs n) (room_by cs n)

-- depth: "the last cell's, and 0 with no cells"
abbrev pub depth_of : List Room → ℕ
depth_of cs = depth_before cs (length cs)

-- "the offset is minus that depth, as a signed 32-bit number"; the offsets, one a cell
abbrev pub offset_of : ℕ → ℤ
offset_of depth = neg_ℤ (pos depth)

abbrev pub offsets_of : List Room → List ℤ
offsets_of cs = tabulate (length cs) (λ n. offset_of (depth_at cs n))

-- a power of two; 0 is none
abbrev pub Power : ℕ → Type 0
Power a = (k : ℕ) × (a ≡ 2 ^ k)

-- the same as a test: whether a is one of the first n powers of two, of which a are enough
unfoldable pub among_powers : ℕ → ℕ → Bool
among_powers zero a = false
among_powers (suc n) a = eqb a (2 ^ n) || among_powers n a

abbrev pub is_power : ℕ → Bool
is_power a = among_powers a a

-- number 12: the first cell whose alignment is no power of two
abbrev pub align_verdict : List Room → Verdict
align_verdict cs = scan Align (λ n. not (is_power (room_by cs n).align)) (length cs)

-- number 13: the first cell whose depth is over 2,147,483,647
abbrev pub depth_verdict : List Room → Verdict
depth_verdict cs = scan Depth (λ n. ltb 2147483647 (depth_at cs n)) (length cs)

-- 12 of any cell comes before 13 of any
abbrev pub layout_checks : List Room → List Verdict
layout_checks cs = align_verdict cs ∷ depth_verdict cs ∷ []

unfoldable pub layout_verdict : List Room → Verdict
layout_verdict cs = in_order (layout_checks cs)

-- what is refused of a plan: v before it is made, then 12 and 13 of its cells
abbrev pub laid_verdict : Verdict → Plan → Verdict
laid_verdict v p = first v (layout_verdict (rooms_in p))

-- a multiple of a
abbrev pub Multiple : ℕ → ℤ → Type 0
Multiple a z = (k : ℤ) × (z ≡ k *ℤ pos a)

-- offsets of `count` cells: each a multiple of its cell's alignment; a cell's bytes, from its offset on as many as its size, are below those of the cells before it,
-- below the frame base, and no deeper than the depth
pub record LaidOut (count : ℕ) (size align : ℕ → ℕ) (offset : ℕ → ℤ) (depth : ℕ) : Type 0 where
  pub aligned : (n : ℕ) → n < count → Multiple (align n) (offset n)
  pub apart : (n m : ℕ) → n < m → m < count → (offset m +ℤ pos (size m)) ≤ℤ offset n
  pub below : (n : ℕ) → n < count → (offset n +ℤ pos (size n)) ≤ℤ pos 0
  pub within : (n : ℕ) → n < count → offset_of depth ≤ℤ offset n

-- the same of rows of cells and a list of offsets as they stand in the answer lists
abbrev pub RowsLaid : ℕ → List ℕ → List ℤ → ℕ → Type 0
RowsLaid count cells offsets depth = LaidOut count (cell_size cells) (cell_align cells) (λ n. get_or offsets n (pos 0)) depth
