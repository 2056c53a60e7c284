-- The corners of the definitions, by computation: each limit at it and one past, each check where it turns, every field told apart.
use Prim.Native.Nat.{ℕ, ◌*◌}
use mathlib.Core.Path.{◌≡◌, refl}
use mathlib.Core.Bool.{true, false}
use mathlib.Core.List.{List, [], ◌∷◌}
use lib.ListN.{length}
use Rattle.refusals.specs.declared.Refusal.TheVariants.{Count, Line, Edge as EdgeWord, Space}
use Rattle.refusals.specs.Verdicts.{first, scan, room_verdict, Bad, Fine}
use Rattle.words.specs.Rows.{tabulate}
use Rattle.words.specs.Widths.{block_width, edge_width, want_width}
use Rattle.graph.specs.Paths.{edge, turned}
use Rattle.graph.specs.Line.{Stretch, Jump, blocks_of, jumps_of, block_at, place_in, edges_of, used_before, bad_block, line_verdict, edge_verdict}
use Rattle.graph.specs.Inner.Line.{place_of, number_at}
use Rattle.graph.specs.Checks.{bad_count, rows_verdict, space_of}
use Rattle.graph.specs.Inner.Checks.{bad_span}
use Rattle.graph.specs.Inner.Work.{tally, before, spot}
use Rattle.graph.specs.Work.{sum_of}

abbrev block : ℕ → ℕ → ℕ → Stretch
block n s e = record { number = n; start = s; end = e }

abbrev jump : ℕ → ℕ → Jump
jump j k = record { from = j; to = k }

-- rows `B,number,start,end` and `E,from,to`; what is no whole row is no record
pub rows : (blocks_of (4 ∷ 5 ∷ 6 ∷ 7 ∷ 8 ∷ 9 ∷ 1 ∷ []) ≡ block 4 5 6 ∷ block 7 8 9 ∷ []) × (jumps_of (4 ∷ 5 ∷ 6 ∷ 7 ∷ 8 ∷ []) ≡ jump 4 5 ∷ jump 6 7 ∷ [])
unfolding tabulate
rows = (refl, refl)

-- three blocks whose numbers are not their places
abbrev three : List Stretch
three = block 2 0 9 ∷ block 0 10 19 ∷ block 1 20 29 ∷ []

-- "edges use block numbers, rows use the place in the line"
pub places : (place_of three (record { 0 = 2 }) ≡ record { 0 = 0 }) × (place_of three (record { 0 = 1 }) ≡ record { 0 = 2 }) × (number_at three (record { 0 = 0 }) ≡ record { 0 = 2 })
    × (edges_of three (jump 2 1 ∷ jump 0 2 ∷ []) ≡ edge 0 2 ∷ edge 1 0 ∷ []) × (turned (edge 0 2 ∷ edge 1 0 ∷ []) ≡ edge 2 0 ∷ edge 0 1 ∷ [])
unfolding place_in
places = (refl, refl, refl, refl, refl)

-- number 2: "a block number ≥ B": B − 1 and B; "or repeated": the later block
pub numbers : (line_verdict three 29 ≡ Fine) × (line_verdict (block 2 0 9 ∷ block 0 10 19 ∷ block 3 20 29 ∷ []) 29 ≡ Bad Line 2) × (line_verdict (block 2 0 9 ∷ block 0 10 19 ∷ block 2 20 29 ∷ []) 29 ≡ Bad Line 2)
unfolding first scan used_before bad_block
numbers = (refl, refl, refl)

-- "a reversed block": of one point and reversed by one; "a start not the last end plus 1": the end itself, one more, two more; the first starts anywhere
pub spans : (line_verdict (block 0 5 5 ∷ []) 5 ≡ Fine) × (line_verdict (block 0 6 5 ∷ []) 6 ≡ Bad Line 0)
    × (line_verdict (block 0 5 9 ∷ block 1 9 12 ∷ []) 12 ≡ Bad Line 1) × (line_verdict (block 0 5 9 ∷ block 1 10 12 ∷ []) 12 ≡ Fine) × (line_verdict (block 0 5 9 ∷ block 1 11 12 ∷ []) 12 ≡ Bad Line 1)
unfolding first scan used_before bad_block
spans = (refl, refl, refl, refl, refl)

-- "last end > points": points at the last end and one short of it; the index is the last block's, wherever the points end
pub points : (line_verdict three 29 ≡ Fine) × (line_verdict three 28 ≡ Bad Line 2) × (line_verdict three 5 ≡ Bad Line 2)
    × (bad_span three 29 2 ≡ false) × (bad_span three 28 2 ≡ true) × (bad_span three 5 0 ≡ false) × (bad_span (block 0 5 9 ∷ block 1 11 12 ∷ []) 12 1 ≡ true) × (bad_span (block 0 6 5 ∷ []) 6 0 ≡ true)
unfolding first scan used_before bad_block
points = (refl, refl, refl, refl, refl, refl, refl, refl)

-- number 3: "an edge naming no block": B − 1 and B, at either end
pub edges : (edge_verdict three (jump 2 2 ∷ []) ≡ Fine) × (edge_verdict three (jump 2 2 ∷ jump 3 0 ∷ []) ≡ Bad EdgeWord 1) × (edge_verdict three (jump 2 2 ∷ jump 0 3 ∷ []) ≡ Bad EdgeWord 1)
unfolding first scan
edges = (refl, refl, refl)

-- number 1: "B 1 to 4,096; edges 16,384", by how many numbers are lent: at the limit and one record past it
pub block_limit : (blocks : List ℕ) → (length blocks ≡ block_width * 4096 → bad_count blocks [] ≡ false) × (length blocks ≡ block_width * 4097 → bad_count blocks [] ≡ true)
unfolding bad_count
block_limit blocks = (λ e. rw e refl, λ e. rw e refl)

pub edge_limit : (edges : List ℕ) → (length edges ≡ edge_width * 16384 → bad_count (0 ∷ 0 ∷ 9 ∷ []) edges ≡ false) × (length edges ≡ edge_width * 16385 → bad_count (0 ∷ 0 ∷ 9 ∷ []) edges ≡ true)
unfolding bad_count
edge_limit edges = (λ e. rw e refl, λ e. rw e refl)

-- no block at all, and rows cut short
pub counts : (bad_count (0 ∷ 0 ∷ 9 ∷ []) [] ≡ false) × (bad_count [] [] ≡ true) × (bad_count (0 ∷ 0 ∷ 9 ∷ 1 ∷ []) [] ≡ true) × (bad_count (0 ∷ 0 ∷ 9 ∷ []) (0 ∷ 0 ∷ 0 ∷ []) ≡ true)
unfolding bad_count
counts = (refl, refl, refl, refl)

-- number 1 of rows of bits: blocks × row words, a word less and a word more; W; number 7: at what is asked and one short
pub spaces : (rows_verdict 6 2 3 ≡ Fine) × (rows_verdict want_width 2 3 ≡ Bad Count 0) × (rows_verdict 7 2 3 ≡ Bad Count 0) × (space_of 2 3 5 ≡ 80)
    × (room_verdict 3 3 5 5 ≡ Fine) × (room_verdict 2 3 5 5 ≡ Bad Space 0) × (room_verdict 3 3 4 5 ≡ Bad Space 0)
spaces = (refl, refl, refl, refl, refl, refl, refl)

-- the values 1, 0, 1: how many are 1, how many are below 1, their sum, and where the last of them goes
abbrev values : ℕ → ℕ
values k = (block_at (block 0 1 0 ∷ block 0 0 0 ∷ block 0 1 0 ∷ []) k).start

pub sums : (tally values 1 3 ≡ 2) × (before values 1 3 ≡ 1) × (sum_of values 3 ≡ 2) × (sum_of values 0 ≡ 0) × (spot values 3 2 ≡ 2) × (spot values 3 1 ≡ 0)
unfolding tally before sum_of
sums = (refl, refl, refl, refl, refl, refl)
