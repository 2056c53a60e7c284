-- Document 01, "Blocks and edges": the blocks in line order, edges by block number and by place.
use Rattle.std.specs.Prelude.{ℕ, zero, suc, ◌+◌, ◌≤◌, ◌<◌, ◌≡◌, Bool, false, cond, not, ◌||◌, List, [], ◌∷◌, map, length, get_or, eqb, leb, ltb}
use Rattle.refusals.specs.declared.Refusal.TheVariants.{Line, Edge as EdgeWord}
use Rattle.refusals.specs.Verdicts.{scan, Verdict}
use Rattle.words.specs.Rows.{records}
use Rattle.words.specs.Widths.{block_width, edge_width}
use Rattle.graph.specs.Paths.{Edge, edge}

-- a block of the line: its number, its first and its last point
pub record Stretch : Type 0 where
  pub number : ℕ
  pub start : ℕ
  pub end : ℕ

-- an edge as it is lent, between block numbers
pub record Jump : Type 0 where
  pub from : ℕ
  pub to : ℕ

-- rows `B,number,start,end` and `E,from,to`
abbrev pub blocks_of : List ℕ → List Stretch
blocks_of s = records block_width (λ f. record { number = f 0; start = f 1; end = f 2 }) s

abbrev pub jumps_of : List ℕ → List Jump
jumps_of s = records edge_width (λ f. record { from = f 0; to = f 1 }) s

abbrev pub block_at : List Stretch → ℕ → Stretch
block_at bs k = get_or bs k (record { number = 0; start = 0; end = 0 })

-- the place of the block with a number: "one converting table between" numbers and places (the length where there is none)
unfoldable pub place_in : List Stretch → ℕ → ℕ
place_in [] n = 0
place_in (b ∷ bs) n = cond (eqb b.number n) 0 (suc (place_in bs n))

-- the edges by place
abbrev pub edges_of : List Stretch → List Jump → List Edge
edges_of bs js = map (λ j. edge (place_in bs j.from) (place_in bs j.to)) js

-- number 2: "a block number ≥ B or repeated, a reversed block, a start not the last end plus 1, last end > points"
unfoldable pub used_before : List Stretch → ℕ → ℕ → Bool
used_before bs n zero = false
used_before bs n (suc i) = used_before bs n i || eqb (block_at bs i).number n

abbrev pub gap_at : List Stretch → ℕ → Bool
gap_at bs zero = false
gap_at bs (suc i) = not (eqb (block_at bs (suc i)).start ((block_at bs i).end + 1))

abbrev pub past_points : List Stretch → ℕ → ℕ → Bool
past_points bs points i = cond (eqb (suc i) (length bs)) (ltb points (block_at bs i).end) false

unfoldable pub bad_block : List Stretch → ℕ → ℕ → Bool
bad_block bs points i =
    leb (length bs) (block_at bs i).number || (used_before bs (block_at bs i).number i
    || (ltb (block_at bs i).end (block_at bs i).start || (gap_at bs i || past_points bs points i)))

abbrev pub line_verdict : List Stretch → ℕ → Verdict
line_verdict bs points = scan Line (bad_block bs points) (length bs)

-- number 3: "an edge naming no block"
abbrev pub bad_edge : ℕ → List Jump → ℕ → Bool
bad_edge n js i = leb n (get_or js i (record { from = 0; to = 0 })).from || leb n (get_or js i (record { from = 0; to = 0 })).to

abbrev pub edge_verdict : List Stretch → List Jump → Verdict
edge_verdict bs js = scan EdgeWord (bad_edge (length bs) js) (length js)

-- what numbers 2 and 3 leave: the line and its edges as every later definition takes them
pub record Sound (bs : List Stretch) : Type 0 where
  pub some_block : 0 < length bs
  pub upright : (k : ℕ) → k < length bs → (block_at bs k).start ≤ (block_at bs k).end
  pub gapless : (k : ℕ) → suc k < length bs → (block_at bs (suc k)).start ≡ (block_at bs k).end + 1
  pub numbered : (k : ℕ) → k < length bs → (block_at bs k).number < length bs
  pub once : (j k : ℕ) → j < length bs → k < length bs → (block_at bs j).number ≡ (block_at bs k).number → j ≡ k
