-- Document 01, "Areas of items": the areas of plain and of ending locals as lists of ranges.
use Rattle.std.specs.Prelude.{ℕ, zero, suc, pred, min, max, Bool, cond, ◌&&◌, List, [], ◌∷◌, ◌++◌, map, length, ltb}
use Rattle.ranges.specs.declared.Range.{Range}
use Rattle.ranges.specs.Points.{range}
use Rattle.ranges.specs.Merged.{joined, merged}
use Rattle.graph.specs.Rounds.{reached_row, reaching_row, arriving_row}
use Rattle.carrying.specs.Lists.{keep, gather}
use Rattle.areas.specs.Blocks.{Graph, top, bottom, whole, block_of, bounds, clip, touched, until, cover, leaves, passes}

-- the touches that start or stop in the block, clipped to it
abbrev pub clips : Graph → List Range → ℕ → List Range
clips G ts k = map (clip G k) (keep (bounds G k) ts)

-- the blocks between a touch's first and last, as one piece
abbrev pub through : Graph → Range → List Range
through G t =
    cond (ltb (suc (block_of G t.start)) (block_of G t.end))
    (range (top G (suc (block_of G t.start))) (bottom G (pred (block_of G t.end))) ∷ []) []

abbrev pub throughs : Graph → List Range → List Range
throughs G ts = gather (through G) ts

-- the first and the last point of some ranges
abbrev pub least : Range → List Range → ℕ
least r [] = r.start
least r (s ∷ rs) = min r.start (least s rs)

abbrev pub most : Range → List Range → ℕ
most r [] = r.end
most r (s ∷ rs) = max r.end (most s rs)

-- first to last point of the clipped touches, from the top by one bit and to the bottom by the other
abbrev pub span : Graph → ℕ → Bool → Bool → List Range → List Range
span G k from to [] = []
span G k from to (r ∷ rs) = range (cond from (top G k) (least r rs)) (cond to (bottom G k) (most r rs)) ∷ []

-- a block's piece of a plain local: "blocks with both bits are whole"
abbrev pub block_piece : Graph → List Range → (ℕ → Bool) → (ℕ → Bool) → ℕ → List Range
block_piece G ts reached reaching k =
    cond (reached k && reaching k) (whole G k ∷ []) (span G k (reached k) (reaching k) (clips G ts k))

-- ranges put to a list through `joined`, one after another
unfoldable pub join_each : List Range → List Range → List Range
join_each rs [] = rs
join_each rs (r ∷ more) = join_each (joined rs r) more

-- "these pieces join through `joined` in line order": the pieces of the first n blocks
unfoldable pub line_pieces : Graph → List Range → (ℕ → Bool) → (ℕ → Bool) → ℕ → List Range
line_pieces G ts reached reaching zero = []
line_pieces G ts reached reaching (suc k) =
    join_each (line_pieces G ts reached reaching k) (block_piece G ts reached reaching k)

-- the rows of one local
abbrev pub before_row : Graph → List Range → ℕ → Bool
before_row G ts = reached_row (length G.blocks) G.edges (touched G ts)

abbrev pub after_row : Graph → List Range → ℕ → Bool
after_row G ts = reaching_row (length G.blocks) G.edges (touched G ts)

abbrev pub arrives_row : Graph → List Range → List ℕ → ℕ → Bool
arrives_row G ts es = arriving_row (length G.blocks) G.edges (leaves G ts es) (passes G es)

-- `areas` of a plain local: the between-pieces are "never joined on. Then `merged`"
unfoldable pub plain_area : Graph → List Range → List Range
plain_area G ts = merged (throughs G ts ++ line_pieces G ts (before_row G ts) (after_row G ts) (length G.blocks))

-- a block's pieces of an ending local: from the top if it is arrived at, and the covers of its touches
abbrev pub end_pieces : Graph → List Range → List ℕ → (ℕ → Bool) → ℕ → List Range
end_pieces G ts es arrives k =
    cond (arrives k) (range (top G k) (until es (top G k) (bottom G k)) ∷ []) [] ++ map (cover G es k) (keep (bounds G k) ts)

unfoldable pub end_line : Graph → List Range → List ℕ → (ℕ → Bool) → ℕ → List Range
end_line G ts es arrives zero = []
end_line G ts es arrives (suc k) = end_line G ts es arrives k ++ end_pieces G ts es arrives k

-- `ended`
unfoldable pub ending_area : Graph → List Range → List ℕ → List Range
ending_area G ts es = merged (throughs G ts ++ end_line G ts es (arrives_row G ts es) (length G.blocks))
