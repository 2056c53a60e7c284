-- Areas of touches and ends lent by themselves: what is refused before anything is measured (numbers 1, 2, 3, 4, 6 and 7), and W.
use Rattle.std.specs.Prelude.{ℕ, ◌/◌, ◌||◌, List, [], ◌∷◌, length, get_or, ltb}
use Rattle.refusals.specs.declared.Refusal.{Refusal}
use Rattle.refusals.specs.declared.Refusal.TheVariants.{Count, Line, Edge, Inst, Piece, Space}
use Rattle.refusals.specs.Verdicts.{first, check, scan, Verdict}
use Rattle.words.specs.Rows.{row_count, field}
use Rattle.words.specs.Widths.{block_count, edge_count, touch_width, stop_width, part_width, range_width}
use Rattle.graph.specs.Checks.{count_verdict, graph_verdict}
use Rattle.insts.specs.Counts.{rows_verdict, most_verdict}
use Rattle.areas.specs.Slots.{off_line}
use Rattle.area_layout.specs.declared.Sizes.{Sizes}
use Rattle.area_layout.specs.Layout.{space_for}
use Rattle.graph.specs.Line.{blocks_of, jumps_of, line_verdict, edge_verdict}

-- number 1: "locals 2,048; ends and the area list 65,536", and as many touches; an answer list that is no whole rows
unfoldable pub row_counts : ℕ → ℕ → ℕ → ℕ → ℕ → Verdict
row_counts kinds touches ends areas items =
    first (most_verdict 2048 kinds) (first (rows_verdict touch_width 65536 touches) (first (rows_verdict stop_width 65536 ends) (first (rows_verdict range_width 65536 areas)
    (rows_verdict part_width items items))))

-- how many records are lent, and how many ranges the area list holds; the other lists are given by their lengths
abbrev pub sizes_of : List ℕ → List ℕ → ℕ → ℕ → ℕ → ℕ → Sizes
sizes_of blocks edges kinds touches ends areas =
    record { blocks = block_count blocks; edges = edge_count edges; locals = kinds; touches = touches / touch_width; ends = ends / stop_width; room = areas / range_width }

-- number 4, "a flag out of range": a kind over 2, at that local
abbrev pub kinds_verdict : List ℕ → Verdict
kinds_verdict kinds = scan Inst (λ l. ltb 2 (get_or kinds l 0)) (length kinds)

-- number 6: "touches lent to an entry by themselves are checked as live pieces": at that touch, whoever's it is
abbrev pub touch_verdict : List ℕ → List ℕ → Verdict
touch_verdict blocks touches = scan Piece (λ n. off_line (blocks_of blocks) (field touch_width touches n 1) (field touch_width touches n 2)) (row_count touch_width touches)

-- number 7: work space under W, item list under the item count
abbrev pub space_verdict : Sizes → ℕ → ℕ → Verdict
space_verdict z items work = check Space (ltb work (space_for z) || ltb (items / part_width) z.locals)

-- numbers 1, 2, 3, 4, 6 and 7: what is refused before anything is measured
unfoldable pub lent_verdict : List ℕ → List ℕ → ℕ → List ℕ → List ℕ → ℕ → ℕ → ℕ → ℕ → Verdict
lent_verdict blocks edges points kinds touches ends areas items work =
    first (row_counts (length kinds) (length touches) ends areas items) (first (graph_verdict blocks edges points)
    (first (kinds_verdict kinds) (first (touch_verdict blocks touches) (space_verdict (sizes_of blocks edges (length kinds) (length touches) ends areas) items work))))

-- the same as a list of checks, and the refusal that each of them gives
abbrev pub lent_checks : List ℕ → List ℕ → ℕ → List ℕ → List ℕ → ℕ → ℕ → ℕ → ℕ → List Verdict
lent_checks blocks edges points kinds touches ends areas items work =
    most_verdict 2048 (length kinds) ∷ rows_verdict touch_width 65536 (length touches) ∷ rows_verdict stop_width 65536 ends ∷ rows_verdict range_width 65536 areas ∷ rows_verdict part_width items items
    ∷ count_verdict blocks edges ∷ line_verdict (blocks_of blocks) points ∷ edge_verdict (blocks_of blocks) (jumps_of edges) ∷ kinds_verdict kinds ∷ touch_verdict blocks touches
    ∷ space_verdict (sizes_of blocks edges (length kinds) (length touches) ends areas) items work ∷ []

abbrev pub lent_give : List Refusal
lent_give = Count ∷ Count ∷ Count ∷ Count ∷ Count ∷ Count ∷ Line ∷ Edge ∷ Inst ∷ Piece ∷ Space ∷ []
