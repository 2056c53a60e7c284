-- Document 01, "Limits and what is turned back": numbers 1, 2 and 3 for the blocks and the edges that an entry is lent.
use Rattle.std.specs.Prelude.{ℕ, ◌+◌, ◌*◌, Bool, not, ◌||◌, List, [], ◌∷◌, ltb, eqb}
use Rattle.refusals.specs.declared.Refusal.TheVariants.{Count}
use Rattle.refusals.specs.Verdicts.{in_order, check, Verdict}
use Rattle.words.specs.Rows.{whole_rows}
use Rattle.words.specs.Widths.{block_width, block_count, edge_width, edge_count}
use Rattle.graph.specs.Line.{blocks_of, jumps_of, line_verdict, edge_verdict}

-- number 1: "B 1 to 4,096; edges 16,384"; numbers that are no whole records are no count
unfoldable pub bad_count : List ℕ → List ℕ → Bool
bad_count blocks edges =
    not (whole_rows block_width blocks) || (ltb (block_count blocks) 1 || (ltb 4096 (block_count blocks) || (not (whole_rows edge_width edges) || ltb 16384 (edge_count edges))))

abbrev pub count_verdict : List ℕ → List ℕ → Verdict
count_verdict blocks edges = check Count (bad_count blocks edges)

-- numbers 1, 2 and 3, in this order
abbrev pub graph_checks : List ℕ → List ℕ → ℕ → List Verdict
graph_checks blocks edges points = count_verdict blocks edges ∷ line_verdict (blocks_of blocks) points ∷ edge_verdict (blocks_of blocks) (jumps_of edges) ∷ []

unfoldable pub graph_verdict : List ℕ → List ℕ → ℕ → Verdict
graph_verdict blocks edges points = in_order (graph_checks blocks edges points)

-- number 1 for rows of bits: as many words as blocks × row words; a row cut short is no count
abbrev pub rows_verdict : ℕ → ℕ → ℕ → Verdict
rows_verdict lent n words = check Count (not (eqb lent (n * words)))

-- W: 8 × (the records lent + blocks × row words)
abbrev pub space_of : ℕ → ℕ → ℕ → ℕ
space_of n e rows = 8 * (n + e + rows)
