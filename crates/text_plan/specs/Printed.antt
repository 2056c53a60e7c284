-- Document 01, "Job text": the text of a plan or of a refusal.
use Rattle.std.specs.Prelude.{ℕ, ◌+◌, ◌-◌, ◌≡◌, ◌||◌, List, [], ◌∷◌, ◌++◌, map, length, ltb}
use Rattle.std.proofs.Math.Option.{Option, some, none}
use Rattle.refusals.specs.Verdicts.{number_of, in_order, check, Verdict, Answer}
use Rattle.refusals.specs.Outcomes.{Outcome, given, refused, unless, after, answered}
use Rattle.refusals.specs.declared.Refusal.{Refusal}
use Rattle.refusals.specs.declared.Refusal.TheVariants.{Count, Line, Edge, Inst, Stray, Piece, Space, List as ListFull, Want, Text, Align, Depth}
use Rattle.words.specs.Rows.{tabulate, flat}
use Rattle.words.specs.Widths.{cell_count, cell_size, cell_align, item_row_count, item_cell, range_count}
use Rattle.ranges.specs.declared.Range.{Range}
use Rattle.fitting.specs.Queries.{slots_of, shared}
use Rattle.query_checks.specs.Checks.{bad_count, bad_areas, parts_verdict, surplus}
use Rattle.text_plan.specs.Lines.{line_text}

-- `C`: cell, size, align
abbrev pub cell_line : List ℕ → ℕ → List ℕ
cell_line cells i = line_text 67 (i ∷ cell_size cells i ∷ cell_align cells i ∷ [])

abbrev pub cell_lines : List ℕ → List ℕ
cell_lines cells = flat (tabulate (cell_count cells) (cell_line cells))

-- `L` and `S`: local or slot, cell; the items from `base` on
abbrev pub item_line : ℕ → List ℕ → ℕ → ℕ → List ℕ
item_line letter items base i = line_text letter (i ∷ item_cell items (base + i) ∷ [])

abbrev pub item_lines : ℕ → List ℕ → ℕ → ℕ → List ℕ
item_lines letter items base n = flat (tabulate n (item_line letter items base))

-- `G`: shared local, start, end, for each range of its area
abbrev pub range_line : ℕ → Range → List ℕ
range_line i r = line_text 71 (i ∷ r.start ∷ r.end ∷ [])

abbrev pub area_lines : ℕ → Option (List Range) → List ℕ
area_lines i none = []
area_lines i (some rs) = flat (map (range_line i) rs)

abbrev pub shared_lines : List ℕ → List ℕ → List ℕ → ℕ → List ℕ
shared_lines cells items areas locals = flat (tabulate locals (λ i. area_lines i (shared (slots_of locals cells items areas) i)))

-- `T`: cells, items less cells, probes, depth
abbrev pub total_line : List ℕ → List ℕ → ℕ → ℕ → List ℕ
total_line cells items probes depth = line_text 84 (cell_count cells ∷ (item_row_count items - cell_count cells) ∷ probes ∷ depth ∷ [])

-- the text of a plan
abbrev pub printed : List ℕ → List ℕ → List ℕ → ℕ → ℕ → ℕ → List ℕ
printed cells items areas locals probes depth =
    cell_lines cells ++ (item_lines 76 items 0 locals ++ (item_lines 83 items locals (item_row_count items - locals) ++ (shared_lines cells items areas locals ++ total_line cells items probes depth)))

-- "a refusal prints only `N,number,index`"
abbrev pub refusal_text : ℕ → ℕ → List ℕ
refusal_text number index = line_text 78 (number ∷ index ∷ [])

-- ---- what is answered

-- a text in a list: 7 where the list is shorter than the text
abbrev pub room_checks : List ℕ → ℕ → List Verdict
room_checks text room = check Space (ltb room (length text)) ∷ []

abbrev pub in_room : List ℕ → ℕ → Outcome (List ℕ)
in_room text room = unless (in_order (room_checks text room)) text

-- `print_plan`: the plan is checked as `shared` checks it (1 and 10), then the list (7)
abbrev pub plan_checks : List ℕ → List ℕ → List ℕ → ℕ → ℕ → ℕ → ℕ → List Verdict
plan_checks cells items areas locals probes depth room =
    check Count (bad_count cells items locals || bad_areas areas) ∷ parts_verdict cells items (range_count areas) ∷ surplus cells items
    ∷ room_checks (printed cells items areas locals probes depth) room

unfoldable pub print_verdict : List ℕ → List ℕ → List ℕ → ℕ → ℕ → ℕ → ℕ → Verdict
print_verdict cells items areas locals probes depth room = in_order (plan_checks cells items areas locals probes depth room)

-- its order: 1, 10, 7
abbrev pub print_rank : Refusal → ℕ
print_rank Count = 1
print_rank Want = 2
print_rank Space = 3
print_rank Line = 4
print_rank Edge = 4
print_rank Inst = 4
print_rank Stray = 4
print_rank Piece = 4
print_rank ListFull = 4
print_rank Text = 4
print_rank Align = 4
print_rank Depth = 4

abbrev pub counted : Outcome (List ℕ) → Outcome ℕ
counted (given l) = given (length l)
counted (refused n i) = refused n i

-- the text's length, and the text in the list
pub record PrintedTo (o : Outcome (List ℕ)) (out : List ℕ) (r : Answer) (out' : List ℕ) : Type 0 where
  pub answer : answered r ≡ counted o
  pub in_out : out' ≡ after o (λ l. l) out

abbrev pub plan_text : List ℕ → List ℕ → List ℕ → ℕ → ℕ → ℕ → ℕ → Outcome (List ℕ)
plan_text cells items areas locals probes depth room = unless (print_verdict cells items areas locals probes depth room) (printed cells items areas locals probes depth)

abbrev pub no_text : ℕ → ℕ → ℕ → Outcome (List ℕ)
no_text number index room = in_room (refusal_text number index) room
