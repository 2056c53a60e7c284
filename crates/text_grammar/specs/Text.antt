-- Document 01, "Job text": number 11, and what a text without a malformed line decodes to.
use Rattle.std.specs.Prelude.{ℕ, zero, suc, max, Bool, false, cond, not, ◌&&◌, ◌||◌, List, [], ◌∷◌, ◌++◌, length, get_or, eqb, ltb}
use Rattle.refusals.specs.declared.Refusal.TheVariants.{Count, Text as TextRefused}
use Rattle.refusals.specs.Verdicts.{first, scan, check, Verdict}
use Rattle.text_grammar.specs.Numerals.{dash}
use Rattle.text_grammar.specs.Groups.{group_at, may_follow, group_count, allowed, head_group, inst_group, operand_group}
use Rattle.text_grammar.specs.Lines.{lines_of, line_group, line_fields, meant}

-- ---- number 11: the first malformed line

-- the place where the line before line i stands in the order of groups; 0 at the start
abbrev pub place_before : List (List ℕ) → ℕ → ℕ
place_before ls zero = 0
place_before ls (suc i) = (group_at (line_group (get_or ls i []))).place

-- malformed by itself, or out of order
abbrev pub malformed : ℕ → List ℕ → Bool
malformed p l = not (ltb (line_group l) group_count && may_follow p (line_group l))

unfoldable pub bad_line : List (List ℕ) → ℕ → Bool
bad_line ls i = malformed (place_before ls i) (get_or ls i [])

-- "a malformed line"; a text without lines lacks its first
abbrev pub lines_verdict : List (List ℕ) → Verdict
lines_verdict ls = scan TextRefused (bad_line ls) (max 1 (length ls))

abbrev pub text_verdict : List ℕ → Verdict
text_verdict text = lines_verdict (lines_of text)

-- ---- the records

-- what the fields mean
unfoldable pub numbers : List ℕ → List ℕ → List ℕ
numbers [] fs = []
numbers (d ∷ ds) [] = []
numbers (d ∷ ds) (f ∷ fs) = meant d f ∷ numbers ds fs

-- "`-` for unplaced": an instruction's row begins with a flag and ends with its operand count
abbrev pub placed : List ℕ → ℕ
placed fs = cond (eqb (get_or fs 0 0) dash) 0 1

abbrev pub row_with : ℕ → List ℕ → ℕ → List ℕ
row_with k fs operands =
    cond (eqb k inst_group) (placed fs ∷ (numbers (group_at k).dashes fs ++ (operands ∷ []))) (numbers (group_at k).dashes fs)

-- "each followed by its `O,def,register`"
unfoldable pub operands_after : List (List ℕ) → ℕ
operands_after [] = 0
operands_after (l ∷ ls) = cond (eqb (line_group l) operand_group) (suc (operands_after ls)) 0

-- the rows of group k, in the text's order
unfoldable pub rows_in : ℕ → List (List ℕ) → List (List ℕ)
rows_in k [] = []
rows_in k (l ∷ ls) = cond (eqb (line_group l) k) (row_with k (line_fields l) (operands_after ls) ∷ rows_in k ls) (rows_in k ls)

abbrev pub count_of : ℕ → List (List ℕ) → ℕ
count_of k ls = length (rows_in k ls)

-- `H`'s fields
abbrev pub head_field : ℕ → List (List ℕ) → ℕ
head_field j ls = get_or (get_or (rows_in head_group ls) 0 []) j 0

abbrev pub registers : List (List ℕ) → ℕ
registers ls = head_field 1 ls

-- ---- number 1: "the program allows 64 of each and V ≤ 64"

unfoldable pub crowded : ℕ → List (List ℕ) → Bool
crowded zero ls = false
crowded (suc k) ls = crowded k ls || ltb (group_at k).room (count_of k ls)

abbrev pub too_many : List (List ℕ) → Bool
too_many ls = crowded group_count ls || ltb allowed (registers ls)

-- what the reader refuses: 11 comes before 1, so it is found only after every line was checked
abbrev pub read_verdict : List ℕ → Verdict
read_verdict text = first (text_verdict text) (check Count (too_many (lines_of text)))
