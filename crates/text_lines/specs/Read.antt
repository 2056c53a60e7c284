-- A text read in pieces, and what a whole text is answered.
use Rattle.std.specs.Prelude.{ℕ, ◌-◌, ◌*◌, ◌≡◌, ◌||◌, List, [], ◌∷◌, ◌++◌, length, replicate, ltb}
use Rattle.refusals.specs.declared.Refusal.TheVariants.{Count, Space}
use Rattle.refusals.specs.Verdicts.{in_order, check, Verdict}
use Rattle.refusals.specs.Outcomes.{unless, numbered, after}
use Rattle.words.specs.Rows.{tabulate, flat}
use Rattle.text_grammar.specs.Groups.{group_at, group_count, row_numbers}
use Rattle.text_grammar.specs.Lines.{lines_of}
use Rattle.text_grammar.specs.Text.{text_verdict, too_many, rows_in, count_of}

-- ---- a whole text, in lent lists

-- what is refused: a malformed line, 11 "before all"; "64 of each and V ≤ 64, more is refusal 1"; a list that is shorter than its answer, 7
abbrev pub read_checks : List ℕ → ℕ → ℕ → List Verdict
read_checks text rows counts = text_verdict text ∷ check Count (too_many (lines_of text)) ∷ check Space (ltb rows row_numbers || ltb counts group_count) ∷ []

-- the rows of a group, and zeros as far as it has room
abbrev pub group_rows : ℕ → List (List ℕ) → List ℕ
group_rows k ls = flat (rows_in k ls) ++ replicate ((group_at k).width * (group_at k).room - length (flat (rows_in k ls))) 0

-- an accepted text's numbers, group by group, and how many records each group has
abbrev pub rows_for : List ℕ → List ℕ
rows_for text = flat (tabulate group_count (λ k. group_rows k (lines_of text)))

abbrev pub counts_for : List ℕ → List ℕ
counts_for text = tabulate group_count (λ k. count_of k (lines_of text))

-- the answer, and both lists: "a refusal changes no answer list", "list entries past the answer are unchanged"
pub record TextRead (text rows counts : List ℕ) (v : Verdict) (rows' counts' : List ℕ) : Type 0 where
  pub answer : numbered v ≡ numbered (in_order (read_checks text (length rows) (length counts)))
  pub in_rows : rows' ≡ after (unless (in_order (read_checks text (length rows) (length counts))) text) rows_for rows
  pub in_counts : counts' ≡ after (unless (in_order (read_checks text (length rows) (length counts))) text) counts_for counts
