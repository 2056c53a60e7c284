-- What the functions here promise each other. No public promise names these.
use Rattle.std.specs.Prelude.{ℕ, ◌*◌, ◌≤◌, ◌<◌, ◌≡◌, List, ◌++◌, length, drop, get_or}
use Rattle.text_grammar.specs.Groups.{group_count, row_numbers, group_at, base_at, allowed, head_group}
use Rattle.text_lines.specs.Inner.{Finished}
use Rattle.planning.specs.Program.{program_text}
use Rattle.words.specs.Inner.{part}
use Rattle.planning.specs.Answer.{TextPrinted}
use Rattle.refusals.specs.Verdicts.{Verdict, Answer}

-- the reader came to the end of some text
pub record Read (v : Verdict) (rows counts : List ℕ) : Type 0 where
  pub text : List ℕ
  pub finished : Finished text v rows counts
  pub rows_length : length rows ≡ row_numbers
  pub counts_length : length counts ≡ group_count

-- a text stands in a list from its start on, so many bytes; what is behind it is unchanged
pub record Stands (text out : List ℕ) (n : ℕ) (out' : List ℕ) : Type 0 where
  pub count : n ≡ length text
  pub in_out : out' ≡ text ++ drop (length text) out

-- the same, whatever the text was that the reader read
abbrev pub Tells : Verdict → List ℕ → List ℕ → List ℕ → Answer → List ℕ → Type 0
Tells v rows counts out r out' = (text : List ℕ) → Finished text v rows counts → TextPrinted text out r out'

-- in a list with room for any text
abbrev pub Answers : Verdict → List ℕ → List ℕ → List ℕ → ℕ → List ℕ → Type 0
Answers v rows counts out n out' = (text : List ℕ) → Finished text v rows counts → Stands (program_text text) out n out'

-- the numbers of a group's records in the reader's lists
abbrev pub numbers_at : List ℕ → List ℕ → ℕ → List ℕ
numbers_at rows counts k = part (base_at k) ((group_at k).width * get_or counts k 0) rows

-- there is a head, and of each group no more than the program allows
pub record Few (counts : List ℕ) : Type 0 where
  pub head : 0 < get_or counts head_group 0
  pub few : (k : ℕ) → k < group_count → get_or counts k 0 ≤ allowed
