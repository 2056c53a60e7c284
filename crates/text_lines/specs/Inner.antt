-- What the functions here promise each other. No public promise names these.
use Rattle.std.specs.Prelude.{ℕ, ◌<◌, suc, ◌+◌, ◌-◌, ◌*◌, ◌≤◌, min, ◌≡◌, Bool, true, cond, false, ◌||◌, not, ◌&&◌, List, ◌++◌, map, [], ◌∷◌, length, drop, get_or, set, take, eqb, ltb, leb}
use Rattle.text_grammar.specs.Numerals.{field_of, limit}
use Rattle.text_grammar.specs.Groups.{group_at, group_count, base_at, row_numbers, allowed, inst_group, operand_group, may_follow}
use Rattle.text_grammar.specs.Lines.{comma, parts, fits, group_of, fields_of, formed, line_group, line_fields, meant, newline, longest, lines_of}
use Rattle.words.specs.Inner.{Region, part}
use Rattle.text_grammar.specs.Text.{row_with, read_verdict, rows_in, count_of, place_before, bad_line}
use Rattle.refusals.specs.Outcomes.{numbered}
use Rattle.words.specs.Rows.{tabulate, flat}
use Rattle.text_lines.specs.declared.job_rows.Reader.{Reader}
use Rattle.refusals.specs.declared.Refusal.TheVariants.{Text as TextRefused}
use Rattle.refusals.specs.Verdicts.{scan, Bad, Fine, Verdict}

-- What reading a line leaves: its group, and its fields in a lent list.

-- fields as the first numbers of a list
abbrev pub on_front : List ℕ → List ℕ → List ℕ
on_front fs out = fs ++ drop (length fs) out

abbrev pub fields_in : List ℕ → List ℕ
fields_in s = map field_of (parts comma s)

-- the fields of a group
pub record FieldsRead (k : ℕ) (s out : List ℕ) (r : Bool) (out' : List ℕ) : Type 0 where
  pub answer : r ≡ fits (group_at k).dashes (fields_in s)
  pub kept : length out' ≡ length out
  pub fields : r ≡ true → out' ≡ on_front (fields_in s) out

-- what stands before the newline
pub record BodyRead (b out : List ℕ) (r : ℕ) (out' : List ℕ) : Type 0 where
  pub answer : r ≡ cond (formed b) (group_of b) group_count
  pub kept : length out' ≡ length out
  pub fields : r < group_count → out' ≡ on_front (fields_of b) out

-- a line with its newline; where it is malformed the list holds what the reader left
pub record LineRead (l out : List ℕ) (r : ℕ) (out' : List ℕ) : Type 0 where
  pub answer : r ≡ line_group l
  pub kept : length out' ≡ length out
  pub fields : r < group_count → out' ≡ on_front (line_fields l) out

-- What the store of one line's row asks and leaves.

-- the first fields of a list mean numbers in lines of group k
pub record Meant (k : ℕ) (fields : List ℕ) : Type 0 where
  pub group : k < group_count
  pub enough : length (group_at k).dashes ≤ length fields
  pub number : (j : ℕ) → j < length (group_at k).dashes → meant (get_or (group_at k).dashes j 0) (get_or fields j 0) < limit

-- where the operand count of instruction i - 1 stands: its row's last number
abbrev pub count_at : ℕ → ℕ
count_at i = base_at inst_group - 1 + (group_at inst_group).width * i

-- there is room for a row, and the operand count of the last instruction can rise
pub record Storable (k : ℕ) (fields rows counts : List ℕ) : Type 0 where
  pub meant : Meant k fields
  pub rows_length : length rows ≡ row_numbers
  pub counts_length : length counts ≡ group_count
  pub room : get_or counts k 0 < (group_at k).room
  pub last : k ≡ operand_group → (get_or counts inst_group 0 ≤ allowed) × (get_or rows (count_at (get_or counts inst_group 0)) 0 ≤ allowed)

-- a row more, and an operand counted
pub record Put (k : ℕ) (fields rows counts rows' counts' : List ℕ) : Type 0 where
  pub middle : List ℕ
  pub row : Region rows middle (base_at k + (group_at k).width * get_or counts k 0) (group_at k).width (λ j. get_or (row_with k fields 0) j 0)
  pub plain : (k ≡ operand_group → ⊥) → rows' ≡ middle
  pub raised : k ≡ operand_group → rows' ≡ set middle (count_at (get_or counts inst_group 0)) (suc (get_or middle (count_at (get_or counts inst_group 0)) 0))
  pub in_counts : counts' ≡ set counts k (get_or counts k 0 + 1)

-- bytes without a newline
unfoldable pub unbroken : List ℕ → Bool
unbroken [] = true
unbroken (b ∷ s) = cond (eqb b newline) false (unbroken s)

-- what the reader's lists hold of an accepted text: how many records each group has, and its rows from the group's place on
pub record Records (text rows counts : List ℕ) : Type 0 where
  pub counted : (k : ℕ) → k < group_count → get_or counts k 0 ≡ count_of k (lines_of text)
  pub rows_are : (k : ℕ) → k < group_count → part (base_at k) ((group_at k).width * count_of k (lines_of text)) rows ≡ flat (rows_in k (lines_of text))

-- the reader came to the end of this text: its verdict, and the records in its lists where it accepts
pub record Finished (text : List ℕ) (v : Verdict) (rows counts : List ℕ) : Type 0 where
  pub verdict : numbered v ≡ numbered (read_verdict text)
  pub records : read_verdict text ≡ Fine → Records text rows counts

-- ---- from the reader's own lists into lent ones

-- a group's part of the reader's list, cut after its records and filled up with zeros
abbrev pub padded : List ℕ → List ℕ → ℕ → List ℕ
padded held counted k = tabulate ((group_at k).width * (group_at k).room) (λ j. get_or (part (base_at k) ((group_at k).width * get_or counted k 0) held) j 0)

-- the lists have room, and no group has more records than rows
pub record Copyable (held counted rows counts : List ℕ) : Type 0 where
  pub held_length : length held ≡ row_numbers
  pub counted_length : length counted ≡ group_count
  pub rows_room : row_numbers ≤ length rows
  pub counts_room : group_count ≤ length counts
  pub fitting : (k : ℕ) → k < group_count → get_or counted k 0 ≤ (group_at k).room

pub record Copied (held counted rows counts rows' counts' : List ℕ) : Type 0 where
  pub in_rows : rows' ≡ flat (tabulate group_count (padded held counted)) ++ drop row_numbers rows
  pub in_counts : counts' ≡ tabulate group_count (λ k. get_or counted k 0) ++ drop group_count counts

-- What the reader's lists hold, and what it knows of the lines that it has taken.

-- what the lists hold: how many lines of each group there are, which is no more than there are rows, and the rows of each group
pub record Stored (ls : List (List ℕ)) (rows counts : List ℕ) : Type 0 where
  pub fitting : (k : ℕ) → k < group_count → count_of k ls ≤ (group_at k).room
  pub counted : (k : ℕ) → k < group_count → get_or counts k 0 ≡ count_of k ls
  pub rows_are : (k : ℕ) → k < group_count → part (base_at k) ((group_at k).width * count_of k ls) rows ≡ flat (rows_in k ls)

-- some group has more lines than rows; from then on lines are checked and not stored
pub record Over (ls : List (List ℕ)) : Type 0 where
  pub group : ℕ
  pub known : group < group_count
  pub over : (group_at group).room < count_of group ls

-- what the reader knows of the lines that it has taken: how many, the first malformed one, the place of the last, and the records
pub record Taken (ls : List (List ℕ)) (r : Reader) (rows counts : List ℕ) : Type 0 where
  pub rows_length : length rows ≡ row_numbers
  pub counts_length : length counts ≡ group_count
  pub lines : r.lines ≡ length ls
  pub verdict : scan TextRefused (bad_line ls) (length ls) ≡ cond r.bad (Bad TextRefused r.at) Fine
  pub order : r.bad ≡ false → r.place ≡ place_before ls (length ls)
  pub stored : r.bad ≡ false → r.full ≡ false → Stored ls rows counts
  pub over : r.bad ≡ false → r.full ≡ true → Over ls

-- the lines so far, and the bytes of the one that has not ended: the first `longest` stand in the line buffer, and they are counted to that
pub record Held (done : List (List ℕ)) (rest : List ℕ) (r : Reader) (n : ℕ) (line rows counts : List ℕ) : Type 0 where
  pub taken : Taken done r rows counts
  pub buffer : length line ≡ longest
  pub unended : unbroken rest ≡ true
  pub counted : n ≡ min (length rest) longest
  pub bytes : take n line ≡ take longest rest

-- the reader has read this text, and more may follow
pub record Reading (text : List ℕ) (r : Reader) (n : ℕ) (line rows counts : List ℕ) : Type 0 where
  pub done : List (List ℕ)
  pub rest : List ℕ
  pub held : Held done rest r n line rows counts
  pub split : (more : List ℕ) → lines_of (text ++ more) ≡ done ++ lines_of (rest ++ more)
  pub few : length done + length rest ≤ length text

-- a text was read, and this much more can be
pub record Ready (r : Reader) (n : ℕ) (line rows counts : List ℕ) (more : ℕ) : Type 0 where
  pub text : List ℕ
  pub reading : Reading text r n line rows counts
  pub short : length text + more ≤ 18446744073709551615

-- a byte more is read, or a piece, whatever was read before
pub record Feeds (piece : List ℕ) (r : Reader) (n : ℕ) (line fields rows counts : List ℕ) (r' : Reader) (n' : ℕ) (line' fields' rows' counts' : List ℕ) : Type 0 where
  pub feeds : (text : List ℕ) → Reading text r n line rows counts → Reading (text ++ piece) r' n' line' rows' counts'
  pub line_kept : length line' ≡ length line
  pub fields_kept : length fields' ≡ length fields
  pub rows_kept : length rows' ≡ length rows
  pub counts_kept : length counts' ≡ length counts

-- what a text that ends here is answered
pub record Finishes (r : Reader) (n : ℕ) (rows : List ℕ) (v : Verdict) : Type 0 where
  pub answer : (text line counts : List ℕ) → Reading text r n line rows counts → numbered v ≡ numbered (read_verdict text)
  pub records : (text line counts : List ℕ) → Reading text r n line rows counts → read_verdict text ≡ Fine → Records text rows counts

-- some lines were taken
pub record Reads (r : Reader) (rows counts : List ℕ) : Type 0 where
  pub before : List (List ℕ)
  pub taken : Taken before r rows counts

-- one line more is taken, whatever was taken before
pub record Takes (l : List ℕ) (r : Reader) (rows counts : List ℕ) (r' : Reader) (rows' counts' : List ℕ) : Type 0 where
  pub takes : (ls : List (List ℕ)) → Taken ls r rows counts → Taken (ls ++ (l ∷ [])) r' rows' counts'
  pub rows_kept : length rows' ≡ length rows
  pub counts_kept : length counts' ≡ length counts

-- a malformed line more
pub record Refuses (r q : Reader) : Type 0 where
  pub lines : q.lines ≡ r.lines + 1
  pub bad : q.bad ≡ true
  pub at : q.at ≡ cond r.bad r.at r.lines

-- whether the reader takes a line of group k for its next: none was malformed, and it may stand there
abbrev pub accepts : Reader → ℕ → Bool
accepts r k = not r.bad && (ltb k group_count && may_follow r.place k)

-- whether there is no room for a row behind n others
abbrev pub crowds : Reader → ℕ → ℕ → Bool
crowds r room n = r.full || leb room n
