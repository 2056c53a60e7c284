-- Refusals by number, and which one is given: checks are made in an order, and the first that refuses wins.
use Rattle.std.specs.Prelude.{Result, Ok, Err, Option as Maybe, ℕ, zero, suc, ◌+◌, Bool, true, false, cond, ◌||◌, List, [], ◌∷◌, ltb}
use Rattle.refusals.specs.declared.Refusal.{Refusal}
use Rattle.refusals.specs.declared.Refusal.TheVariants.{Count, Line, Edge, Inst, Stray, Piece, Space, List as ListFull, Want, Text, Align, Depth}
use Rattle.refusals.specs.declared.Refused.{Refused}

-- document 01, the table's first column, and document 02's new numbers; 8 is retired: "the number is not given out again"
abbrev pub number_of : Refusal → ℕ
number_of Count = 1
number_of Line = 2
number_of Edge = 3
number_of Inst = 4
number_of Stray = 5
number_of Piece = 6
number_of Space = 7
number_of ListFull = 9
number_of Want = 10
number_of Text = 11
number_of Align = 12
number_of Depth = 13

-- of a check: nothing to refuse, or a refusal and the index of its first offending record
abbrev pub Verdict : Type 0
Verdict = Result (Unit {0}) Refused

pattern abbrev pub Fine : Verdict
Fine = Ok tt

abbrev pub Bad : Refusal → ℕ → Verdict
Bad r i = Err (r, i)

-- of an entry that lists: how many it gives, or a refusal
abbrev pub Answer : Type 0
Answer = Result ℕ Refused

-- of an entry whose answer may be absent: the answer, none, or a refusal
abbrev pub Found : Type 0 → Type 0
Found A = Result (Maybe A) Refused

-- the first of two verdicts that is a refusal
unfoldable pub first : Verdict → Verdict → Verdict
first Fine w = w
first (Err e) w = Err e

-- the verdict of checks made in order
unfoldable pub in_order : List Verdict → Verdict
in_order [] = Fine
in_order (v ∷ vs) = first v (in_order vs)

-- "the index of the first offending record": refusal r at the first of the records 0 to n - 1 whose test is true
unfoldable pub scan : Refusal → (ℕ → Bool) → ℕ → Verdict
scan r t zero = Fine
scan r t (suc n) = first (scan r t n) (cond (t n) (Bad r n) Fine)

-- a check of one fact, whose index is 0
abbrev pub check : Refusal → Bool → Verdict
check r t = cond t (Bad r 0) Fine

-- number 7: an answer list under the most that the answer can be, or work space under W
abbrev pub room_verdict : ℕ → ℕ → ℕ → ℕ → Verdict
room_verdict lent most work space = check Space (ltb lent most || ltb work space)

-- whether a verdict refuses
abbrev pub refuses : Verdict → Bool
refuses Fine = false
refuses (Err e) = true

-- "a second list's ranges are counted on from the first"
abbrev pub counted_on : ℕ → Verdict → Verdict
counted_on n Fine = Fine
counted_on n (Err e) = Bad e.0 (n + e.1)

-- "lowest number wins, except 11, which comes before all"
abbrev pub rank_of : Refusal → ℕ
rank_of Text = 0
rank_of Count = 1
rank_of Line = 2
rank_of Edge = 3
rank_of Inst = 4
rank_of Stray = 5
rank_of Piece = 6
rank_of Space = 7
rank_of ListFull = 9
rank_of Want = 10
rank_of Align = 12
rank_of Depth = 13
