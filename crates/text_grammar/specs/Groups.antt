-- Document 01, "Job text": the groups of lines, as a table.
use Rattle.std.specs.Prelude.{ℕ, zero, suc, ◌+◌, ◌*◌, Bool, cond, ◌&&◌, List, [], ◌∷◌, map, length, get_or, replicate, eqb, leb}
use Rattle.text_grammar.specs.Numerals.{dash}

-- a group of lines
pub record Group : Type 0 where
  -- the letter that a line begins with
  pub letter : ℕ
  -- for each field what `-` stands for there, or `dash` where it has no place
  pub dashes : List ℕ
  -- "groups in this order": where the group stands, and from which place to which the line before may stand; the text's start is place 0
  pub place : ℕ
  pub least : ℕ
  pub most : ℕ
  -- how many numbers a record's row has, and how many rows the program allows
  pub width : ℕ
  pub room : ℕ

-- `-` is "for unplaced, no base or index, and no slot": block 0, position 256, and a slot number that is past the end
abbrev pub unplaced : ℕ
unplaced = 0

abbrev pub no_position : ℕ
no_position = 256

abbrev pub no_slot : ℕ
no_slot = 4294967295

-- "the program allows 64 of each"
abbrev pub allowed : ℕ
allowed = 64

-- ---- the table

abbrev grouped : ℕ → List ℕ → ℕ → ℕ → ℕ → ℕ → ℕ → Group
grouped letter dashes place least most width room = record { letter = letter; dashes = dashes; place = place; least = least; most = most; width = width; room = room }

-- anywhere behind `H` in the order of groups; the row is the fields
abbrev listed : ℕ → List ℕ → ℕ → Group
listed letter dashes place = grouped letter dashes place 1 place (length dashes) allowed

-- fields that take no `-`
abbrev plain : ℕ → List ℕ
plain n = replicate n dash

abbrev pub groups : List Group
groups =
    -- `H,points,V,budget`, first and once
    grouped 72 (plain 3) 1 0 0 3 1
    -- `B,number,start,end`
    ∷ listed 66 (plain 3) 2
    -- `E,from,to`
    ∷ listed 69 (plain 2) 3
    -- `I,block,early,late,lea,mem,base,index`; the row has a flag before the fields and an operand count behind them
    ∷ grouped 73 (unplaced ∷ dash ∷ dash ∷ dash ∷ dash ∷ no_position ∷ no_position ∷ []) 4 1 4 9 allowed
    -- `O,def,register`, only behind an `I` or its other `O`s
    ∷ grouped 79 (plain 2) 4 4 4 2 allowed
    -- `X,register`
    ∷ listed 88 (plain 1) 5
    -- `L,size,align`
    ∷ listed 76 (plain 2) 6
    -- `S,width`
    ∷ listed 83 (plain 1) 7
    -- `A,inst,local`
    ∷ listed 65 (plain 2) 8
    -- `K,inst,local`, ends
    ∷ listed 75 (plain 2) 9
    -- `R,register,start,end`
    ∷ listed 82 (plain 3) 10
    -- `P,register,slot`
    ∷ listed 80 (dash ∷ no_slot ∷ []) 11
    -- `M,kind,number,to,from`
    ∷ listed 77 (dash ∷ dash ∷ no_slot ∷ no_slot ∷ []) 12
    ∷ []

-- how many groups there are; a line of no group has this for its group's number
abbrev pub group_count : ℕ
group_count = 13

-- the groups by name: their places in the table
abbrev pub head_group : ℕ
head_group = 0

abbrev pub block_group : ℕ
block_group = 1

abbrev pub edge_group : ℕ
edge_group = 2

abbrev pub inst_group : ℕ
inst_group = 3

abbrev pub operand_group : ℕ
operand_group = 4

abbrev pub crossing_group : ℕ
crossing_group = 5

abbrev pub local_group : ℕ
local_group = 6

abbrev pub slot_group : ℕ
slot_group = 7

abbrev pub address_group : ℕ
address_group = 8

abbrev pub end_group : ℕ
end_group = 9

abbrev pub piece_group : ℕ
piece_group = 10

abbrev pub assigned_group : ℕ
assigned_group = 11

abbrev pub move_group : ℕ
move_group = 12

abbrev pub no_group : Group
no_group = grouped 0 [] 0 0 0 0 0

-- a group by its number
abbrev pub group_at : ℕ → Group
group_at k = get_or groups k no_group

-- where a group's rows stand in the reader's list: behind the room of the groups before it
abbrev room_before : ℕ → List Group → ℕ
room_before zero gs = 0
room_before (suc k) [] = 0
room_before (suc k) (g ∷ gs) = g.width * g.room + room_before k gs

abbrev pub base_at : ℕ → ℕ
base_at k = room_before k groups

-- how many numbers the reader's list has, and how many fields a line at most
abbrev pub row_numbers : ℕ
row_numbers = base_at group_count

-- the place of an element, or the list's length
unfoldable pub index_of : ℕ → List ℕ → ℕ
index_of x [] = 0
index_of x (y ∷ l) = cond (eqb y x) 0 (suc (index_of x l))

abbrev pub letters : List ℕ
letters = map (λ g. g.letter) groups

-- whether a line of group k may stand behind one at place p
abbrev pub may_follow : ℕ → ℕ → Bool
may_follow p k = leb (group_at k).least p && leb p (group_at k).most
