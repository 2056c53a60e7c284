-- The rows of records, answers and lent lists: each width, each count of rows and each field by its name, once; in code `words::widths`.
use Rattle.std.specs.Prelude.{ℕ, List, length}
use Rattle.words.specs.Rows.{row_count, field}

-- a block of the line, `B,number,start,end`
abbrev pub block_width : ℕ
block_width = 3

-- how many rows
abbrev pub block_count : List ℕ → ℕ
block_count s = row_count block_width s

-- its first point
abbrev pub block_start : List ℕ → ℕ → ℕ
block_start s i = field block_width s i 1

-- its last point
abbrev pub block_end : List ℕ → ℕ → ℕ
block_end s i = field block_width s i 2

-- an edge between block numbers, `E,from,to`
abbrev pub edge_width : ℕ
edge_width = 2

-- how many rows
abbrev pub edge_count : List ℕ → ℕ
edge_count s = row_count edge_width s

-- `I,block,early,late,lea,mem,base,index`, with 1 in front where it is placed and the count of its operands behind
abbrev pub inst_width : ℕ
inst_width = 9

-- how many rows
abbrev pub inst_count : List ℕ → ℕ
inst_count s = row_count inst_width s

-- how many operands are its
abbrev pub inst_operands : List ℕ → ℕ → ℕ
inst_operands s i = field inst_width s i 8

-- an operand, `O,def,register`
abbrev pub operand_width : ℕ
operand_width = 2

-- how many rows
abbrev pub operand_count : List ℕ → ℕ
operand_count s = row_count operand_width s

-- a local, `L,size,align`
abbrev pub local_width : ℕ
local_width = 2

-- how many rows
abbrev pub local_count : List ℕ → ℕ
local_count s = row_count local_width s

-- a slot, `S,width`: a row of one number
abbrev pub slot_count : List ℕ → ℕ
slot_count s = length s

-- an address entry or an end, `A,inst,local` or `K,inst,local`
abbrev pub mention_width : ℕ
mention_width = 2

abbrev pub address_count : List ℕ → ℕ
address_count s = row_count mention_width s

abbrev pub end_count : List ℕ → ℕ
end_count s = row_count mention_width s

-- a live piece, `R,register,start,end`
abbrev pub piece_width : ℕ
piece_width = 3

-- how many rows
abbrev pub piece_count : List ℕ → ℕ
piece_count s = row_count piece_width s

-- an assignment, `P,register,slot`
abbrev pub assigned_width : ℕ
assigned_width = 2

-- how many rows
abbrev pub assigned_count : List ℕ → ℕ
assigned_count s = row_count assigned_width s

-- a move, `M,kind,number,to,from`
abbrev pub move_width : ℕ
move_width = 4

-- how many rows
abbrev pub move_count : List ℕ → ℕ
move_count s = row_count move_width s

-- a touch lent by itself: of which local, from where, to where
abbrev pub touch_width : ℕ
touch_width = 3

-- an end lent by itself: of which local, at which point
abbrev pub stop_width : ℕ
stop_width = 2

-- a cell of a plan: its size and its alignment
abbrev pub cell_width : ℕ
cell_width = 2

-- how many rows
abbrev pub cell_count : List ℕ → ℕ
cell_count s = row_count cell_width s

-- the cell's size
abbrev pub cell_size : List ℕ → ℕ → ℕ
cell_size s i = field cell_width s i 0

-- its alignment
abbrev pub cell_align : List ℕ → ℕ → ℕ
cell_align s i = field cell_width s i 1

-- an item of a plan: its cell, and its part of the area list
abbrev pub item_width : ℕ
item_width = 4

-- how many rows
abbrev pub item_row_count : List ℕ → ℕ
item_row_count s = row_count item_width s

-- the item's cell
abbrev pub item_cell : List ℕ → ℕ → ℕ
item_cell s i = field item_width s i 0

-- 0 where it has no area
abbrev pub item_present : List ℕ → ℕ → ℕ
item_present s i = field item_width s i 1

-- its area's first range
abbrev pub item_first : List ℕ → ℕ → ℕ
item_first s i = field item_width s i 2

-- how many ranges its area has
abbrev pub item_ranges : List ℕ → ℕ → ℕ
item_ranges s i = field item_width s i 3

-- a part of the area list: 1 where it is present, its first range, and how many
abbrev pub part_width : ℕ
part_width = 3

-- a range of the area list
abbrev pub range_width : ℕ
range_width = 2

-- how many rows
abbrev pub range_count : List ℕ → ℕ
range_count s = row_count range_width s

-- the range's first point
abbrev pub range_start : List ℕ → ℕ → ℕ
range_start s i = field range_width s i 0

-- its last point
abbrev pub range_end : List ℕ → ℕ → ℕ
range_end s i = field range_width s i 1

-- a want: size, alignment, and its part of the area list
abbrev pub want_width : ℕ
want_width = 5

-- how many rows
abbrev pub want_count : List ℕ → ℕ
want_count s = row_count want_width s

-- 0 where it has no area
abbrev pub want_present : List ℕ → ℕ → ℕ
want_present s i = field want_width s i 2

-- its area's first range
abbrev pub want_first : List ℕ → ℕ → ℕ
want_first s i = field want_width s i 3

-- how many ranges its area has
abbrev pub want_ranges : List ℕ → ℕ → ℕ
want_ranges s i = field want_width s i 4
