-- The corners of the definitions, by computation: each check where it turns, every field told apart. V = 4, blocks 5–9 (number 1) and 10–19 (number 0).
use Prim.Native.Nat.{ℕ}
use mathlib.Core.Path.{◌≡◌, refl}
use mathlib.Core.Bool.{true, false}
use mathlib.Core.Option.{some, none}
use mathlib.Core.List.{List, [], ◌∷◌}
use Rattle.refusals.specs.declared.Refusal.TheVariants.{Stray, Piece as PieceWord, List as ListWord}
use Rattle.refusals.specs.Verdicts.{first, scan, Bad, Fine}
use Rattle.words.specs.Rows.{tabulate}
use Rattle.ranges.specs.Points.{range}
use Rattle.ranges.specs.Merged.{insert, sort, join, merged}
use Rattle.graph.specs.Line.{place_in}
use Rattle.carrying.specs.declared.Kind.TheVariants.{Unfollowed}
use Rattle.carrying.specs.Lists.{any, keep, gather}
use Rattle.carrying.specs.Insts.{Inst}
use Rattle.carrying.specs.Carried.{Piece, kind_of}
use Rattle.areas.specs.Blocks.{Graph, holding, block_of, bounds, between, clip, touched, until, cover, leaves, passes}
use Rattle.areas.specs.Pieces.{through}
use Rattle.areas.specs.Slots.{Move, assigned_of, moves_of, position, around, spilled, move_verdict, off_line, piece_verdict, assigned_verdict}
use Rattle.areas.specs.Job.{Job, locals_of, area_by, item_count, item_area, ranges_of, items_verdict}

-- rows `L,size,align`, `P,register,slot` and `M,kind,number,to,from`
pub rows : (locals_of (4 ∷ 5 ∷ []) ≡ record { size = 4; align = 5 } ∷ []) × (assigned_of (4 ∷ 5 ∷ []) ≡ record { register = 4; slot = 5 } ∷ [])
    × (moves_of (4 ∷ 5 ∷ 6 ∷ 7 ∷ []) ≡ record { kind = 4; number = 5; to = 6; from = 7 } ∷ [])
unfolding tabulate
rows = (refl, refl, refl)

abbrev line : Graph
line = record { blocks = record { number = 1; start = 5; end = 9 } ∷ record { number = 0; start = 10; end = 19 } ∷ record { number = 2; start = 20; end = 29 } ∷ []; edges = [] }

abbrev insts : List Inst
insts =
    record { placed = 1; block = 1; early = 6; late = 8; lea = 0; mem = 0; base = 256; index = 256; operands = [] }
    ∷ record { placed = 0; block = 0; early = 1; late = 2; lea = 0; mem = 0; base = 256; index = 256; operands = [] } ∷ []

-- "0 before an instruction (early), 1 after (late), 2 start, 3 end of a block", which is named by its number
pub positions : (position line.blocks insts 0 0 ≡ 6) × (position line.blocks insts 1 0 ≡ 8) × (position line.blocks insts 2 0 ≡ 10) × (position line.blocks insts 3 0 ≡ 19)
unfolding place_in
positions = (refl, refl, refl, refl)

-- "max(p−1, 0) to min(p+1, points)": at 0, in the middle, at the last point
pub covers : (around 9 0 ≡ range 0 1) × (around 9 5 ≡ range 4 6) × (around 9 9 ≡ range 8 9)
covers = (refl, refl, refl)

abbrev moves : ℕ → ℕ → List Move
moves k n = record { kind = 0; number = 0; to = 99; from = 99 } ∷ record { kind = k; number = n; to = 99; from = 99 } ∷ []

-- number 5: "at an absent or unplaced instruction or absent block, a kind over 3": 3 and 4; a move that names no slot excuses nothing
pub strays : (move_verdict line.blocks insts (moves 0 1) ≡ Bad Stray 1) × (move_verdict line.blocks insts (moves 1 1) ≡ Bad Stray 1) × (move_verdict line.blocks insts (moves 1 2) ≡ Bad Stray 1)
    × (move_verdict line.blocks insts (moves 1 0) ≡ Fine) × (move_verdict line.blocks insts (moves 2 2) ≡ Fine) × (move_verdict line.blocks insts (moves 2 3) ≡ Bad Stray 1)
    × (move_verdict line.blocks insts (moves 3 2) ≡ Fine) × (move_verdict line.blocks insts (moves 3 3) ≡ Bad Stray 1) × (move_verdict line.blocks insts (moves 4 0) ≡ Bad Stray 1)
unfolding first scan
strays = (refl, refl, refl, refl, refl, refl, refl, refl, refl)

-- number 6: "a live piece reversed, not wholly in the blocks or of a register ≥ V": of one point, reversed by one; the blocks' first and last point, one before, one past; V − 1 and V
abbrev piece : ℕ → ℕ → ℕ → List Piece
piece r s e = record { register = 0; start = 5; end = 29 } ∷ record { register = r; start = s; end = e } ∷ []

pub pieces : (piece_verdict line.blocks 4 (piece 3 7 7) ≡ Fine) × (piece_verdict line.blocks 4 (piece 3 8 7) ≡ Bad PieceWord 1) × (piece_verdict line.blocks 4 (piece 3 4 7) ≡ Bad PieceWord 1)
    × (piece_verdict line.blocks 4 (piece 3 7 30) ≡ Bad PieceWord 1) × (piece_verdict line.blocks 4 (piece 4 7 7) ≡ Bad PieceWord 1)
    × (assigned_verdict 4 (record { register = 3; slot = 99 } ∷ []) ≡ Fine) × (assigned_verdict 4 (record { register = 3; slot = 0 } ∷ record { register = 4; slot = 99 } ∷ []) ≡ Bad PieceWord 1)
unfolding first scan off_line
pieces = (refl, refl, refl, refl, refl, refl, refl)

-- the block of a point: "of a point before all blocks the first, after all the last"; each block's first and last point
pub blocks_of_lem : (block_of line 0 ≡ 0) × (block_of line 5 ≡ 0) × (block_of line 9 ≡ 0) × (block_of line 10 ≡ 1) × (block_of line 19 ≡ 1) × (block_of line 20 ≡ 2) × (block_of line 99 ≡ 2)
unfolding holding
blocks_of_lem = (refl, refl, refl, refl, refl, refl, refl)

-- of the touch 9–20: the blocks where it starts or stops, the one between, its clips, and the piece between as one range
pub touch_blocks : (bounds line 0 (range 9 20) ≡ true) × (bounds line 1 (range 9 20) ≡ false) × (bounds line 2 (range 9 20) ≡ true)
    × (between line 0 (range 9 20) ≡ false) × (between line 1 (range 9 20) ≡ true) × (between line 2 (range 9 20) ≡ false)
    × (clip line 0 (range 7 22) ≡ range 7 9) × (clip line 2 (range 7 22) ≡ range 20 22) × (through line (range 9 20) ≡ range 10 19 ∷ []) × (through line (range 9 19) ≡ [])
unfolding holding
touch_blocks = (refl, refl, refl, refl, refl, refl, refl, refl, refl, refl)

-- "a block is touched if any point of a touch lies in it": its first and last point, and the points beside them
pub touched_at : (touched line (range 0 9 ∷ range 20 99 ∷ []) 1 ≡ false) × (touched line (range 0 10 ∷ []) 1 ≡ true) × (touched line (range 19 99 ∷ []) 1 ≡ true)
unfolding any
touched_at = (refl, refl, refl)

-- "the first end at or after its last point, else to the bottom": an end at that point, before it, and of two the first
pub ends_at : (cover line (13 ∷ []) 1 (range 12 13) ≡ range 12 13) × (cover line (12 ∷ []) 1 (range 12 13) ≡ range 12 19) × (cover line (17 ∷ 15 ∷ 16 ∷ []) 1 (range 12 13) ≡ range 12 15)
unfolding until
ends_at = (refl, refl, refl)

-- a local leaves a block whose last point a touch's cover reaches, and not where it stops one short; it "passes a block that has none of its ends", first and last point too
pub leaves_at : (leaves line (range 12 13 ∷ []) (19 ∷ []) 1 ≡ true) × (leaves line (range 12 13 ∷ []) (18 ∷ []) 1 ≡ false) × (leaves line (range 9 20 ∷ []) (15 ∷ []) 1 ≡ true) × (leaves line (range 9 20 ∷ []) [] 0 ≡ true)
    × (passes line (10 ∷ []) 1 ≡ false) × (passes line (19 ∷ []) 1 ≡ false) × (passes line (9 ∷ 20 ∷ []) 1 ≡ true)
unfolding any holding until
leaves_at = (refl, refl, refl, refl, refl, refl, refl)

-- one local that nothing names, so unfollowed, and two slots, the second of which is moved at 6: items are "locals, then slots"
abbrev job_with : List Move → Job
job_with ms = record {
  points = 29;
  blocks = line.blocks;
  jumps = [];
  code = record { numbered = 4; insts = insts; crossings = []; addresses = []; ends = [] };
  locals = record { size = 8; align = 4 } ∷ [];
  slots = 2 ∷ 1 ∷ [];
  pieces = [];
  assigned = [];
  moves = ms;
}

abbrev job : Job
job = job_with (record { kind = 0; number = 0; to = 1; from = 99 } ∷ [])

pub items : (item_count job ≡ 3) × (item_area job 0 ≡ none) × (item_area job 1 ≡ none) × (item_area job 2 ≡ some (range 5 7 ∷ [])) × (area_by line Unfollowed [] [] ≡ none)
unfolding any keep gather place_in insert sort join merged spilled kind_of
items = (refl, refl, refl, refl, refl)

-- moved at 6 and at 9 as well, the end of block 5–9: 5–7 and 8–10 touch, and are one range
abbrev moved_twice : Job
moved_twice = job_with (record { kind = 0; number = 0; to = 1; from = 99 } ∷ record { kind = 3; number = 1; to = 1; from = 99 } ∷ [])

-- number 9: "all areas, put there in item order, exceed the area list": at the room and one over; it "follows the shorter lists"
pub room : (items_verdict job 1 ≡ Fine) × (items_verdict job 0 ≡ Bad ListWord 0) × (item_area moved_twice 2 ≡ some (range 5 10 ∷ [])) × (items_verdict moved_twice 1 ≡ Fine) × (ranges_of (some (range 1 2 ∷ range 4 5 ∷ []) ∷ none ∷ some (range 7 8 ∷ []) ∷ []) ≡ 3)
unfolding tabulate any keep gather place_in insert sort join merged spilled kind_of ranges_of
room = (refl, refl, refl, refl, refl)
