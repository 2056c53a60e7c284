-- The corners of the definitions, by computation: each check where it turns, every field told apart. V = 4, blocks 5–9 (number 1) and 10–19 (number 0).
use Prim.Native.Nat.{ℕ}
use mathlib.Core.Path.{◌≡◌, refl}
use mathlib.Core.Bool.{true, false}
use mathlib.Core.Option.{some, none}
use mathlib.Core.List.{List, [], ◌∷◌}
use Rattle.refusals.specs.declared.Refusal.TheVariants.{Inst as InstWord, Stray}
use Rattle.refusals.specs.Verdicts.{first, scan, Bad, Fine, Verdict}
use Rattle.words.specs.Rows.{tabulate}
use Rattle.ranges.specs.Points.{range}
use Rattle.graph.specs.Line.{Stretch, place_in}
use Rattle.graph.specs.Rounds.{fed, round}
use Rattle.carrying.specs.Lists.{any, keep, gather, below}
use Rattle.carrying.specs.Insts.{Operand, Inst, dealt, insts_of, is_set, def_of, reads, address_position, each_address, addressed}
use Rattle.carrying.specs.Carried.{Mention, Code, mentions_of, pieces_of, carried, ends_of, touches_of}
use Rattle.carrying.specs.Checks.{bad_inst, inst_verdict, crossing_verdict, address_verdict, end_verdict}

-- rows `A,inst,local` and `K,inst,local`, `R,register,start,end`
pub rows : (mentions_of (4 ∷ 5 ∷ 6 ∷ 7 ∷ []) ≡ record { inst = 4; local = 5 } ∷ record { inst = 6; local = 7 } ∷ [])
    × (pieces_of (4 ∷ 5 ∷ 6 ∷ []) ≡ record { register = 4; start = 5; end = 6 } ∷ [])
unfolding tabulate
rows = (refl, refl)

-- an instruction's row: placed, block, early, late, `lea`, memory mode, base, index, how many operands; an operand's: def, register
pub fields : insts_of (1 ∷ 2 ∷ 3 ∷ 4 ∷ 5 ∷ 6 ∷ 7 ∷ 8 ∷ 1 ∷ []) (9 ∷ 10 ∷ []) ≡ record {
  placed = 1;
  block = 2;
  early = 3;
  late = 4;
  lea = 5;
  mem = 6;
  base = 7;
  index = 8;
  operands = record { def = 9; register = 10 } ∷ [];
} ∷ []
unfolding tabulate dealt
fields = refl

abbrev operand : ℕ → ℕ → Operand
operand d r = record { def = d; register = r }

abbrev blocks : List Stretch
blocks = record { number = 1; start = 5; end = 9 } ∷ record { number = 0; start = 10; end = 19 } ∷ []

-- an instruction and what number 4 says of it, behind one that nothing is wrong with
abbrev inst : ℕ → ℕ → ℕ → ℕ → ℕ → ℕ → ℕ → ℕ → List Operand → Inst
inst placed block early late lea mem base index os =
    record { placed = placed; block = block; early = early; late = late; lea = lea; mem = mem; base = base; index = index; operands = os }

abbrev good : Inst
good = inst 1 1 5 9 1 1 256 256 (operand 1 259 ∷ operand 0 259 ∷ [])

abbrev told : Inst → Verdict
told i = inst_verdict blocks 4 (good ∷ i ∷ [])

-- "a register ≥ V+256": V + 255 and V + 256, of an operand and of a crossing
pub registers : (told good ≡ Fine) × (told (inst 1 1 5 9 0 0 256 256 (operand 0 260 ∷ [])) ≡ Bad InstWord 1) × (crossing_verdict 4 (259 ∷ []) ≡ Fine) × (crossing_verdict 4 (259 ∷ 260 ∷ []) ≡ Bad InstWord 1)
unfolding first scan any place_in bad_inst
registers = (refl, refl, refl, refl)

-- "a flag out of range": 1 and 2; "or position": 256 is none, 257 is refused
pub flags : (told (inst 2 1 5 9 0 0 256 256 []) ≡ Bad InstWord 1) × (told (inst 1 1 5 9 2 0 256 256 []) ≡ Bad InstWord 1) × (told (inst 1 1 5 9 0 2 256 256 []) ≡ Bad InstWord 1)
    × (told (inst 1 1 5 9 0 0 256 256 (operand 2 0 ∷ [])) ≡ Bad InstWord 1) × (told (inst 1 1 5 9 0 0 257 256 []) ≡ Bad InstWord 1) × (told (inst 1 1 5 9 0 0 256 257 []) ≡ Bad InstWord 1)
unfolding first scan any place_in bad_inst
flags = (refl, refl, refl, refl, refl, refl)

-- "placed in no block": B − 1 and B; "or outside its points": first to last, one before, one past
pub placements : (told (inst 1 0 10 19 0 0 256 256 []) ≡ Fine) × (told (inst 1 2 10 19 0 0 256 256 []) ≡ Bad InstWord 1)
    × (told (inst 1 0 9 19 0 0 256 256 []) ≡ Bad InstWord 1) × (told (inst 1 0 10 20 0 0 256 256 []) ≡ Bad InstWord 1)
unfolding first scan any place_in bad_inst
placements = (refl, refl, refl, refl)

-- "early > late", of an unplaced one too, whose points are otherwise free, and whose flags, positions and registers are checked
pub unplaced : (told (inst 1 1 7 7 0 0 256 256 []) ≡ Fine) × (told (inst 1 1 8 7 0 0 256 256 []) ≡ Bad InstWord 1) × (told (inst 0 9 0 99 0 0 256 256 []) ≡ Fine) × (told (inst 0 9 8 7 0 0 256 256 []) ≡ Bad InstWord 1)
    × (told (inst 0 0 5 5 2 0 256 256 []) ≡ Bad InstWord 1) × (told (inst 0 0 5 5 0 0 257 256 []) ≡ Bad InstWord 1) × (told (inst 0 0 5 5 0 0 256 256 (operand 0 260 ∷ [])) ≡ Bad InstWord 1)
unfolding first scan any place_in bad_inst
unplaced = (refl, refl, refl, refl, refl, refl, refl)

-- number 5: "an address at an absent or unplaced instruction, an end at an absent instruction": the last instruction and one past; a local past the end excuses nothing
abbrev at : ℕ → List Mention
at n = record { inst = 0; local = 0 } ∷ record { inst = n; local = 99 } ∷ []

abbrev two : List Inst
two = good ∷ inst 0 0 5 5 0 0 256 256 [] ∷ []

pub strays : (address_verdict two (at 0) ≡ Fine) × (address_verdict two (at 1) ≡ Bad Stray 1) × (address_verdict two (at 2) ≡ Bad Stray 1) × (end_verdict two (at 1) ≡ Fine) × (end_verdict two (at 2) ≡ Bad Stray 1)
unfolding first scan
strays = (refl, refl, refl, refl, refl)

-- a flag is set at 1 alone
pub set_flags : (is_set 0 ≡ false) × (is_set 1 ≡ true) × (is_set 2 ≡ false)
set_flags = (refl, refl, refl)

-- "its one def register": V − 1, V is physical; none; two; a use is no def
abbrev with : List Operand → Inst
with os = inst 1 1 5 9 1 1 1 256 os

pub defs : (def_of 4 (with (operand 1 3 ∷ operand 0 2 ∷ [])) ≡ some 3) × (def_of 4 (with (operand 1 4 ∷ [])) ≡ none) × (def_of 4 (with (operand 0 3 ∷ [])) ≡ none) × (def_of 4 (with (operand 1 3 ∷ operand 1 2 ∷ [])) ≡ none)
unfolding keep
defs = (refl, refl, refl, refl)

-- "operand positions from 256 are never addressed": 255 and 256, by base and by index; a use at position 0 is not the base at 1
pub positions : (address_position (inst 1 1 5 9 0 1 255 256 []) 255 ≡ true) × (address_position (inst 1 1 5 9 0 1 256 255 []) 255 ≡ true) × (address_position (inst 1 1 5 9 0 1 256 256 []) 256 ≡ false)
    × (addressed (with (operand 1 3 ∷ operand 0 2 ∷ [])) 2 ≡ true) × (addressed (with (operand 0 2 ∷ operand 1 3 ∷ [])) 2 ≡ false)
    × (reads (with (operand 0 2 ∷ [])) 2 ≡ true) × (reads (with (operand 1 2 ∷ [])) 2 ≡ false) × (reads (with (operand 0 2 ∷ [])) 3 ≡ false)
unfolding any each_address
positions = (refl, refl, refl, refl, refl, refl, refl, refl)

-- a local's end is the early point; its touches are early to late
abbrev code : Code
code = record {
  numbered = 4;
  insts = inst 1 1 6 8 0 0 256 256 [] ∷ [];
  crossings = [];
  addresses = record { inst = 0; local = 7 } ∷ [];
  ends = record { inst = 0; local = 7 } ∷ [];
}

pub spans : (ends_of code 7 ≡ 6 ∷ []) × (ends_of code 0 ≡ []) × (touches_of code [] 7 ≡ range 6 8 ∷ []) × (touches_of code [] 0 ≡ [])
unfolding fed round any keep gather below carried touches_of
spans = (refl, refl, refl, refl)
