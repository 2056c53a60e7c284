-- The rules of document 01 and its readings on small code, by computation: V = 4, local 0 is taken by instruction 0, a `lea` that defines register 0.
use Prim.Native.Nat.{ℕ}
use mathlib.Core.Path.{◌≡◌, refl}
use mathlib.Core.Bool.{false}
use mathlib.Core.List.{List, [], ◌∷◌}
use Rattle.ranges.specs.Points.{range}
use Rattle.words.specs.Rows.{tabulate}
use Rattle.graph.specs.Rounds.{fed, round}
use Rattle.carrying.specs.declared.Kind.TheVariants.{Unfollowed, Plain, Ending}
use Rattle.carrying.specs.Lists.{any, keep, gather, below}
use Rattle.carrying.specs.Insts.{Operand, Inst, dealt, insts_of, address_position, each_address}
use Rattle.carrying.specs.Carried.{Code, Mention, carried, kind_of, ends_of, touches_of}

abbrev def : ℕ → Operand
def r = record { def = 1; register = r }

abbrev use_of : ℕ → Operand
use_of r = record { def = 0; register = r }

-- placed, `lea`, memory mode, base, points p to p + 1
abbrev inst : ℕ → ℕ → ℕ → ℕ → ℕ → List Operand → Inst
inst placed lea mem base p os = record { placed = placed; block = 0; early = p; late = p; lea = lea; mem = mem; base = base; index = 256; operands = os }

abbrev take_0 : Inst
take_0 = inst 1 1 0 256 2 (def 0 ∷ [])

-- one reader after it, and the ends of local 0
abbrev reader : Inst → List ℕ → List Mention → Code
reader i crossings ends = record { numbered = 4; insts = take_0 ∷ i ∷ []; crossings = crossings; addresses = record { inst = 0; local = 0 } ∷ []; ends = ends }

abbrev ending : List Mention
ending = record { inst = 1; local = 0 } ∷ []

-- the base of a load: addressed, so plain
pub load : kind_of (reader (inst 1 0 1 1 5 (def 3 ∷ use_of 0 ∷ [])) [] []) 0 ≡ Plain
unfolding fed round any keep gather below each_address carried kind_of touches_of
load = refl

-- a `lea` of it carries on
pub carries_on : carried (reader (inst 1 1 1 1 5 (def 3 ∷ use_of 0 ∷ [])) [] []) 0 ≡ 0 ∷ 3 ∷ []
unfolding fed round any keep gather below each_address carried kind_of touches_of
carries_on = refl

-- stored as a value: it escapes, and is ending with an end, unfollowed without
pub stored : kind_of (reader (inst 1 0 0 256 5 (use_of 0 ∷ [])) [] []) 0 ≡ Unfollowed
unfolding fed round any keep gather below each_address carried kind_of touches_of
stored = refl

pub stored_ending : kind_of (reader (inst 1 0 0 256 5 (use_of 0 ∷ [])) [] ending) 0 ≡ Ending
unfolding fed round any keep gather below each_address carried kind_of touches_of
stored_ending = refl

-- against the Rust, 1: an unplaced reader is ignored; its end is none
pub unplaced : (kind_of (reader (inst 0 0 0 256 5 (use_of 0 ∷ [])) [] []) 0 ≡ Plain) × (ends_of (reader (inst 0 0 0 256 5 []) [] ending) 0 ≡ [])
unfolding fed round any keep gather below each_address carried kind_of touches_of
unplaced = (refl, refl)

-- 2: memory-mode flag 0, with a base given, is never addressed
pub no_memory : kind_of (reader (inst 1 0 0 0 5 (use_of 0 ∷ [])) [] []) 0 ≡ Unfollowed
unfolding fed round any keep gather below each_address carried kind_of touches_of
no_memory = refl

-- 9: the same register defined twice is two defs: lost
pub twice : kind_of (record {
  numbered = 4;
  insts = inst 1 1 0 256 2 (def 0 ∷ def 0 ∷ []) ∷ [];
  crossings = [];
  addresses = record { inst = 0; local = 0 } ∷ [];
  ends = [];
}) 0 ≡ Unfollowed
unfolding fed round any keep gather below each_address carried kind_of touches_of
twice = refl

-- 10: an addressed `lea` reader without its one def makes the local unfollowed, although it escapes and has ends
pub dead : kind_of (reader (inst 1 1 1 0 5 (use_of 0 ∷ [])) (0 ∷ []) ending) 0 ≡ Unfollowed
unfolding fed round any keep gather below each_address carried kind_of touches_of
dead = refl

-- and a `lea` that reads the register some other way only makes it escape
pub lea_escapes : kind_of (reader (inst 1 1 1 256 5 (use_of 0 ∷ [])) [] ending) 0 ≡ Ending
unfolding fed round any keep gather below each_address carried kind_of touches_of
lea_escapes = refl

-- 11: a base position that names a def does not excuse a use at another position
pub def_at_base : kind_of (reader (inst 1 0 1 0 5 (def 3 ∷ use_of 0 ∷ [])) [] []) 0 ≡ Unfollowed
unfolding fed round any keep gather below each_address carried kind_of touches_of
def_at_base = refl

-- a crossing register escapes; no address entry is unfollowed
pub crossing : (kind_of (reader (inst 1 0 1 1 5 (def 3 ∷ use_of 0 ∷ [])) (0 ∷ []) []) 0 ≡ Unfollowed) × (kind_of (reader (inst 1 0 1 1 5 []) [] []) 1 ≡ Unfollowed)
unfolding fed round any keep gather below each_address carried kind_of touches_of
crossing = (refl, refl)

-- touches: the live pieces of the carried register, then the listed instruction
pub touches : touches_of (reader (inst 1 0 1 1 5 (def 3 ∷ use_of 0 ∷ [])) [] []) (record { register = 0; start = 2; end = 5 } ∷ record { register = 1; start = 7; end = 8 } ∷ []) 0
    ≡ range 2 5 ∷ range 2 2 ∷ []
unfolding fed round any keep gather below each_address carried kind_of touches_of
touches = refl

-- instructions from their rows: the second has the second and third operand
pub decoded : insts_of (1 ∷ 0 ∷ 2 ∷ 2 ∷ 1 ∷ 0 ∷ 256 ∷ 256 ∷ 1 ∷ 1 ∷ 0 ∷ 5 ∷ 5 ∷ 0 ∷ 1 ∷ 1 ∷ 256 ∷ 2 ∷ []) (1 ∷ 0 ∷ 1 ∷ 3 ∷ 0 ∷ 0 ∷ [])
    ≡ take_0 ∷ inst 1 0 1 1 5 (def 3 ∷ use_of 0 ∷ []) ∷ []
unfolding tabulate dealt
decoded = refl

-- operand position 256 is never addressed, although 256 stands for no base
pub far : address_position (inst 1 0 1 256 5 []) 256 ≡ false
far = refl
