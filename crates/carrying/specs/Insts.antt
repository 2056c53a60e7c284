-- Document 01, "Carried addresses": an instruction and what it does with a register. v is the count of numbered registers.
use Rattle.std.specs.Prelude.{ℕ, suc, Bool, true, cond, not, ◌&&◌, ◌||◌, List, [], ◌∷◌, get_or, take, drop, eqb, ltb}
use Rattle.std.proofs.Math.Option.{Option, some, none}
use Rattle.words.specs.Rows.{records}
use Rattle.words.specs.Widths.{inst_width, operand_width}
use Rattle.carrying.specs.Lists.{any, keep}

-- "def or not, and a register"
pub record Operand : Type 0 where
  pub def : ℕ
  pub register : ℕ

-- "block number or unplaced, early and late point, `lea` flag, memory-mode flag, base and index operand position, then operands"
pub record Inst : Type 0 where
  pub placed : ℕ
  pub block : ℕ
  pub early : ℕ
  pub late : ℕ
  pub lea : ℕ
  pub mem : ℕ
  pub base : ℕ
  pub index : ℕ
  pub operands : List Operand

-- rows of 9 numbers, the last how many of the operands, rows of 2, are the instruction's
abbrev pub inst_of : (ℕ → ℕ) → List Operand → Inst
inst_of f os = record { placed = f 0; block = f 1; early = f 2; late = f 3; lea = f 4; mem = f 5; base = f 6; index = f 7; operands = os }

unfoldable pub dealt : List (ℕ → ℕ) → List Operand → List Inst
dealt [] os = []
dealt (f ∷ fs) os = inst_of f (take (f 8) os) ∷ dealt fs (drop (f 8) os)

abbrev pub insts_of : List ℕ → List ℕ → List Inst
insts_of is os = dealt (records inst_width (λ f. f) is) (records operand_width (λ f. record { def = f 0; register = f 1 }) os)

-- the instruction with an index
abbrev pub inst_at : List Inst → ℕ → Inst
inst_at is n = get_or is n (inst_of (λ f. 0) [])

-- a flag is 0 or 1
abbrev pub is_set : ℕ → Bool
is_set n = eqb n 1

-- "its one def register": none, two (the same one twice, too) or a physical one is no such
abbrev pub only_one : ℕ → List Operand → Option ℕ
only_one v [] = none
only_one v (o ∷ []) = cond (ltb o.register v) (some o.register) none
only_one v (o ∷ p ∷ os) = none

abbrev pub def_of : ℕ → Inst → Option ℕ
def_of v i = only_one v (keep (λ o. is_set o.def) i.operands)

-- a use of the register: an operand that is no def
abbrev pub is_use : ℕ → Operand → Bool
is_use r o = eqb o.register r && not (is_set o.def)

-- a reader: only placed instructions are (the Rust's rule; an unplaced one is ignored)
abbrev pub reads : Inst → ℕ → Bool
reads i r = is_set i.placed && any (is_use r) i.operands

-- the position is the base or the index; "operand positions from 256 are never addressed"
abbrev pub address_position : Inst → ℕ → Bool
address_position i p = ltb p 256 && (eqb i.base p || eqb i.index p)

-- each use of the register, from position p on, is at such a position: a def there excuses no use elsewhere
unfoldable pub each_address : Inst → ℕ → ℕ → List Operand → Bool
each_address i r p [] = true
each_address i r p (o ∷ os) = (not (is_use r o) || address_position i p) && each_address i r (suc p) os

-- "each use of the register is its base or index", in memory mode
abbrev pub addressed : Inst → ℕ → Bool
addressed i r = is_set i.mem && each_address i r 0 i.operands
