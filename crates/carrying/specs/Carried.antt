-- Document 01, "Carried addresses": the registers that carry a local's address, what becomes of the local, its ends and its touches.
use Rattle.std.specs.Prelude.{ℕ, ◌≡◌, Bool, true, false, cond, not, ◌&&◌, ◌||◌, eqb, ltb}
use Rattle.std.proofs.Math.Option.{Option, some, none}
use mathlib.Core.List.{List, [], ◌∷◌, ◌++◌, map, Memᴰ}
use Rattle.words.specs.Rows.{records}
use Rattle.words.specs.Widths.{mention_width, piece_width}
use Rattle.ranges.specs.declared.Range.{Range}
use Rattle.ranges.specs.Points.{range}
use Rattle.graph.specs.Paths.{Edge, edge}
use Rattle.graph.specs.Rounds.{reached_row}
use Rattle.carrying.specs.declared.Kind.{Kind}
use Rattle.carrying.specs.declared.Kind.TheVariants.{Unfollowed, Plain, Ending}
use Rattle.carrying.specs.Lists.{any, keep, gather, below}
use Rattle.carrying.specs.Insts.{Inst, inst_at, is_set, def_of, reads, addressed}

-- an address entry, or an end: an instruction and a local
pub record Mention : Type 0 where
  pub inst : ℕ
  pub local : ℕ

abbrev pub mentions_of : List ℕ → List Mention
mentions_of s = records mention_width (λ f. record { inst = f 0; local = f 1 }) s

-- a live piece of a register
pub record Piece : Type 0 where
  pub register : ℕ
  pub start : ℕ
  pub end : ℕ

abbrev pub pieces_of : List ℕ → List Piece
pieces_of s = records piece_width (λ f. record { register = f 0; start = f 1; end = f 2 }) s

-- what `reach` is lent
pub record Code : Type 0 where
  pub numbered : ℕ
  pub insts : List Inst
  pub crossings : List ℕ
  pub addresses : List Mention
  pub ends : List Mention

-- the address entries, or the ends, of a local: "a local number past the end is skipped", being no local's
abbrev pub mentions : List Mention → ℕ → List Mention
mentions ms l = keep (λ m. eqb m.local l) ms

-- tests of an optional register, and of a list
abbrev pub is_some : ℕ → Option ℕ → Bool
is_some r none = false
is_some r (some s) = eqb s r

abbrev pub is_none : Option ℕ → Bool
is_none none = true
is_none (some s) = false

-- from a register to another, if there is one
abbrev pub edge_to : ℕ → Option ℕ → List Edge
edge_to r none = []
edge_to r (some s) = edge r s ∷ []

abbrev pub empty : {A : Type 0} → List A → Bool
empty [] = true
empty (a ∷ l) = false

module _ (C : Code) where
  -- the instruction of an entry
  abbrev pub mentioned : Mention → Inst
  mentioned m = inst_at C.insts m.inst

  -- a reader through which the address goes on: addressed, and `lea`
  abbrev pub hands : Inst → ℕ → Bool
  hands i r = reads i r && (addressed i r && is_set i.lea)

  -- r carries the local's address: the least set with the def of each `lea` entry, and the def of each `lea` that addresses a carried register
  pub data Carries (l : ℕ) : ℕ → Type 0 where
    taken : {r : ℕ} (m : Mention) → Memᴰ m (mentions C.addresses l) → is_set (mentioned m).lea ≡ true
        → def_of C.numbered (mentioned m) ≡ some r → Carries l r
    followed : {q r : ℕ} → Carries l q → (i : Inst) → Memᴰ i C.insts → hands i q ≡ true
        → def_of C.numbered i ≡ some r → Carries l r

  -- the same set, computed: an edge from each register to what a `lea` that addresses it defines, and rounds over the edges
  abbrev pub handing : Inst → ℕ → List Edge
  handing i r = cond (ltb r C.numbered && hands i r) (edge_to r (def_of C.numbered i)) []

  abbrev pub handings : List Edge
  handings = gather (λ i. gather (λ o. handing i o.register) i.operands) C.insts

  -- "an address entry that is `lea` adds its one def register"
  abbrev pub is_taken : ℕ → ℕ → Bool
  is_taken l r = any (λ m. is_set (mentioned m).lea && is_some r (def_of C.numbered (mentioned m))) (mentions C.addresses l)

  abbrev pub carries : ℕ → ℕ → Bool
  carries l r = is_taken l r || reached_row C.numbered handings (is_taken l) r

  unfoldable pub carried : ℕ → List ℕ
  carried l = below C.numbered (carries l)

  -- "with no def, two, or a physical one, the local is lost for good"
  abbrev pub undefined : Inst → Bool
  undefined i = is_none (def_of C.numbered i)

  abbrev pub lost : ℕ → Bool
  lost l = any (λ m. is_set (mentioned m).lea && undefined (mentioned m)) (mentions C.addresses l)

  -- "no such def makes the local unfollowed": an addressed `lea` reader of a carried register, also of a local that escapes and has ends
  abbrev pub stuck : ℕ → Bool
  stuck r = any (λ i. hands i r && undefined i) C.insts

  abbrev pub dead : ℕ → Bool
  dead l = any stuck (carried l)

  -- "any other reader, or a crossing register, makes it escape"
  abbrev pub escapes : ℕ → Bool
  escapes r = any (eqb r) C.crossings || any (λ i. reads i r && not (addressed i r)) C.insts

  abbrev pub escaping : ℕ → Bool
  escaping l = any escapes (carried l)

  -- the ends of a local: early points; "an end at an unplaced instruction is no end of its local"
  abbrev pub ends_of : ℕ → List ℕ
  ends_of l = map (λ m. (mentioned m).early) (keep (λ m. is_set (mentioned m).placed) (mentions C.ends l))

  -- "no address entry, or escaping with no placed end: unfollowed. Escaping with ends: an ending local. Otherwise plain"
  unfoldable pub kind_of : ℕ → Kind
  kind_of l =
      cond (empty (mentions C.addresses l) || (lost l || dead l)) Unfollowed
      (cond (escaping l) (cond (empty (ends_of l)) Unfollowed Ending) Plain)

-- the live pieces of a register
abbrev pub live_pieces : List Piece → ℕ → List Range
live_pieces ps r = map (λ p. range p.start p.end) (keep (λ p. eqb p.register r) ps)

-- "touches: live pieces of carried registers, and early to late of each listed instruction"
unfoldable pub touches_of : Code → List Piece → ℕ → List Range
touches_of C ps l =
    gather (live_pieces ps) (carried C l)
    ++ map (λ m. range (mentioned C m).early (mentioned C m).late) (mentions C.addresses l)
