-- Document 01, "Carried addresses": what becomes of a local, by the least set of registers that carry its address.
use Rattle.std.specs.Prelude.{ℕ, ◌≡◌, true, false}
use Rattle.std.proofs.Math.Option.{none}
use mathlib.Core.List.{Memᴰ}
use Rattle.carrying.specs.Insts.{Inst, is_set, def_of, reads, addressed}
use Rattle.carrying.specs.Carried.{Mention, Code, mentioned, hands, Carries}

module _ (C : Code) (l : ℕ) where
  -- an address entry of the local
  pub record Entered : Type 0 where
    pub entry : Mention
    pub listed : Memᴰ entry C.addresses
    pub of : entry.local ≡ l

  -- "with no def, two, or a physical one, the local is lost for good"
  pub record Lost : Type 0 where
    pub own : Entered
    pub lea : is_set (mentioned C own.entry).lea ≡ true
    pub no_def : def_of C.numbered (mentioned C own.entry) ≡ none

  -- a `lea` that addresses a carried register: "no such def makes the local unfollowed"
  pub record Stuck : Type 0 where
    pub register : ℕ
    pub carries : Carries C l register
    pub inst : Inst
    pub listed : Memᴰ inst C.insts
    pub handing : hands C inst register ≡ true
    pub no_def : def_of C.numbered inst ≡ none

  -- "any other reader, or a crossing register, makes it escape"
  pub data Escapes : Type 0 where
    crossing : (r : ℕ) → Carries C l r → Memᴰ r C.crossings → Escapes
    reader : (r : ℕ) → Carries C l r → (i : Inst) → Memᴰ i C.insts → reads i r ≡ true → addressed i r ≡ false → Escapes

  -- a placed end: "an end at an unplaced instruction is no end of its local"
  pub record Ended : Type 0 where
    pub end : Mention
    pub listed : Memᴰ end C.ends
    pub of : end.local ≡ l
    pub placed : is_set (mentioned C end).placed ≡ true

  -- "no address entry, or escaping with no placed end: unfollowed"
  pub data IsUnfollowed : Type 0 where
    no_entry : (Entered → ⊥) → IsUnfollowed
    lost : Lost → IsUnfollowed
    stuck : Stuck → IsUnfollowed
    endless : Escapes → (Ended → ⊥) → IsUnfollowed

  -- followed to the last register
  pub record Followed : Type 0 where
    pub entered : Entered
    pub not_lost : Lost → ⊥
    pub not_stuck : Stuck → ⊥

  -- "escaping with ends: an ending local"
  pub record IsEnding : Type 0 where
    pub followed : Followed
    pub escapes : Escapes
    pub ended : Ended

  -- "otherwise plain, and its ends are ignored"
  pub record IsPlain : Type 0 where
    pub followed : Followed
    pub kept : Escapes → ⊥
