-- The corners of the definitions, by computation: where a move stands, by its kind.
use Prim.Native.Nat.{ℕ}
use mathlib.Core.Path.{◌≡◌, refl}
use mathlib.Core.List.{[], ◌∷◌}
use Rattle.carrying.specs.Insts.{Inst}
use Rattle.spill_checks.specs.declared.Position.{Position}
use Rattle.spill_checks.specs.declared.Position.TheVariants.{Early, Late, Start, End, Stray}
use Rattle.spill_checks.specs.Inner.{position_of}

-- an instruction that is placed for flag 1
abbrev inst : ℕ → Inst
inst placed = record { placed = placed; block = 0; early = 5; late = 6; lea = 0; mem = 0; base = 256; index = 256; operands = [] }

-- one block, a placed instruction and an unplaced one
abbrev at : ℕ → ℕ → Position
at k n = position_of (record { number = 0; start = 3; end = 9 } ∷ []) (inst 1 ∷ inst 0 ∷ []) k n

pub kinds : (at 0 0 ≡ Early 0) × (at 1 0 ≡ Late 0) × (at 2 0 ≡ Start (record { 0 = 0 })) × (at 3 0 ≡ End (record { 0 = 0 })) × (at 4 0 ≡ Stray)
kinds = (refl, refl, refl, refl, refl)

-- an unplaced instruction, an absent one, an absent block
pub strays : (at 0 1 ≡ Stray) × (at 1 1 ≡ Stray) × (at 0 2 ≡ Stray) × (at 1 2 ≡ Stray) × (at 2 1 ≡ Stray) × (at 3 1 ≡ Stray)
strays = (refl, refl, refl, refl, refl, refl)
