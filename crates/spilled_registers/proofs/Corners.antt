-- The corners of the definitions, by computation: W of `spilled`, number 7 at it and one under, and the limits of number 1.
use mathlib.Core.Path.{◌≡◌, refl}
use mathlib.Core.List.{[], ◌∷◌}
use Rattle.refusals.specs.declared.Refusal.TheVariants.{Count, Space}
use Rattle.refusals.specs.Verdicts.{first, Bad, Fine}
use Rattle.spilled_registers.specs.Spilled.{spilled_counts, spilled_words, spilled_space, spilled_room}

-- no register, 64 and 65; an assignment has 2 numbers
pub space : (spilled_words 0 1 ≡ 8) × (spilled_words 64 1 ≡ 16) × (spilled_words 65 1 ≡ 24) × (spilled_space 65 (0 ∷ 0 ∷ 1 ∷ 1 ∷ 2 ∷ 2 ∷ []) ≡ 40)
space = (refl, refl, refl, refl)

pub rooms : (spilled_room 3 3 16 16 ≡ Fine) × (spilled_room 2 3 16 16 ≡ Bad Space 0) × (spilled_room 3 3 15 16 ≡ Bad Space 0)
rooms = (refl, refl, refl)

-- "V 65,535; slots 2,048", and whole rows
pub limits : (spilled_counts 65535 2048 (0 ∷ 0 ∷ []) ≡ Fine) × (spilled_counts 65536 2048 [] ≡ Bad Count 0) × (spilled_counts 65535 2049 [] ≡ Bad Count 0) × (spilled_counts 4 3 (1 ∷ 0 ∷ 2 ∷ []) ≡ Bad Count 0)
unfolding spilled_counts first
limits = (refl, refl, refl, refl)
