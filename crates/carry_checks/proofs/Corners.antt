-- The corners of the definitions, by computation: W of `reach` and `carried`, and number 7 at it and one word under.
use mathlib.Core.Path.{◌≡◌, refl}
use mathlib.Core.List.{[], ◌∷◌}
use Rattle.refusals.specs.Verdicts.{room_verdict, Bad, Fine}
use Rattle.refusals.specs.declared.Refusal.TheVariants.{Space}
use Rattle.carry_checks.specs.Checks.{carry_words, carry_space}

-- one block with one local and no register; no local; 65 locals and 65 registers; counts that are all different
pub space : (carry_words 0 1 0 0 0 1 0 0 ≡ 24) × (carry_words 0 1 0 0 0 0 0 0 ≡ 8) × (carry_words 65 2 0 0 0 65 0 0 ≡ 584) × (carry_words 65 3 10 20 40 129 300 700 ≡ 9704)
space = (refl, refl, refl, refl)

-- each count by itself: a record has 3, 9, 2, 1, 2, 2 and 2 numbers
pub counts : carry_space 0 (0 ∷ 0 ∷ 9 ∷ []) (1 ∷ 0 ∷ 2 ∷ 3 ∷ 0 ∷ 0 ∷ 256 ∷ 256 ∷ 1 ∷ []) (0 ∷ 0 ∷ 1 ∷ 1 ∷ []) (0 ∷ 0 ∷ 0 ∷ []) (8 ∷ 8 ∷ []) (0 ∷ 0 ∷ 0 ∷ 0 ∷ 0 ∷ 0 ∷ []) (0 ∷ 0 ∷ 0 ∷ 0 ∷ [])
    ≡ carry_words 0 1 1 2 3 1 3 2
counts = refl

pub rooms : (room_verdict 1 1 24 24 ≡ Fine) × (room_verdict 1 1 23 24 ≡ Bad Space 0) × (room_verdict 0 1 24 24 ≡ Bad Space 0)
rooms = (refl, refl, refl)
