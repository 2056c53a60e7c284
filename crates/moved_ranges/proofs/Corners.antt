-- The corners of the definitions, by computation: W of `moved`, number 7 at it and one under, and number 1 of its answer list.
use mathlib.Core.Path.{◌≡◌, refl}
use mathlib.Core.List.{[], ◌∷◌}
use Rattle.refusals.specs.declared.Refusal.TheVariants.{Count, Space}
use Rattle.refusals.specs.Verdicts.{first, Bad, Fine}
use Rattle.graph.specs.Work.{sum_of}
use Rattle.insts.specs.Counts.{inst_counts}
use Rattle.moved_ranges.specs.Moved.{moved_counts, moved_words, moved_space, moved_room}

-- one block with one register; with none; 64 and 65 registers; counts that are all different
pub space : (moved_words 1 1 0 0 0 ≡ 16) × (moved_words 0 1 0 0 0 ≡ 8) × (moved_words 64 1 0 0 0 ≡ 16) × (moved_words 65 1 0 0 0 ≡ 24) × (moved_words 65 3 10 20 40 ≡ 600)
space = (refl, refl, refl, refl, refl)

-- each count by itself: a record has 3, 9, 2 and 4 numbers
pub counts : moved_space 0 (0 ∷ 0 ∷ 9 ∷ []) (1 ∷ 0 ∷ 2 ∷ 3 ∷ 0 ∷ 0 ∷ 256 ∷ 256 ∷ 1 ∷ []) (0 ∷ 0 ∷ 1 ∷ 1 ∷ []) (0 ∷ 0 ∷ 0 ∷ 0 ∷ 2 ∷ 0 ∷ 0 ∷ 9 ∷ 2 ∷ 0 ∷ 0 ∷ 9 ∷ []) ≡ moved_words 0 1 1 2 3
counts = refl

-- two ranges for each move
pub rooms : (moved_room 4 1 16 16 ≡ Fine) × (moved_room 3 1 16 16 ≡ Bad Space 0) × (moved_room 4 1 15 16 ≡ Bad Space 0)
rooms = (refl, refl, refl)

-- "B 1 to 4,096; V 65,535", and whole rows in the answer list
pub limits : (moved_counts 65535 (0 ∷ 0 ∷ 9 ∷ []) [] [] [] 2 ≡ Fine) × (moved_counts 65535 (0 ∷ 0 ∷ 9 ∷ []) [] [] [] 3 ≡ Bad Count 0)
    × (moved_counts 65536 (0 ∷ 0 ∷ 9 ∷ []) [] [] [] 2 ≡ Bad Count 0) × (moved_counts 0 [] [] [] [] 2 ≡ Bad Count 0)
unfolding moved_counts inst_counts first sum_of
limits = (refl, refl, refl, refl)
