-- The corners of the definitions, by computation: the cells counted at the list's and one past, no more than a plan can have, and a row's fields.
use Prim.Native.Nat.{ℕ, ◌*◌}
use mathlib.Core.Path.{◌≡◌, refl}
use mathlib.Core.List.{List, [], ◌∷◌}
use lib.ListN.{length}
use Rattle.refusals.specs.declared.Refusal.TheVariants.{Count}
use Rattle.words.specs.Rows.{tabulate, flat}
use Rattle.words.specs.Widths.{cell_width}
use Rattle.capping.specs.Cap.{cap_verdict, cap_rows}
use Rattle.refusals.specs.Verdicts.{Bad, Fine}

pub counts : (cap_verdict (16 ∷ 8 ∷ 4 ∷ 2 ∷ []) 2 ≡ Fine) × (cap_verdict (16 ∷ 8 ∷ 4 ∷ 2 ∷ []) 3 ≡ Bad Count 0) × (cap_verdict (16 ∷ 8 ∷ 4 ∷ []) 1 ≡ Bad Count 0)
counts = (refl, refl, refl)

pub limit : (cells : List ℕ) → length cells ≡ cell_width * 5000 → (cap_verdict cells 4096 ≡ Fine) × (cap_verdict cells 4097 ≡ Bad Count 0)
limit cells e = (rw e refl, rw e refl)

-- "`cap` lowers each lent cell's alignment to a maximum", of the cells counted
pub rows : cap_rows (16 ∷ 8 ∷ 4 ∷ 2 ∷ 9 ∷ 9 ∷ []) 2 4 ≡ 16 ∷ 4 ∷ 4 ∷ 2 ∷ []
unfolding tabulate flat
rows = refl
