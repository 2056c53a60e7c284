-- The corners of the definitions, by computation: number 6 of touches lent by themselves, in the block 10–19.
use Prim.Native.Nat.{ℕ}
use mathlib.Core.Path.{◌≡◌, refl}
use mathlib.Core.List.{[], ◌∷◌}
use Rattle.refusals.specs.declared.Refusal.TheVariants.{Piece}
use Rattle.refusals.specs.Verdicts.{first, scan, Bad, Fine, Verdict}
use Rattle.words.specs.Rows.{tabulate}
use Rattle.areas.specs.Slots.{off_line}
use Rattle.area_checks.specs.Checks.{touch_verdict}

-- the touch 12–13 of local 0, then one of local 9, which may be past the end: it is asked as any other
abbrev second : ℕ → ℕ → Verdict
second start end = touch_verdict (0 ∷ 10 ∷ 19 ∷ []) (0 ∷ 12 ∷ 13 ∷ 9 ∷ start ∷ end ∷ [])

-- "reversed, not wholly in the blocks": of one point, reversed by one; the block's first and last point, one before, one past; before it, across its start, across its end
pub touches : (second 15 15 ≡ Fine) × (second 15 14 ≡ Bad Piece 1) × (second 10 19 ≡ Fine) × (second 9 12 ≡ Bad Piece 1) × (second 12 20 ≡ Bad Piece 1)
    × (second 2 3 ≡ Bad Piece 1) × (second 8 12 ≡ Bad Piece 1) × (second 19 4294967295 ≡ Bad Piece 1)
unfolding first scan off_line tabulate
touches = (refl, refl, refl, refl, refl, refl, refl, refl)
