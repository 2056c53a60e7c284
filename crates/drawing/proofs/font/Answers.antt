use Rattle.drawing.proofs.RowLaws.{fits_none, fits_part, fits_most}
use native.Mathlib.Omega.{arith}
use Rattle.drawing.proofs.font.Goals as goal

-- src/lib.rt:150:9
pub returns-then-characters-eq0 : goal.returns-then-characters-eq0
returns-then-characters-eq0 c = fits_none _ _ _ c.if-characters-eq0.true

-- src/lib.rt:154:9
pub returns-then-size-most : goal.returns-then-size-most
returns-then-size-most c = fits_part _ _ _ (omega (arith, c.if-characters-eq0.false)) c.if-size-most.true

-- src/lib.rt:146:1
pub returns : goal.returns
returns c = fits_most _ _ _ (omega (arith, c.if-characters-eq0.false)) (let h = c.if-size-most.false in omega arith)
