-- `allowed` meets its contract: `-` is taken for what it stands for.
use borrow.Author.Tests.{eq-eqb, ne_eqb}
use Rattle.text_lines.proofs.lines.allowed.Goals as goal

pub returns-then-f-eq-DASH : goal.returns-then-f-eq-DASH
returns-then-f-eq-DASH c = simp (eq-eqb _ _ c.if-f-eq-DASH.true)

pub returns : goal.returns
returns c = simp (ne_eqb _ _ c.if-f-eq-DASH.false)
