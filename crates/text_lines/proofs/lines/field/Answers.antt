-- `field` meets its contract, by the length and the first byte.
use mathlib.Core.Path.{◌∙◌}
use Rattle.text_grammar.proofs.NumeralLaws.{field_empty, field_dash, field_single, field_zero, field_long}
use Rattle.text_lines.proofs.lines.field.Goals as goal

pub returns-then-s-eq0 : goal.returns-then-s-eq0
returns-then-s-eq0 c = field_empty _ c.if-s-eq0.true

pub returns-then-s-eq45 : goal.returns-then-s-eq45
returns-then-s-eq45 c = field_dash _ c.if-s-eq1.true c.if-s-eq45.true

pub returns-then-s-eq1 : goal.returns-then-s-eq1
returns-then-s-eq1 c = c.value.ensures ∙ field_single _ c.if-s-eq1.true c.if-s-eq45.false

pub returns-then-s-eq48 : goal.returns-then-s-eq48
returns-then-s-eq48 c = field_zero _ c.if-s-eq0.false c.if-s-eq1.false c.if-s-eq48.true

pub returns : goal.returns
returns c = c.value-2.ensures ∙ field_long _ c.if-s-eq0.false c.if-s-eq1.false c.if-s-eq48.false
