-- `part` meets its contract: absent, or the word's halves less 1.
use native.Mathlib.Omega.{arith}
use mathlib.Core.Path.{refl}
use Rattle.answer_rows.proofs.RowLaws.{item_none, item_some}
use Rattle.answer_rows.proofs.part.Goals as goal

pub returns-then-x-eq0 : goal.returns-then-x-eq0
returns-then-x-eq0 c = item_none c.args.x (omega (arith, c.if-x-eq0.true))

pub returns : goal.returns
returns c = item_some c.args.x _ _ (omega (arith, c.if-x-eq0.false)) refl refl
