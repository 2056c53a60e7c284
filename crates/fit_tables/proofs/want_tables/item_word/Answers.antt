-- `item_word` meets its contract, by the two forms of an item's word.
use Rattle.fit_tables.proofs.WantLaws.{word_none, word_some}
use mathlib.Core.Path.{sym}
use Rattle.fit_tables.proofs.want_tables.item_word.Goals as goal

pub returns-then-present-eq0 : goal.returns-then-present-eq0
returns-then-present-eq0 c = sym (word_none _ _ _ c.if-present-eq0.true)

pub returns : goal.returns
returns c = sym (word_some _ _ _ c.if-present-eq0.false)
