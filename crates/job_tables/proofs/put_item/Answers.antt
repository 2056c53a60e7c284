-- `put_item` meets its contract: four stores.
use mathlib.Core.Path.{ap}
use Rattle.words.specs.Inner.{row_put}
use Rattle.answer_rows.specs.declared.Item.{Item}
use Rattle.job_tables.proofs.put_item.Goals as goal

pub returns : goal.returns
returns c = let a = c.args in ap (λ (t : Item). row_put a.out.now a.at a.cell t.present t.first t.count) c.part-t.ensures
