-- `list` meets its contract: refused, or written out.
use native.Mathlib.Omega.{arith}
use Rattle.item_lists.proofs.TableLaws.{refused_list, given_list}
use Rattle.words.specs.Widths.{range_count}
use Rattle.item_lists.proofs.list.Goals as goal

pub returns-then-room-n : goal.returns-then-room-n
returns-then-room-n c = let a = c.args in λ A D. refused_list A a.count (range_count a.areas.now) a.n a.work.now D (omega arith) _ _

pub write_rows-requires : goal.write_rows-requires
write_rows-requires c = (omega arith, omega (arith, c.requires.3), λ i h. omega arith)

pub write_items-requires : goal.write_items-requires
write_items-requires c =
    (omega (arith, c.requires.1), omega (arith, c.requires.3))

pub returns : goal.returns
returns c =
    let a = c.args in
    λ A D. given_list A a.count (range_count a.areas.now) a.n a.work.now D (omega arith) c.requires.2 c.requires.3 _ _ _ _
    c.write_rows.ensures c.write_items.ensures
