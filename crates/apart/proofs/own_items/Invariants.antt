-- `own_items` meets its contract: a row more is written each turn.
use Rattle.words.proofs.PasteLaws.{Filling}
use Rattle.apart.specs.Inner.{own_items}
use Prim.Native.Nat.{◌*◌}
use Rattle.words.specs.Widths.{item_width}
use Rattle.apart.proofs.own_items.Given as goal

abbrev pub invariant-loop-i : goal.invariant-loop-i
invariant-loop-i l = Filling l.initial.items 0 (own_items l.n) (item_width * l.n) l.items (item_width * l.i)
