-- `own_cells` meets its contract: a row more is written each turn.
use Rattle.words.specs.Widths.{local_count, slot_count}
use Rattle.words.proofs.PasteLaws.{Filling}
use Rattle.apart.specs.Inner.{own_cells}
use Prim.Native.Nat.{◌+◌, ◌*◌}
use Rattle.apart.proofs.own_cells.Given as goal

abbrev pub invariant-loop-i : goal.invariant-loop-i
invariant-loop-i l = Filling l.initial.cells 0 (own_cells l.locals l.slots) (2 * (local_count l.locals + slot_count l.slots)) l.cells (2 * l.i)

abbrev pub invariant-loop-s : goal.invariant-loop-s
invariant-loop-s l = Filling l.fn.cells 0 (own_cells l.locals l.slots) (2 * (local_count l.locals + slot_count l.slots)) l.cells (2 * (local_count l.locals + l.s))
