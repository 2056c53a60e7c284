-- `lower` meets its contract: a row more is written each turn.
use Rattle.words.proofs.PasteLaws.{Filling}
use Rattle.capping.specs.Cap.{cap_rows}
use Prim.Native.Nat.{◌*◌}
use Rattle.words.specs.Widths.{cell_width}
use Rattle.capping.proofs.lower.Given as goal

abbrev pub invariant-loop-i : goal.invariant-loop-i
invariant-loop-i l = Filling l.initial.cells 0 (cap_rows l.initial.cells l.count l.most) (cell_width * l.count) l.cells (cell_width * l.i)
