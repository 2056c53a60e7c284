-- `moved_ranges::all` meets its contract: what the moves passed cover.
use Prim.Native.Nat.{◌*◌, ◌≤◌}
use mathlib.Core.Path.{◌≡◌}
use mathlib.Core.List.{[]}
use Rattle.words.specs.Rows.{tabulate}
use Rattle.words.specs.Widths.{move_count}
use Rattle.carrying.specs.Lists.{gather}
use Rattle.graph.specs.Line.{blocks_of}
use Rattle.carrying.specs.Insts.{insts_of}
use Rattle.areas.specs.Slots.{covering}
use Rattle.moved_ranges.specs.Moved.{Wrote}
use Rattle.move_points.specs.Inner.{move_row}
use Rattle.moved_ranges.proofs.all.Given as goal

abbrev pub invariant-loop-i : goal.invariant-loop-i
invariant-loop-i l = (l.m ≡ move_count l.moves) × (l.i ≤ l.m) × (l.k ≤ 2 * l.i) × Wrote l.initial.out l.out 0 l.k (gather (covering l.points (blocks_of l.blocks) (insts_of l.insts []) l.slot) (tabulate l.i (move_row l.moves)))
