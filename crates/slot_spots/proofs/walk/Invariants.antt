-- `slot_spots::walk` meets its contract: what the moves behind the next one cover stands.
use Prim.Native.Nat.{◌-◌}
use mathlib.Core.List.{[]}
use Rattle.words.specs.Rows.{field}
use Rattle.words.specs.Widths.{move_width, move_count}
use Rattle.ranges.specs.Inner.{pack}
use Rattle.graph.specs.Line.{blocks_of}
use Rattle.carrying.specs.Insts.{insts_of}
use Rattle.move_points.specs.Inner.{move_row}
use Rattle.chains.proofs.WalkLaws.{Walking}
use Rattle.slot_spots.specs.Inner.{cover_of}
use Rattle.slot_spots.proofs.walk.Given as goal

abbrev pub invariant-loop-next : goal.invariant-loop-next
invariant-loop-next l = Walking (λ i. field move_width l.moves i l.k.column) (λ i. pack (cover_of l.points (blocks_of l.blocks) (insts_of l.insts []) (move_row l.moves i))) (move_count l.moves) l.slot l.k.nexts l.top l.initial.work l.work l.next l.to

abbrev pub decreases-loop-next : goal.decreases-loop-next
decreases-loop-next l = l.next
