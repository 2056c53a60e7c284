-- `visit` meets its contract: the marked blocks before k have been visited.
use Prim.Native.Nat.{◌-◌, ◌*◌}
use mathlib.Core.Path.{◌≡◌}
use Rattle.area_pieces.proofs.LineLaws.{Lining}
use Rattle.words.specs.Widths.{block_count}
use Rattle.area_pieces.proofs.visit.Given as goal

abbrev pub invariant-loop-k : goal.invariant-loop-k
invariant-loop-k l = (l.end ≡ l.s.wide * 64) × Lining l.blocks l.s (block_count l.blocks) l.from l.initial.work l.work l.k l.n

abbrev pub decreases-loop-k : goal.decreases-loop-k
decreases-loop-k l = l.end - l.k
