-- `arrive` meets its contract: the marked blocks before k have been visited.
use Prim.Native.Nat.{◌-◌, ◌*◌}
use mathlib.Core.Path.{◌≡◌}
use Rattle.area_ends.proofs.ArriveLaws.{Marching}
use Rattle.words.specs.Widths.{block_count}
use Rattle.area_ends.proofs.arrive.Given as goal

abbrev pub invariant-loop-k : goal.invariant-loop-k
invariant-loop-k l = (l.end ≡ l.s.wide * 64) × Marching l.blocks l.t l.s (block_count l.blocks) l.from l.initial.work l.work l.k l.n

abbrev pub decreases-loop-k : goal.decreases-loop-k
decreases-loop-k l = l.end - l.k
