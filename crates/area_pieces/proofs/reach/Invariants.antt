-- `reach` meets its contract: the blocks from k up to e have the bit.
use Prim.Native.Nat.{◌+◌, ◌*◌, ◌/◌, ◌≤◌, ◌<◌}
use mathlib.Core.Path.{◌≡◌}
use Rattle.area_pieces.proofs.RunLaws.{Owned}
use Rattle.area_pieces.proofs.reach.Given as goal

abbrev pub invariant-loop-e : goal.invariant-loop-e
invariant-loop-e l = (l.end ≡ l.k / 64 * 64 + 64) × (l.k < l.e) × (l.e ≤ l.end) × Owned l.s l.work l.k l.e
