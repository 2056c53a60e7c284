-- `insts::checks::below` meets its contract: no row before i is refused.
use Prim.Native.Nat.{◌/◌, ◌≤◌}
use mathlib.Core.Path.{◌≡◌}
use lib.ListN.{length}
use Rattle.refusals.specs.Verdicts.{scan, Fine}
use Rattle.words.specs.Rows.{field}
use lib.Dec.{leb}
use Rattle.insts.proofs.checks.below.Given as goal

abbrev pub invariant-loop-i : goal.invariant-loop-i
invariant-loop-i l = (l.n ≡ length l.s / l.width) × (l.i ≤ l.n) × (scan l.word (λ k. leb l.limit (field l.width l.s k l.f)) l.i ≡ Fine)
