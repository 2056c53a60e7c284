-- `insts::counts::operand_sum` meets its contract: the sum of the counts passed, each below 2³².
use Prim.Native.Nat.{◌*◌, ◌≤◌}
use mathlib.Core.Path.{◌≡◌}
use Rattle.insts.specs.Counts.{offset}
use Rattle.words.specs.Widths.{inst_count}
use Rattle.insts.proofs.counts.operand_sum.Given as goal

abbrev pub invariant-loop-i : goal.invariant-loop-i
invariant-loop-i l = (l.n ≡ inst_count l.insts) × (l.i ≤ l.n) × (l.n ≤ 65536) × (l.sum ≡ offset l.insts l.i) × (l.sum ≤ l.i * 4294967295)
