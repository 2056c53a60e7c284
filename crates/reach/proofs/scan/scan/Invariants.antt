-- `reach::scan::scan` meets its contract: what the first i instructions leave.
use Prim.Native.Nat.{◌≤◌}
use mathlib.Core.Path.{◌≡◌}
use Rattle.words.specs.Widths.{inst_count}
use Rattle.carrying.specs.Insts.{insts_of}
use Rattle.reach.specs.Inner.{Scanning}
use Rattle.insts.specs.Counts.{offset}
use Rattle.reach.proofs.scan.scan.Given as goal

abbrev pub invariant-loop-i : goal.invariant-loop-i
invariant-loop-i l = (l.m ≡ inst_count l.insts) × (l.i ≤ l.m) × (l.from ≡ offset l.insts l.i) × Scanning l.v (insts_of l.insts l.operands) l.insts l.lay l.initial.work l.work l.i l.count
