-- `rest` meets its contract: so far the columns rise.
use Prim.Native.Nat.{◌≤◌}
use mathlib.Core.Path.{◌≡◌}
use lib.ListN.{length}
use Rattle.cases.specs.Inner.{RisingTo}
use Rattle.cases.proofs.rest.Given as goal

abbrev pub invariant-loop-c : goal.invariant-loop-c
invariant-loop-c l = (l.c ≤ length l.initial.ends) × (length l.ends ≡ length l.initial.ends) × RisingTo l.ends l.n l.c
