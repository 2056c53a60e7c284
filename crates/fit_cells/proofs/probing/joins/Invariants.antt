-- `joins` meets its contract: the lists passed allow the area, so the rest decides.
use Rattle.fit_tables.specs.Inner.{ranges_of, chain, allow, area_at, next_at}
use Prim.Native.Nat.{◌≤◌}
use mathlib.Core.Path.{◌≡◌}
use Rattle.fit_cells.proofs.probing.joins.Given as goal

abbrev pub invariant-loop-m : goal.invariant-loop-m
invariant-loop-m l = (l.m ≤ l.link) × (allow (area_at l.w l.t) (chain (next_at l.w l.t) l.link) (ranges_of l.w l.a) ≡ allow (area_at l.w l.t) (chain (next_at l.w l.t) l.m) (ranges_of l.w l.a))

abbrev pub decreases-loop-m : goal.decreases-loop-m
decreases-loop-m l = l.m
