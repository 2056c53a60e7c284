-- `words::search::gallop` meets its contract: up to half the bound every item passes.
use mathlib.Core.Bool.{Bool, true}
use mathlib.Core.Path.{◌≡◌}
use Prim.Native.Nat.{◌-◌, ◌/◌, ◌≤◌, ◌<◌}
use denote.Param.Always.{always_mut}
use Rattle.std.specs.Fn.{ComputesKey}
use Rattle.std.specs.List.{AllWithin}
use Rattle.std.specs.List.Sorted.{IsPartitionedBy}
use Rattle.words.proofs.search.gallop.Given as goal

abbrev pub invariant-loop-bound : goal.invariant-loop-bound
invariant-loop-bound g l =
    (0 < l.bound) × (l.bound / 2 ≤ l.n) × always_mut g.P.FnMut l.passes
    × ((p : g.row.T.Denot → Bool) → ComputesKey g.P.FnMut p l.initial.passes → ComputesKey g.P.FnMut p l.passes × (IsPartitionedBy p l.list → AllWithin (λ y. p y ≡ true) l.list 0 (l.bound / 2)))

abbrev pub decreases-loop-bound : goal.decreases-loop-bound
decreases-loop-bound g l = l.n - l.bound
