-- `unpack` meets its contract: one number more a turn.
use Prim.Native.Nat.{ℕ}
use mathlib.Core.Path.{◌≡◌}
use lib.ListN.{get_or}
use denote.Param.Always.{always_mut}
use Rattle.std.specs.Fn.{AlwaysReturns}
use Rattle.words.proofs.RegionLaws.{Done}
use Rattle.merging.proofs.unpack.Given as goal

abbrev pub invariant-loop-i : goal.invariant-loop-i
invariant-loop-i g l =
    always_mut g.P.FnMut l.point
    × ((p : ℕ → ℕ) → AlwaysReturns g.P.FnMut (λ a r. r ≡ p a.0) l.initial.point → AlwaysReturns g.P.FnMut (λ a r. r ≡ p a.0) l.point × Done l.initial.out l.out 0 l.k (λ j. p (get_or l.w j 0)) l.i)
