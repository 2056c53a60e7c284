-- `column` meets its contract: one number more a turn, as far as there are ranges and room.
use mathlib.Core.Bool.{Bool}
use mathlib.Core.Path.{◌≡◌}
use lib.ListN.{length}
use denote.Param.Always.{always_mut}
use Rattle.std.specs.Fn.{ComputesKey}
use Rattle.range_forms.specs.Inner.{point_of, Filled}
use Rattle.range_forms.proofs.column.Given as goal

abbrev pub invariant-loop-i : goal.invariant-loop-i
invariant-loop-i g l =
    (length l.out ≡ length l.initial.out) × always_mut g.P.FnMut l.point
    × ((ends : Bool) → ComputesKey g.P.FnMut (point_of ends) l.initial.point → ComputesKey g.P.FnMut (point_of ends) l.point × Filled ends l.list l.out l.i)
