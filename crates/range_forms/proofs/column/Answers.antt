-- `column` meets its contract: one number more a turn, as far as there are ranges and room.
use Rattle.std.proofs.Common.{of_calls}
use mathlib.Core.Path.{refl}
use native.Mathlib.Omega.{arith}
use lib.ListN.{length-set}
use Rattle.words.proofs.GallopLaws.{answers_next}
use Rattle.range_forms.proofs.ColumnLaws.{filled_none, filled_more}
use Rattle.range_forms.proofs.column.Goals as goal

pub loop-i-init : goal.loop-i-init
loop-i-init g c = (refl, search of_calls, λ ends h. (h, filled_none _ _ _))

pub loop-i-preserved : goal.loop-i-preserved
loop-i-preserved g c = (
  simp length-set c.loop-i.invariant.0,
  search of_calls,
  λ ends h.
      let filled = c.loop-i.invariant.2 ends h in
      let n = answers_next g.P.FnMut _ _ _ _ _ c.point.ensures filled.0 in
      (n.1, filled_more _ _ _ _ _ filled.1 (omega arith) n.0),
)
