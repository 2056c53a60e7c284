-- `area_rows::marks::mark_places` meets its contract: the places before k are marked.
use Rattle.area_rows.proofs.MarkLaws.{places_start, places_more, places_done}
use native.Mathlib.Omega.{arith}
use Rattle.area_rows.proofs.marks.mark_places.Goals as goal

pub loop-k-init : goal.loop-k-init
loop-k-init c = places_start _ _ _ _ c.requires.0

pub loop-k-preserved : goal.loop-k-preserved
loop-k-preserved c = places_more c.loop-k.invariant (omega arith) c.mark.ensures

pub returns : goal.returns
returns c = places_done c.loop-k.invariant c.loop-k-test.false
