-- `slot_areas::of_moves` meets its contract: no move, or what the moves cover merged.
use native.Mathlib.Omega.{arith}
use mathlib.Core.Path.{refl}
use Rattle.slot_areas.proofs.AreaLaws.{moves_none, moves_some}
use Rattle.slot_areas.proofs.of_moves.Goals as goal

pub returns-then-c-eq0 : goal.returns-then-c-eq0
returns-then-c-eq0 c = moves_none c.fetch-c.ensures _ refl (omega arith) (omega arith)

pub returns : goal.returns
returns c = moves_some c.fetch-c.ensures _ refl (omega arith) (omega arith) (omega arith) c.merge-r.ensures
