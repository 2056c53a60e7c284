-- `area_rows::marks::mark_touched` meets its contract: the touches before i are marked.
use Rattle.area_rows.specs.Inner.{spans}
use Rattle.spots.specs.Spots.{line_of}
use mathlib.Core.List.{[]}
use Rattle.area_rows.proofs.MarkLaws.{sweep_start, sweep_more, sweep_done, touched_done}
use native.Mathlib.Omega.{arith}
use Rattle.area_rows.proofs.marks.mark_touched.Goals as goal

pub loop-i-init : goal.loop-i-init
loop-i-init c = (sweep_start (λ t k. spans (line_of c.args.blocks.now []) t k) c.requires.0, omega arith)

pub loop-i-preserved : goal.loop-i-preserved
loop-i-preserved c = (sweep_more c.loop-i.invariant.0 _ _ (omega arith) c.start_of.ensures c.end_of.ensures c.mark_touch.ensures, omega arith)

pub returns : goal.returns
returns c =
    touched_done c.requires.0 c.requires.1 (sweep_done c.loop-i.invariant.0 (omega arith))
