-- `flow::rows::touch` meets its contract: the touches of the places before p are in the row.
use Rattle.flow_rows.proofs.Visits.{touch_start_lem, touch_more, touch_done, touch_laid, touch_node, touch_row, touch_x}
use Rattle.flow_rows.proofs.Joins.{touched_aligned}
use Rattle.flow_rows.proofs.touch.Goals as goal

pub loop-p-init : goal.loop-p-init
loop-p-init c =
    touch_start_lem _ _ _ _ _ c.requires.0 c.requires.2 c.requires.3 c.requires.4

pub row_or-requires : goal.row_or-requires
row_or-requires c = (
  (touch_x c.loop-p.invariant c.loop-p-test.true c.requires.1 c.well_formed.0.1).out_in,
  (touch_row c.loop-p.invariant c.loop-p-test.true c.requires.1 c.well_formed.0.1).touched_in,
  touched_aligned c.args.f _ _ _ (touch_laid c.loop-p.invariant c.loop-p-test.true c.requires.1) c.requires.4 (touch_node c.loop-p.invariant c.loop-p-test.true c.requires.1),
)

pub loop-p-preserved : goal.loop-p-preserved
loop-p-preserved c =
    touch_more c.loop-p.invariant c.loop-p-test.true
    c.requires.1 c.row_or.ensures

pub returns : goal.returns
returns c = touch_done c.loop-p.invariant c.loop-p-test.false
