-- `flow::rows::share` meets its contract: the places before p have the row.
use Rattle.flow_rows.proofs.Shares.{share_start, share_skip, share_more, share_done, share_row, share_x, rows_apart}
use Rattle.flow_rows.proofs.share.Goals.{then-u-x, else-u-x}
use Rattle.flow_rows.proofs.share.Goals as goal

pub loop-p-init : goal.loop-p-init
loop-p-init c = share_start _ _ _ _ _ _ c.requires.0 c.requires.2 c.requires.3

pub copy-requires : goal.copy-requires
copy-requires c = (
  (share_x c.loop-p.invariant c.loop-p-test.true c.requires.1 c.well_formed.0.1).out_in,
  (share_row c.loop-p.invariant c.loop-p-test.true c.requires.1 c.well_formed.0.1).out_in,
  rows_apart c.args.f _ _ c.if-u-x.true,
)

pub loop-p-preserved : goal.loop-p-preserved
loop-p-preserved c =
    let inv = c.loop-p.invariant in
    let left = c.loop-p-test.true in
    elim c.if-u-x.branch [
      | then-u-x w ↦ rw w.work-is (share_more inv left c.requires.1 w.if-u-x.true w.copy.ensures)
      | else-u-x w ↦ rw w.work-is (share_skip inv left c.requires.1 w.if-u-x.false)
    ]

pub returns : goal.returns
returns c = share_done c.loop-p.invariant c.loop-p-test.false
