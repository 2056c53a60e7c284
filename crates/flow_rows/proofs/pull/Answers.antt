-- `flow::rows::pull` meets its contract: the places before p are gathered.
use Rattle.flow_rows.proofs.Visits.{pull_start, pull_looped, pull_not, pull_done}
use Rattle.flow_rows.proofs.pull.Goals.{then-gather, else-gather}
use Rattle.flow_rows.proofs.pull.Goals as goal

pub loop-p-init : goal.loop-p-init
loop-p-init c = pull_start _ _ _ _ _ _ c.requires.0 c.requires.2 c.requires.3 c.requires.4 c.requires.5

pub loop-p-preserved : goal.loop-p-preserved
loop-p-preserved c =
    let inv = c.loop-p.invariant in
    let left = c.loop-p-test.true in
    let e = c.requires.1 in
    elim c.if-gather.branch [
      | then-gather w ↦ rw w.looped-is (pull_looped inv left e c.gather.ensures.0 c.gather.ensures.1 w.if-gather.true)
      | else-gather w ↦ rw w.looped-is (pull_not inv left e c.gather.ensures.0 c.gather.ensures.1 w.if-gather.false)
    ]

pub returns : goal.returns
returns c = pull_done c.loop-p.invariant c.loop-p-test.false
