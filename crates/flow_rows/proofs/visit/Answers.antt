-- `flow::rows::visit` meets its contract: the row of the first place is worked out, and given to the others.
use mathlib.Core.Path.{refl}
use Rattle.flow_rows.proofs.Shares.{run_loop, visit_line, visit_loop, visited_from}
use Rattle.flow_rows.proofs.Places.{node}
use Rattle.flow_rows.proofs.visit.Goals as goal

pub share-requires : goal.share-requires
share-requires c =
    let r = run_loop c.requires.0 c.run_end-j.ensures
    (node c.requires.0 c.requires.1 c.requires.2) refl c.fill.ensures
    c.pull.ensures.0 c.touch.ensures in
    (r.0, c.requires.1, r.1, (node c.requires.0 c.requires.1 c.requires.2))

pub returns-then-pull : goal.returns-then-pull
returns-then-pull c =
    visited_from c.args.f c.args.work.now c.requires.1 c.args.i (visit_loop c.requires.0
    c.run_end-j.ensures (node c.requires.0 c.requires.1 c.requires.2) refl
    c.fill.ensures c.pull.ensures.0 c.pull.ensures.1 c.if-pull.true
    c.touch.ensures c.share.ensures)

pub returns : goal.returns
returns c =
    visited_from c.args.f c.args.work.now c.requires.1 c.args.i (visit_line c.requires.0
    c.run_end-j.ensures (node c.requires.0 c.requires.1 c.requires.2) refl
    c.fill.ensures c.pull.ensures.0 c.pull.ensures.1 c.if-pull.false c.share-2.ensures)
