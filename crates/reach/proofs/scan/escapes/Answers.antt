-- `reach::scan::escapes` meets its contract: only a placed instruction reads.
use mathlib.Core.Path.{sym, ◌∙◌}
use Rattle.reach.proofs.ScanLaws.{unplaced_stray, placed_stray, marked_none, marked_same}
use Rattle.reach.proofs.scan.escapes.Goals as goal

pub returns-then-unplaced : goal.returns-then-unplaced
returns-then-unplaced c =
    marked_none _ _ _ _ (unplaced_stray c.args.insts.now c.args.operands.now c.args.i c.args.from (sym c.unplaced.ensures ∙ c.if-unplaced.true))

pub returns : goal.returns
returns c =
    marked_same c.escape.ensures _ (placed_stray c.args.insts.now c.args.operands.now c.args.i c.args.from
    (sym c.unplaced.ensures ∙ c.if-unplaced.false) _ c.requires.1)
