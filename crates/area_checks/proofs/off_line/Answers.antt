-- `area_checks::off_line` meets its contract: a law for each way out.
use native.Mathlib.Omega.{arith}
use Rattle.words.specs.Inner.{touch_start, touch_end}
use Rattle.graph.specs.Line.{blocks_of}
use Rattle.area_checks.proofs.TouchLaws.{line_start, line_end, backwards, too_soon, too_late}
use Rattle.area_checks.proofs.off_line.Goals as goal

pub returns-then-end-start : goal.returns-then-end-start
returns-then-end-start c =
    backwards (blocks_of c.args.blocks.now) _ _ (omega arith)

pub returns-then-start-blocks : goal.returns-then-start-blocks
returns-then-start-blocks c =
    too_soon (blocks_of c.args.blocks.now) _ _ (omega arith) (omega (arith, line_start c.args.blocks.now c.requires.0))

pub returns : goal.returns
returns c =
    too_late (blocks_of c.args.blocks.now) (touch_start c.args.rows.now c.args.i) (touch_end c.args.rows.now c.args.i) (omega arith)
    (omega (arith, line_start c.args.blocks.now c.requires.0)) (line_end c.args.blocks.now c.requires.0)
