-- `depths` meets its contract: the first cell that lies too deep.
use native.Mathlib.Omega.{arith}
use Rattle.fit_layout.proofs.WordLaws.{word_positive, deep_start, deep_more, deep_bad, deep_done}
use Rattle.fit_layout.proofs.depths.Goals as goal

pub loop-c-init : goal.loop-c-init
loop-c-init c = deep_start _ _ _

pub deeper-depth-requires : goal.deeper-depth-requires
deeper-depth-requires c =
    (c.loop-c.invariant.small, word_positive c.args.w.now c.args.from c.args.cells c.loop-c.c (omega arith) (c.requires.1 c.loop-c.c (omega arith)))

pub returns-then-depth-gt-DEEPEST : goal.returns-then-depth-gt-DEEPEST
returns-then-depth-gt-DEEPEST c = deep_bad _ _ _ c.loop-c.invariant (omega arith) c.deeper-depth.ensures (omega arith)

pub loop-c-preserved : goal.loop-c-preserved
loop-c-preserved c = deep_more _ _ _ c.loop-c.invariant (omega arith) c.deeper-depth.ensures (omega arith)

pub returns : goal.returns
returns c = deep_done _ _ _ c.loop-c.invariant (omega arith)
