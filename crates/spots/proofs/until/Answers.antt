-- `spots::until` meets its contract: a law for each way out.
use Rattle.spots.proofs.SpotLaws.{until_none, until_past, until_at}
use native.Mathlib.Omega.{arith}
use Rattle.spots.proofs.until.Goals as goal

pub returns-then-i-stops : goal.returns-then-i-stops
returns-then-i-stops c =
    until_none c.args.work.now _ _ c.requires.0 c.requires.1 _ _ _ c.below-i.ensures (omega arith)

pub returns-then-end-bottom : goal.returns-then-end-bottom
returns-then-end-bottom c =
    until_past c.args.work.now _ _ c.requires.0 c.requires.1 _ _ _ c.below-i.ensures (omega arith) (omega arith)

pub returns : goal.returns
returns c =
    until_at c.args.work.now _ _ c.requires.0 c.requires.1 _ _ _ c.below-i.ensures (omega arith) (omega arith)
