-- `clip` meets its contract: the touch's clip is put to the block's span.
use native.Mathlib.Omega.{arith}
use mathlib.Core.Path.{subst}
use Rattle.ranges.specs.declared.Range.{Range}
use Rattle.area_pieces.specs.Inner.{Widened}
use Rattle.area_pieces.proofs.SpanLaws.{clipped}
use Rattle.area_pieces.proofs.clip.Goals as goal

pub returns : goal.returns
returns c =
    subst (λ (r : Range). Widened c.args.s c.args.k r c.args.work.now c.widen.new.work) (clipped c.args.blocks.now c.args.k c.args.x _ _ _ _
    (omega arith) c.start_of.ensures c.end_of.ensures
    c.larger-start.ensures c.smaller-end.ensures) c.widen.ensures
