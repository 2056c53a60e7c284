-- `cover` meets its contract: from the clip's start to the first end from its last point on.
use native.Mathlib.Omega.{arith}
use Prim.Native.Nat.{◌+◌, ◌*◌}
use Rattle.spots.specs.Inner.{ends_at}
use Rattle.touch_covers.proofs.TouchLaws.{cover_is}
use Rattle.words.specs.Widths.{block_width}
use Rattle.touch_covers.proofs.cover.Goals as goal

pub returns : goal.returns
returns c =
    cover_is c.args.blocks.now (ends_at c.args.t c.args.work.now) c.args.k _ c.requires.0
    (omega (arith, c.shared_slice_known-3-1.given (block_width * c.args.k + 2))) c.args.x _ _ _ _ _
    c.start_of.ensures c.end_of.ensures c.larger-start.ensures
    c.smaller-point.ensures c.until-end.ensures c.pack.ensures
