-- `between` meets its contract: from the top of the block after the first to the bottom of the one before the last.
use native.Mathlib.Omega.{arith}
use Prim.Native.Nat.{◌+◌, ◌-◌, ◌*◌}
use Rattle.area_pieces.proofs.SpanLaws.{between_is}
use Rattle.words.specs.Widths.{block_width}
use Rattle.area_pieces.proofs.between.Goals as goal

pub returns : goal.returns
returns c =
    between_is c.args.blocks.now c.args.first c.args.last _ (omega arith) (omega arith)
    (omega (arith, c.shared_slice_known-2-1.given (block_width * (c.args.last - 1) + 2))) c.pack.ensures
