-- `piece` meets its contract: the whole block, or its span between the two bits' ends.
use native.Mathlib.Omega.{arith}
use Prim.Native.Nat.{◌+◌, ◌*◌}
use mathlib.Core.Path.{sym, ◌∙◌}
use Rattle.area_pieces.proofs.LineLaws.{piece_whole, piece_part}
use Rattle.words.specs.Widths.{block_width}
use Rattle.area_pieces.proofs.piece.Goals as goal

pub returns-then-test : goal.returns-then-test
returns-then-test c =
    piece_whole c.args.blocks.now c.args.s c.args.work.now c.args.k _ c.requires.k_bound.0
    (omega (arith, c.shared_slice_known-3-1.given (block_width * c.args.k + 2))) (sym c.test.ensures ∙ c.if-test.true)
    c.pack.ensures

pub returns : goal.returns
returns c =
    piece_part c.args.blocks.now c.args.s c.args.work.now c.args.k _ c.requires.k_bound.0 (omega
    (arith, (c.shared_slice_known-3-1).given (block_width * c.args.k + 2))) (sym
    c.test.ensures
    ∙ c.if-test.false) _ _ c.test-from.ensures c.test-to.ensures
    c.lengthened.ensures
