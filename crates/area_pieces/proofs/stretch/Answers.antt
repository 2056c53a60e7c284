-- `stretch` meets its contract: the piece of one block, or from the first one's top to the last one's bottom.
use Prim.Native.Nat.{◌+◌, ◌-◌, ◌*◌}
use Rattle.area_pieces.proofs.RunLaws.{run_is}
use native.Mathlib.Omega.{arith}
use Prim.Native.Nat.{◌+◌, ◌-◌, ◌*◌}
use Rattle.words.specs.Widths.{block_width}
use Rattle.area_pieces.proofs.stretch.Goals as goal

pub returns-then-e-k : goal.returns-then-e-k
returns-then-e-k c = record { one = λ q. c.piece.ensures; more = λ q. absurd (q c.if-e-k.true) }

pub returns : goal.returns
returns c =
    record {
      one = λ q. absurd (c.if-e-k.false q);
      more = λ q. run_is c.args.blocks.now c.args.k c.args.e _ (omega arith) (omega arith)
          (omega (arith, c.shared_slice_known-3-1.given (block_width * (c.args.e - 1) + 2))) c.pack.ensures;
    }
