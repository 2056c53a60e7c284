-- `spill_checks::bad_piece` meets its contract: a law for each way out.
use native.Mathlib.Nat.{add-zero}
use Prim.Native.Nat.{ℕ, ◌*◌}
use mathlib.Core.Path.{sym, ap, ◌∙◌}
use lib.ListN.{get_or}
use lib.Dec.{leb}
use Rattle.words.specs.Widths.{piece_width}
use Rattle.graph.specs.Line.{blocks_of}
use Rattle.spill_checks.specs.Inner.{piece_at}
use Rattle.spill_checks.proofs.CheckLaws.{piece_off, piece_on}
use Rattle.spill_checks.proofs.bad_piece.Goals as goal

pub returns-then-off_line : goal.returns-then-off_line
returns-then-off_line c =
    piece_off (blocks_of c.args.blocks.now) c.args.v (piece_at c.args.pieces.now c.args.i) (sym c.off_line.ensures ∙ c.if-off_line.true)

pub returns : goal.returns
returns c =
    ap (λ (k : ℕ). leb c.args.v (get_or c.args.pieces.now k 0)) (sym (add-zero (piece_width * c.args.i)))
    ∙ piece_on (blocks_of c.args.blocks.now) c.args.v (piece_at c.args.pieces.now c.args.i) (sym c.off_line.ensures ∙ c.if-off_line.false)
