-- `spill_checks::pieces` meets its contract: no piece before i is refused.
use native.Mathlib.Omega.{arith}
use mathlib.Core.Path.{sym, ap, ◌∙◌}
use Rattle.refusals.proofs.Laws.{scan_none, scan_miss, scan_hit, scan_end}
use Rattle.spill_checks.proofs.CheckLaws.{pieces_length, piece_at_lem}
use Rattle.graph.specs.Line.{blocks_of}
use Rattle.areas.specs.Slots.{bad_piece}
use Rattle.spill_checks.proofs.pieces.Goals as goal

pub loop-i-init : goal.loop-i-init
loop-i-init c = (omega arith, omega arith, scan_none _ _)

pub returns-then-bad_piece : goal.returns-then-bad_piece
returns-then-bad_piece c =
    sym (scan_hit _ _ _ _ c.loop-i.invariant.2 (ap (bad_piece (blocks_of (c.args.blocks.now)) c.args.v) (piece_at_lem (c.args.pieces.now) c.loop-i.i (omega arith)) ∙ sym
    c.bad_piece.ensures ∙ c.if-bad_piece.true) (omega (arith, pieces_length (c.args.pieces.now))))

pub loop-i-preserved : goal.loop-i-preserved
loop-i-preserved c = (
  omega arith,
  omega arith,
  scan_miss _ _ _ c.loop-i.invariant.2 (ap (bad_piece (blocks_of (c.args.blocks.now)) c.args.v)
      (piece_at_lem (c.args.pieces.now) c.loop-i.i (omega arith)) ∙ sym c.bad_piece.ensures ∙ c.if-bad_piece.false),
)

pub returns : goal.returns
returns c =
    sym (scan_end _ _ _ _ c.loop-i.invariant.2 (omega (arith, pieces_length (c.args.pieces.now))) (omega (arith, pieces_length (c.args.pieces.now))))
