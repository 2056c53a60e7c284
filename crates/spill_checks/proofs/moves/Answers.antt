-- `spill_checks::moves` meets its contract: no move before i is refused.
use native.Mathlib.Omega.{arith}
use mathlib.Core.Path.{sym, ◌∙◌}
use Rattle.refusals.proofs.Laws.{scan_none, scan_miss, scan_hit, scan_end}
use Rattle.spill_checks.proofs.CheckLaws.{moves_length, move_is}
use mathlib.Core.List.{[]}
use Rattle.graph.specs.Line.{blocks_of}
use Rattle.carrying.specs.Insts.{insts_of}
use Rattle.spill_checks.proofs.moves.Goals as goal

pub loop-i-init : goal.loop-i-init
loop-i-init c = (omega arith, omega arith, scan_none _ _)

pub returns-then-bad_move : goal.returns-then-bad_move
returns-then-bad_move c =
    sym (scan_hit _ _ _ _ c.loop-i.invariant.2 (move_is (c.args.moves.now) (blocks_of (c.args.blocks.now)) (insts_of (c.args.insts.now) []) c.loop-i.i
    c.bad_move.result (omega arith) c.bad_move.ensures ∙ c.if-bad_move.true) (omega (arith, moves_length (c.args.moves.now))))

pub loop-i-preserved : goal.loop-i-preserved
loop-i-preserved c = (
  omega arith,
  omega arith,
  scan_miss _ _ _ c.loop-i.invariant.2 (move_is (c.args.moves.now) (blocks_of (c.args.blocks.now)) (insts_of (c.args.insts.now) []) c.loop-i.i
      c.bad_move.result (omega arith) c.bad_move.ensures ∙ c.if-bad_move.false),
)

pub returns : goal.returns
returns c =
    sym (scan_end _ _ _ _ c.loop-i.invariant.2 (omega (arith, moves_length (c.args.moves.now))) (omega (arith, moves_length (c.args.moves.now))))
