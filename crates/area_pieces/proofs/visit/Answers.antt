-- `visit` meets its contract: the marked blocks before k have been visited.
use native.Mathlib.Omega.{arith}
use mathlib.Core.Path.{refl, sym}
use Rattle.graph.proofs.Line.{blocks_length}
use Rattle.words.proofs.FitLaws.{within}
use Rattle.area_pieces.proofs.LineLaws.{nearer, line_begin, line_next, line_more, line_done}
use Rattle.area_pieces.proofs.visit.Goals as goal

pub loop-k-init : goal.loop-k-init
loop-k-init c =
    (refl, line_begin _ _ _ _ c.requires.0 c.requires.1 c.requires.2 (sym (blocks_length c.args.blocks.now)) _ c.first_from-k.ensures)

pub loop-k-smaller : goal.loop-k-smaller
loop-k-smaller c =
    nearer c.loop-k.invariant.0 c.loop-k-test.true (line_next c.loop-k.invariant.1 (within _ _ _ c.loop-k.invariant.0 c.loop-k-test.true)
    c.run-e.ensures
    c.stretch-x.ensures
    c.join-n.ensures c.unmark.ensures c.first_from-k-in-loop-k.ensures)

pub loop-k-preserved : goal.loop-k-preserved
loop-k-preserved c = (
  c.loop-k.invariant.0,
  line_more c.loop-k.invariant.1
      (within _ _ _ c.loop-k.invariant.0 c.loop-k-test.true)
      c.run-e.ensures
      c.stretch-x.ensures
      c.join-n.ensures c.unmark.ensures c.first_from-k-in-loop-k.ensures,
)

pub returns : goal.returns
returns c = line_done c.loop-k.invariant.1 (omega arith)
