-- `edge` meets its contract: no edge before i is refused.
use native.Mathlib.Omega.{arith}
use mathlib.Core.Path.{sym}
use Rattle.line_checks.proofs.Refusals.{from_bad, to_bad, edge_fine}
use Rattle.graph.proofs.Line.{jumps_length}
use Rattle.refusals.proofs.Laws.{scan_none, scan_miss, scan_hit, scan_end}
use Rattle.line_checks.proofs.edge.Goals as goal

pub loop-i-init : goal.loop-i-init
loop-i-init c = (omega arith, omega arith, scan_none _ _)

pub returns-then-n-wide : goal.returns-then-n-wide
returns-then-n-wide c =
    sym
    (scan_hit _ _ _ _ c.loop-i.invariant.2 (from_bad c.args.n c.args.edges.now c.loop-i.i (omega arith) (omega arith)) (omega (arith, jumps_length c.args.edges.now)))

pub returns-then-n-wide-2 : goal.returns-then-n-wide-2
returns-then-n-wide-2 c =
    sym (scan_hit _ _ _ _ c.loop-i.invariant.2 (to_bad c.args.n c.args.edges.now c.loop-i.i (omega arith) (omega arith) (omega arith))
    (omega (arith, jumps_length c.args.edges.now)))

pub loop-i-preserved : goal.loop-i-preserved
loop-i-preserved c =
    (omega arith, omega arith, scan_miss _ _ _ c.loop-i.invariant.2 (edge_fine c.args.n c.args.edges.now c.loop-i.i (omega arith) (omega arith) (omega arith)))

pub returns : goal.returns
returns c =
    sym (scan_end _ _ _ _ c.loop-i.invariant.2 (omega (arith, jumps_length c.args.edges.now)) (omega (arith, jumps_length c.args.edges.now)))
