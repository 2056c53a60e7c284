-- `edge` meets its contract: no edge before i is refused.
use Prim.Native.Nat.{◌≤◌}
use mathlib.Core.Path.{◌≡◌}
use Rattle.graph.specs.Line.{jumps_of, bad_edge}
use Rattle.refusals.specs.Verdicts.{scan, Fine}
use Rattle.refusals.specs.declared.Refusal.TheVariants.{Edge as EdgeWord}
use Rattle.words.specs.Widths.{edge_count}
use Rattle.line_checks.proofs.edge.Given as goal

abbrev pub invariant-loop-i : goal.invariant-loop-i
invariant-loop-i l = (l.m ≡ edge_count l.edges) × (l.i ≤ l.m) × (scan EdgeWord (bad_edge l.n (jumps_of l.edges)) l.i ≡ Fine)
