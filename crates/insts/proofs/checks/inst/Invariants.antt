-- `insts::checks::inst` meets its contract: no instruction before i is refused.
use Prim.Native.Nat.{◌≤◌}
use mathlib.Core.Path.{◌≡◌}
use Rattle.refusals.specs.Verdicts.{scan, Fine}
use Rattle.refusals.specs.declared.Refusal.TheVariants.{Inst as InstWord}
use Rattle.words.specs.Widths.{block_count, inst_count}
use Rattle.graph.specs.Line.{blocks_of}
use Rattle.carrying.specs.Insts.{insts_of, inst_at}
use Rattle.carrying.specs.Checks.{bad_inst}
use Rattle.insts.specs.Counts.{offset}
use Rattle.insts.proofs.checks.inst.Given as goal

abbrev pub invariant-loop-i : goal.invariant-loop-i
invariant-loop-i l = (l.k ≤ block_count l.blocks) × (l.n ≡ inst_count l.insts) × (l.i ≤ l.n) × (l.from ≡ offset l.insts l.i) × (scan InstWord (λ k. bad_inst (blocks_of l.blocks) l.v (inst_at (insts_of l.insts l.operands) k)) l.i ≡ Fine)
