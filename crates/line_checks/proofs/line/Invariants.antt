-- `line` meets its contract: no block before i is refused, and the bits are the numbers used so far.
use Prim.Native.Nat.{ℕ, ◌≤◌, ◌<◌}
use mathlib.Core.Path.{◌≡◌}
use lib.ListN.{length}
use Rattle.graph.specs.Line.{blocks_of, used_before, bad_block}
use Rattle.refusals.specs.Verdicts.{scan, Fine}
use Rattle.refusals.specs.declared.Refusal.TheVariants.{Line}
use Rattle.bits.specs.Bits.{bit}
use Rattle.words.specs.Widths.{block_count}
use Rattle.line_checks.proofs.line.Given as goal

abbrev pub invariant-loop-i : goal.invariant-loop-i
invariant-loop-i l = (l.n ≡ block_count l.blocks) × (l.i ≤ l.n) × (scan Line (bad_block (blocks_of l.blocks) l.points) l.i ≡ Fine) × (length l.used ≡ 64) × ((x : ℕ) → x < 4096 → bit l.used 0 x ≡ used_before (blocks_of l.blocks) x l.i)
