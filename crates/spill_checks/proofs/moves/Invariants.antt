-- `spill_checks::moves` meets its contract: no move before i is refused.
use Prim.Native.Nat.{◌≤◌}
use mathlib.Core.Path.{◌≡◌}
use Rattle.refusals.specs.Verdicts.{scan, Fine}
use Rattle.refusals.specs.declared.Refusal.TheVariants.{Stray}
use mathlib.Core.List.{[]}
use Rattle.graph.specs.Line.{blocks_of}
use Rattle.carrying.specs.Insts.{insts_of}
use Rattle.areas.specs.Slots.{bad_move, move_at, moves_of}
use Rattle.words.specs.Widths.{move_count}
use Rattle.spill_checks.proofs.moves.Given as goal

abbrev pub invariant-loop-i : goal.invariant-loop-i
invariant-loop-i l = (l.n ≡ move_count l.moves) × (l.i ≤ l.n) × (scan Stray (λ k. bad_move (blocks_of l.blocks) (insts_of l.insts []) (move_at (moves_of l.moves) k).kind (move_at (moves_of l.moves) k).number) l.i ≡ Fine)
