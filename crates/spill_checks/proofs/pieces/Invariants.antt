-- `spill_checks::pieces` meets its contract: no piece before i is refused.
use Prim.Native.Nat.{◌≤◌}
use mathlib.Core.Path.{◌≡◌}
use lib.ListN.{get_or}
use Rattle.refusals.specs.Verdicts.{scan, Fine}
use Rattle.refusals.specs.declared.Refusal.TheVariants.{Piece as PieceWord}
use Rattle.graph.specs.Line.{blocks_of}
use Rattle.carrying.specs.Carried.{pieces_of}
use Rattle.areas.specs.Slots.{bad_piece}
use Rattle.words.specs.Widths.{piece_count}
use Rattle.spill_checks.proofs.pieces.Given as goal

abbrev pub invariant-loop-i : goal.invariant-loop-i
invariant-loop-i l = (l.n ≡ piece_count l.pieces) × (l.i ≤ l.n) × (scan PieceWord (λ k. bad_piece (blocks_of l.blocks) l.v (get_or (pieces_of l.pieces) k (record { register = 0; start = 0; end = 0 }))) l.i ≡ Fine)
