-- `area_checks::first_off_line` meets its contract: no touch before i is refused.
use Prim.Native.Nat.{◌≤◌}
use mathlib.Core.Path.{◌≡◌}
use Rattle.refusals.specs.Verdicts.{scan, Fine}
use Rattle.refusals.specs.declared.Refusal.TheVariants.{Piece}
use Rattle.words.specs.Rows.{row_count, field}
use Rattle.words.specs.Widths.{touch_width}
use Rattle.graph.specs.Line.{blocks_of}
use Rattle.areas.specs.Slots.{off_line}
use Rattle.area_checks.proofs.first_off_line.Given as goal

abbrev pub invariant-loop-i : goal.invariant-loop-i
invariant-loop-i l =
    (l.n ≡ row_count touch_width l.touches) × (l.i ≤ l.n) × (scan Piece (λ k. off_line (blocks_of l.blocks) (field touch_width l.touches k 1) (field touch_width l.touches k 2)) l.i ≡ Fine)
