-- Number 6 of a live piece or a touch: the line's first and last point, and what each way out comes to.
use Prim.Native.Nat.{ℕ, ◌-◌, ◌≤◌, ◌<◌}
use native.Mathlib.Omega.{arith}
use mathlib.Core.Path.{◌≡◌, ap, ◌∙◌}
use mathlib.Core.Bool.{true}
use mathlib.Core.List.{List}
use lib.ListN.{length, get_or}
use lib.Dec.{ltb}
use borrow.Author.Tests.{lt-ltb, le-ltb}
use Rattle.words.specs.Widths.{block_count, block_end}
use Rattle.graph.specs.Line.{Stretch, blocks_of, block_at}
use Rattle.graph.proofs.Line.{blocks_length, start_is, end_is}
use Rattle.areas.specs.Slots.{off_line}

module _ (blocks : List ℕ) (some : 1 ≤ block_count blocks) where
  pub line_start : (block_at (blocks_of blocks) 0).start ≡ get_or blocks 1 0
  line_start = start_is blocks 0 (omega arith)

  pub line_end : (block_at (blocks_of blocks) (length (blocks_of blocks) - 1)).end ≡ block_end blocks (block_count blocks - 1)
  line_end = ap (λ (n : ℕ). (block_at (blocks_of blocks) (n - 1)).end) (blocks_length blocks) ∙ end_is blocks (block_count blocks - 1) (omega arith)

module _ (bs : List Stretch) (start end : ℕ) where
  pub backwards : end < start → true ≡ off_line bs start end
  unfolding off_line
  backwards h = simp (lt-ltb end start h)

  pub too_soon : start ≤ end → start < (block_at bs 0).start → true ≡ off_line bs start end
  unfolding off_line
  too_soon h i = simp (le-ltb end start h, lt-ltb start (block_at bs 0).start i)

  pub too_late : {last : ℕ} → start ≤ end → (block_at bs 0).start ≤ start → (block_at bs (length bs - 1)).end ≡ last → ltb last end ≡ off_line bs start end
  unfolding off_line
  too_late h i e = simp (← e, le-ltb end start h, le-ltb start (block_at bs 0).start i)
