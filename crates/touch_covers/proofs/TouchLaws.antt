-- What the code works out of a touch in one block is its cover.
use Prim.Native.Nat.{ℕ, ◌/◌, ◌%◌, ◌^◌, ◌≤◌, ◌<◌, min, max}
use native.Mathlib.Omega.{arith}
use mathlib.Core.Path.{◌≡◌, ap, ◌∙◌}
use mathlib.Core.Bool.{Bool, true, false, cond}
use mathlib.Core.List.{List, [], ◌∷◌}
use lib.Dec.{leb}
use Rattle.ranges.specs.Points.{range}
use Rattle.ranges.specs.Inner.{pack, unpack}
use Rattle.ranges.proofs.FormLaws.{unpack_pack}
use Rattle.graph.proofs.Line.{start_is, end_is}
use Rattle.areas.specs.Blocks.{until, cover}
use Rattle.spots.specs.Spots.{line_of}
use Rattle.words.specs.Widths.{block_count, block_start, block_end}

pub until_le : (es : List ℕ) (z b : ℕ) → until es z b ≤ b
unfolding until
until_le [] z b = omega arith
until_le (e ∷ es) z b = go (leb z e) (until_le es z b)
  where
    go : (t : Bool) → until es z b ≤ b → cond t (min e (until es z b)) (until es z b) ≤ b
    go true h = omega arith
    go false h = h

module _ (blocks es : List ℕ) (k y : ℕ) (h : k < block_count blocks) (small : block_end blocks k < 2 ^ 32) where
  pub cover_is : (x a b start point end : ℕ) → a ≡ x / 2 ^ 32 → b ≡ x % 2 ^ 32 → start ≡ max a (block_start blocks k) → point ≡ min b (block_end blocks k)
      → end ≡ until es point (block_end blocks k) → y ≡ pack (range start end) → unpack y ≡ cover (line_of blocks []) es k (unpack x)
  cover_is x a b start point end ea eb es' ep ee e =
      let l : end ≤ block_end blocks k = rw ee (until_le es point (block_end blocks k)) in
      ap unpack e ∙ unpack_pack start end (omega arith)
      ∙ rw (start_is blocks k h, end_is blocks k h, ee, es', ep, ea, eb)
