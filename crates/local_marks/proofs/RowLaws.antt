-- From the marks of a local to its rows: what is written and read of a plain one, and where an ending one arrives.
use Prim.Native.Nat.{ℕ, ◌+◌, ◌*◌, ◌/◌, ◌%◌, ◌≤◌, ◌<◌}
use native.Mathlib.Omega.{arith}
use mathlib.Core.Path.{◌≡◌, sym, ap, ◌∙◌}
use mathlib.Core.Bool.{Bool, not, ◌&&◌, ◌||◌}
use mathlib.Core.List.{List}
use lib.ListN.{length, get_or}
use Rattle.words.specs.Widths.{block_count}
use Rattle.words.proofs.RegionLaws.{row_before}
use Rattle.bits.specs.Bits.{bit_of}
use Rattle.ranges.specs.declared.Range.{Range}
use Rattle.graph.specs.Paths.{Edge}
use Rattle.graph.specs.Line.{blocks_of}
use Rattle.graph.proofs.Line.{blocks_length}
use Rattle.carrying.specs.declared.Kind.{Kind}
use Rattle.carrying.specs.declared.Kind.TheVariants.{Plain, Ending}
use Rattle.areas.specs.Blocks.{Graph, touched, leaves, passes}
use Rattle.areas.specs.Pieces.{before_row, after_row, arrives_row}
use Rattle.spots.specs.Spots.{line_of}
use Rattle.area_flow.specs.declared.Grid.{Grid}
use Rattle.area_flow.specs.Inner.{row_bit, block_bit, Laid, AreaRows}
use Rattle.area_flow.proofs.BlockRows.{by_line, plain_written, plain_read, plain_blocks, ending_blocks}
use Rattle.local_marks.specs.Inner.{is_plain, is_ending, Marks, RowsBy}

-- the rows made from the marks w₀ have stood since
module _ (blocks w : List ℕ) {es : List Edge} {K : ℕ → Kind} {T : ℕ → List Range} {E : ℕ → List ℕ} {g : Grid} {e : ℕ} {w₀ w₁ : List ℕ}
    (L : Laid g (block_count blocks) e w₀) (M : Marks (line_of blocks es) K T E g (block_count blocks) w₀) (A : AreaRows es g (block_count blocks) w₀ w₁)
    (same : (i : ℕ) → i < g.to + g.locals * g.width → get_or w i 0 ≡ get_or w₁ i 0) (l : ℕ) (h : l < g.locals) where
  abbrev n : ℕ
  n = block_count blocks

  abbrev G : Graph
  G = line_of blocks es

  below : (j : ℕ) → j < length (blocks_of blocks) → j < n
  below j q = omega (arith, blocks_length blocks)

  in_words : l < g.words * 64
  in_words = omega (arith, L.long)

  row_stays : (from k : ℕ) → from + n * g.words ≤ g.to → k < n → row_bit g from w k l ≡ row_bit g from w₁ k l
  row_stays from k a q =
      let b = row_before k n g.words q in let m = in_words in
      ap (λ (y : ℕ). bit_of y (l % 64)) (same (from + k * g.words + l / 64) (omega arith))

  block_stays : (b : ℕ) → b < g.width * 64 → block_bit g w l b ≡ block_bit g w₁ l b
  block_stays b m =
      let c = row_before l g.locals g.width h in
      ap (λ (y : ℕ). bit_of y (b % 64)) (same (g.to + l * g.width + b / 64) (omega arith))

  touched_is : (j : ℕ) → j < length (blocks_of blocks) → row_bit g g.touched w₀ j l ≡ (is_plain (K l) && touched G (T l) j)
  touched_is j q = M.touched l j h (below j q)

  leaves_is : (j : ℕ) → j < length (blocks_of blocks) → row_bit g g.leaves w₀ j l ≡ (is_ending (K l) && leaves G (T l) (E l) j)
  leaves_is j q = M.leaves l j h (below j q)

  module _ (p : K l ≡ Plain) where
    plain_touched : (j : ℕ) → j < length (blocks_of blocks) → row_bit g g.touched w₀ j l ≡ touched G (T l) j
    plain_touched j q = touched_is j q ∙ ap (λ (x : Kind). is_plain x && touched G (T l) j) p

    written_is : (k : ℕ) → k < length (blocks_of blocks) → row_bit g g.written w k l ≡ before_row G (T l) k
    written_is k q =
        row_stays g.written k (omega (arith, L.written_fits, L.read_fits, L.wait_fits)) (below k q)
        ∙ plain_written G g (by_line blocks A) (T l) (E l) l k h in_words q plain_touched

    read_is : (k : ℕ) → k < length (blocks_of blocks) → row_bit g g.read w k l ≡ after_row G (T l) k
    read_is k q =
        row_stays g.read k (omega (arith, L.read_fits, L.wait_fits)) (below k q)
        ∙ plain_read G g (by_line blocks A) (T l) (E l) l k h in_words q plain_touched

    both_is : (k : ℕ) → k < n → block_bit g w l k ≡ (row_bit g g.written w k l && row_bit g g.read w k l)
    both_is k m =
        let q : k < length (blocks_of blocks) = omega (arith, blocks_length blocks) in
        block_stays k (omega (arith, L.wide))
        ∙ plain_blocks G g (by_line blocks A) (T l) (E l) l k h in_words q plain_touched (λ j z. leaves_is j z ∙ ap (λ (x : Kind). is_ending x && leaves G (T l) (E l) j) p)
        ∙ sym (ap (λ (x : Bool). x && row_bit g g.read w k l) (written_is k q) ∙ ap (λ (x : Bool). before_row G (T l) k && x) (read_is k q))

  arrives_is : K l ≡ Ending → (k : ℕ) → k < length (blocks_of blocks) → block_bit g w l k ≡ arrives_row G (T l) (E l) k
  arrives_is p k q =
      block_stays k (omega (arith, below k q, L.wide))
      ∙ ending_blocks G g (by_line blocks A) (T l) (E l) l k h in_words q
      (λ j z. touched_is j z ∙ ap (λ (x : Kind). is_plain x && touched G (T l) j) p)
      (λ j z. leaves_is j z ∙ ap (λ (x : Kind). is_ending x && leaves G (T l) (E l) j) p)
      (λ j z. M.passes l j h (below j z) ∙ ap (λ (x : Kind). not (is_ending x) || passes G (E l) j) p)

  pub rows_by : RowsBy (line_of blocks es) (K l) (T l) (E l) g (block_count blocks) l w
  rows_by = record {
    written = written_is;
    read = read_is;
    both = both_is;
    arrives = arrives_is;
    rest = λ b a q. block_stays b q ∙ A.rest l b h a q;
  }
