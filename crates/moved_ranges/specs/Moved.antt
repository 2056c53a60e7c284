-- The entry `moved`: what it refuses (numbers 1, 2, 4, 5 and 7) and what it answers.
use Rattle.std.specs.Prelude.{ℕ, ◌+◌, ◌*◌, ◌%◌, ◌≡◌, not, ◌||◌, List, [], ◌∷◌, length, replicate, ltb, eqb}
use Rattle.refusals.specs.declared.Refusal.TheVariants.{Count, Space}
use Rattle.refusals.specs.Verdicts.{first, in_order, check, Verdict, Answer}
use Rattle.refusals.specs.Outcomes.{unless, after, answered}
use Rattle.words.specs.Widths.{block_count, inst_count, operand_count, move_width, move_count}
use Rattle.words.specs.Regions.{row_words}
use Rattle.ranges.specs.declared.Range.{Range}
use Rattle.graph.specs.Line.{blocks_of, line_verdict}
use Rattle.carrying.specs.Insts.{insts_of}
use Rattle.carrying.specs.Checks.{inst_verdict}
use Rattle.insts.specs.Counts.{rows_verdict, most_verdict, block_counts, inst_counts}
use Rattle.areas.specs.Slots.{moves_of, moved, move_verdict}
unfoldable pub use Rattle.move_covers.specs.Wrote.{rows_of}
pub use Rattle.move_covers.specs.Inner.{Wrote}

-- number 1: "B 1 to 4,096; instructions 65,536; operands 262,144; V 65,535; moves 65,536", and an answer list that is no whole rows
unfoldable pub moved_counts : ℕ → List ℕ → List ℕ → List ℕ → List ℕ → ℕ → Verdict
moved_counts v blocks insts operands moves lent =
    first (most_verdict 65535 v) (first (block_counts blocks) (first (inst_counts insts operands) (first (rows_verdict move_width 65536 (length moves)) (check Count (not (eqb (lent % 2) 0))))))

-- W = 8 × (blocks + instructions + operands + moves + ⌈V/64⌉): "other entries count what they are lent"
abbrev pub moved_words : ℕ → ℕ → ℕ → ℕ → ℕ → ℕ
moved_words v blocks insts operands moves = 8 * (blocks + insts + operands + moves + row_words v)

abbrev pub moved_space : ℕ → List ℕ → List ℕ → List ℕ → List ℕ → ℕ
moved_space v blocks insts operands moves = moved_words v (block_count blocks) (inst_count insts) (operand_count operands) (move_count moves)

-- number 7: an answer list under two ranges for each move, the most there can be, or work space under W
abbrev pub moved_room : ℕ → ℕ → ℕ → ℕ → Verdict
moved_room lent moves work space = check Space (ltb lent (4 * moves) || ltb work space)

-- the checks of `moved` in their order: numbers 1, 2, 4, 5 and 7
abbrev pub moved_checks : ℕ → ℕ → List ℕ → List ℕ → List ℕ → List ℕ → ℕ → ℕ → List Verdict
moved_checks points v blocks insts operands moves lent work =
    moved_counts v blocks insts operands moves lent
    ∷ line_verdict (blocks_of blocks) points
    ∷ inst_verdict (blocks_of blocks) v (insts_of insts operands)
    ∷ move_verdict (blocks_of blocks) (insts_of insts operands) (moves_of moves)
    ∷ moved_room lent (move_count moves) work (moved_space v blocks insts operands moves) ∷ []

unfoldable pub moved_verdict : ℕ → ℕ → List ℕ → List ℕ → List ℕ → List ℕ → ℕ → ℕ → Verdict
moved_verdict points v blocks insts operands moves lent work = in_order (moved_checks points v blocks insts operands moves lent work)

-- the answer: the ranges that the slot's moves cover, in the moves' order
abbrev pub moved_of : ℕ → List ℕ → List ℕ → List ℕ → List ℕ → ℕ → List Range
moved_of points blocks insts operands moves slot = moved points (blocks_of blocks) (insts_of insts operands) (moves_of moves) slot

-- the answer, its list and the work space afterwards
pub record MovedTo (points v : ℕ) (blocks insts operands moves : List ℕ) (slot : ℕ) (out₀ work₀ : List ℕ) (r : Answer) (out work : List ℕ) : Type 0 where
  pub outcome : answered r ≡ unless (moved_verdict points v blocks insts operands moves (length out₀) (length work₀)) (length (moved_of points blocks insts operands moves slot))
  pub list : out ≡ after (unless (moved_verdict points v blocks insts operands moves (length out₀) (length work₀)) (moved_of points blocks insts operands moves slot)) rows_of out₀
  pub space : work ≡ after (unless (moved_verdict points v blocks insts operands moves (length out₀) (length work₀)) (moved_space v blocks insts operands moves)) (λ n. replicate n 0) work₀
