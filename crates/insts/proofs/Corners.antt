-- The corners of number 1, by computation: each limit at it and one past, by how many numbers are lent; a row cut short is no count.
use Prim.Native.Nat.{ℕ, ◌*◌, ◌+◌}
use mathlib.Core.Path.{◌≡◌, refl}
use mathlib.Core.List.{List, [], ◌∷◌}
use lib.ListN.{length}
use Rattle.refusals.specs.declared.Refusal.TheVariants.{Count}
use Rattle.refusals.specs.Verdicts.{first, Bad, Fine}
use Rattle.graph.specs.Work.{sum_of}
use Rattle.insts.specs.Counts.{rows_verdict, most_verdict, block_counts, offset, add_up, inst_counts, code_counts}
use Rattle.words.specs.Widths.{block_width, inst_width}

-- rows of a width, and single numbers
pub rows : (rows_verdict 9 5 (9 * 5) ≡ Fine) × (rows_verdict 9 5 (9 * 6) ≡ Bad Count 0) × (rows_verdict 9 5 (9 * 4 + 1) ≡ Bad Count 0) × (most_verdict 5 5 ≡ Fine) × (most_verdict 5 6 ≡ Bad Count 0)
rows = (refl, refl, refl, refl, refl)

-- "B 1 to 4,096": at the limit and one record past it, none, one, and a row cut short
pub block_limit : (blocks : List ℕ) → (length blocks ≡ block_width * 4096 → block_counts blocks ≡ Fine) × (length blocks ≡ block_width * 4097 → block_counts blocks ≡ Bad Count 0)
unfolding first
block_limit blocks = (λ e. rw e refl, λ e. rw e refl)

pub blocks_few : (block_counts [] ≡ Bad Count 0) × (block_counts (0 ∷ 0 ∷ 9 ∷ []) ≡ Fine) × (block_counts (0 ∷ 0 ∷ 9 ∷ 1 ∷ []) ≡ Bad Count 0)
unfolding first
blocks_few = (refl, refl, refl)

-- where an instruction's operands begin: none before the first; "operand counts that do not add up" are no count
abbrev two : List ℕ
two = 0 ∷ 0 ∷ 0 ∷ 0 ∷ 0 ∷ 0 ∷ 0 ∷ 0 ∷ 1 ∷ 0 ∷ 0 ∷ 0 ∷ 0 ∷ 0 ∷ 0 ∷ 0 ∷ 0 ∷ 2 ∷ []

pub adds : (offset two 0 ≡ 0) × (offset two 1 ≡ 1) × (offset two 2 ≡ 3) × (add_up two (0 ∷ 0 ∷ 0 ∷ 0 ∷ 0 ∷ 0 ∷ []) ≡ Fine) × (add_up two (0 ∷ 0 ∷ 0 ∷ 0 ∷ []) ≡ Bad Count 0)
unfolding sum_of
adds = (refl, refl, refl, refl, refl)

-- "V 65,535; instructions 65,536; operands 262,144; crossings 65,536; locals 2,048; addresses, ends 65,536 each", each by itself
pub register_limit : (code_counts 65535 [] [] [] [] [] [] ≡ Fine) × (code_counts 65536 [] [] [] [] [] [] ≡ Bad Count 0)
unfolding first sum_of inst_counts code_counts
register_limit = (refl, refl)

module _ (l : List ℕ) where
  pub inst_limit : (length l ≡ inst_width * 65536 → inst_counts l [] ≡ add_up l []) × (length l ≡ inst_width * 65537 → inst_counts l [] ≡ Bad Count 0)
  unfolding first inst_counts
  inst_limit = (λ e. rw e refl, λ e. rw e refl)

  pub operand_limit : (length l ≡ 2 * 262144 → inst_counts [] l ≡ add_up [] l) × (length l ≡ 2 * 262145 → inst_counts [] l ≡ Bad Count 0)
  unfolding first inst_counts
  operand_limit = (λ e. rw e refl, λ e. rw e refl)

  pub crossing_limit : (length l ≡ 65536 → code_counts 0 [] [] l [] [] [] ≡ Fine) × (length l ≡ 65537 → code_counts 0 [] [] l [] [] [] ≡ Bad Count 0)
  unfolding first sum_of inst_counts code_counts
  crossing_limit = (λ e. rw e refl, λ e. rw e refl)

  pub local_limit : (length l ≡ 2 * 2048 → code_counts 0 [] [] [] l [] [] ≡ Fine) × (length l ≡ 2 * 2049 → code_counts 0 [] [] [] l [] [] ≡ Bad Count 0)
  unfolding first sum_of inst_counts code_counts
  local_limit = (λ e. rw e refl, λ e. rw e refl)

  pub address_limit : (length l ≡ 2 * 65536 → code_counts 0 [] [] [] [] l [] ≡ Fine) × (length l ≡ 2 * 65537 → code_counts 0 [] [] [] [] l [] ≡ Bad Count 0)
  unfolding first sum_of inst_counts code_counts
  address_limit = (λ e. rw e refl, λ e. rw e refl)

  pub end_limit : (length l ≡ 2 * 65536 → code_counts 0 [] [] [] [] [] l ≡ Fine) × (length l ≡ 2 * 65537 → code_counts 0 [] [] [] [] [] l ≡ Bad Count 0)
  unfolding first sum_of inst_counts code_counts
  end_limit = (λ e. rw e refl, λ e. rw e refl)
