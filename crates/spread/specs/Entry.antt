-- The entries `settling` and `spread`: what they answer, refuse and leave, for every input.
use Rattle.std.specs.Prelude.{ℕ, ◌*◌, ◌≤◌, ◌<◌, ◌≡◌, ◌↔◌, true, List, ◌∷◌, length, get_or}
use Rattle.refusals.specs.declared.Refusal.{Refusal}
use Rattle.refusals.specs.Verdicts.{number_of, in_order, Bad, Fine, Verdict}
use Rattle.refusals.specs.Outcomes.{given, refused, after, numbered}
use Rattle.words.specs.Regions.{cleared}
use Rattle.words.specs.Widths.{block_count, edge_count}
use Rattle.bits.specs.Words.{rows_of}
use Rattle.graph.specs.Flow.{Arrives}
use Rattle.graph.specs.Rounds.{arriving_row}
use Rattle.graph.specs.Checks.{rows_verdict, space_of}
use Rattle.components.specs.Entry.{edges_in, verdict_of as orderVerdict}
use Rattle.flow.specs.Entry.{row_bit, flowed_checks}
use Rattle.postorder.specs.Settling.{Settling}

-- a refusal: the lists as they were
pub record Turned (k : Refusal) (i : ℕ) (list₀ work₀ : List ℕ) (r : Verdict) (list work : List ℕ) : Type 0 where
  pub outcome : numbered r ≡ refused (number_of k) i
  pub list_kept : list ≡ list₀
  pub work_kept : work ≡ work₀

-- ---- settling

pub record Ordered (blocks edges order₀ work₀ : List ℕ) (r : Verdict) (order work : List ℕ) : Type 0 where
  pub outcome : numbered r ≡ given tt
  pub settling : Settling (edges_in blocks edges) (block_count blocks) (λ i. get_or order i 0)
  pub length_kept : length order ≡ length order₀
  pub past : (i : ℕ) → block_count blocks ≤ i → get_or order i 0 ≡ get_or order₀ i 0
  pub work_cleared : work ≡ cleared (space_of (block_count blocks) (edge_count edges) 0) work₀

pub record Settled (blocks edges : List ℕ) (points : ℕ) (order₀ work₀ : List ℕ) (r : Verdict) (order work : List ℕ) : Type 0 where
  pub answered : orderVerdict blocks edges points (length order₀) (length work₀) ≡ Fine → Ordered blocks edges order₀ work₀ r order work
  pub turned_back : (k : Refusal) (i : ℕ) → orderVerdict blocks edges points (length order₀) (length work₀) ≡ Bad k i → Turned k i order₀ work₀ r order work

-- ---- spread

-- the checks of `spread`: those of `flowed`, and before them number 1 of the other rows; both kinds have one row to a block
abbrev pub spread_checks : List ℕ → List ℕ → ℕ → ℕ → ℕ → ℕ → ℕ → ℕ → List Verdict
spread_checks blocks edges points leaving passing words answer work = rows_verdict passing (block_count blocks) words ∷ flowed_checks blocks edges points leaving words answer work

unfoldable pub verdict_of : List ℕ → List ℕ → ℕ → ℕ → ℕ → ℕ → ℕ → ℕ → Verdict
verdict_of blocks edges points leaving passing words answer work = in_order (spread_checks blocks edges points leaving passing words answer work)

-- the answer: a row to a block, whose bits are by rounds
abbrev pub spread_rows : List ℕ → List ℕ → List ℕ → List ℕ → ℕ → List ℕ
spread_rows blocks edges leaves passes words =
    rows_of (block_count blocks) words (λ v b. arriving_row (block_count blocks) (edges_in blocks edges) (λ k. row_bit leaves words k b) (λ k. row_bit passes words k b) v)

-- the whole answer list by the definition, and its bits by paths
pub record Filled (blocks edges leaves passes : List ℕ) (words : ℕ) (out₀ work₀ : List ℕ) (r : Verdict) (out work : List ℕ) : Type 0 where
  pub outcome : numbered r ≡ given tt
  pub in_out : out ≡ after (numbered r) (λ _. spread_rows blocks edges leaves passes words) out₀
  pub bits : (v b : ℕ) → v < block_count blocks → b < words * 64
      → (row_bit out words v b ≡ true) ↔ Arrives (edges_in blocks edges) (λ k. row_bit leaves words k b) (λ k. row_bit passes words k b) v
  pub work_cleared : work ≡ cleared (space_of (block_count blocks) (edge_count edges) (block_count blocks * words)) work₀

pub record Answered (blocks edges : List ℕ) (points : ℕ) (leaves passes : List ℕ) (words : ℕ) (out₀ work₀ : List ℕ) (r : Verdict) (out work : List ℕ) : Type 0 where
  pub answered : verdict_of blocks edges points (length leaves) (length passes) words (length out₀) (length work₀) ≡ Fine → Filled blocks edges leaves passes words out₀ work₀ r out work
  pub turned_back : (k : Refusal) (i : ℕ) → verdict_of blocks edges points (length leaves) (length passes) words (length out₀) (length work₀) ≡ Bad k i → Turned k i out₀ work₀ r out work
