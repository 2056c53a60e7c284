-- The entry `flowed`: what it answers, refuses and leaves, for every input.
use Rattle.std.specs.Prelude.{ℕ, ◌*◌, ◌<◌, ◌≡◌, ◌↔◌, Bool, true, List, [], ◌∷◌, ◌++◌, length}
use Rattle.refusals.specs.declared.Refusal.{Refusal}
use Rattle.refusals.specs.Verdicts.{number_of, in_order, room_verdict, Bad, Fine, Verdict}
use Rattle.refusals.specs.Outcomes.{given, refused, after, numbered}
use Rattle.words.specs.Regions.{cleared}
use Rattle.words.specs.Widths.{block_count, edge_count}
use Rattle.bits.specs.Bits.{bit}
use Rattle.bits.specs.Words.{rows_of}
use Rattle.graph.specs.Paths.{Edge}
use Rattle.graph.specs.Flow.{Reached, Reaching}
use Rattle.graph.specs.Rounds.{reached_row, reaching_row}
use Rattle.graph.specs.Checks.{graph_checks, rows_verdict, space_of}
use Rattle.components.specs.Entry.{edges_in}
use Rattle.flow.specs.declared.Over.{Over}
use Rattle.flow.specs.declared.Over.TheVariants.{Predecessors, Successors}

-- "over predecessors, and over successors": a touched place reaches this one, or this one a touched place
abbrev pub FlowsTo : Over → List Edge → (ℕ → Bool) → ℕ → Type 0
FlowsTo Predecessors es touched k = Reached es touched k
FlowsTo Successors es touched k = Reaching es touched k

-- the same by rounds, of n places
abbrev pub flows_row : Over → ℕ → List Edge → (ℕ → Bool) → ℕ → Bool
flows_row Predecessors n es touched = reached_row n es touched
flows_row Successors n es touched = reaching_row n es touched

-- the checks of `flowed`: numbers 1 (of the rows lent, then of the records), 2, 3 and 7, in this order; W is 8 × (the records lent + blocks × row words)
abbrev pub flowed_checks : List ℕ → List ℕ → ℕ → ℕ → ℕ → ℕ → ℕ → List Verdict
flowed_checks blocks edges points lent words answer work =
    rows_verdict lent (block_count blocks) words ∷ graph_checks blocks edges points
    ++ (room_verdict answer (block_count blocks * words) work (space_of (block_count blocks) (edge_count edges) (block_count blocks * words)) ∷ [])

unfoldable pub verdict_of : List ℕ → List ℕ → ℕ → ℕ → ℕ → ℕ → ℕ → Verdict
verdict_of blocks edges points lent words answer work = in_order (flowed_checks blocks edges points lent words answer work)

-- bit b of row v of rows of bits
abbrev pub row_bit : List ℕ → ℕ → ℕ → ℕ → Bool
row_bit rows words v b = bit rows (v * words) b

-- the answer: a row to a block, whose bits are by rounds
abbrev pub flowed_rows : Over → List ℕ → List ℕ → List ℕ → ℕ → List ℕ
flowed_rows over blocks edges touched words =
    rows_of (block_count blocks) words (λ v b. flows_row over (block_count blocks) (edges_in blocks edges) (λ k. row_bit touched words k b) v)

-- the whole answer list by the definition, and its bits by paths
pub record Filled (over : Over) (blocks edges touched : List ℕ) (words : ℕ) (out₀ work₀ : List ℕ) (r : Verdict) (out work : List ℕ) : Type 0 where
  pub outcome : numbered r ≡ given tt
  pub in_out : out ≡ after (numbered r) (λ _. flowed_rows over blocks edges touched words) out₀
  pub bits : (v b : ℕ) → v < block_count blocks → b < words * 64 → (row_bit out words v b ≡ true) ↔ FlowsTo over (edges_in blocks edges) (λ k. row_bit touched words k b) v
  pub work_cleared : work ≡ cleared (space_of (block_count blocks) (edge_count edges) (block_count blocks * words)) work₀

-- a refusal: the lists as they were
pub record Turned (k : Refusal) (i : ℕ) (out₀ work₀ : List ℕ) (r : Verdict) (out work : List ℕ) : Type 0 where
  pub outcome : numbered r ≡ refused (number_of k) i
  pub out_kept : out ≡ out₀
  pub work_kept : work ≡ work₀

pub record Answered (over : Over) (blocks edges : List ℕ) (points : ℕ) (touched : List ℕ) (words : ℕ) (out₀ work₀ : List ℕ) (r : Verdict) (out work : List ℕ) : Type 0 where
  pub answered : verdict_of blocks edges points (length touched) words (length out₀) (length work₀) ≡ Fine → Filled over blocks edges touched words out₀ work₀ r out work
  pub turned_back : (k : Refusal) (i : ℕ) → verdict_of blocks edges points (length touched) words (length out₀) (length work₀) ≡ Bad k i → Turned k i out₀ work₀ r out work
