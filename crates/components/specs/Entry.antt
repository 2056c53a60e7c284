-- The entry `components`: what it answers, refuses and leaves, for every input.
use Rattle.std.specs.Prelude.{ℕ, ◌≤◌, ◌≡◌, List, [], ◌∷◌, ◌++◌, length, get_or}
use Rattle.refusals.specs.declared.Refusal.{Refusal}
use Rattle.refusals.specs.Verdicts.{number_of, in_order, room_verdict, Bad, Fine, Verdict, Answer}
use Rattle.refusals.specs.Outcomes.{given, refused, answered}
use Rattle.words.specs.Regions.{cleared}
use Rattle.words.specs.Widths.{block_count, edge_count}
use Rattle.graph.specs.Paths.{Edge}
use Rattle.graph.specs.Line.{blocks_of, jumps_of, edges_of}
use Rattle.graph.specs.Checks.{graph_checks, space_of}
use Rattle.tarjan.specs.Components.{Components}

-- the checks of `components`, and of `settling`, which is lent the same: numbers 1, 2, 3 and 7, in this order; W is 8 × the records lent
abbrev pub components_checks : List ℕ → List ℕ → ℕ → ℕ → ℕ → List Verdict
components_checks blocks edges points answer work =
    graph_checks blocks edges points ++ (room_verdict answer (block_count blocks) work (space_of (block_count blocks) (edge_count edges) 0) ∷ [])

unfoldable pub verdict_of : List ℕ → List ℕ → ℕ → ℕ → ℕ → Verdict
verdict_of blocks edges points answer work = in_order (components_checks blocks edges points answer work)

abbrev pub edges_in : List ℕ → List ℕ → List Edge
edges_in blocks edges = edges_of (blocks_of blocks) (jumps_of edges)

-- an answer: the number of components, and one component's number to a place in the answer list
pub record Numbered (blocks edges which₀ work₀ : List ℕ) (r : Answer) (which work : List ℕ) : Type 0 where
  pub count : ℕ
  pub outcome : answered r ≡ given count
  pub few : count ≤ block_count blocks
  pub components : Components (edges_in blocks edges) (block_count blocks) (λ v. get_or which v 0) count
  pub length_kept : length which ≡ length which₀
  pub past : (i : ℕ) → block_count blocks ≤ i → get_or which i 0 ≡ get_or which₀ i 0
  pub work_cleared : work ≡ cleared (space_of (block_count blocks) (edge_count edges) 0) work₀

-- a refusal: the lists as they were
pub record Turned (k : Refusal) (i : ℕ) (which₀ work₀ : List ℕ) (r : Answer) (which work : List ℕ) : Type 0 where
  pub outcome : answered r ≡ refused (number_of k) i
  pub which_kept : which ≡ which₀
  pub work_kept : work ≡ work₀

pub record Answered (blocks edges : List ℕ) (points : ℕ) (which₀ work₀ : List ℕ) (r : Answer) (which work : List ℕ) : Type 0 where
  pub answered : verdict_of blocks edges points (length which₀) (length work₀) ≡ Fine → Numbered blocks edges which₀ work₀ r which work
  pub turned : (k : Refusal) (i : ℕ) → verdict_of blocks edges points (length which₀) (length work₀) ≡ Bad k i → Turned k i which₀ work₀ r which work
