-- The entries over a graph: the index of each refusal fits its 32 bits.
use Prim.Native.Nat.{ℕ, ◌*◌, ◌≤◌}
use native.Mathlib.Omega.{arith}
use mathlib.Core.Path.{◌≡◌}
use mathlib.Core.Bool.{not, ◌||◌}
use mathlib.Core.List.{List, ◌++◌}
use lib.ListN.{length}
use lib.Dec.{eqb, ltb}
use Rattle.refusals.specs.declared.Refusal.TheVariants.{Count, Space}
use Rattle.refusals.specs.Verdicts.{in_order, check, Fine, Verdict}
use Rattle.refusals.proofs.Laws.{first_left}
use Rattle.words.specs.Widths.{block_count, edge_count}
use Rattle.graph.specs.Line.{blocks_of, jumps_of}
use Rattle.graph.specs.Checks.{bad_count, graph_checks, space_of}
use Rattle.graph.proofs.Line.{blocks_length, jumps_length}
use Rattle.line_checks.proofs.Refusals.{counts}
use Rattle.components.specs.Entry.{verdict_of as orderVerdict}
use Rattle.flow.specs.Entry.{flowed_checks, verdict_of as rowVerdict}
use Rattle.spread.specs.Entry.{verdict_of as spreadVerdict}
use Rattle.codes.specs.Inner.{Fits}
use Rattle.codes.proofs.IndexLaws.{check_fits}
use Rattle.answer_bounds.proofs.Steps.{AllFit, no_more, order_fit, next_fits, line_fits, edge_fits}

module _ (blocks edges : List ℕ) (points : ℕ) where
  -- numbers 1, 2 and 3, and checks behind them: after 1 passed there are at most 4,096 blocks and 16,384 edges
  pub graph_fit : (rest : List Verdict) → AllFit rest → AllFit (graph_checks blocks edges points ++ rest)
  graph_fit rest r =
      next_fits (check_fits Count (bad_count blocks edges))
      (λ e. let c = counts blocks edges e in
      next_fits (line_fits (blocks_of blocks) points (omega (arith, c.few, blocks_length blocks)))
      (λ _. next_fits (edge_fits (blocks_of blocks) (jumps_of edges) (omega (arith, c.few_edges, jumps_length edges))) (λ _. r)))

  -- `components` and `settling`
  pub components_fits : (answer work : ℕ) → Fits (orderVerdict blocks edges points answer work)
  unfolding orderVerdict
  components_fits answer work =
      order_fit (graph_fit _ (next_fits (check_fits Space (ltb answer (block_count blocks) || ltb work (space_of (block_count blocks) (edge_count edges) 0))) (λ _. no_more)))

  -- there are no more components than blocks
  pub few_blocks : (answer work : ℕ) → orderVerdict blocks edges points answer work ≡ Fine → block_count blocks ≤ 4096
  unfolding orderVerdict in_order
  few_blocks answer work e = (counts blocks edges (first_left (check Count (bad_count blocks edges)) _ e)).few

  -- `flowed` and `spread`
  rows_fit : (lent words answer work : ℕ) → AllFit (flowed_checks blocks edges points lent words answer work)
  rows_fit lent words answer work =
      next_fits (check_fits Count (not (eqb lent (block_count blocks * words))))
      (λ _. graph_fit _
      (next_fits (check_fits Space (ltb answer (block_count blocks * words) || ltb work (space_of (block_count blocks) (edge_count edges) (block_count blocks * words)))) (λ _. no_more)))

  pub flowed_fits : (lent words answer work : ℕ) → Fits (rowVerdict blocks edges points lent words answer work)
  unfolding rowVerdict
  flowed_fits lent words answer work = order_fit (rows_fit lent words answer work)

  pub spread_fits : (leaving passing words answer work : ℕ) → Fits (spreadVerdict blocks edges points leaving passing words answer work)
  unfolding spreadVerdict
  spread_fits leaving passing words answer work =
      order_fit (next_fits (check_fits Count (not (eqb passing (block_count blocks * words)))) (λ _. rows_fit leaving words answer work))
