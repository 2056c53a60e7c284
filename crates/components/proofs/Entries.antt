-- Laws of the entry: each way out.
use Prim.Native.Nat.{ℕ, ◌+◌, ◌*◌, ◌≤◌, ◌<◌}
use mathlib.Core.Path.{◌≡◌, refl, sym, ap, ◌∙◌, subst}
use mathlib.Core.Bool.{◌||◌}
use mathlib.Core.List.{List, [], ◌∷◌, ◌++◌}
use native.Mathlib.Omega.{arith}
use lib.Dec.{ltb}
use lib.ListN.{length, get_or, drop, replicate, length-drop}
use lib.Seq.{ext_get_or, get_or-drop}
use Rattle.refusals.specs.declared.Refusal.{Refusal}
use Rattle.refusals.specs.declared.Refusal.TheVariants.{Count, Line, Edge as EdgeWord, Space}
use Rattle.refusals.specs.Verdicts.{number_of, first, in_order, room_verdict, Bad, Fine, Verdict}
use Rattle.refusals.specs.Orders.{Ordered}
use Rattle.refusals.proofs.Laws.{first_fine, first_bad, first_left, first_right, bad_fine, check_last, bad_same}
use Rattle.refusals.proofs.Orders.{check_gives, order_append, giving_append}
use Rattle.words.specs.Regions.{cleared}
use Rattle.words.specs.Inner.{Region}
use Rattle.words.specs.Widths.{block_count, edge_count}
use Rattle.graph.specs.Line.{blocks_of, jumps_of}
use Rattle.graph.specs.Checks.{graph_checks, graph_verdict, space_of}
use Rattle.graph.specs.Paths.{Between}
use Rattle.graph.specs.Inner.Work.{Within, EdgeRows, Neighbours}
use Rattle.graph.proofs.CheckLaws.{graph_gives}
use Rattle.graph.proofs.Within.{within_trans, within_wider}
use Rattle.graph.proofs.Line.{blocks_length, edges_between}
use Rattle.line_checks.proofs.Refusals.{Passed, passed, space_told}
use Rattle.tarjan.specs.Components.{Components}
use Rattle.tarjan.specs.Inner.Components.{Walkable, Found}
use Rattle.components.specs.Entry.{components_checks, verdict_of, edges_in, Turned, Answered}
use Rattle.components.specs.Inner.{Solved}
use Rattle.std.specs.Prelude.{Ok, Err}

-- ---- the refusals

module _ (blocks edges : List ℕ) (points answer work : ℕ) where
  -- "lowest number wins": 1, 2, 3, then 7
  pub components_ordered : Ordered number_of (Count ∷ Line ∷ EdgeWord ∷ Space ∷ []) (components_checks blocks edges points answer work)
  components_ordered = record {
    gives = giving_append (Count ∷ Line ∷ EdgeWord ∷ []) (Space ∷ []) (graph_checks blocks edges points) (room_verdict answer (block_count blocks) work (space_of (block_count blocks) (edge_count edges) 0) ∷ [])
        (graph_gives blocks edges points) (check_gives Space (ltb answer (block_count blocks) || ltb work (space_of (block_count blocks) (edge_count edges) 0)), tt);
    rises = refl;
  }

  -- the graph's checks, then the space
  verdict_as : verdict_of blocks edges points answer work ≡ first (graph_verdict blocks edges points) (room_verdict answer (block_count blocks) work (space_of (block_count blocks) (edge_count edges) 0))
  unfolding verdict_of graph_verdict
  verdict_as =
      order_append (graph_checks blocks edges points) (room_verdict answer (block_count blocks) work (space_of (block_count blocks) (edge_count edges) 0) ∷ [])
      ∙ ap (first (in_order (graph_checks blocks edges points))) (check_last (room_verdict answer (block_count blocks) work (space_of (block_count blocks) (edge_count edges) 0)))

  pub graph_bad : (r : Refusal) (i : ℕ) → graph_verdict blocks edges points ≡ Bad r i → Bad r i ≡ verdict_of blocks edges points answer work
  graph_bad r i e = sym (verdict_as ∙ first_bad _ _ r i e)

  pub space_last : (v : Verdict) → graph_verdict blocks edges points ≡ Fine → v ≡ room_verdict answer (block_count blocks) work (space_of (block_count blocks) (edge_count edges) 0)
      → v ≡ verdict_of blocks edges points answer work
  space_last v f e = e ∙ sym (verdict_as ∙ first_fine _ _ f)

  -- what is known of an input that is not refused
  pub record Known : Type 0 where
    pub graph : Passed blocks edges points
    pub answer_fits : block_count blocks ≤ answer
    pub work_fits : space_of (block_count blocks) (edge_count edges) 0 ≤ work

  pub known : verdict_of blocks edges points answer work ≡ Fine → Known
  known e =
      let f = sym verdict_as ∙ e in
      let s = space_told answer (block_count blocks) work (block_count blocks) (edge_count edges) 0 (first_right (graph_verdict blocks edges points) _ f) in
      record { graph = passed blocks edges points (first_left (graph_verdict blocks edges points) _ f); answer_fits = s.0; work_fits = s.1 }

pub refused_is : (blocks edges : List ℕ) (points : ℕ) (which work : List ℕ) (r : Refusal) (i : ℕ) → verdict_of blocks edges points (length which) (length work) ≡ Bad r i
    → Answered blocks edges points which work (Err (r, i)) which work
refused_is blocks edges points which work r i e = record {
  answered = λ f. bad_fine (sym e ∙ f);
  turned = λ k j f. same_bad k j (sym e ∙ f);
}
  where
    same_bad : (k : Refusal) (j : ℕ) → Bad r i ≡ Bad k j → Turned k j which work (Err (r, i)) which work
    same_bad k j q = record { outcome = let (a, b) = bad_same q in rw (a, b) refl; which_kept = refl; work_kept = refl }

-- ---- the answer

-- the rows, and then the walk
module _ (blocks edges : List ℕ) (w₀ w₁ : List ℕ) (fits : 8 * (block_count blocks + edge_count edges + 0) ≤ length w₀)
    (N : Neighbours (edges_in blocks edges) (block_count blocks) (edge_count edges) 0 w₀ w₁) (some : 1 ≤ block_count blocks) where
  pub walkable : Walkable (block_count blocks) (edge_count edges + edge_count edges) (edge_count edges + edge_count edges + (block_count blocks + 1 + edge_count edges)) w₁
  walkable = record {
    edges = edges_in blocks edges;
    between = N.between;
    rows = subst (λ (y : ℕ). EdgeRows (edges_in blocks edges) (block_count blocks) y w₁) (omega arith) N.rows;
    below = omega (arith, N.count);
    room = omega (arith, N.kept.len);
  }

  pub solved : {w₂ : List ℕ} {count : ℕ}
      → Found (block_count blocks) (edge_count edges + edge_count edges) (edge_count edges + edge_count edges + (block_count blocks + 1 + edge_count edges)) w₁ w₂ count
      → Solved blocks edges (edge_count edges + edge_count edges + (block_count blocks + 1 + edge_count edges)) w₀ w₂ count
  solved F = record {
    kept = within_trans (within_wider 0 _ (omega arith) (omega arith) N.kept) (within_wider 0 _ (omega arith) (omega arith) F.kept);
    few = F.few;
    components = F.components (edges_in blocks edges) N.between (subst (λ (y : ℕ). EdgeRows (edges_in blocks edges) (block_count blocks) y w₁) (omega arith) N.rows);
  }

pub small : {blocks edges : List ℕ} {base count : ℕ} {w₀ w₁ : List ℕ} → Solved blocks edges base w₀ w₁ count → block_count blocks ≤ 4096
    → (i : ℕ) → i < block_count blocks → get_or w₁ (base + i) 0 < 4294967296
small S few i h = omega (arith, S.components.low i h, S.few)

-- what lies past W is as it was
pub drop_kept : (n : ℕ) (w₀ w : List ℕ) → Within 0 n w₀ w → drop n w ≡ drop n w₀
drop_kept n w₀ w K = ext_get_or 0 (drop n w) (drop n w₀) (simp length-drop (omega (arith, K.len)))
    (λ i h. get_or-drop n w i 0 ∙ K.past (n + i) (omega arith) ∙ sym (get_or-drop n w₀ i 0))

pub cleared_same : (n : ℕ) (w₀ w : List ℕ) → Within 0 n w₀ w → cleared n w ≡ cleared n w₀
cleared_same n w₀ w K = ap (λ (l : List ℕ). replicate n 0 ++ l) (drop_kept n w₀ w K)

module _ (blocks edges : List ℕ) (points : ℕ) (which₀ which work₀ work₁ work₂ : List ℕ) (base count : ℕ)
    (e : verdict_of blocks edges points (length which₀) (length work₀) ≡ Fine) (S : Solved blocks edges base work₀ work₁ count) where
  pub given_is : Region which₀ which 0 (block_count blocks) (λ i. get_or work₁ (base + i) 0) → work₂ ≡ cleared (8 * (block_count blocks + edge_count edges)) work₁
      → Answered blocks edges points which₀ work₀ (Ok count) which work₂
  given_is R C = record {
    answered = λ _. record {
      count = count;
      outcome = refl;
      few = S.few;
      components = numbers_as S.components;
      length_kept = R.len;
      past = λ i h. R.after i (omega arith);
      work_cleared = C ∙ ap (λ (y : ℕ). cleared y work₁) eight ∙ cleared_same (space_of (block_count blocks) (edge_count edges) 0) work₀ work₁ S.kept;
    };
    turned = λ k i f. bad_fine (sym f ∙ e);
  }
    where
      eight : 8 * (block_count blocks + edge_count edges) ≡ 8 * (block_count blocks + edge_count edges + 0)
      eight = omega arith

      is : (v : ℕ) → v < block_count blocks → get_or which v 0 ≡ get_or work₁ (base + v) 0
      is v h = R.inside v v (omega arith) h

      numbers_as : Components (edges_in blocks edges) (block_count blocks) (λ v. get_or work₁ (base + v) 0) count → Components (edges_in blocks edges) (block_count blocks) (λ v. get_or which v 0) count
      numbers_as X = record {
        alike = λ j k a b t. is j a ∙ X.alike j k a b t ∙ sym (is k b);
        together = λ j k a b q. X.together j k a b (sym (is j a) ∙ q ∙ is k b);
        down = λ j k l ne.
            let a = between.from _ l in
            let b = between.to _ l in
            let d = X.down j k l (λ q. ne (is j a ∙ q ∙ sym (is k b))) in
            omega (arith, is j a, is k b);
        low = λ k a. omega (arith, is k a, X.low k a);
        used = λ x a. let r = X.used x a in (r.0, r.1, is r.0 r.1 ∙ r.2);
      }
        where
          K : Known blocks edges points (length which₀) (length work₀)
          K = known blocks edges points (length which₀) (length work₀) e

          between : Between (block_count blocks) (edges_in blocks edges)
          between = subst (λ (y : ℕ). Between y (edges_in blocks edges)) (blocks_length blocks) (edges_between (blocks_of blocks) (jumps_of edges) K.graph.sound K.graph.edges_fine)
