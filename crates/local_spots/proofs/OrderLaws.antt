-- An ending local's marks and area do not depend on the order of its ends: they are those of the ends sorted.
use Prim.Native.Nat.{ℕ, zero, suc}
use mathlib.Core.Path.{◌≡◌, refl, ap, ◌∙◌, fun_ext}
use mathlib.Core.Bool.{Bool, cond, not, ◌&&◌, ◌||◌}
use mathlib.Core.List.{List, [], ◌∷◌, ◌++◌, map}
use lib.ListN.{length}
use lib.Dec.{leb}
use Rattle.words.specs.Sort.{sort_of}
use Rattle.words.proofs.SortLaws.{mem_sort, mem_of_sort}
use Rattle.words.proofs.Bools.{both_ways}
use Rattle.ranges.specs.declared.Range.{Range}
use Rattle.ranges.specs.Points.{range}
use Rattle.ranges.specs.Merged.{merged}
use Rattle.graph.specs.Rounds.{arriving_row}
use Rattle.carrying.specs.Lists.{any, keep}
use Rattle.carrying.proofs.ListLaws.{any_true, any_entry}
use Rattle.areas.specs.Blocks.{Graph, top, bottom, bounds, between, clip, until, leaves, passes}
use Rattle.areas.specs.Pieces.{throughs, arrives_row, end_line, ending_area}
use Rattle.spots.proofs.SpotLaws.{until_order}

module _ (G : Graph) (es : List ℕ) where
  until_sorted : until (sort_of es) ≡ until es
  until_sorted = fun_ext (λ z. fun_ext (λ b. until_order (sort_of es) es z b (λ e m. mem_of_sort es m) (λ e m. mem_sort es m)))

  pub passes_sorted : passes G (sort_of es) ≡ passes G es
  passes_sorted = fun_ext (λ k. ap not (both_ways _ _
      (λ s. let (e, m, t) = any_entry (λ e. leb (top G k) e && leb e (bottom G k)) (sort_of es) s in any_true (λ e. leb (top G k) e && leb e (bottom G k)) es e (mem_of_sort es m) t)
      (λ s. let (e, m, t) = any_entry (λ e. leb (top G k) e && leb e (bottom G k)) es s in any_true (λ e. leb (top G k) e && leb e (bottom G k)) (sort_of es) e (mem_sort es m) t)))

  module _ (ts : List Range) where
    pub leaves_sorted : leaves G ts (sort_of es) ≡ leaves G ts es
    leaves_sorted = ap (λ (u : ℕ → ℕ → ℕ). λ (k : ℕ). any (λ t. between G k t || bounds G k t && leb (bottom G k) (u (clip G k t).end (bottom G k))) ts) until_sorted

    pub arrives_sorted : arrives_row G ts (sort_of es) ≡ arrives_row G ts es
    arrives_sorted =
        ap (λ (f : ℕ → Bool). arriving_row (length G.blocks) G.edges f (passes G (sort_of es))) leaves_sorted
        ∙ ap (λ (f : ℕ → Bool). arriving_row (length G.blocks) G.edges (leaves G ts es) f) passes_sorted

    end_line_sorted : (a : ℕ → Bool) (n : ℕ) → end_line G ts (sort_of es) a n ≡ end_line G ts es a n
    unfolding end_line
    end_line_sorted a zero = refl
    end_line_sorted a (suc n) =
        ap (λ (l : List Range). l ++ pieces n (until (sort_of es))) (end_line_sorted a n) ∙ ap (λ (u : ℕ → ℕ → ℕ). end_line G ts es a n ++ pieces n u) until_sorted
      where
        pieces : ℕ → (ℕ → ℕ → ℕ) → List Range
        pieces k u = cond (a k) (range (top G k) (u (top G k) (bottom G k)) ∷ []) [] ++ map (λ t. range (clip G k t).start (u (clip G k t).end (bottom G k))) (keep (bounds G k) ts)

    pub ending_sorted : ending_area G ts (sort_of es) ≡ ending_area G ts es
    unfolding ending_area
    ending_sorted =
        ap (λ (a : ℕ → Bool). merged (throughs G ts ++ end_line G ts (sort_of es) a (length G.blocks))) arrives_sorted
        ∙ ap (λ (l : List Range). merged (throughs G ts ++ l)) (end_line_sorted (arrives_row G ts es) (length G.blocks))
