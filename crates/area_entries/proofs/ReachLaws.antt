-- `reach` and then `local_areas`: with the kinds that the one answers, and each local's touches and ends, the other answers the areas of the job's locals.
use Prim.Native.Nat.{ℕ, ◌<◌}
use mathlib.Core.Path.{◌≡◌, ap, subst, ◌∙◌}
use mathlib.Core.List.{List}
use lib.ListN.{length}
use Rattle.words.proofs.RowLaws.{length_tabulate, get_d_tabulate}
use Rattle.ranges.specs.declared.Range.{Range}
use Rattle.graph.specs.Line.{Stretch, Jump, blocks_of, jumps_of, edges_of}
use Rattle.carrying.specs.declared.Kind.{Kind}
use Rattle.carrying.specs.Carried.{kind_of, ends_of}
use Rattle.kind_numbers.specs.Numbers.{kind_number, kind_by}
use Rattle.kind_numbers.proofs.KindLaws.{kind_told}
use Rattle.areas.specs.Blocks.{Graph}
use Rattle.areas.specs.Job.{Job, graph_of, touches_in, area_by, local_area}
use Rattle.local_kinds.specs.Entry.{kinds_of}
use Rattle.local_spots.specs.Locals.{kind_for, touches_for, ends_for}
use Rattle.area_measure.specs.Locals.{area_for}
use Rattle.item_lists.specs.Lists.{AnsweredBy}
use Rattle.item_lists.proofs.TableLaws.{answered_same}
use Rattle.lent_areas.specs.Areas.{graph_for}
use Rattle.area_entries.specs.Entry.{verdict_of, LocalAreas}
use Rattle.refusals.specs.Verdicts.{Answer}

-- the kinds that `reach` answers of n locals, the touches and the ends of the definition
pub record Handed (J : Job) (n : ℕ) (blocks edges touches ends : List ℕ) : Type 0 where
  pub blocks_are : blocks_of blocks ≡ J.blocks
  pub edges_are : jumps_of edges ≡ J.jumps
  pub touches_are : (l : ℕ) → l < n → touches_for touches l ≡ touches_in J l
  pub ends_are : (l : ℕ) → l < n → ends_for ends l ≡ ends_of J.code l

module _ (J : Job) (n : ℕ) (blocks edges touches ends : List ℕ) (H : Handed J n blocks edges touches ends) where
  kind_is : (l : ℕ) → l < n → kind_for (kinds_of J.code n) l ≡ kind_of J.code l
  kind_is l h = ap kind_by (get_d_tabulate n (λ m. kind_number (kind_of J.code m)) l 0 h) ∙ kind_told (kind_of J.code l)

  graph_is : graph_for blocks edges ≡ graph_of J
  graph_is = ap (λ (bs : List Stretch). record { blocks = bs; edges = edges_of bs (jumps_of edges) }) H.blocks_are ∙ ap (λ (js : List Jump). record { blocks = J.blocks; edges = edges_of J.blocks js }) H.edges_are

  pub area_is : (l : ℕ) → l < n → area_for (graph_for blocks edges) (kinds_of J.code n) touches ends l ≡ local_area J l
  area_is l h =
      ap (λ (G : Graph). area_by G (kind_for (kinds_of J.code n) l) (touches_for touches l) (ends_for ends l)) graph_is
      ∙ ap (λ (k : Kind). area_by (graph_of J) k (touches_for touches l) (ends_for ends l)) (kind_is l h)
      ∙ ap (λ (ts : List Range). area_by (graph_of J) (kind_of J.code l) ts (ends_for ends l)) (H.touches_are l h)
      ∙ ap (area_by (graph_of J) (kind_of J.code l) (touches_in J l)) (H.ends_are l h)

  pub areas_of_reach : {points : ℕ} {areas items work : List ℕ} {r : Answer} {areas' items' work' : List ℕ} → LocalAreas blocks edges points (kinds_of J.code n) touches ends areas items work r areas' items' work'
      → AnsweredBy (verdict_of blocks edges points (kinds_of J.code n) touches ends (length areas) (length items) (length work)) n (local_area J) areas items r areas' items'
  areas_of_reach {points} {areas} {items} {work} {r} {areas'} {items'} D =
      answered_same n (area_for (graph_for blocks edges) (kinds_of J.code n) touches ends) (local_area J) area_is
      (subst (λ (k : ℕ). AnsweredBy (verdict_of blocks edges points (kinds_of J.code n) touches ends (length areas) (length items) (length work)) k (area_for (graph_for blocks edges) (kinds_of J.code n) touches ends) areas items r areas' items')
      (length_tabulate n (λ m. kind_number (kind_of J.code m))) D.lists)
