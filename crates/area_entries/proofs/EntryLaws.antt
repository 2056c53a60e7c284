-- From what was listed to what the entry leaves.
use Prim.Native.Nat.{ℕ}
use mathlib.Core.Path.{◌≡◌, refl, sym, ap, ◌∙◌}
use mathlib.Core.Option.{Option}
use mathlib.Core.List.{List, ◌++◌}
use lib.ListN.{length, drop, replicate, length-replicate}
use Rattle.refusals.specs.declared.Refusal.{Refusal}
use Rattle.refusals.specs.Verdicts.{first, Bad, Fine, Verdict, Answer}
use Rattle.refusals.proofs.Laws.{first_fine, first_bad}
use Rattle.words.specs.Regions.{cleared}
use Rattle.words.specs.Widths.{range_count}
use Rattle.ranges.specs.declared.Range.{Range}
use Rattle.graph.specs.Inner.Work.{Within}
use Rattle.components.proofs.Entries.{cleared_same}
use Rattle.area_measure.specs.Locals.{area_for}
use Rattle.area_layout.specs.Layout.{space_for}
use Rattle.item_lists.specs.Lists.{AnsweredBy}
use Rattle.area_entries.specs.Entry.{verdict_of, LocalAreas}
use Rattle.lent_areas.specs.Areas.{graph_for}
use Rattle.area_checks.specs.Checks.{sizes_of, lent_verdict}
use Rattle.area_entries.proofs.OrderLaws.{local_verdict}
use Rattle.areas.specs.Job.{areas_verdict}
use Rattle.areas.specs.Upright.{UprightOf}
use Rattle.areas.proofs.UprightLaws.{local_upright}
use Rattle.local_spots.specs.Locals.{touches_for, ends_for}
use Rattle.lent_areas.proofs.SolveLaws.{lent_in_line}
use Rattle.area_checks.proofs.CheckLaws.{lent}
use Rattle.std.specs.Prelude.{Err}

module _ (blocks edges : List ℕ) (points : ℕ) (kinds touches ends areas items work : List ℕ) where
  abbrev lent_v : Verdict
  lent_v = lent_verdict blocks edges points kinds touches (length ends) (length areas) (length items) (length work)

  abbrev area : ℕ → Option (List Range)
  area = area_for (graph_for blocks edges) kinds touches ends

  abbrev list_v : Verdict
  list_v = areas_verdict (length kinds) area (range_count areas)

  abbrev space : ℕ
  space = space_for (sizes_of blocks edges (length kinds) (length touches) (length ends) (length areas))

  by_parts : verdict_of blocks edges points kinds touches ends (length areas) (length items) (length work) ≡ first lent_v list_v
  by_parts = local_verdict blocks edges points kinds touches ends (length areas) (length items) (length work)

  pub refused_entry : (r : Refusal) (i : ℕ) → lent_v ≡ Bad r i → LocalAreas blocks edges points kinds touches ends areas items work (Err (r, i)) areas items work
  refused_entry r i e = record {
    lists = rw (by_parts ∙ first_bad lent_v list_v r i e) (record { answer = refl; in_areas = refl; in_items = refl });
    in_work = rw e refl;
  }

  pub answered_entry : lent_v ≡ Fine → {r : Answer} {areas' items' w work' : List ℕ} → AnsweredBy list_v (length kinds) area areas items r areas' items'
      → Within 0 space work w → {n : ℕ} → n ≡ space → work' ≡ cleared n w → LocalAreas blocks edges points kinds touches ends areas items work r areas' items' work'
  answered_entry e {r} {areas'} {items'} {w} {work'} B K {n} en Z = record {
    lists = rw (by_parts ∙ first_fine lent_v list_v e) B;
    in_work = rw e (Z ∙ ap (λ (k : ℕ). cleared k w) en ∙ cleared_same space work w K
        ∙ ap (λ (k : ℕ). replicate space 0 ++ drop k work) (sym (length-replicate space 0)));
  }

  -- number 8 has no input: what is computed of a local whose touches and ends are not refused
  pub lent_upright : lent_v ≡ Fine → (l : ℕ) → UprightOf (graph_for blocks edges) (touches_for touches l) (ends_for ends l)
  lent_upright e l =
      let L = (lent blocks edges points kinds touches ends (length areas) (length items) work e).0 in
      local_upright (graph_for blocks edges) L.sound (touches_for touches l) (lent_in_line blocks touches L.touches_fine l) (ends_for ends l)
