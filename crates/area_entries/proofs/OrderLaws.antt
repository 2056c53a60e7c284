-- The entry's checks in their order: which refusal each gives, and the two verdicts that the code makes.
use Prim.Native.Nat.{ℕ, ◌/◌}
use mathlib.Core.Path.{◌≡◌, refl, sym, ap, ◌∙◌}
use mathlib.Core.List.{List, [], ◌∷◌}
use lib.ListN.{length}
use lib.Dec.{ltb}
use Rattle.refusals.specs.declared.Refusal.TheVariants.{List as ListWord}
use Rattle.refusals.specs.Verdicts.{number_of, first, in_order, Verdict}
use Rattle.refusals.specs.Orders.{Giving, Ordered}
use Rattle.refusals.proofs.Laws.{check_last}
use Rattle.refusals.proofs.Orders.{check_gives, giving_append, order_append}
use Rattle.words.specs.Rows.{tabulate}
use Rattle.words.specs.Widths.{range_width}
use Rattle.areas.specs.Job.{ranges_of, areas_verdict}
use Rattle.area_measure.specs.Locals.{area_for}
use Rattle.area_checks.specs.Checks.{lent_verdict, lent_checks, lent_give}
use Rattle.area_checks.proofs.OrderLaws.{lent_order, lent_give_lem}
use Rattle.lent_areas.specs.Areas.{graph_for}
use Rattle.area_entries.specs.Entry.{local_checks, local_give, verdict_of}

module _ (blocks edges : List ℕ) (points : ℕ) (kinds touches ends : List ℕ) (areas items work : ℕ) where
  abbrev lent_v : Verdict
  lent_v = lent_verdict blocks edges points kinds touches (length ends) areas items work

  abbrev lents : List Verdict
  lents = lent_checks blocks edges points kinds touches (length ends) areas items work

  abbrev list_v : Verdict
  list_v = areas_verdict (length kinds) (area_for (graph_for blocks edges) kinds touches ends) (areas / range_width)

  -- what is refused before measuring, then number 9
  pub local_verdict : verdict_of blocks edges points kinds touches ends areas items work ≡ first lent_v list_v
  unfolding in_order
  local_verdict =
      order_append lents (list_v ∷ []) ∙ ap (first (in_order lents)) (check_last list_v)
      ∙ ap (λ (v : Verdict). first v list_v) (sym (lent_order blocks edges points kinds touches (length ends) areas items work))

  local_gives : Giving local_give (local_checks blocks edges points kinds touches ends areas items work)
  local_gives =
      giving_append lent_give (ListWord ∷ []) lents (list_v ∷ []) (lent_give_lem blocks edges points kinds touches (length ends) areas items work)
      (check_gives ListWord (ltb (areas / range_width) (ranges_of (tabulate (length kinds) (area_for (graph_for blocks edges) kinds touches ends)))), tt)

  pub local_ordered : Ordered number_of local_give (local_checks blocks edges points kinds touches ends areas items work)
  local_ordered = record { gives = local_gives; rises = refl }
