-- Which refusals fitting alone gives, in which order: 1, 7 and 10 before it fits, then 12 and 13 of the plan's cells.
use Prim.Native.Nat.{ℕ}
use mathlib.Core.Path.{◌≡◌, refl, sym}
use mathlib.Core.List.{List, [], ◌∷◌, ◌++◌}
use Rattle.refusals.specs.declared.Refusal.TheVariants.{Count, Space, Want as WantRefused, Align, Depth}
use Rattle.refusals.specs.Verdicts.{number_of, in_order}
use Rattle.refusals.specs.Orders.{Ordered}
use Rattle.refusals.proofs.Orders.{order_append, giving_append}
use Rattle.fitting.specs.Queries.{Room}
use Rattle.fitting.specs.Layout.{rooms_in, layout_checks, layout_verdict, laid_verdict}
use Rattle.fitting.proofs.LayoutLaws.{layout_gives}
use Rattle.want_checks.specs.Checks.{fit_checks, verdict}
use Rattle.want_checks.proofs.OrderLaws.{fit_gives}
use Rattle.wants.specs.Entry.{plan_for}

module _ (wants areas : List ℕ) (locals budget cells items offsets work : ℕ) where
  abbrev rooms : List Room
  rooms = rooms_in (plan_for wants areas budget)

  pub fit_verdict : laid_verdict (verdict wants areas locals budget cells items offsets work) (plan_for wants areas budget) ≡ in_order (fit_checks wants areas locals budget cells items offsets work ++ layout_checks rooms)
  unfolding verdict layout_verdict
  fit_verdict = sym (order_append (fit_checks wants areas locals budget cells items offsets work) (layout_checks rooms))

  pub fit_ordered : Ordered number_of (Count ∷ Space ∷ WantRefused ∷ Align ∷ Depth ∷ []) (fit_checks wants areas locals budget cells items offsets work ++ layout_checks rooms)
  fit_ordered = record {
    gives = giving_append (Count ∷ Space ∷ WantRefused ∷ []) (Align ∷ Depth ∷ []) (fit_checks wants areas locals budget cells items offsets work) (layout_checks rooms)
        (fit_gives wants areas locals budget cells items offsets work) (layout_gives rooms);
    rises = refl;
  }
