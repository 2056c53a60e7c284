-- What is refused before anything is measured, as one list of checks: which refusal each gives.
use Prim.Native.Nat.{ℕ, ◌/◌}
use mathlib.Core.Path.{◌≡◌, refl, sym, ap, ◌∙◌}
use mathlib.Core.Bool.{◌||◌}
use mathlib.Core.List.{List, [], ◌∷◌, ◌++◌}
use lib.ListN.{length}
use lib.Dec.{ltb}
use Rattle.refusals.specs.declared.Refusal.TheVariants.{Count, Line, Edge, Inst, Piece, Space}
use Rattle.refusals.specs.Verdicts.{number_of, first, in_order, Verdict}
use Rattle.refusals.specs.Orders.{Giving, Ordered}
use Rattle.refusals.proofs.Orders.{check_gives, scan_gives, order_two, order_more, order_append}
use Rattle.graph.specs.Checks.{bad_count, graph_checks, graph_verdict}
use Rattle.insts.specs.Inner.{bad_rows}
use Rattle.insts.specs.Counts.{rows_verdict, most_verdict}
use Rattle.area_layout.specs.Layout.{space_for}
use Rattle.area_checks.specs.Checks.{row_counts, sizes_of, kinds_verdict, touch_verdict, space_verdict, lent_verdict, lent_checks, lent_give}
use Rattle.words.specs.Widths.{touch_width, stop_width, part_width, range_width}

module _ (blocks edges : List ℕ) (points : ℕ) (kinds touches : List ℕ) (ends areas items work : ℕ) where
  abbrev counts : List Verdict
  counts = most_verdict 2048 (length kinds) ∷ rows_verdict touch_width 65536 (length touches) ∷ rows_verdict stop_width 65536 ends ∷ rows_verdict range_width 65536 areas ∷ rows_verdict part_width items items ∷ []

  abbrev graph : List Verdict
  graph = graph_checks blocks edges points

  abbrev rest : List Verdict
  rest = kinds_verdict kinds ∷ touch_verdict blocks touches ∷ space_verdict (sizes_of blocks edges (length kinds) (length touches) ends areas) items work ∷ []

  counts_order : row_counts (length kinds) (length touches) ends areas items ≡ in_order counts
  unfolding row_counts
  counts_order =
      order_more _ (rows_verdict touch_width 65536 (length touches) ∷ rows_verdict stop_width 65536 ends ∷ rows_verdict range_width 65536 areas ∷ rows_verdict part_width items items ∷ [])
      (order_more _ (rows_verdict stop_width 65536 ends ∷ rows_verdict range_width 65536 areas ∷ rows_verdict part_width items items ∷ [])
      (order_more _ (rows_verdict range_width 65536 areas ∷ rows_verdict part_width items items ∷ []) (order_two _ _)))

  graph_order : graph_verdict blocks edges points ≡ in_order graph
  unfolding graph_verdict
  graph_order = refl

  pub lent_order : lent_verdict blocks edges points kinds touches ends areas items work ≡ in_order (lent_checks blocks edges points kinds touches ends areas items work)
  unfolding lent_verdict
  lent_order =
      ap (λ (v : Verdict). first v (first (graph_verdict blocks edges points) (first (kinds_verdict kinds) (first (touch_verdict blocks touches) (space_verdict (sizes_of blocks edges (length kinds) (length touches) ends areas) items work))))) counts_order
      ∙ ap (λ (v : Verdict). first (in_order counts) (first v (first (kinds_verdict kinds) (first (touch_verdict blocks touches) (space_verdict (sizes_of blocks edges (length kinds) (length touches) ends areas) items work))))) graph_order
      ∙ ap (λ (v : Verdict). first (in_order counts) (first (in_order graph) v)) (order_more _ (touch_verdict blocks touches ∷ space_verdict (sizes_of blocks edges (length kinds) (length touches) ends areas) items work ∷ []) (order_two _ _))
      ∙ ap (first (in_order counts)) (sym (order_append graph rest)) ∙ sym (order_append counts (graph ++ rest))

  pub lent_give_lem : Giving lent_give (lent_checks blocks edges points kinds touches ends areas items work)
  lent_give_lem = (
    check_gives Count (ltb 2048 (length kinds)),
    (
      check_gives Count (bad_rows touch_width 65536 (length touches)),
      (
        check_gives Count (bad_rows stop_width 65536 ends),
        (
          check_gives Count (bad_rows range_width 65536 areas),
          (
            check_gives Count (bad_rows part_width items items),
            (
              check_gives Count (bad_count blocks edges),
              (
                scan_gives Line _ _,
                (
                  scan_gives Edge _ _,
                  (
                    scan_gives Inst _ _,
                    (scan_gives Piece _ _, (check_gives Space (ltb work (space_for (sizes_of blocks edges (length kinds) (length touches) ends areas)) || ltb (items / part_width) (length kinds)), tt)),
                  ),
                ),
              ),
            ),
          ),
        ),
      ),
    ),
  )

  pub lent_ordered : Ordered number_of lent_give (lent_checks blocks edges points kinds touches ends areas items work)
  lent_ordered = record { gives = lent_give_lem; rises = refl }
