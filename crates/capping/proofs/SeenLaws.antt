-- `cap` of a plan that was written is not refused, and the queries see the plan with its cells' alignments lowered.
use Prim.Native.Nat.{ℕ, ◌+◌, ◌-◌, ◌%◌, ◌<◌}
use native.Mathlib.Omega.{arith}
use mathlib.Core.Path.{◌≡◌, refl, ap, sym, subst, ◌∙◌}
use mathlib.Core.List.{List}
use lib.ListN.{length, get_or}
use borrow.Author.Tests.{le-ltb, eq-eqb}
use Rattle.words.specs.Rows.{field, tabulate}
use Rattle.words.specs.Widths.{cell_width, cell_count, cell_size, cell_align}
use Rattle.words.proofs.RowLaws.{map_tabulate}
use Rattle.words.proofs.FlatLaws.{flat_length, flat_at}
use Rattle.fitting.specs.Queries.{Room, Item, Slots, cap}
use Rattle.queries.specs.Seen.{PlanSeen}
use Rattle.queries.proofs.SeenLaws.{RowsHold, plan_by, plan_seen}
use Rattle.capping.specs.Cap.{cap_verdict, cap_rows}
use Rattle.capping.specs.Inner.{capped_plan}
use Rattle.capping.proofs.CapLaws.{cap_row}
use Rattle.refusals.specs.Verdicts.{Fine}

module _ {cells items areas : List ℕ} {locals c n : ℕ} {room : ℕ → Room} {item : ℕ → Item} (H : RowsHold cells items areas locals c n room item) where
  pub cap_passes : cap_verdict cells c ≡ Fine
  cap_passes =
      simp (
        eq-eqb (length cells % cell_width) 0 (omega (arith, H.cells_long)),
        le-ltb (cell_count cells) c (omega (arith, H.cells_long)),
        le-ltb 4096 c (omega (arith, H.few_cells, H.locals_in, H.few_locals, H.few_slots)),
      )

  module _ (most : ℕ) where
    row_at : (i f : ℕ) → i < c → f < 2 → field cell_width (cap_rows cells c most) i f ≡ get_or (cap_row cells most i) f 0
    row_at i f h k = flat_at 2 c (cap_row cells most) (λ j q. refl) i f h k

    room_capped : (i : ℕ) → i < c → record { size = cell_size (cap_rows cells c most) i; align = cell_align (cap_rows cells c most) i } ≡ cap most (room i)
    room_capped i h = two (row_at i 0 h (omega arith)) (row_at i 1 h (omega arith)) ∙ ap (cap most) (H.room_is i h)
      where
        two : {x y a b : ℕ} → x ≡ a → y ≡ b → ◌≡◌ {A = Room} (record { size = x; align = y }) (record { size = a; align = b })
        two e f = rw (e, f) refl

    pub cap_held : RowsHold (cap_rows cells c most) items areas locals c n (λ i. cap most (room i)) item
    cap_held = record {
      cells_long = flat_length 2 c (cap_row cells most) (λ i h. refl);
      items_long = H.items_long;
      areas_whole = H.areas_whole;
      areas_short = H.areas_short;
      locals_in = H.locals_in;
      few_locals = H.few_locals;
      few_slots = H.few_slots;
      few_cells = H.few_cells;
      room_is = room_capped;
      cell_is = H.cell_is;
      named = H.named;
      area_is = H.area_is;
      inside = H.inside;
    }

    -- each query of the capped rows is the definition's of the capped plan
    pub capped_seen : (S : Slots) → plan_by locals c n room item ≡ S → PlanSeen (capped_plan most S) locals (cap_rows cells c most) items areas
    capped_seen S e =
        subst (λ (T : Slots). PlanSeen T locals (cap_rows cells c most) items areas)
        (ap (λ (l : List Room). record { cells = l; locals = tabulate locals item; slots = tabulate (n - locals) (λ i. item (locals + i)) }) (sym (map_tabulate (cap most) c room)) ∙ ap (capped_plan most) e)
        (plan_seen cap_held)
