-- `write_items` meets its contract: a row more is written each turn.
use Rattle.words.specs.Widths.{want_present, want_first, want_ranges}
use Rattle.fit_tables.specs.WantTables.{item_row}
use Rattle.words.proofs.FlatLaws.{flat_start, flat_done, four_more}
use Rattle.fit_tables.proofs.WantLaws.{item_row_wide, row_absent, row_present}
use native.Mathlib.Omega.{arith}
use Prim.Native.Nat.{◌+◌}
use lib.ListN.{get_or}
use Rattle.fit_tables.proofs.want_tables.write_items.Goals as goal
use Rattle.fit_tables.proofs.want_tables.write_items.Goals.{then-wants-r-eq0, else-wants-r-eq0}

pub loop-i-init : goal.loop-i-init
loop-i-init c =
    let a = c.args in flat_start 4 a.n (λ j. item_row (get_or a.w.now (a.from + j) 0) (want_present a.wants.now j) (want_first a.wants.now j) (want_ranges a.wants.now j))
    a.items.now (λ j h. item_row_wide a.w.now a.wants.now a.from j) (omega arith)

pub loop-i-preserved : goal.loop-i-preserved
loop-i-preserved c =
    let a = c.args in
    let i = c.loop-i.i in
    let step = four_more a.n (λ j. item_row (get_or a.w.now (a.from + j) 0) (want_present a.wants.now j) (want_first a.wants.now j) (want_ranges a.wants.now j)) _ c.loop-i.items i (omega arith)
    (λ j h. item_row_wide a.w.now a.wants.now a.from j) c.loop-i.invariant in
    let cell = get_or a.w.now (a.from + i) 0 in
    elim c.if-wants-r-eq0.branch [
      | then-wants-r-eq0 u ↦ rw (u.items-is, u.put_row.ensures) (step _ _ _ _ (row_absent cell (want_present a.wants.now i) (want_first a.wants.now i) (want_ranges a.wants.now i) u.if-wants-r-eq0.true))
      | else-wants-r-eq0 u ↦ rw (u.items-is, u.put_row-else-wants-r-eq0.ensures) (step _ _ _ _ (row_present cell (want_present a.wants.now i) (want_first a.wants.now i) (want_ranges a.wants.now i) u.if-wants-r-eq0.false))
    ]

pub returns : goal.returns
returns c =
    let a = c.args in
    flat_done 4 a.n (λ j. item_row (get_or a.w.now (a.from + j) 0) (want_present a.wants.now j) (want_first a.wants.now j) (want_ranges a.wants.now j)) _ _ _
    (λ j h. item_row_wide a.w.now a.wants.now a.from j) c.loop-i.invariant (omega arith)
