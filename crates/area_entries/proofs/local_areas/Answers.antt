-- `local_areas` meets its contract: refused, or measured and listed.
use native.Mathlib.Omega.{arith}
use mathlib.Core.Path.{sym, ◌∙◌}
use lib.ListN.{length}
use Rattle.area_layout.proofs.FitLaws.{small_numbers}
use Rattle.area_checks.proofs.CheckLaws.{lent}
use Rattle.area_entries.proofs.EntryLaws.{refused_entry, answered_entry}
use Rattle.area_entries.proofs.local_areas.Goals as goal
use Rattle.refusals.proofs.Laws.{handed_on}

pub returns-in_err-refusal : goal.returns-in_err-refusal
returns-in_err-refusal c =
    rw (handed_on c.from_residual.ensures.1)
    (let a = c.args in
    refused_entry a.blocks.now a.edges.now a.points a.kinds.now a.touches.now a.ends.now a.areas.now a.items.now a.work.now _ _
    (sym c.refusal.ensures ∙ c.in_err-refusal.was))

pub needed-w-requires : goal.needed-w-requires
needed-w-requires c =
    let a = c.args in
    small_numbers (lent a.blocks.now a.edges.now a.points a.kinds.now a.touches.now a.ends.now (length a.areas.now) (length a.items.now)
    a.work.now (sym c.refusal.ensures ∙ c.in_ok-refusal.was)).0.small

pub solve-n-requires : goal.solve-n-requires
solve-n-requires c =
    let a = c.args in
    (lent a.blocks.now a.edges.now a.points a.kinds.now a.touches.now a.ends.now (length a.areas.now) (length a.items.now) a.work.now
    (sym c.refusal.ensures ∙ c.in_ok-refusal.was)).0

pub list-r-requires : goal.list-r-requires
list-r-requires c =
    let a = c.args in
    let l = (lent a.blocks.now a.edges.now a.points a.kinds.now a.touches.now a.ends.now (length a.areas.now) (length a.items.now) a.work.now
    (sym c.refusal.ensures ∙ c.in_ok-refusal.was)) in
    (record { area = _; found = c.solve-n.ensures.listed }, l.1, l.0.small.few_ranges, omega (arith, l.0.space, c.solve-n.ensures.kept.len))

pub clear-requires : goal.clear-requires
clear-requires c =
    let a =
    c.args in
    let l = (lent a.blocks.now a.edges.now a.points a.kinds.now a.touches.now a.ends.now (length a.areas.now) (length a.items.now) a.work.now
    (sym c.refusal.ensures ∙
    c.in_ok-refusal.was)) in
    omega (
      arith,
      l.0.space,
      c.solve-n.ensures.kept.len,
      c.needed-w.ensures,
    )

pub returns : goal.returns
returns c =
    let a = c.args in
    answered_entry a.blocks.now a.edges.now a.points a.kinds.now a.touches.now a.ends.now a.areas.now a.items.now a.work.now
    (sym c.refusal.ensures ∙ c.in_ok-refusal.was)
    (c.list-r.ensures _ c.solve-n.ensures.listed) c.solve-n.ensures.kept c.needed-w.ensures
    c.clear.ensures
