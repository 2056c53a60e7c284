-- `item_areas` meets its contract: refused, or measured and listed.
use native.Mathlib.Omega.{arith}
use mathlib.Core.Path.{◌≡◌, sym, ap, subst, ◌∙◌}
use Prim.Native.Nat.{◌+◌, ◌*◌, ◌≤◌}
use lib.ListN.{length}
use Rattle.words.specs.Widths.{part_width}
use Rattle.job_areas.specs.Inner.{Lent}
use Rattle.job_space.specs.Rows.{Rows}
use Rattle.job_space.specs.Inner.{rows_at}
use Rattle.job_space.specs.Space.{sizes_of, Small, space_of}
use Rattle.job_space.proofs.SpaceLaws.{small_counted}
use Rattle.item_areas.specs.Entry.{lent_verdict}
use Rattle.item_areas.proofs.CheckLaws.{lent}
use Rattle.item_areas.proofs.EntryLaws.{refused_entry, listed_all, list_asked, answered_entry}
use Rattle.item_areas.proofs.item_areas.Goals as goal
use Rattle.item_areas.proofs.item_areas.Goals.{Start}
use Rattle.refusals.proofs.Laws.{handed_on}
use Rattle.refusals.specs.Verdicts.{Fine}

-- the rows that were lent
abbrev lent_rows : Start → Rows
lent_rows c = let a = c.args in rows_at a.points a.v a.blocks a.edges a.insts a.operands a.crossings a.locals a.slots a.addresses a.ends a.pieces a.assigned a.moves

-- what the checks grant, where they refuse nothing
lent_here : (c : Start) → let a = c.args in lent_verdict (lent_rows c) (length a.areas.now) (length a.items.now) (length a.work.now) ≡ Fine
    → Lent (lent_rows c) (length a.areas.now) a.work.now × (part_width * ((sizes_of (lent_rows c) (length a.areas.now)).locals + (sizes_of (lent_rows c) (length a.areas.now)).slots) ≤ length a.items.now)
lent_here c = let a = c.args in lent (lent_rows c) (length a.areas.now) (length a.items.now) a.work.now

pub returns-in_err-refusal : goal.returns-in_err-refusal
returns-in_err-refusal c =
    rw (handed_on c.from_residual.ensures.1)
    (let rows = lent_rows (goal.at.returns-in_err-refusal c).Start in
    let a = c.args in
    refused_entry rows a.areas.now a.items.now a.work.now _ _ (sym c.refusal.ensures ∙ c.in_err-refusal.was))

pub needed-w-requires : goal.needed-w-requires
needed-w-requires c =
    let granted = lent_here (goal.at.needed-w-requires c).Start (sym c.refusal.ensures ∙ c.in_ok-refusal.was) in
    small_counted (subst Small (sym (c.sizes-z.ensures c.args.points)) granted.0.passed.small)

pub solve-n-requires : goal.solve-n-requires
solve-n-requires c =
    (lent_here (goal.at.solve-n-requires c).Start (sym c.refusal.ensures ∙ c.in_ok-refusal.was)).0

pub overflow_add-z : goal.overflow_add-z
overflow_add-z c =
    let granted = lent_here (goal.at.overflow_add-z c).Start (sym c.refusal.ensures ∙ c.in_ok-refusal.was) in
    let S = subst Small (sym (c.sizes-z.ensures c.args.points)) granted.0.passed.small in
    omega (arith, S.few_locals, S.few_slots)

pub list-r-requires : goal.list-r-requires
list-r-requires c =
    let rows = lent_rows (goal.at.list-r-requires c).Start in
    let a = c.args in
    let l = lent_here (goal.at.list-r-requires c).Start (sym c.refusal.ensures ∙ c.in_ok-refusal.was) in
    list_asked rows a.areas.now a.items.now l.0 l.1 _ (c.sizes-z.ensures c.args.points)
    c.solve-n.ensures

pub clear-requires : goal.clear-requires
clear-requires c =
    let l = lent_here (goal.at.clear-requires c).Start (sym c.refusal.ensures ∙ c.in_ok-refusal.was) in
    omega (arith, l.0.space, c.needed-w.ensures ∙ ap space_of (c.sizes-z.ensures c.args.points), c.solve-n.ensures.kept.len)

pub returns : goal.returns
returns c =
    let rows = lent_rows (goal.at.returns c).Start in
    let a = c.args in
    answered_entry rows a.areas.now a.items.now a.work.now (sym c.refusal.ensures ∙ c.in_ok-refusal.was)
    (listed_all rows a.areas.now a.items.now _ (c.sizes-z.ensures c.args.points) c.solve-n.ensures c.list-r.ensures)
    c.solve-n.ensures.kept (c.needed-w.ensures ∙ ap space_of (c.sizes-z.ensures c.args.points)) c.clear.ensures
