-- `share` meets its contract: refused, or measured, fitted and written.
use native.Mathlib.Omega.{arith}
use mathlib.Core.Path.{◌≡◌, sym, ap, subst, ◌∙◌}
use lib.ListN.{length}
use Rattle.job_space.specs.Rows.{Rows}
use Rattle.job_space.specs.Inner.{rows_at}
use Rattle.job_space.specs.Space.{Small, space_of}
use Rattle.job_space.proofs.SpaceLaws.{small_counted}
use Rattle.job.specs.Entry.{lent_verdict}
use Rattle.job.proofs.CheckLaws.{Granted, granted}
use Rattle.job.proofs.EntryLaws.{refused_entry, asked, answered_entry}
use Rattle.job.proofs.share.Goals as goal
use Rattle.job.proofs.share.Goals.{Start}
use Rattle.refusals.proofs.Laws.{handed_on}
use Rattle.refusals.specs.Verdicts.{Fine}

-- the rows that were lent
abbrev lent_rows : Start → Rows
lent_rows c = let a = c.args in rows_at a.head.points a.head.v a.blocks a.edges a.insts a.operands a.crossings a.locals a.slots a.addresses a.ends a.pieces a.assigned a.moves

-- what the checks grant, where they refuse nothing
granted_here : (c : Start) → let a = c.args in lent_verdict (lent_rows c) a.head.terms (length a.cells.now) (length a.items.now) (length a.areas.now) (length a.offsets.now) (length a.work.now) ≡ Fine
    → Granted (lent_rows c) (length a.cells.now) (length a.items.now) (length a.areas.now) (length a.offsets.now) a.work.now
granted_here c = let a = c.args in granted (lent_rows c) a.head.terms (length a.cells.now) (length a.items.now) (length a.areas.now) (length a.offsets.now) a.work.now

pub returns-in_err-refusal : goal.returns-in_err-refusal
returns-in_err-refusal c =
    rw (handed_on c.from_residual.ensures.1)
    (let rows = lent_rows (goal.at.returns-in_err-refusal c).Start in
    let a = c.args in
    refused_entry rows a.head.terms a.cells.now a.items.now a.areas.now a.offsets.now a.work.now _ _ (sym c.refusal.ensures ∙ c.in_err-refusal.was))

pub needed-w-requires : goal.needed-w-requires
needed-w-requires c =
    let g = granted_here (goal.at.needed-w-requires c).Start (sym c.refusal.ensures ∙ c.in_ok-refusal.was) in
    small_counted (subst Small (sym (c.sizes-z.ensures c.args.head.points)) g.lent.passed.small)

pub solve-n-requires : goal.solve-n-requires
solve-n-requires c =
    let g = granted_here (goal.at.solve-n-requires c).Start (sym c.refusal.ensures ∙ c.in_ok-refusal.was) in
    g.lent

pub answer-r-requires : goal.answer-r-requires
answer-r-requires c =
    let rows = lent_rows (goal.at.answer-r-requires c).Start in
    let a = c.args in
    let g = granted_here (goal.at.answer-r-requires c).Start (sym c.refusal.ensures ∙ c.in_ok-refusal.was) in
    asked rows a.head.terms a.cells.now a.items.now a.areas.now a.offsets.now a.work.now g
    c.solve-n.ensures (c.needed-w.ensures ∙ ap space_of (c.sizes-z.ensures a.head.points))

pub clear-requires : goal.clear-requires
clear-requires c =
    let g = granted_here (goal.at.clear-requires c).Start (sym c.refusal.ensures ∙ c.in_ok-refusal.was) in
    omega (arith, g.lent.space, c.needed-w.ensures ∙ ap space_of (c.sizes-z.ensures c.args.head.points), c.solve-n.ensures.kept.len, c.answer-r.ensures.0.len)

pub returns : goal.returns
returns c =
    let rows = lent_rows (goal.at.returns c).Start in
    let a = c.args in
    answered_entry rows a.head.terms a.cells.now a.items.now a.areas.now a.offsets.now a.work.now (sym c.refusal.ensures ∙ c.in_ok-refusal.was)
    c.solve-n.ensures (c.needed-w.ensures ∙ ap space_of (c.sizes-z.ensures a.head.points)) c.answer-r.ensures.0 c.answer-r.ensures.1 c.clear.ensures
