-- `crowded` meets its contract: refused, or the slots listed.
use Rattle.queries.proofs.ShareLaws.{crowded_refused, crowded_told}
use Rattle.query_checks.proofs.CheckLaws.{crowd_passed}
use Rattle.query_checks.proofs.CheckLaws.{sound, named}
use native.Mathlib.Omega.{arith}
use mathlib.Core.Path.{sym, ◌∙◌}
use lib.ListN.{length}
use Rattle.queries.proofs.crowded.Goals as goal
use Rattle.refusals.proofs.Laws.{handed_on}

pub returns-in_err-crowd : goal.returns-in_err-crowd
returns-in_err-crowd c =
    rw (handed_on c.from_residual.ensures.1)
    (let a = c.args in crowded_refused a.cells.now a.items.now a.locals (length a.out.now) a.out.now _ _ (sym c.crowd.ensures ∙ c.in_err-crowd.was))

pub crowded-requires : goal.crowded-requires
crowded-requires c =
    let a = c.args in
    let r = crowd_passed a.cells.now a.items.now a.locals (length a.out.now) (sym c.crowd.ensures ∙ c.in_ok-crowd.was) in
    let s = sound a.cells.now a.items.now a.locals r.plan in
    (s.whole.1, s.whole.0, (λ i h. omega (arith, named a.cells.now a.items.now a.locals r.plan i h, s.enough, s.whole.1)), r.fits)

pub returns : goal.returns
returns c =
    let a = c.args in
    crowded_told a.cells.now a.items.now a.locals (length a.out.now) a.out.now _ _
    (sym c.crowd.ensures ∙ c.in_ok-crowd.was) c.crowded.ensures
