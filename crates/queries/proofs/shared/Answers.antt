-- `shared` meets its contract: refused, none, or the part.
use Rattle.query_checks.proofs.CheckLaws.{shared_sound}
use Rattle.queries.proofs.ShareLaws.{share_refused, share_none, share_some, part_past, part_absent, part_lone, part_shared}
use native.Mathlib.Omega.{arith}
use mathlib.Core.Path.{sym, ◌∙◌}
use Rattle.queries.proofs.shared.Goals as goal
use Rattle.refusals.proofs.Laws.{handed_on}

pub returns-in_err-parts : goal.returns-in_err-parts
returns-in_err-parts c =
    rw (handed_on c.from_residual.ensures.1)
    (let a = c.args in share_refused a.cells.now a.items.now a.areas.now a.locals a.i _ _ (sym c.parts.ensures ∙ c.in_err-parts.was))

pub returns-then-locals-i : goal.returns-then-locals-i
returns-then-locals-i c =
    let a = c.args in
    share_none a.cells.now a.items.now a.areas.now a.locals a.i (sym c.parts.ensures ∙ c.in_ok-parts.was)
    (part_past a.cells.now a.items.now a.locals a.i (omega arith))

pub bounds-items-at : goal.bounds-items-at
bounds-items-at c =
    let a = c.args in
    omega (
      arith,
      (shared_sound a.cells.now a.items.now a.areas.now a.locals
          (sym c.parts.ensures ∙ c.in_ok-parts.was)).whole,
    )

pub returns-then-items-at-eq0 : goal.returns-then-items-at-eq0
returns-then-items-at-eq0 c =
    let a = c.args in
    share_none a.cells.now a.items.now a.areas.now a.locals a.i
    (sym c.parts.ensures ∙ c.in_ok-parts.was)
    (part_absent a.cells.now a.items.now a.locals a.i (omega arith) c.if-items-at-eq0.true)

pub bounds-items-at-2 : goal.bounds-items-at-2
bounds-items-at-2 c =
    let a = c.args in
    omega (
      arith,
      (shared_sound a.cells.now a.items.now a.areas.now a.locals
          (sym c.parts.ensures ∙ c.in_ok-parts.was)).whole,
    )

pub returns-then-members-lt2 : goal.returns-then-members-lt2
returns-then-members-lt2 c =
    let a = c.args in
    share_none a.cells.now a.items.now a.areas.now a.locals a.i
    (sym c.parts.ensures ∙ c.in_ok-parts.was)
    (part_lone a.cells.now a.items.now a.locals a.i (omega arith) (omega (arith, c.members.ensures)))

pub bounds-items-at-3 : goal.bounds-items-at-3
bounds-items-at-3 c =
    let a = c.args in
    omega (
      arith,
      (shared_sound a.cells.now a.items.now a.areas.now a.locals (sym
          c.parts.ensures ∙
          c.in_ok-parts.was)).whole,
    )

pub bounds-items-at-4 : goal.bounds-items-at-4
bounds-items-at-4 c =
    let a = c.args in
    omega (
      arith,
      (shared_sound a.cells.now a.items.now a.areas.now a.locals (sym
          c.parts.ensures ∙
          c.in_ok-parts.was)).whole,
    )

pub returns : goal.returns
returns c =
    let a = c.args in
    share_some a.cells.now a.items.now a.areas.now a.locals a.i (sym
    c.parts.ensures ∙
    c.in_ok-parts.was) _ _ (part_shared a.cells.now a.items.now a.locals a.i (omega arith)
    c.if-items-at-eq0.false (omega (arith, c.members.ensures)))
