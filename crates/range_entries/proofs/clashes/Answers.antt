-- `clashes` meets its contract: refused, or told.
use mathlib.Core.Path.{sym, ◌∙◌}
use native.Mathlib.Omega.{arith}
use Rattle.range_entries.proofs.EntryLaws.{clashes_fine, clash_told, clash_refused}
use Rattle.range_entries.proofs.clashes.Goals as goal
use Rattle.refusals.proofs.Laws.{handed_on}

pub clashes-requires : goal.clashes-requires
clashes-requires c = tt

pub returns-in_err-clashes : goal.returns-in_err-clashes
returns-in_err-clashes c =
    rw (handed_on c.from_residual.ensures.1)
    (clash_refused _ _ _ _ (sym c.clashes.ensures ∙ c.in_err-clashes.was))

pub clash-requires : goal.clash-requires
clash-requires c =
    let a = c.args in
    let f = (clashes_fine a.start.now a.end.now a.other_start.now a.other_end.now (sym c.clashes.ensures ∙ c.in_ok-clashes.was)) in
    (f.even, f.even_two, f.one, f.two)

pub returns : goal.returns
returns c = clash_told _ _ _ (sym c.clashes.ensures ∙ c.in_ok-clashes.was) c.clash.ensures
