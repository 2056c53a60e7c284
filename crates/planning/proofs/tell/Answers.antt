-- `tell` meets its contract, by what the reader left.
use Rattle.planning.proofs.AnswerLaws.{few_of, accepted, turned_back, printed_as}
use Rattle.planning.proofs.tell.Goals as goal

pub plan-requires : goal.plan-requires
plan-requires c =
    let a = c.args in
    (c.requires.rows_length, c.requires.counts_length, few_of c.requires.text a.rows.now a.counts.now c.in-Ok.is c.requires.finished)

pub returns-in-Ok : goal.returns-in-Ok
returns-in-Ok c =
    let a = c.args in
    λ text f. printed_as (accepted text a.rows.now a.counts.now c.in-Ok.is f) c.plan.ensures

pub returns-in-Err : goal.returns-in-Err
returns-in-Err c =
    let a = c.args in
    λ text f. printed_as (turned_back text a.rows.now a.counts.now _ _ c.in-Err.is f) c.refuse.ensures
