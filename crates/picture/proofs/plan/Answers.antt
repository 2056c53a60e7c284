-- `plan` is safe: a plan has no more than 128 cells.
use native.Mathlib.Omega.{arith}
use mathlib.Core.Path.{refl}
use Rattle.planning.proofs.AnswerLaws.{cells_in}
use Rattle.picture.proofs.plan.Goals as goal

pub held-requires : goal.held-requires
held-requires c = ((c.requires).1, (c.requires).2, omega arith)

pub held-requires-2 : goal.held-requires-2
held-requires-2 c = ((c.requires).1, (c.requires).2, omega arith)

pub records-blocks-requires : goal.records-blocks-requires
records-blocks-requires c =
    (c.requires.0, c.requires.1, c.requires.2, omega arith)

pub overflow_cast-c : goal.overflow_cast-c
overflow_cast-c c =
    let a = c.args in
    let p = c.requires in
    let k = cells_in a.rows.now a.counts.now p.0 p.2 _ _ _ _ _ _ _ _ _ _ _ c.planned-r.ensures refl refl refl refl refl _ _ _ c.in-Ok.is in
    omega arith

pub show-requires : goal.show-requires
show-requires c =
    let a = c.args in
    let p = c.requires in
    let k = cells_in a.rows.now a.counts.now p.0 p.2 _ _ _ _ _ _ _ _ _ _ _ c.planned-r.ensures refl refl refl refl refl _ _ _ c.in-Ok.is in
    (omega arith, omega arith)
