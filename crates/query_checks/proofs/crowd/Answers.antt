-- `crowd` meets its contract: one law for each way out.
use Rattle.query_checks.proofs.CheckLaws.{crowd_count, crowd_space, crowd_plan}
use Rattle.query_checks.proofs.CheckLaws.{locals_fit}
use native.Mathlib.Omega.{arith}
use mathlib.Core.Path.{sym, ◌∙◌}
use Rattle.query_checks.proofs.crowd.Goals as goal

pub returns-then-bad_count : goal.returns-then-bad_count
returns-then-bad_count c = let a = c.args in crowd_count a.cells.now a.items.now a.locals a.room (sym c.bad_count.ensures ∙ c.if-bad_count.true)

pub overflow_sub-items : goal.overflow_sub-items
overflow_sub-items c = let a = c.args in omega (arith, locals_fit a.cells.now a.items.now a.locals (sym c.bad_count.ensures ∙ c.if-bad_count.false))

pub returns-then-room-items : goal.returns-then-room-items
returns-then-room-items c = let a = c.args in crowd_space a.cells.now a.items.now a.locals a.room (sym c.bad_count.ensures ∙ c.if-bad_count.false) c.if-room-items.true

pub returns : goal.returns
returns c = let a = c.args in c.plan.ensures ∙ crowd_plan a.cells.now a.items.now a.locals a.room (sym c.bad_count.ensures ∙ c.if-bad_count.false) c.if-room-items.false
