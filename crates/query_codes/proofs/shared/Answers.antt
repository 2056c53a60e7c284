-- `shared` meets its contract: a list that is too short is refused in its place, else the entry's answer is told.
use Rattle.refusals.specs.declared.Refusal.TheVariants.{Count, Space}
use Rattle.query_checks.proofs.CheckLaws.{told_count, told_space}
use Rattle.query_codes.proofs.CodeLaws.{told_refused, told_as}
use native.Mathlib.Omega.{arith}
use mathlib.Core.Path.{sym, ◌∙◌}
use lib.ListN.{length}
use Rattle.query_codes.proofs.shared.Goals as goal

pub counts-requires : goal.counts-requires
counts-requires c = tt

pub refused-requires : goal.refused-requires
refused-requires c = tt

pub returns-then-counts : goal.returns-then-counts
returns-then-counts c =
    let a = c.args in
    told_refused a.cells.now a.items.now a.areas.now a.locals a.i a.part.now Count 0
    (told_count a.cells.now a.items.now a.areas.now a.locals (length a.part.now) (sym c.counts.ensures ∙ c.if-counts.true))
    c.refused.ensures

pub refused-requires-then-part-lt2 : goal.refused-requires-then-part-lt2
refused-requires-then-part-lt2 c = tt

pub returns-then-part-lt2 : goal.returns-then-part-lt2
returns-then-part-lt2 c =
    let a = c.args in
    told_refused a.cells.now a.items.now a.areas.now a.locals a.i a.part.now Space 0 (told_space a.cells.now a.items.now a.areas.now
    a.locals (length a.part.now) (sym c.counts.ensures ∙ c.if-counts.false) c.if-part-lt2.true) c.refused-then-part-lt2.ensures

pub shared-s-requires : goal.shared-s-requires
shared-s-requires c = tt

pub tell-requires : goal.tell-requires
tell-requires c = omega arith

pub shape_of-part : goal.shape_of-part
shape_of-part c = omega arith

pub returns : goal.returns
returns c =
    let a = c.args in
    told_as a.cells.now a.items.now a.areas.now a.locals a.i a.part.now c.shared-s.result c.if-part-lt2.false c.shared-s.ensures
    c.tell.ensures
