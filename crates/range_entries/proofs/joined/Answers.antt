-- `joined` meets its contract: refused, or the list with the new range.
use mathlib.Core.Path.{sym, ◌∙◌}
use native.Mathlib.Omega.{arith}
use lib.ListN.{length}
use Rattle.ranges.specs.Points.{range}
use Rattle.range_entries.proofs.EntryLaws.{joined_fine, listed, unlisted}
use Rattle.range_entries.proofs.joined.Goals as goal
use Rattle.refusals.proofs.Laws.{handed_on}

pub joined-requires : goal.joined-requires
joined-requires c = tt

pub returns-in_err-joined : goal.returns-in_err-joined
returns-in_err-joined c =
    rw (handed_on c.from_residual.ensures.1)
    (unlisted _ _ _ _ _ _ (sym c.joined.ensures ∙ c.in_err-joined.was))

pub join_on-requires : goal.join_on-requires
join_on-requires c =
    let a = c.args in
    let f = (joined_fine a.start.now a.end.now (range a.new_start a.new_end) (length a.out_start.now) (length a.out_end.now) (sym c.joined.ensures ∙ c.in_ok-joined.was)) in
    (f.even, f.answer, f.room)

pub shape_of-out_start : goal.shape_of-out_start
shape_of-out_start c = omega arith

pub shape_of-out_end : goal.shape_of-out_end
shape_of-out_end c = omega arith

pub returns : goal.returns
returns c =
    let a = c.args in
    listed _ _ a.out_start.now a.out_end.now _ _ _ (sym c.joined.ensures ∙ c.in_ok-joined.was) (joined_fine a.start.now a.end.now (range a.new_start a.new_end) (length
    a.out_start.now) (length a.out_end.now) (sym c.joined.ensures ∙ c.in_ok-joined.was)).answer (omega (
      arith,
      (joined_fine a.start.now a.end.now (range a.new_start a.new_end)
          (length a.out_start.now) (length a.out_end.now) (sym c.joined.ensures ∙ c.in_ok-joined.was)).answer,
    )) c.join_on.ensures
