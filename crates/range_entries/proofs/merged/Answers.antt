-- `merged` meets its contract: refused, or merged.
use mathlib.Core.Path.{sym, ◌∙◌}
use native.Mathlib.Omega.{arith}
use lib.ListN.{length}
use Rattle.range_entries.proofs.EntryLaws.{merged_fine, listed, unlisted}
use Rattle.range_entries.proofs.merged.Goals as goal
use Rattle.refusals.proofs.Laws.{handed_on}

pub merged-requires : goal.merged-requires
merged-requires c = tt

pub returns-in_err-merged : goal.returns-in_err-merged
returns-in_err-merged c =
    rw (handed_on c.from_residual.ensures.1)
    (unlisted _ _ _ _ _ _ (sym c.merged.ensures ∙ c.in_err-merged.was))

pub merge-requires : goal.merge-requires
merge-requires c =
    let a = c.args in
    let f = (merged_fine a.start.now a.end.now (length a.out_start.now) (length a.out_end.now) (sym c.merged.ensures ∙ c.in_ok-merged.was)) in
    (f.even, f.answer, f.room, f.small)

pub shape_of-out_start : goal.shape_of-out_start
shape_of-out_start c = omega arith

pub shape_of-out_end : goal.shape_of-out_end
shape_of-out_end c = omega arith

pub returns : goal.returns
returns c =
    let a = c.args in
    listed _ _ a.out_start.now a.out_end.now _ _ _ (sym c.merged.ensures ∙ c.in_ok-merged.was) (merged_fine a.start.now a.end.now (length a.out_start.now) (length a.out_end.now)
    (sym c.merged.ensures ∙ c.in_ok-merged.was)).answer (omega (
      arith,
      (merged_fine a.start.now a.end.now (length a.out_start.now) (length a.out_end.now) (sym c.merged.ensures
          ∙ c.in_ok-merged.was)).answer,
    )) c.merge.ensures
