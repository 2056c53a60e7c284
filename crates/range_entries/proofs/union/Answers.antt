-- `union` meets its contract: refused, or united in one pass.
use mathlib.Core.Path.{sym, ◌∙◌}
use native.Mathlib.Omega.{arith}
use lib.ListN.{length}
use Rattle.range_entries.proofs.EntryLaws.{union_fine, listed, unlisted}
use Rattle.range_entries.proofs.union.Goals as goal
use Rattle.refusals.proofs.Laws.{handed_on}

pub union-requires : goal.union-requires
union-requires c = tt

pub returns-in_err-union : goal.returns-in_err-union
returns-in_err-union c =
    rw (handed_on c.from_residual.ensures.1)
    (unlisted _ _ _ _ _ _ (sym c.union.ensures ∙ c.in_err-union.was))

pub unite-requires : goal.unite-requires
unite-requires c =
    let a = c.args in
    let f = (union_fine a.start.now a.end.now a.other_start.now a.other_end.now (length a.out_start.now) (length a.out_end.now) (sym c.union.ensures ∙ c.in_ok-union.was)) in
    (f.1.even, f.1.even_two, f.0.answer, f.0.room, f.1.one, f.1.two)

pub shape_of-out_start : goal.shape_of-out_start
shape_of-out_start c = omega arith

pub shape_of-out_end : goal.shape_of-out_end
shape_of-out_end c = omega arith

pub returns : goal.returns
returns c =
    let a = c.args in
    listed _ _ a.out_start.now a.out_end.now _ _ _ (sym c.union.ensures ∙ c.in_ok-union.was) (union_fine a.start.now a.end.now a.other_start.now a.other_end.now (length
    a.out_start.now) (length a.out_end.now) (sym c.union.ensures ∙ c.in_ok-union.was)).0.answer (omega (
      arith,
      (union_fine a.start.now a.end.now a.other_start.now
          a.other_end.now (length a.out_start.now) (length a.out_end.now) (sym c.union.ensures ∙ c.in_ok-union.was)).0.answer,
    )) c.unite.ensures
