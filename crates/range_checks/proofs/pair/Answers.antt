-- `pair` meets its contract: the second list is looked at where the first is fine.
use mathlib.Core.Path.{sym, ◌∙◌}
use lib.ListN.{length}
use Rattle.refusals.proofs.Laws.{counted_from_none, handed_on}
use Rattle.ranges.specs.Forms.{columns}
use Rattle.ranges.proofs.FormLaws.{columns_length}
use Rattle.range_checks.proofs.VerdictLaws.{pair_first, pair_second}
use Rattle.range_checks.proofs.pair.Goals as goal

pub returns-in_err-list : goal.returns-in_err-list
returns-in_err-list c =
    rw (handed_on c.from_residual.ensures.1)
    (pair_first _ _ _ _ _ (sym (counted_from_none _) ∙ sym c.list.ensures ∙ c.in_err-list.was))

pub returns : goal.returns
returns c =
    let a = c.args in
    c.list-2.ensures ∙ pair_second _ (columns a.start.now a.end.now) (columns a.other_start.now a.other_end.now) (sym (counted_from_none _) ∙ sym c.list.ensures ∙ c.in_ok-list.was) (length a.start.now) (sym (columns_length a.start.now a.end.now c.requires.0))
