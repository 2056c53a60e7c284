-- `clashes` meets its contract: one law for each way out.
use mathlib.Core.Path.{◌≡◌, sym, ◌∙◌}
use native.Mathlib.Omega.{arith}
use lib.ListN.{length}
use Rattle.words.proofs.Bools.{or_right, or_left}
use Rattle.range_checks.specs.Verdicts.{bad_list}
use Rattle.range_checks.proofs.VerdictLaws.{even_list, or_false, entry_count, test_lists}
use Rattle.range_checks.proofs.clashes.Goals as goal

pub returns-then-bad_list : goal.returns-then-bad_list
returns-then-bad_list c =
    let a = c.args in
    entry_count _ _ (or_left (bad_list a.start.now a.end.now) (bad_list a.other_start.now a.other_end.now) (sym c.bad_list.ensures ∙ c.if-bad_list.true))

pub returns-then-bad_list-2 : goal.returns-then-bad_list-2
returns-then-bad_list-2 c =
    let a = c.args in
    entry_count _ _ (or_right (bad_list a.start.now a.end.now) (bad_list a.other_start.now a.other_end.now) (sym c.bad_list-2.ensures ∙ c.if-bad_list-2.true))

pub pair-requires : goal.pair-requires
pair-requires c =
    let a = c.args in
    let e : length a.start.now ≡ length a.end.now = even_list a.start.now a.end.now (sym c.bad_list.ensures ∙ c.if-bad_list.false) in
    let d : length a.other_start.now ≡ length a.other_end.now = even_list a.other_start.now a.other_end.now (sym c.bad_list-2.ensures ∙ c.if-bad_list-2.false) in
    omega arith

pub returns : goal.returns
returns c =
    let a = c.args in
    c.pair.ensures ∙ test_lists _ _ (or_false (bad_list a.start.now a.end.now) (bad_list a.other_start.now a.other_end.now) (sym c.bad_list.ensures ∙ c.if-bad_list.false) (sym c.bad_list-2.ensures ∙ c.if-bad_list-2.false))
