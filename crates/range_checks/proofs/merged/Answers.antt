-- `merged` meets its contract: one law for each way out.
use mathlib.Core.Path.{◌≡◌, sym, ◌∙◌}
use native.Mathlib.Omega.{arith}
use lib.ListN.{length}
use borrow.Author.Tests.{lt-ltb, le-ltb}
use Rattle.words.proofs.Bools.{or_right, or_left}
use Rattle.refusals.proofs.Laws.{counted_from_none}
use Rattle.range_checks.specs.Verdicts.{bad_list, uneven}
use Rattle.range_checks.proofs.VerdictLaws.{even_list, uneven_true, uneven_false, or_false, entry_count, entry_space, entry_lists}
use Rattle.range_checks.proofs.merged.Goals as goal

pub returns-then-bad_list : goal.returns-then-bad_list
returns-then-bad_list c =
    let a = c.args in
    entry_count _ _ (or_left (bad_list a.start.now a.end.now) (uneven a.n a.m) (sym c.bad_list.ensures ∙ c.if-bad_list.true))

pub returns-then-n-m : goal.returns-then-n-m
returns-then-n-m c =
    let a = c.args in
    entry_count _ _ (or_right (bad_list a.start.now a.end.now) (uneven a.n a.m) (uneven_true a.n a.m c.if-n-m.true))

pub returns-then-n-start : goal.returns-then-n-start
returns-then-n-start c =
    let a = c.args in
    entry_space _ _ _ (or_false (bad_list a.start.now a.end.now) (uneven a.n a.m) (sym c.bad_list.ensures ∙ c.if-bad_list.false) (uneven_false a.n a.m c.if-n-m.false)) (lt-ltb _ _ c.if-n-start.true)

pub list-requires : goal.list-requires
list-requires c =
    let a = c.args in
    let e : length a.start.now ≡ length a.end.now = even_list a.start.now a.end.now (sym c.bad_list.ensures ∙ c.if-bad_list.false) in
    omega arith

pub returns : goal.returns
returns c =
    let a = c.args in
    c.list.ensures ∙ counted_from_none _ ∙ entry_lists _ _ _ (or_false (bad_list a.start.now a.end.now) (uneven a.n a.m) (sym c.bad_list.ensures ∙ c.if-bad_list.false) (uneven_false a.n a.m c.if-n-m.false)) (le-ltb _ _ c.if-n-start.false)
