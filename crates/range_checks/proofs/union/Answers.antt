-- `union` meets its contract: one law for each way out.
use mathlib.Core.Path.{◌≡◌, sym, ◌∙◌}
use native.Mathlib.Omega.{arith}
use lib.ListN.{length}
use borrow.Author.Tests.{lt-ltb, le-ltb}
use mathlib.Core.Bool.{◌||◌}
use Rattle.words.proofs.Bools.{or_right, or_left}
use Rattle.range_checks.specs.Verdicts.{bad_list, uneven}
use Rattle.range_checks.proofs.VerdictLaws.{even_list, uneven_true, uneven_false, or_false, entry_count, entry_space, entry_lists}
use Rattle.range_checks.proofs.union.Goals as goal

pub returns-then-bad_list : goal.returns-then-bad_list
returns-then-bad_list c =
    let a = c.args in
    entry_count _ _ (or_left (bad_list a.start.now a.end.now) (bad_list a.other_start.now a.other_end.now || uneven a.n a.m) (sym c.bad_list.ensures ∙ c.if-bad_list.true))

pub returns-then-bad_list-2 : goal.returns-then-bad_list-2
returns-then-bad_list-2 c =
    let a = c.args in
    entry_count _ _ (or_right (bad_list a.start.now a.end.now) (bad_list a.other_start.now a.other_end.now || uneven a.n a.m) (or_left (bad_list a.other_start.now a.other_end.now) (uneven a.n a.m) (sym c.bad_list-2.ensures ∙ c.if-bad_list-2.true)))

pub returns-then-n-m : goal.returns-then-n-m
returns-then-n-m c =
    let a = c.args in
    entry_count _ _ (or_right (bad_list a.start.now a.end.now) (bad_list a.other_start.now a.other_end.now || uneven a.n a.m) (or_right (bad_list a.other_start.now a.other_end.now) (uneven a.n a.m) (uneven_true a.n a.m c.if-n-m.true)))

pub returns-then-n-start : goal.returns-then-n-start
returns-then-n-start c =
    let a = c.args in
    entry_space _ _ _ (or_false (bad_list a.start.now a.end.now) (bad_list a.other_start.now a.other_end.now || uneven a.n a.m) (sym c.bad_list.ensures ∙ c.if-bad_list.false)
    (or_false (bad_list a.other_start.now a.other_end.now) (uneven a.n a.m) (sym c.bad_list-2.ensures ∙ c.if-bad_list-2.false) (uneven_false a.n a.m c.if-n-m.false))) (lt-ltb _
    _ c.if-n-start.true)

pub pair-requires : goal.pair-requires
pair-requires c =
    let a = c.args in
    let e : length a.start.now ≡ length a.end.now = even_list a.start.now a.end.now (sym c.bad_list.ensures ∙ c.if-bad_list.false) in
    let d : length a.other_start.now ≡ length a.other_end.now = even_list a.other_start.now a.other_end.now (sym c.bad_list-2.ensures ∙ c.if-bad_list-2.false) in
    omega arith

pub returns : goal.returns
returns c =
    let a = c.args in
    c.pair.ensures ∙ entry_lists _ _ _ (or_false (bad_list a.start.now a.end.now) (bad_list a.other_start.now a.other_end.now || uneven a.n a.m) (sym c.bad_list.ensures ∙
    c.if-bad_list.false) (or_false (bad_list a.other_start.now a.other_end.now) (uneven a.n a.m) (sym c.bad_list-2.ensures ∙ c.if-bad_list-2.false) (uneven_false a.n a.m
    c.if-n-m.false))) (le-ltb _ _ c.if-n-start.false)
