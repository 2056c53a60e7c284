-- `joined` meets its contract: one law for each way out.
use mathlib.Core.Path.{◌≡◌, sym, ◌∙◌}
use native.Mathlib.Omega.{arith}
use lib.ListN.{length}
use borrow.Author.Tests.{lt-ltb, le-ltb}
use mathlib.Core.List.{[], ◌∷◌}
use Prim.Native.Nat.{◌+◌}
use Rattle.words.proofs.Bools.{or_right, or_left}
use Rattle.refusals.proofs.Laws.{counted_from_none, handed_on}
use Rattle.ranges.specs.Forms.{columns}
use Rattle.ranges.specs.Points.{range}
use Rattle.ranges.proofs.FormLaws.{columns_length}
use Rattle.range_checks.specs.Verdicts.{bad_list, uneven}
use Rattle.range_checks.proofs.VerdictLaws.{even_list, uneven_true, uneven_false, or_false, entry_count, entry_space, entry_lists, pair_first, pair_new_bad, pair_new_fine}
use Rattle.range_checks.proofs.joined.Goals as goal

pub returns-then-bad_list : goal.returns-then-bad_list
returns-then-bad_list c =
    let a = c.args in
    entry_count _ _ (or_left (bad_list a.start.now a.end.now) (uneven a.n a.m) (sym c.bad_list.ensures ∙ c.if-bad_list.true))

pub returns-then-n-m : goal.returns-then-n-m
returns-then-n-m c =
    let a = c.args in
    entry_count _ _ (or_right (bad_list a.start.now a.end.now) (uneven a.n a.m) (uneven_true a.n a.m c.if-n-m.true))

pub returns-then-n-start : goal.returns-then-n-start
returns-then-n-start c =
    let a = c.args in
    entry_space _ _ _ (or_false (bad_list a.start.now a.end.now) (uneven a.n a.m) (sym c.bad_list.ensures ∙ c.if-bad_list.false) (uneven_false a.n a.m c.if-n-m.false)) (lt-ltb a.n (length a.start.now + 1) (omega arith))

pub list-requires : goal.list-requires
list-requires c =
    let a = c.args in
    let e : length a.start.now ≡ length a.end.now = even_list a.start.now a.end.now (sym c.bad_list.ensures ∙ c.if-bad_list.false) in
    omega arith

pub returns-in_err-list : goal.returns-in_err-list
returns-in_err-list c =
    rw (handed_on c.from_residual.ensures.1)
    (let a = c.args in
    pair_first _ _ (range a.s a.e ∷ []) _ _ (sym (counted_from_none _) ∙ sym c.list.ensures ∙ c.in_err-list.was) ∙ entry_lists _ _ _ (or_false (bad_list a.start.now a.end.now) (uneven
    a.n a.m) (sym c.bad_list.ensures ∙ c.if-bad_list.false) (uneven_false a.n a.m c.if-n-m.false)) (le-ltb a.n (length a.start.now + 1) (omega arith)))

pub returns-then-e-s : goal.returns-then-e-s
returns-then-e-s c =
    let a = c.args in
    pair_new_bad (columns a.start.now a.end.now) a.s a.e (length a.start.now) (sym (counted_from_none _) ∙ sym c.list.ensures ∙ c.in_ok-list.was) (sym (columns_length a.start.now
    a.end.now (even_list a.start.now a.end.now (sym c.bad_list.ensures ∙ c.if-bad_list.false)))) c.if-e-s.true ∙ entry_lists _ _ _ (or_false (bad_list a.start.now a.end.now)
    (uneven a.n a.m) (sym c.bad_list.ensures ∙ c.if-bad_list.false) (uneven_false a.n a.m c.if-n-m.false)) (le-ltb a.n (length a.start.now + 1) (omega arith))

pub returns : goal.returns
returns c =
    let a = c.args in
    pair_new_fine (columns a.start.now a.end.now) a.s a.e (sym (counted_from_none _) ∙ sym c.list.ensures ∙ c.in_ok-list.was) c.if-e-s.false ∙ entry_lists _ _ _ (or_false
    (bad_list a.start.now a.end.now) (uneven a.n a.m) (sym c.bad_list.ensures ∙ c.if-bad_list.false) (uneven_false a.n a.m c.if-n-m.false)) (le-ltb a.n (length a.start.now + 1) (omega arith))
