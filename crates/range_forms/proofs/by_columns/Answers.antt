-- `by_columns` meets its contract: the test over the lists' columns is that over the lists.
use Rattle.std.proofs.Common.{rules, of_calls}
use Rattle.std.proofs.lemmas.Fn.{always_returns_same}
use mathlib.Core.Bool.{true, false}
use mathlib.Core.Logic.{⊎_elim}
use mathlib.Core.Path.{◌∙◌}
use native.Mathlib.Omega.{arith}
use lib.ListN.{length-replicate}
use Rattle.range_forms.proofs.ColumnLaws.{Apart, column_of, over_fine, over_lists, within_first, within_second}
use Rattle.range_forms.proofs.by_columns.Goals as goal

pub returns-then-a : goal.returns-then-a
returns-then-a g c = ⊎_elim (λ h. within_first _ _ _ h) (λ h. within_second _ _ _ h.0 h.1) c.then-a.either

pub returns : goal.returns
returns g c =
    let a : Apart g.row.K c.args.a.now c.column.new.out c.column-2.new.out =
    record {
      starts_long = omega arith;
      ends_long = omega arith;
      in_starts = column_of g.row.K _ _ _ _ (length-replicate _ _) (c.column.ensures false (always_returns_same _ _ _ (λ x r f k. search (rules, of_calls))));
      in_ends = column_of g.row.K _ _ _ _ (length-replicate _ _) (c.column-2.ensures true (always_returns_same _ _ _ (λ x r f k. search (rules, of_calls))));
    } in
    let b : Apart g.row.K c.args.b.now c.column-3.new.out c.column-4.new.out =
    record {
      starts_long = omega arith;
      ends_long = omega arith;
      in_starts = column_of g.row.K _ _ _ _ (length-replicate _ _) (c.column-3.ensures false (always_returns_same _ _ _ (λ x r f k. search (rules, of_calls))));
      in_ends = column_of g.row.K _ _ _ _ (length-replicate _ _) (c.column-4.ensures true (always_returns_same _ _ _ (λ x r f k. search (rules, of_calls))));
    } in
    c.clashes.ensures ∙ over_fine _ _ _ _ _ _ _ (omega arith) (omega arith) ∙ over_lists _ _ _ _ _ _ _ a b
