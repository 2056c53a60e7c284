-- `write_cells` meets its contract: a row of the halves of each word, less nothing.
use Prim.Native.Nat.{ℕ, ◌+◌, ◌*◌}
use native.Mathlib.Nat.{sub-zero}
use mathlib.Core.Path.{ap, ◌∙◌}
use mathlib.Core.List.{List, ◌++◌}
use lib.ListN.{get_or, drop}
use Rattle.words.specs.Rows.{flat}
use Rattle.words.proofs.RowLaws.{tabulate_eq}
use Rattle.answer_rows.specs.Inner.{halves}
use Rattle.fit_tables.proofs.want_tables.write_cells.Goals as goal

pub returns : goal.returns
returns c =
    let a = c.args in
    c.write_rows.ensures ∙ ap (λ (l : List (List ℕ)). flat l ++ drop (2 * a.n) a.cells.now) (tabulate_eq a.n _ _ (λ i h. ap halves (sub-zero (get_or a.w.now (a.from + i) 0))))
