-- `follows` meets its contract: the difference is 1.
use Prim.Native.Nat.{◌+◌, ◌-◌}
use mathlib.Core.Path.{sym, ◌∙◌}
use native.Mathlib.Omega.{arith}
use borrow.Author.Tests.{ne_eqb, le-ltb}
use Rattle.columns.proofs.TestLaws.{eqb_iff}
use Rattle.columns.proofs.follows.Goals as goal

pub returns-then-end-start : goal.returns-then-end-start
returns-then-end-start c = let a = c.args in eqb_iff (a.start - a.end) 1 a.start (a.end + 1) (λ e. omega arith) (λ e. omega arith)

pub returns-else-end-start : goal.returns-else-end-start
returns-else-end-start c =
    let a = c.args in
    le-ltb a.end a.start (omega arith) ∙ sym (ne_eqb a.start (a.end + 1) (λ e. omega arith))
