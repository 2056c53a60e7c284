-- `follows` meets its contract.
use native.Mathlib.Omega.{arith}
use Prim.Native.Nat.{ℕ, ◌+◌, ◌-◌, ◌<◌}
use mathlib.Core.Path.{◌≡◌, sym, ◌∙◌}
use Rattle.words.proofs.Points.{same}
use lib.Dec.{eqb}
use borrow.Author.Tests.{eq-eqb, ne_eqb}
use Rattle.line_checks.proofs.follows.Goals as goal

pub returns-then-start-last : goal.returns-then-start-last
returns-then-start-last c = sym (ne_eqb c.args.start (c.args.last + 1) (omega arith))

tell : (s l : ℕ) → l < s → eqb (s - l) 1 ≡ eqb s (l + 1)
tell s l h = same s (l + 1)
    (λ e. eq-eqb (s - l) 1 (omega arith) ∙ sym (eq-eqb s (l + 1) e))
    (λ e. ne_eqb (s - l) 1 (omega arith) ∙ sym (ne_eqb s (l + 1) e))

pub returns : goal.returns
returns c = tell c.args.start c.args.last (omega arith)
