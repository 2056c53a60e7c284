-- `rows` meets its contract: a law for each way out.
use native.Mathlib.Omega.{arith}
use Prim.Native.Nat.{ℕ, ◌*◌}
use mathlib.Core.Path.{◌≡◌, ap, ◌∙◌}
use Rattle.line_checks.proofs.Refusals.{rows_fine, rows_bad, quotient, quotient_not, remainder_not}
use Rattle.line_checks.proofs.rows.Goals as goal

nothing : (a n w : ℕ) → w ≡ 0 → a ≡ 0 → a ≡ n * w
nothing a n w e f = rw (e, f) (omega arith)

something : (a n w : ℕ) → w ≡ 0 → (a ≡ 0 → ⊥) → a ≡ n * w → ⊥
something a n w e f g = f (g ∙ ap (λ (y : ℕ). n * y) e ∙ omega arith)

pub returns-then-lent-eq0 : goal.returns-then-lent-eq0
returns-then-lent-eq0 c = rows_fine c.args.lent c.args.n c.args.words (nothing _ _ _ (omega arith) (omega arith))

pub returns-then-words-eq0 : goal.returns-then-words-eq0
returns-then-words-eq0 c =
    rows_bad c.args.lent c.args.n c.args.words (something _ _ _ (omega arith) (omega arith))

pub returns-then-lent-words : goal.returns-then-lent-words
returns-then-lent-words c =
    rows_bad c.args.lent c.args.n c.args.words (quotient_not c.args.lent c.args.n c.args.words (omega arith) (omega arith))

pub returns-then-lent-words-ne0 : goal.returns-then-lent-words-ne0
returns-then-lent-words-ne0 c =
    rows_bad c.args.lent c.args.n c.args.words (remainder_not c.args.lent c.args.n c.args.words (omega arith) (omega arith) (omega arith))

pub returns : goal.returns
returns c =
    rows_fine c.args.lent c.args.n c.args.words (quotient c.args.lent c.args.n c.args.words (omega arith) (omega arith) (omega arith))
