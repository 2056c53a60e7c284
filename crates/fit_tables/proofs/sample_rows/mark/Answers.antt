-- `mark` meets its contract.
use Rattle.fit_tables.proofs.DrawLaws.{marked_bit, marked_word}
use native.Mathlib.Omega.{arith}
use Rattle.fit_tables.proofs.sample_rows.mark.Goals as goal

pub returns-then-p-step : goal.returns-then-p-step
returns-then-p-step c = marked_word _ c.requires.0 (omega arith) (omega (arith, c.requires.1))

pub returns : goal.returns
returns c =
    marked_bit c.set.ensures (omega (arith, c.requires.1, c.requires.2))
