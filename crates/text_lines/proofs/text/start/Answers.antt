-- `start` meets its contract: the counts are zero.
use mathlib.Core.Path.{refl, ◌∙◌}
use native.Mathlib.Omega.{arith}
use Rattle.text_lines.proofs.ByteLaws.{reading_none}
use Rattle.text_lines.proofs.text.start.Goals as goal

pub returns : goal.returns
returns c =
    reading_none c.requires.0 c.requires.1 (c.fill.ensures.len ∙ c.requires.2) (λ k h. c.fill.ensures.clones k 0 (let l = c.requires.2 in omega arith) refl) refl refl refl refl
