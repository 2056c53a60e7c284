-- `follow::walks::step` meets its contract: two bits are read, and the register's edges taken.
use mathlib.Core.Path.{ap, ◌∙◌}
use mathlib.Core.Bool.{Bool, ◌||◌}
use Rattle.follow.proofs.walks.step.Goals as goal

pub returns : goal.returns
returns c =
    record {
      grown = (c.grow-n).ensures;
      escapes = (c.either-escapes).ensures ∙ ap
          (λ (t : Bool). (c.args).s.escapes || t) (c.test).ensures;
      bad =
          (c.either-bad).ensures ∙ ap (λ (t : Bool). (c.args).s.bad || t) (c.test-2).ensures;
    }
