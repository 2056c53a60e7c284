-- `refuse` meets its contract: the refusal's line, by its number.
use Prim.Native.Nat.{ℕ}
use mathlib.Core.Path.{ap}
use Rattle.text_plan.specs.Printed.{refusal_text}
use Rattle.planning.proofs.AnswerLaws.{printed_as}
use Rattle.planning.proofs.refuse.Goals as goal

pub returns : goal.returns
returns c = printed_as (ap (λ (k : ℕ). refusal_text k c.args.e.1) c.number.ensures) c.print_refusal.ensures
