-- `spread::refusal` meets its contract.
use mathlib.Core.Path.{sym, ◌∙◌}
use Rattle.spread.proofs.Entries.{passing_refused, rest_last}
use Rattle.spread.proofs.refusal.Goals as goal
use Rattle.refusals.proofs.Laws.{handed_on}

pub returns-in_err-rows : goal.returns-in_err-rows
returns-in_err-rows c =
    rw (handed_on c.from_residual.ensures.1)
    (passing_refused c.args.blocks.now c.args.edges.now c.args.points c.args.leaving c.args.passing c.args.words c.args.answer c.args.work _ _
    (sym c.rows.ensures ∙ c.in_err-rows.was))

pub returns : goal.returns
returns c =
    rest_last c.args.blocks.now c.args.edges.now c.args.points c.args.leaving c.args.passing c.args.words c.args.answer c.args.work _
    (sym c.rows.ensures ∙ c.in_ok-rows.was) c.refusal.ensures
