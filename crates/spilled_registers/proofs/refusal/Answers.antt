-- `spilled_registers::refusal` meets its contract: the checks in their order.
use mathlib.Core.Path.{sym, ap, ◌∙◌}
use Rattle.spilled_registers.proofs.SpilledLaws.{few_assigned, by_counts, by_rest}
use Rattle.spilled_registers.specs.Spilled.{spilled_room}
use Rattle.spilled_registers.proofs.refusal.Goals as goal
use Rattle.refusals.proofs.Laws.{handed_on}

pub returns-in_err-counts : goal.returns-in_err-counts
returns-in_err-counts c =
    rw (handed_on c.from_residual.ensures.1)
    (by_counts c.args.v c.args.slots c.args.assigned.now c.args.lent c.args.work _ _
    (sym c.counts.ensures ∙ c.in_err-counts.was))

pub needed-w-requires : goal.needed-w-requires
needed-w-requires c =
    few_assigned c.args.v c.args.slots c.args.assigned.now (sym c.counts.ensures ∙ c.in_ok-counts.was)

pub returns : goal.returns
returns c =
    by_rest c.args.v c.args.slots c.args.assigned.now c.args.lent c.args.work
    (sym c.counts.ensures ∙ c.in_ok-counts.was) c.assigned-piece.ensures
    (c.room-short.ensures ∙ ap (spilled_room c.args.lent c.args.slots c.args.work) c.needed-w.ensures) c.earlier.ensures
