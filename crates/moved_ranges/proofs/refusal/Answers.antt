-- `moved_ranges::refusal` meets its contract: the checks in their order.
use mathlib.Core.Path.{sym, ap, ◌∙◌}
use Rattle.moved_ranges.proofs.MovedEntry.{counted, by_counts, by_place, by_moves}
use Rattle.moved_ranges.specs.Moved.{moved_room}
use Rattle.words.specs.Widths.{move_count}
use Rattle.moved_ranges.proofs.refusal.Goals as goal
use Rattle.refusals.proofs.Laws.{handed_on}

pub returns-in_err-counts : goal.returns-in_err-counts
returns-in_err-counts c =
    rw (handed_on c.from_residual.ensures.1)
    (by_counts c.args.points c.args.v c.args.blocks.now c.args.insts.now c.args.operands.now c.args.moves.now c.args.lent c.args.work _ _
    (sym c.counts.ensures ∙ c.in_err-counts.was))

pub located-requires : goal.located-requires
located-requires c =
    let k = counted c.args.v c.args.blocks.now c.args.insts.now c.args.operands.now c.args.moves.now c.args.lent
    (sym c.counts.ensures ∙ c.in_ok-counts.was) in
    (k.some, k.few, k.adds, k.registers)

pub returns-in_err-located : goal.returns-in_err-located
returns-in_err-located c =
    rw (handed_on c.from_residual-in_err-located.ensures.1)
    (by_place c.args.points c.args.v c.args.blocks.now c.args.insts.now c.args.operands.now c.args.moves.now c.args.lent c.args.work _ _
    (sym c.counts.ensures ∙ c.in_ok-counts.was)
    (sym c.located.ensures ∙ c.in_err-located.was))

pub needed-w-requires : goal.needed-w-requires
needed-w-requires c =
    let k = counted c.args.v c.args.blocks.now c.args.insts.now c.args.operands.now c.args.moves.now c.args.lent
    (sym c.counts.ensures ∙ c.in_ok-counts.was) in
    (k.few, k.few_insts, k.few_operands, k.few_moves)

pub returns : goal.returns
returns c =
    by_moves c.args.points c.args.v c.args.blocks.now c.args.insts.now c.args.operands.now c.args.moves.now c.args.lent c.args.work
    (sym c.counts.ensures ∙ c.in_ok-counts.was)
    (sym c.located.ensures ∙ c.in_ok-located.was) c.moves-stray.ensures
    (c.room-short.ensures ∙ ap (moved_room c.args.lent (move_count c.args.moves.now) c.args.work) c.needed-w.ensures) c.earlier.ensures
