-- `carry_checks::checks::refusal` meets its contract: the checks in their order.
use mathlib.Core.Path.{◌≡◌, sym, ap, ◌∙◌}
use Rattle.refusals.specs.Verdicts.{room_verdict, Fine, Verdict}
use Rattle.carry_checks.specs.Checks.{carry_counts}
use Rattle.carry_checks.proofs.CheckLaws.{Counted, counted, by_counts, by_place, by_rest}
use Rattle.carry_checks.proofs.checks.refusal.Goals as goal
use Rattle.refusals.proofs.Laws.{handed_on}

pub returns-in_err-counts : goal.returns-in_err-counts
returns-in_err-counts c =
    rw (handed_on c.from_residual.ensures.1)
    (let a = c.args in
    by_counts a.points a.v a.blocks.now a.insts.now a.operands.now a.crossings.now a.locals.now a.addresses.now a.ends.now
    a.lent a.most a.work _ _ (sym c.counts.ensures ∙ c.in_err-counts.was))

pub located-requires : goal.located-requires
located-requires c =
    let counts : Verdict = let a = c.args in carry_counts a.v a.blocks.now a.insts.now a.operands.now a.crossings.now a.locals.now a.addresses.now a.ends.now in
    let known : counts ≡ Fine → let a = c.args in Counted a.v a.blocks.now a.insts.now a.operands.now a.crossings.now a.locals.now a.addresses.now a.ends.now = let a = c.args in counted a.v a.blocks.now a.insts.now a.operands.now a.crossings.now a.locals.now a.addresses.now a.ends.now in
    let k = known (sym c.counts.ensures ∙ c.in_ok-counts.was) in (k.some, k.few, k.adds, k.registers)

pub returns-in_err-located : goal.returns-in_err-located
returns-in_err-located c =
    rw (handed_on c.from_residual-in_err-located.ensures.1)
    (let a = c.args in
    by_place a.points a.v a.blocks.now a.insts.now a.operands.now a.crossings.now a.locals.now a.addresses.now a.ends.now
    a.lent a.most a.work _ _ (sym c.counts.ensures ∙ c.in_ok-counts.was) (sym c.located.ensures ∙ c.in_err-located.was))

pub crossing-crossed-requires : goal.crossing-crossed-requires
crossing-crossed-requires c =
    let counts : Verdict = let a = c.args in carry_counts a.v a.blocks.now a.insts.now a.operands.now a.crossings.now a.locals.now a.addresses.now a.ends.now in
    let known : counts ≡ Fine → let a = c.args in Counted a.v a.blocks.now a.insts.now a.operands.now a.crossings.now a.locals.now a.addresses.now a.ends.now = let a = c.args in counted a.v a.blocks.now a.insts.now a.operands.now a.crossings.now a.locals.now a.addresses.now a.ends.now in
    (known (sym c.counts.ensures ∙ c.in_ok-counts.was)).registers

pub needed-w-requires : goal.needed-w-requires
needed-w-requires c =
    let counts : Verdict = let a = c.args in carry_counts a.v a.blocks.now a.insts.now a.operands.now a.crossings.now a.locals.now a.addresses.now a.ends.now in
    let known : counts ≡ Fine → let a = c.args in Counted a.v a.blocks.now a.insts.now a.operands.now a.crossings.now a.locals.now a.addresses.now a.ends.now = let a = c.args in counted a.v a.blocks.now a.insts.now a.operands.now a.crossings.now a.locals.now a.addresses.now a.ends.now in
    let k = known (sym c.counts.ensures ∙ c.in_ok-counts.was) in
    (k.few, k.few_insts, k.few_operands, k.few_crossings, k.few_locals, k.few_addresses, k.few_ends)

pub returns : goal.returns
returns c =
    let a = c.args in
    by_rest a.points a.v a.blocks.now a.insts.now a.operands.now a.crossings.now a.locals.now a.addresses.now a.ends.now
    a.lent a.most a.work (sym c.counts.ensures ∙ c.in_ok-counts.was) (sym c.located.ensures ∙ c.in_ok-located.was)
    c.crossing-crossed.ensures c.stray-astray.ensures (c.room-short.ensures ∙ ap (room_verdict a.lent a.most a.work) c.needed-w.ensures) c.earlier.ensures c.earlier-2.ensures
