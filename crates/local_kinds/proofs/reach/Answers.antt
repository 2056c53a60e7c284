-- `local_kinds::reach` meets its contract: the refusal, or the kinds and the cleared words.
use native.Mathlib.Omega.{arith}
use mathlib.Core.Path.{sym, ◌∙◌}
use lib.ListN.{length}
use Rattle.local_kinds.proofs.EntryLaws.{reach_refused, reach_given}
use Rattle.carry_checks.proofs.CheckLaws.{fit}
use Rattle.local_kinds.proofs.reach.Goals as goal
use Rattle.refusals.proofs.Laws.{handed_on}

pub returns-in_err-refusal : goal.returns-in_err-refusal
returns-in_err-refusal c =
    rw (handed_on c.from_residual.ensures.1)
    (reach_refused c.args.points c.args.v c.args.blocks.now c.args.insts.now c.args.operands.now c.args.crossings.now c.args.locals.now
    c.args.addresses.now c.args.ends.now c.args.answer.now c.args.work.now _ _
    (sym c.refusal.ensures ∙ c.in_err-refusal.was))

pub measure-requires : goal.measure-requires
measure-requires c =
    let f = fit c.args.points c.args.v c.args.blocks.now c.args.insts.now c.args.operands.now c.args.crossings.now c.args.locals.now
    c.args.addresses.now c.args.ends.now (length c.args.answer.now) _ (length c.args.work.now)
    (sym c.refusal.ensures ∙ c.in_ok-refusal.was) in
    (f.checked, f.answer)

pub needed-w-requires : goal.needed-w-requires
needed-w-requires c =
    let k = (fit c.args.points c.args.v c.args.blocks.now c.args.insts.now c.args.operands.now c.args.crossings.now c.args.locals.now
    c.args.addresses.now c.args.ends.now (length c.args.answer.now) _ (length c.args.work.now) (sym
    c.refusal.ensures ∙
    c.in_ok-refusal.was)).counts in
    (k.few, k.few_insts, k.few_operands, k.few_crossings, k.few_locals, k.few_addresses, k.few_ends)

pub clear-requires : goal.clear-requires
clear-requires c =
    let f = fit c.args.points c.args.v c.args.blocks.now c.args.insts.now c.args.operands.now c.args.crossings.now c.args.locals.now
    c.args.addresses.now c.args.ends.now (length c.args.answer.now) _ (length c.args.work.now) (sym
    c.refusal.ensures ∙
    c.in_ok-refusal.was) in
    let s = f.space in
    let l = c.measure.ensures.kept.len in
    let n = c.needed-w.ensures in
    omega arith

pub returns : goal.returns
returns c =
    let f = fit c.args.points c.args.v c.args.blocks.now c.args.insts.now c.args.operands.now c.args.crossings.now c.args.locals.now
    c.args.addresses.now c.args.ends.now (length c.args.answer.now) _ (length c.args.work.now) (sym c.refusal.ensures ∙ c.in_ok-refusal.was) in
    reach_given c.args.points c.args.v c.args.blocks.now c.args.insts.now c.args.operands.now c.args.crossings.now c.args.locals.now
    c.args.addresses.now c.args.ends.now c.args.answer.now c.args.work.now (sym c.refusal.ensures ∙ c.in_ok-refusal.was) f.answer
    c.measure.ensures c.needed-w.result c.needed-w.ensures c.clear.ensures
