-- `spilled_registers::spilled` meets its contract: the refusal, or the two passes and the cleared words.
use native.Mathlib.Omega.{arith}
use mathlib.Core.Path.{sym, ◌∙◌}
use lib.ListN.{length}
use Rattle.spilled_registers.proofs.SpilledLaws.{fit, spilled_refused, spilled_given}
use Rattle.spilled_registers.proofs.spilled.Goals as goal
use Rattle.refusals.proofs.Laws.{handed_on}

pub returns-in_err-refusal : goal.returns-in_err-refusal
returns-in_err-refusal c =
    rw (handed_on c.from_residual.ensures.1)
    (spilled_refused c.args.v c.args.slots c.args.assigned.now c.args.answer.now c.args.work.now _ _
    (sym c.refusal.ensures ∙ c.in_err-refusal.was))

pub without-requires : goal.without-requires
without-requires c =
    (fit c.args.v c.args.slots c.args.assigned.now (length c.args.answer.now) (length c.args.work.now)
    (sym c.refusal.ensures ∙ c.in_ok-refusal.was)).answer

pub assign-requires : goal.assign-requires
assign-requires c =
    let l = c.without.ensures.len in
    let k = (fit c.args.v c.args.slots c.args.assigned.now (length c.args.answer.now) (length c.args.work.now)
    (sym c.refusal.ensures ∙ c.in_ok-refusal.was)).answer in
    omega arith

pub needed-w-requires : goal.needed-w-requires
needed-w-requires c =
    (fit c.args.v c.args.slots c.args.assigned.now (length c.args.answer.now) (length c.args.work.now) (sym
    c.refusal.ensures
    ∙ c.in_ok-refusal.was)).few

pub clear-requires : goal.clear-requires
clear-requires c =
    let k = (fit c.args.v c.args.slots c.args.assigned.now (length c.args.answer.now) (length c.args.work.now) (sym
    c.refusal.ensures
    ∙ c.in_ok-refusal.was)).space in
    let n = c.needed-w.ensures in
    omega arith

pub returns : goal.returns
returns c =
    spilled_given c.args.v c.args.slots c.args.assigned.now c.args.answer.now c.args.work.now (sym
    c.refusal.ensures
    ∙ c.in_ok-refusal.was) c.without.ensures
    c.assign.ensures c.needed-w.result c.needed-w.ensures c.clear.ensures
