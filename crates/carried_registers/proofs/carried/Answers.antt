-- `carried_registers::carried` meets its contract: the refusal, no such local, or its registers and the cleared words.
use native.Mathlib.Omega.{arith}
use mathlib.Core.Path.{refl, sym, ◌∙◌}
use lib.ListN.{length}
use Rattle.carried_registers.proofs.CarriedLaws.{fits_as, carried_refused, carried_absent, carried_given}
use Rattle.carry_checks.proofs.CheckLaws.{fit}
use Rattle.carried_registers.proofs.carried.Goals as goal
use Rattle.refusals.proofs.Laws.{handed_on}

pub returns-in_err-refusal : goal.returns-in_err-refusal
returns-in_err-refusal c =
    rw (handed_on c.from_residual.ensures.1)
    (carried_refused (c.args).points (c.args).v (c.args).blocks.now (c.args).insts.now (c.args).operands.now (c.args).crossings.now
    (c.args).locals.now (c.args).addresses.now (c.args).ends.now (c.args).local (c.args).answer.now (c.args).work.now (c.least-most).result
    (c.least-most).ensures _ _ (sym (c.refusal).ensures ∙ c.in_err-refusal.was))

pub needed-w-requires : goal.needed-w-requires
needed-w-requires c =
    let k = (fit (c.args).points (c.args).v (c.args).blocks.now (c.args).insts.now (c.args).operands.now (c.args).crossings.now
    (c.args).locals.now (c.args).addresses.now (c.args).ends.now (length (c.args).answer.now) (c.least-most).result
    (length (c.args).work.now) (sym (c.refusal).ensures ∙ c.in_ok-refusal.was)).counts in
    (k.few, k.few_insts, k.few_operands, k.few_crossings, k.few_locals, k.few_addresses, k.few_ends)

pub clear-requires : goal.clear-requires
clear-requires c =
    let f = fit (c.args).points (c.args).v (c.args).blocks.now (c.args).insts.now (c.args).operands.now (c.args).crossings.now
    (c.args).locals.now (c.args).addresses.now (c.args).ends.now (length (c.args).answer.now)
    (c.least-most).result (length (c.args).work.now)
    (sym (c.refusal).ensures ∙ c.in_ok-refusal.was) in
    fits_as c.needed-w.ensures f.space refl

pub returns-then-local-locals : goal.returns-then-local-locals
returns-then-local-locals c =
    carried_absent (c.args).points (c.args).v (c.args).blocks.now (c.args).insts.now (c.args).operands.now (c.args).crossings.now
    (c.args).locals.now (c.args).addresses.now (c.args).ends.now (c.args).local (c.args).answer.now (c.args).work.now (c.least-most).result
    (c.least-most).ensures (sym (c.refusal).ensures ∙ c.in_ok-refusal.was) (omega arith) (c.needed-w).result
    (c.needed-w).ensures (c.clear).ensures

pub list-n-requires : goal.list-n-requires
list-n-requires c =
    let f = fit (c.args).points (c.args).v (c.args).blocks.now (c.args).insts.now (c.args).operands.now (c.args).crossings.now
    (c.args).locals.now (c.args).addresses.now (c.args).ends.now (length (c.args).answer.now) (c.least-most).result (length (c.args).work.now)
    (sym (c.refusal).ensures ∙ c.in_ok-refusal.was) in
    (f.checked, fits_as (sym c.least-most.ensures) f.answer refl, c.if-local-locals.false)

pub clear-requires-2 : goal.clear-requires-2
clear-requires-2 c =
    let f = fit (c.args).points (c.args).v (c.args).blocks.now (c.args).insts.now (c.args).operands.now (c.args).crossings.now
    (c.args).locals.now (c.args).addresses.now (c.args).ends.now (length (c.args).answer.now)
    (c.least-most).result (length (c.args).work.now) (sym
    (c.refusal).ensures ∙
    c.in_ok-refusal.was) in
    fits_as c.needed-w.ensures f.space
    c.list-n.ensures.kept.len

pub shape_of-answer : goal.shape_of-answer
shape_of-answer c = (c.list-n).ensures.list.len

pub returns : goal.returns
returns c =
    carried_given (c.args).points (c.args).v (c.args).blocks.now (c.args).insts.now (c.args).operands.now (c.args).crossings.now
    (c.args).locals.now (c.args).addresses.now (c.args).ends.now (c.args).local (c.args).answer.now (c.args).work.now (c.least-most).result
    (c.least-most).ensures (sym (c.refusal).ensures ∙ c.in_ok-refusal.was) (omega arith) (c.list-n).result (c.list-n).ensures
    (c.needed-w).result (c.needed-w).ensures (c.clear-2).ensures
