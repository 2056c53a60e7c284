-- `moved_ranges::moved` meets its contract: the refusal, or the table, the ranges and the cleared words.
use native.Mathlib.Omega.{arith}
use mathlib.Core.Path.{sym, ◌∙◌}
use lib.ListN.{length}
use Rattle.moved_ranges.proofs.MovedEntry.{fit, moved_refused, moved_given}
use Rattle.moved_ranges.proofs.moved.Goals as goal
use Rattle.refusals.proofs.Laws.{handed_on}

pub returns-in_err-refusal : goal.returns-in_err-refusal
returns-in_err-refusal c =
    rw (handed_on c.from_residual.ensures.1)
    (moved_refused c.args.points c.args.v c.args.blocks.now c.args.insts.now c.args.operands.now c.args.moves.now c.args.slot c.args.out.now
    c.args.work.now _ _ (sym c.refusal.ensures ∙ c.in_err-refusal.was))

pub table-requires : goal.table-requires
table-requires c =
    let f = (fit c.args.points c.args.v c.args.blocks.now c.args.insts.now c.args.operands.now c.args.moves.now (length c.args.out.now)
    (length c.args.work.now) (sym c.refusal.ensures ∙ c.in_ok-refusal.was)) in (
      f.sound,
      let s = f.space in
          omega arith,
    )

pub all-n-requires : goal.all-n-requires
all-n-requires c =
    let f = (fit c.args.points c.args.v c.args.blocks.now c.args.insts.now c.args.operands.now c.args.moves.now (length c.args.out.now)
    (length c.args.work.now)
    (sym c.refusal.ensures ∙ c.in_ok-refusal.was)) in
    let t = c.table.ensures in
    record { sound = (f.sound, t.table, let s = f.space in let l = t.kept.len in omega arith); moves_value = (f.moves_fine, f.answer) }

pub needed-w-requires : goal.needed-w-requires
needed-w-requires c =
    let k = (fit c.args.points c.args.v c.args.blocks.now c.args.insts.now c.args.operands.now c.args.moves.now (length c.args.out.now) (length
    c.args.work.now) (sym c.refusal.ensures
    ∙ c.in_ok-refusal.was)).counts in
    (k.few, k.few_insts, k.few_operands, k.few_moves)

pub clear-requires : goal.clear-requires
clear-requires c =
    let f = (fit c.args.points c.args.v c.args.blocks.now c.args.insts.now c.args.operands.now c.args.moves.now (length c.args.out.now) (length
    c.args.work.now) (sym c.refusal.ensures
    ∙ c.in_ok-refusal.was)) in
    let s = f.space in
    let l = c.table.ensures.kept.len in
    let n = c.needed-w.ensures in
    omega arith

pub returns : goal.returns
returns c =
    moved_given c.args.points c.args.v c.args.blocks.now c.args.insts.now c.args.operands.now c.args.moves.now c.args.slot c.args.out.now
    c.args.work.now (sym c.refusal.ensures
    ∙ c.in_ok-refusal.was)
    c.table.ensures.kept c.all-n.ensures c.needed-w.result c.needed-w.ensures
    c.clear.ensures
