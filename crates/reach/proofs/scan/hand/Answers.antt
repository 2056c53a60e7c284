-- `reach::scan::hand` meets its contract: a law for each way out.
use mathlib.Core.Path.{sym, ◌∙◌}
use Rattle.carrying.specs.Insts.{def_of}
use Rattle.reach.specs.Inner.{row_of}
use Rattle.reach.proofs.ScanLaws.{no_lea, placed_lea, none_number, some_number, hand_none, hand_stuck, hand_linked}
use Rattle.reach.proofs.scan.hand.Goals as goal

pub returns-then-def-eq0 : goal.returns-then-def-eq0
returns-then-def-eq0 c =
    hand_stuck c.args.lay c.args.v _ c.args.i _ c.stick.ensures _ (placed_lea c.args.insts.now c.args.operands.now c.args.i
    c.args.from
    (sym c.handing.ensures ∙ c.if-handing.true) _
    c.requires.i_bound.1) (none_number (def_of c.args.v (row_of c.args.insts.now c.args.operands.now c.args.i c.args.from))
    (sym c.requires.def_value ∙ c.if-def-eq0.true))

pub returns-then-handing : goal.returns-then-handing
returns-then-handing c =
    hand_linked c.args.lay c.args.v _ c.args.i _ c.link.ensures c.requires.i_bound.1 c.requires.v_bound.0 (placed_lea c.args.insts.now
    c.args.operands.now c.args.i c.args.from
    (sym c.handing.ensures ∙ c.if-handing.true) _
    c.requires.i_bound.1) (some_number (def_of c.args.v (row_of c.args.insts.now c.args.operands.now c.args.i c.args.from))
    (λ q. c.if-def-eq0.false (c.requires.def_value ∙ q)))

pub returns : goal.returns
returns c =
    hand_none c.args.lay c.args.v _ c.args.i _ _ _
    (no_lea c.args.insts.now c.args.operands.now c.args.i c.args.from (sym c.handing.ensures ∙ c.if-handing.false))
