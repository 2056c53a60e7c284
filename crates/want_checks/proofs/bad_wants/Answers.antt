-- `bad_wants` meets its contract: no want before i is bad.
use Rattle.refusals.specs.declared.Refusal.TheVariants.{Want}
use Rattle.refusals.proofs.Laws.{scan_none, scan_miss, scan_hit, scan_end}
use native.Mathlib.Omega.{arith}
use borrow.Author.Tests.{not-true, not-false}
use mathlib.Core.Path.{sym, ◌∙◌}
use Rattle.want_checks.proofs.bad_wants.Goals as goal

pub loop-i-init : goal.loop-i-init
loop-i-init c = (scan_none _ _)

pub returns-then-not-look : goal.returns-then-not-look
returns-then-not-look c =
    sym (scan_hit Want _ _ _ c.loop-i.invariant (not-false _ (sym c.walk-look.ensures.0 ∙ not-true _ c.if-not-look.true)) (omega arith))

pub loop-i-preserved : goal.loop-i-preserved
loop-i-preserved c =
    (scan_miss Want _ _ c.loop-i.invariant (not-true _ (sym c.walk-look.ensures.0 ∙ not-false _ c.if-not-look.false)))

pub returns : goal.returns
returns c = sym (scan_end Want _ _ _ c.loop-i.invariant (omega arith) (omega arith))
