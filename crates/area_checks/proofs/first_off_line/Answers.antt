-- `area_checks::first_off_line` meets its contract: no touch before i is refused.
use native.Mathlib.Omega.{arith}
use mathlib.Core.Path.{sym, ◌∙◌}
use Rattle.refusals.proofs.Laws.{scan_none, scan_miss, scan_hit, scan_end}
use Rattle.area_checks.proofs.first_off_line.Goals as goal

pub loop-i-init : goal.loop-i-init
loop-i-init c = (omega arith, omega arith, scan_none _ _)

pub returns-then-off_line : goal.returns-then-off_line
returns-then-off_line c = sym (scan_hit _ _ _ _ c.loop-i.invariant.2 (sym c.off_line.ensures ∙ c.if-off_line.true) (omega arith))

pub loop-i-preserved : goal.loop-i-preserved
loop-i-preserved c = (omega arith, omega arith, scan_miss _ _ _ c.loop-i.invariant.2 (sym c.off_line.ensures ∙ c.if-off_line.false))

pub returns : goal.returns
returns c = sym (scan_end _ _ _ _ c.loop-i.invariant.2 (omega arith) (omega arith))
