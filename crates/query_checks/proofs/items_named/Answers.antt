-- `items_named` meets its contract: no item before i names no cell.
use Rattle.refusals.specs.declared.Refusal.TheVariants.{Want}
use Rattle.refusals.proofs.Laws.{scan_none, scan_miss, scan_hit, scan_end}
use Rattle.query_checks.proofs.CheckLaws.{names_none, names_one}
use native.Mathlib.Omega.{arith}
use mathlib.Core.Path.{sym}
use Rattle.query_checks.proofs.items_named.Goals as goal

pub loop-i-init : goal.loop-i-init
loop-i-init c = (scan_none _ _)

pub returns-then-count-items : goal.returns-then-count-items
returns-then-count-items c =
    let a = c.args in sym (scan_hit Want _ _ _ c.loop-i.invariant (names_none a.cells.now a.items.now c.loop-i.i c.if-count-items.true) (omega arith))

pub loop-i-preserved : goal.loop-i-preserved
loop-i-preserved c =
    let a = c.args in (scan_miss Want _ _ c.loop-i.invariant (names_one a.cells.now a.items.now c.loop-i.i c.if-count-items.false))

pub returns : goal.returns
returns c = sym (scan_end Want _ _ _ c.loop-i.invariant (omega arith) (omega arith))
