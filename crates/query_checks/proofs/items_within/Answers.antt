-- `items_within` meets its contract: no item before i is bad.
use Rattle.query_checks.proofs.CheckLaws.{item_nameless, item_named}
use Rattle.refusals.specs.declared.Refusal.TheVariants.{Want}
use Rattle.refusals.proofs.Laws.{scan_none, scan_miss, scan_hit, scan_end}
use native.Mathlib.Omega.{arith}
use mathlib.Core.Path.{sym, ◌∙◌}
use Rattle.query_checks.proofs.items_within.Goals as goal

pub loop-i-init : goal.loop-i-init
loop-i-init c = (scan_none _ _)

pub returns-then-count-items : goal.returns-then-count-items
returns-then-count-items c =
    let a = c.args in
    sym (scan_hit Want _ _ _ c.loop-i.invariant (item_nameless a.cells.now a.items.now a.ranges c.loop-i.i c.if-count-items.true) (omega arith))

pub returns-then-part_outside : goal.returns-then-part_outside
returns-then-part_outside c =
    let a = c.args in
    sym (scan_hit Want _ _ _ c.loop-i.invariant (item_named a.cells.now a.items.now a.ranges c.loop-i.i c.if-count-items.false ∙ sym
    c.part_outside.ensures ∙ c.if-part_outside.true) (omega arith))

pub loop-i-preserved : goal.loop-i-preserved
loop-i-preserved c =
    let a = c.args in (scan_miss Want _ _ c.loop-i.invariant (item_named a.cells.now a.items.now a.ranges c.loop-i.i c.if-count-items.false
    ∙ sym c.part_outside.ensures ∙ c.if-part_outside.false))

pub returns : goal.returns
returns c = sym (scan_end Want _ _ _ c.loop-i.invariant (omega arith) (omega arith))
