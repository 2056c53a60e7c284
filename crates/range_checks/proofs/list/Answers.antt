-- `list` meets its contract: no range before i is wrong.
use Prim.Native.Nat.{ℕ}
use mathlib.Core.Path.{◌≡◌, sym, ◌∙◌, ap}
use mathlib.Core.Bool.{Bool}
use mathlib.Core.List.{List}
use native.Mathlib.Omega.{arith}
use lib.ListN.{length}
use Rattle.refusals.specs.declared.Refusal.TheVariants.{Want}
use Rattle.refusals.specs.Verdicts.{scan, counted_on}
use Rattle.refusals.proofs.Laws.{scan_none, scan_miss, scan_hit, scan_end}
use Rattle.ranges.specs.Forms.{columns}
use Rattle.ranges.specs.Lent.{wrong_at, list_verdict}
use Rattle.ranges.proofs.FormLaws.{columns_length}
use Rattle.range_checks.proofs.list.Goals as goal

-- the verdict, over the length of a column
verdict_is : (o : Bool) (ss es : List ℕ) → length ss ≡ length es → list_verdict o (columns ss es) ≡ scan Want (wrong_at o (columns ss es)) (length ss)
unfolding list_verdict
verdict_is o ss es h = ap (scan Want (wrong_at o (columns ss es))) (columns_length ss es h)

pub loop-i-init : goal.loop-i-init
loop-i-init c = (omega arith, scan_none _ _)

pub returns-then-wrong : goal.returns-then-wrong
returns-then-wrong c =
    let a = c.args in
    ap (counted_on a.from) (sym (verdict_is a.ordered a.start.now a.end.now c.requires.0
    ∙ scan_hit Want _ _ _ c.loop-i.invariant.1 (sym c.wrong.ensures ∙ c.if-wrong.true) (omega arith)))

pub loop-i-preserved : goal.loop-i-preserved
loop-i-preserved c = (omega arith, scan_miss Want _ _ c.loop-i.invariant.1 (sym c.wrong.ensures ∙ c.if-wrong.false))

pub returns : goal.returns
returns c =
    let a = c.args in
    ap (counted_on a.from) (sym (verdict_is a.ordered a.start.now a.end.now c.requires.0
    ∙ scan_end Want _ _ _ c.loop-i.invariant.1 (omega arith) (omega arith)))
