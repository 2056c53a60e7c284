-- `wrong` meets its contract: one law for each way out.
use Prim.Native.Nat.{◌-◌}
use Rattle.ranges.specs.Forms.{columns}
use Rattle.ranges.proofs.LentLaws.{wrong_reversed, wrong_loose, wrong_front, wrong_close}
use Rattle.ranges.proofs.FormLaws.{columns_at}
use Rattle.range_checks.proofs.wrong.Goals as goal

pub returns-then-end-i : goal.returns-then-end-i
returns-then-end-i c =
    let a = c.args in
    wrong_reversed (columns a.start.now a.end.now) a.i _ _ (columns_at a.start.now a.end.now a.i c.requires.0) a.ordered c.if-end-i.true

pub returns-then-not-ordered : goal.returns-then-not-ordered
returns-then-not-ordered c =
    let a = c.args in
    wrong_loose (columns a.start.now a.end.now) a.i _ _ (columns_at a.start.now a.end.now a.i c.requires.0) a.ordered c.if-end-i.false c.if-not-ordered.true

pub returns-then-i-eq0 : goal.returns-then-i-eq0
returns-then-i-eq0 c =
    let a = c.args in
    wrong_front (columns a.start.now a.end.now) a.i _ _ (columns_at a.start.now a.end.now a.i c.requires.0) a.ordered
    c.if-end-i.false c.if-not-ordered.false c.if-i-eq0.true

pub returns : goal.returns
returns c =
    let a = c.args in
    let e = c.requires.0 in
    wrong_close (columns a.start.now a.end.now) a.i _ _ (columns_at a.start.now a.end.now a.i e) a.ordered
    c.if-end-i.false c.if-not-ordered.false c.if-i-eq0.false _ _ (columns_at a.start.now a.end.now (a.i - 1) e)
