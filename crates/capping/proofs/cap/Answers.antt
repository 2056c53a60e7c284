-- `cap` meets its contract: refused, or each row lowered.
use borrow.Author.Tests.{lt-ltb, le-ltb, eq-eqb, ne_eqb}
use Rattle.capping.proofs.CapLaws.{capped_refused, capped_told}
use Rattle.capping.proofs.cap.Goals as goal

pub returns-then-cells-ne0 : goal.returns-then-cells-ne0
returns-then-cells-ne0 c = let a = c.args in capped_refused a.cells.now a.count a.most (simp (ne_eqb _ _ c.if-cells-ne0.true))

pub returns-then-cells-count : goal.returns-then-cells-count
returns-then-cells-count c = let a = c.args in capped_refused a.cells.now a.count a.most (simp (eq-eqb _ _ c.if-cells-ne0.false, lt-ltb _ _ c.if-cells-count.true))

pub returns-then-count-gt4096 : goal.returns-then-count-gt4096
returns-then-count-gt4096 c = let a = c.args in capped_refused a.cells.now a.count a.most (simp (eq-eqb _ _ c.if-cells-ne0.false, le-ltb _ _ c.if-cells-count.false, lt-ltb _ _ c.if-count-gt4096.true))

pub returns : goal.returns
returns c =
    let a = c.args in
    capped_told a.cells.now _ a.count a.most (simp (
      eq-eqb _ _ c.if-cells-ne0.false,
      le-ltb _ _
          c.if-cells-count.false,
      le-ltb _ _ c.if-count-gt4096.false,
    )) c.lower.ensures
