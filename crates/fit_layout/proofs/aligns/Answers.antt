-- `aligns` meets its contract: the first cell whose alignment is no power of two.
use native.Mathlib.Omega.{arith}
use mathlib.Core.Path.{sym, ◌∙◌}
use Rattle.fit_layout.proofs.WordLaws.{aligned_start, aligned_more, aligned_bad, aligned_done}
use Rattle.fit_layout.proofs.aligns.Goals as goal

pub loop-c-init : goal.loop-c-init
loop-c-init c = aligned_start _ _ _

pub returns-then-not-power : goal.returns-then-not-power
returns-then-not-power c = aligned_bad _ _ _ c.loop-c.invariant (omega arith) (sym c.if-not-power.true ∙ c.power.ensures)

pub loop-c-preserved : goal.loop-c-preserved
loop-c-preserved c = aligned_more _ _ _ c.loop-c.invariant (omega arith) (sym c.if-not-power.false ∙ c.power.ensures)

pub returns : goal.returns
returns c = aligned_done _ _ _ c.loop-c.invariant (omega arith)
