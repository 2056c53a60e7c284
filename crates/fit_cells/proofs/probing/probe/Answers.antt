-- `probe` meets its contract: no cell before c takes the area.
use Rattle.fit_tables.specs.Inner.{ranges_of, opens}
use Rattle.fit_cells.proofs.BelowLaws.{linked_below}
use Rattle.fit_tables.proofs.CodeLaws.{missed}
use Rattle.fit_tables.proofs.MarkLaws.{ruled}
use native.Mathlib.Omega.{arith}
use mathlib.Core.Path.{sym, ◌∙◌}
use Rattle.fit_cells.proofs.probing.probe.Goals as goal

pub loop-c-init : goal.loop-c-init
loop-c-init c = λ j h. absurd (omega arith)

pub hit-requires : goal.hit-requires
hit-requires c = λ h. c.requires.5.inside c.loop-c.c (omega arith) h

pub loop-c-preserved-then-hit : goal.loop-c-preserved-then-hit
loop-c-preserved-then-hit c =
    λ j h. missed (λ k. opens c.args.w.now c.args.t (ranges_of c.args.w.now c.args.a) k) c.loop-c.c c.loop-c.invariant (ruled c.requires.5 c.loop-c.c (omega arith) (omega arith) (c.hit.ensures c.if-hit.true)) j h

pub joins-requires : goal.joins-requires
joins-requires c =
    (linked_below c.requires.0 _ (c.requires.2 c.loop-c.c (omega arith)), c.requires.3, c.requires.4)

pub loop-c-preserved : goal.loop-c-preserved
loop-c-preserved c =
    λ j h. missed (λ k. opens c.args.w.now c.args.t (ranges_of c.args.w.now c.args.a) k) c.loop-c.c c.loop-c.invariant (sym c.joins.ensures ∙ c.if-joins.false) j h
