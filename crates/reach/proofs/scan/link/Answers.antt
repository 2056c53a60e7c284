-- `reach::scan::link` meets its contract: of the first p operands the keys were appended.
use native.Mathlib.Omega.{arith}
use Prim.Native.Nat.{◌+◌}
use mathlib.Core.Path.{refl, sym, ◌∙◌}
use Rattle.insts.specs.Inner.{operand_at}
use Rattle.reach.proofs.UseLaws.{handing_reads, reads_handing}
use Rattle.reach.proofs.MarkLaws.{link_start, link_skip, link_put, link_done}
use Rattle.reach.proofs.scan.link.Goals.{then-handed, else-handed}
use Rattle.reach.proofs.scan.link.Goals as goal

pub loop-p-init : goal.loop-p-init
loop-p-init c = link_start _ _ _ _ _ _ _ (omega arith)

pub loop-p-preserved : goal.loop-p-preserved
loop-p-preserved c =
    let inv = c.loop-p.invariant in
    let more = c.loop-p-test.true in
    elim c.if-handed.branch [
      | then-handed w ↦ rw (w.work-is, w.k-is) (link_put inv _ _ more (sym c.handed.ensures ∙ w.if-handed.true) refl refl)
      | else-handed w ↦ rw (w.work-is, w.k-is) (link_skip inv more (sym c.handed.ensures ∙ w.if-handed.false))
    ]

pub returns : goal.returns
returns c =
    link_done c.loop-p.invariant _ _ c.loop-p-test.false
    (handing_reads c.args.v c.args.base c.args.index c.args.n (λ k. operand_at c.args.operands.now (c.args.from + k)))
    (reads_handing c.args.v c.args.base c.args.index c.args.n (λ k. operand_at c.args.operands.now (c.args.from + k)))
