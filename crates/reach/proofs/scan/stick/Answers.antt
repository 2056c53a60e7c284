-- `reach::scan::stick` meets its contract: of the first p operands the registers were marked.
use Prim.Native.Nat.{◌+◌}
use mathlib.Core.Path.{sym, ◌∙◌}
use Rattle.insts.specs.Inner.{operand_at}
use Rattle.reach.proofs.UseLaws.{handing_found, handing_reads}
use Rattle.reach.proofs.MarkLaws.{mark_start, mark_skip, mark_put, mark_done}
use Rattle.reach.proofs.scan.stick.Goals.{then-handed, else-handed}
use Rattle.reach.proofs.scan.stick.Goals as goal

pub loop-p-init : goal.loop-p-init
loop-p-init c = mark_start _ _ _ _ _ _ c.requires.1

pub loop-p-preserved : goal.loop-p-preserved
loop-p-preserved c =
    let inv = c.loop-p.invariant in
    let more = c.loop-p-test.true in
    elim c.if-handed.branch [
      | then-handed w ↦
          let handed = sym c.handed.ensures ∙ w.if-handed.true in
          rw w.work-is
          (mark_put inv w.set.ensures more handed w.wide-r.ensures (handing_reads c.args.v c.args.base c.args.index c.args.n (λ k. operand_at c.args.operands.now (c.args.from + k)) c.loop-p.p more handed).0)
      | else-handed w ↦ rw w.work-is (mark_skip inv more (sym c.handed.ensures ∙ w.if-handed.false))
    ]

pub returns : goal.returns
returns c =
    mark_done c.loop-p.invariant c.loop-p-test.false _
    (handing_found c.args.v c.args.base c.args.index c.args.n (λ k. operand_at c.args.operands.now (c.args.from + k)))
