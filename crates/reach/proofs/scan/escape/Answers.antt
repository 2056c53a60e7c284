-- `reach::scan::escape` meets its contract: of the first p operands the registers were marked.
use Prim.Native.Nat.{◌+◌}
use mathlib.Core.Path.{sym, ◌∙◌}
use Rattle.insts.specs.Inner.{operand_at}
use Rattle.reach.proofs.UseLaws.{straying_found, straying_low}
use Rattle.reach.proofs.MarkLaws.{mark_start, mark_skip, mark_put, mark_done}
use Rattle.reach.proofs.scan.escape.Goals.{then-strays, else-strays}
use Rattle.reach.proofs.scan.escape.Goals as goal

pub loop-p-init : goal.loop-p-init
loop-p-init c = mark_start _ _ _ _ _ _ c.requires.1

pub loop-p-preserved : goal.loop-p-preserved
loop-p-preserved c =
    let inv = c.loop-p.invariant in
    let more = c.loop-p-test.true in
    elim c.if-strays.branch [
      | then-strays w ↦
          let stray = sym c.strays.ensures ∙ w.if-strays.true in
          rw w.work-is
          (mark_put inv w.set.ensures more stray w.wide-r.ensures (straying_low c.args.v c.args.mem c.args.base c.args.index c.args.n (λ k. operand_at c.args.operands.now (c.args.from + k)) c.loop-p.p stray))
      | else-strays w ↦ rw w.work-is (mark_skip inv more (sym c.strays.ensures ∙ w.if-strays.false))
    ]

pub returns : goal.returns
returns c =
    mark_done c.loop-p.invariant c.loop-p-test.false _
    (straying_found c.args.v c.args.mem c.args.base c.args.index c.args.n (λ k. operand_at c.args.operands.now (c.args.from + k)))
