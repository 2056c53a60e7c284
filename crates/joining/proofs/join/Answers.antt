-- `join` meets its contract: the last range is lengthened, or the new one is appended.
use native.Mathlib.Omega.{arith}
use Rattle.joining.proofs.PushLaws.{join_first, join_next, join_longer}
use Rattle.joining.proofs.join.Goals.{then-k-gt0+else-start-end, else-k-gt0}
use Rattle.joining.proofs.join.Goals as goal

pub returns-then-start-end : goal.returns-then-start-end
returns-then-start-end c =
    rw (c.pack.ensures, c.start_of-first.ensures, c.end_of-e.ensures) (join_longer c.args.work.now c.args.at c.args.k (omega arith) c.args.x (omega arith) (omega (arith, c.start_of-start.ensures, c.end_of-end.ensures)))

pub returns : goal.returns
returns c =
    let a = c.args in
    elim c.if-k-gt0.branch [
      | then-k-gt0+else-start-end w ↦
          join_next a.work.now a.at a.k (omega arith) a.x w.if-k-gt0.true (λ e. omega (arith, w.end_of-end.ensures, w.start_of-start.ensures, w.if-start-end.false))
      | else-k-gt0 w ↦ join_first a.work.now a.at a.k (omega arith) a.x (omega arith)
    ]
