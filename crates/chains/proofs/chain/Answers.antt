-- `chains::chain` meets its contract: the first i rows are linked.
use Rattle.chains.proofs.ChainLaws.{link_start, link_skip, link_put, link_done}
use Rattle.words.specs.Rows.{field}
use native.Mathlib.Omega.{arith}
use mathlib.Core.Path.{refl}
use Rattle.chains.proofs.chain.Goals.{then-l-keys, else-l-keys}
use Rattle.chains.proofs.chain.Goals as goal

pub loop-i-init : goal.loop-i-init
loop-i-init c = link_start (λ j. field c.args.width c.args.rows.now j c.args.column) _ _ _ _ _ (omega arith) (omega arith) c.requires.by_index

pub loop-i-preserved : goal.loop-i-preserved
loop-i-preserved c =
    elim c.if-l-keys.branch [
      | then-l-keys w ↦ rw w.work-is (link_put c.loop-i.invariant _ _ _ _ _ (omega arith) refl (omega arith) refl refl refl refl)
      | else-l-keys w ↦ rw w.work-is (link_skip c.loop-i.invariant (omega arith) (omega arith))
    ]

pub returns : goal.returns
returns c = link_done c.loop-i.invariant (omega arith)
