use lib.Seq.{set-get_or}
use native.Mathlib.Omega.{arith}
use Prim.Native.Nat.{ℕ}
use mathlib.Core.Path.{sym, ap, ◌∙◌}
use lib.ListN.{set}
use Rattle.tarjan.proofs.lower.Goals as goal

-- src/lib.rt:32:1
pub returns-then-q-w : goal.returns-then-q-w
returns-then-q-w c = ap (λ (t : ℕ). set c.args.w.now c.args.i t) (omega arith)

-- src/lib.rt:32:1
pub returns-else-q-w : goal.returns-else-q-w
returns-else-q-w c =
    sym (set-get_or c.args.w.now c.args.i 0) ∙ ap (λ (t : ℕ). set c.args.w.now c.args.i t) (omega arith)
