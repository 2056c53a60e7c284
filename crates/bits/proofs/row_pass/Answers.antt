-- `bits::row_pass` meets its contract: a turn keeps `Growing`, over the words that pass.
use Rattle.bits.proofs.BitLaws.{grow_start, grow_same, grow_more, grown, done_aligned, bits_passed}
use lib.Bits.{or_lt, and_lt}
use native.Mathlib.Omega.{arith}
use Prim.Native.Nat.{◌+◌}
use mathlib.Core.Path.{◌≡◌, refl}
use lib.ListN.{get_or}
use Rattle.bits.proofs.row_pass.Invariants.{passed}
use Rattle.bits.proofs.row_pass.Goals as goal
use Rattle.bits.proofs.row_pass.Goals.{then-y-x, else-y-x}

pub loop-k-init : goal.loop-k-init
loop-k-init c = grow_start _ _ _ _ (omega arith)

pub loop-k-preserved : goal.loop-k-preserved
loop-k-preserved c =
    let a = c.args in
    let d = c.loop-k.invariant.done in let p = c.requires.aligned in
    let source : passed c.loop-k.w a.from a.pass a.leave c.loop-k.k ≡ passed a.w.now a.from a.pass a.leave c.loop-k.k = rw (done_aligned d p.0 (omega arith), done_aligned d p.1 (omega arith), done_aligned d p.2 (omega arith)) in
    let known = c.slice_known-in-loop-k-3-1.given in
    let word = get_or c.loop-k.w (a.to + c.loop-k.k) 0 in
    elim c.if-y-x.branch [
      | then-y-x u ↦ rw (u.w-is, u.came-is) (grow_more c.loop-k.invariant word (passed c.loop-k.w a.from a.pass a.leave c.loop-k.k) (omega arith) refl source u.if-y-x.true (known (a.to + c.loop-k.k)).fits
          (or_lt 64 _ _ (and_lt 64 _ _ (known (a.from + c.loop-k.k)).fits (known (a.pass + c.loop-k.k)).fits) (known (a.leave + c.loop-k.k)).fits))
      | else-y-x u ↦ rw (u.w-is, u.came-is) (grow_same c.loop-k.invariant word (passed c.loop-k.w a.from a.pass a.leave c.loop-k.k) (omega arith) refl source u.if-y-x.false)
    ]

pub returns : goal.returns
returns c =
    let a = c.args in
    grown c.loop-k.invariant (omega arith) _ (λ i j l m. bits_passed a.w.now a.from a.pass a.leave i j m)
