-- `bits::row_or_two` meets its contract: a turn keeps `Done`, and the rows' next words are as they were.
use native.Mathlib.Omega.{arith}
use Prim.Native.Nat.{◌+◌}
use mathlib.Core.Path.{refl}
use lib.Bits.{bit_or}
use lib.ListN.{get_or}
use Rattle.words.proofs.RegionLaws.{done_start, done_more, done_all, done_next}
use Rattle.bits.proofs.BitLaws.{done_aligned, row_joined, bits_both}
use Rattle.bits.proofs.row_or_two.Goals as goal

pub loop-k-init : goal.loop-k-init
loop-k-init c = done_start _ _ _ _ (omega arith)

pub loop-k-preserved : goal.loop-k-preserved
loop-k-preserved c =
    let d = c.loop-k.invariant in let e = done_next d _ refl in let f = done_aligned d c.requires.3 (omega arith) in let g = done_aligned d c.requires.4 (omega arith) in
    done_more d _ _ (omega arith) refl (rw (e, f, g))

pub returns : goal.returns
returns c =
    let a = c.args in
    row_joined (λ i. bit_or (get_or a.w.now (a.one + i) 0) (get_or a.w.now (a.two + i) 0)) (done_all c.loop-k.invariant c.loop-k-test.false) _ (λ i j l m. bits_both a.w.now a.one a.two i j m)
