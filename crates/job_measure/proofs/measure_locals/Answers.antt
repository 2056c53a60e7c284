-- `measure_locals` meets its contract: the area of one local more, each turn.
use native.Mathlib.Omega.{arith}
use Prim.Native.Nat.{ℕ, ◌+◌, ◌-◌, ◌<◌}
use mir.Syntax.{w64}
use mir.Val.{Fits}
use Rattle.job_measure.proofs.AllLaws.{going_start, going_ready, going_more, going_done}
use Rattle.job_measure.proofs.measure_locals.Goals as goal

less : (l n : ℕ) → l < n → n - (l + 1) < n - l
less l n h = omega arith

more : (l n : ℕ) → l < n → Fits w64 n → Fits w64 (l + 1)
more l n h f = omega arith

pub loop-l-init : goal.loop-l-init
loop-l-init c =
    let a = c.args in going_start a.blocks.now a.insts.now a.addresses.now a.ends.now a.pieces.now a.lay a.p a.z a.g a.mark a.o _ c.requires

pub measure_next-total-requires : goal.measure_next-total-requires
measure_next-total-requires c =
    let a = c.args in record { ready = going_ready a.blocks.now a.insts.now a.addresses.now a.ends.now a.pieces.now a.lay a.p a.z a.g a.mark a.o c.loop-l.invariant; l_lt_locals = (c.loop-l-test.true, c.loop-l.invariant.most) }

pub loop-l-preserved : goal.loop-l-preserved
loop-l-preserved c =
    let a = c.args in
    going_more a.blocks.now a.insts.now a.addresses.now a.ends.now a.pieces.now a.lay a.p a.z a.g a.mark a.o
    c.loop-l.invariant c.loop-l-test.true c.measure_next-total.ensures

pub returns : goal.returns
returns c = let a = c.args in going_done a.blocks.now a.insts.now a.addresses.now a.ends.now a.pieces.now a.lay a.p a.z a.g a.mark a.o c.loop-l.invariant c.loop-l-test.false
