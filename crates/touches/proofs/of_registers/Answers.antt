-- `touches::of_registers` meets its contract: the pieces of the registers before k stand there.
use native.Mathlib.Omega.{arith}
use Rattle.touches.proofs.RegisterLaws.{gather_start, order_now, register_now, gather_more, gather_done}
use Rattle.touches.proofs.of_registers.Goals as goal

pub loop-k-init : goal.loop-k-init
loop-k-init c =
    gather_start _ _ _ _ _ _ c.requires.in_order.0 c.requires.in_order.1 c.requires.in_order.2 c.requires.in_order.3 c.requires.in_order.4 c.requires.distinct.0 c.requires.distinct.1

pub fetch-m-requires : goal.fetch-m-requires
fetch-m-requires c = (
  order_now c.loop-k.invariant,
  omega (arith, c.loop-k.invariant.room, c.loop-k.invariant.m_le, c.loop-k.invariant.kept.len, c.loop-k.invariant.from_fits, c.loop-k.invariant.keys_fit, c.loop-k.invariant.few),
  omega
      (arith, c.loop-k.invariant.room, c.loop-k.invariant.m_le, c.loop-k.invariant.kept.len, c.loop-k.invariant.from_fits, c.loop-k.invariant.keys_fit, c.loop-k.invariant.few),
  c.loop-k.invariant.few,
)

pub loop-k-preserved : goal.loop-k-preserved
loop-k-preserved c =
    gather_more c.loop-k.invariant (omega arith) (register_now c.loop-k.invariant (omega arith)) c.fetch-m.ensures

pub returns : goal.returns
returns c = gather_done c.loop-k.invariant (omega arith)
