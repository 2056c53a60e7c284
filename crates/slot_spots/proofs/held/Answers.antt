-- `slot_spots::held` meets its contract: no slot has a register, then the assignments are passed.
use native.Mathlib.Omega.{arith}
use Prim.Native.Nat.{◌+◌}
use mathlib.Core.Path.{refl}
use Rattle.slot_registers.proofs.HeldLaws.{held_all}
use Rattle.slot_spots.proofs.held.Goals as goal

pub fill-requires : goal.fill-requires
fill-requires c = omega arith

pub assign-requires : goal.assign-requires
assign-requires c = (omega arith, λ s h. c.fill.ensures.inside (c.args.at + s) s refl h)

pub returns : goal.returns
returns c = held_all c.fill.ensures c.assign.ensures
