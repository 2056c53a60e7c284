-- `slot_measure::place` meets its contract: the item's word is stored, and an area is put behind those so far.
use native.Mathlib.Omega.{arith}
use Prim.Native.Nat.{suc, ◌-◌}
use mathlib.Core.Path.{◌≡◌, refl}
use Rattle.slot_measure.proofs.PlaceLaws.{absent, present}
use Rattle.slot_measure.proofs.place.Goals as goal

pub returns-then-f-eq0 : goal.returns-then-f-eq0
returns-then-f-eq0 c = absent _ _ _ _ c.requires c.if-f-eq0.true

pub returns : goal.returns
returns c =
    let z : c.args.f.plus ≡ suc (c.args.f.plus - 1) = omega (arith, c.if-f-eq0.false) in
    present _ _ _ _ c.requires _ z refl c.append.ensures
