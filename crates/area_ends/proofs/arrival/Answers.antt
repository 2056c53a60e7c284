-- `arrival` meets its contract: from the top to the first end.
use native.Mathlib.Omega.{arith}
use Prim.Native.Nat.{◌+◌, ◌*◌}
use Rattle.spots.specs.Inner.{ends_at}
use Rattle.area_ends.proofs.CoverLaws.{arrival_is}
use Rattle.area_ends.proofs.arrival.Goals as goal

pub returns : goal.returns
returns c =
    arrival_is c.args.blocks.now (ends_at c.args.t c.args.work.now) c.args.k _ c.requires.0
    (omega (arith, c.shared_slice_known-3-1.given (3 * c.args.k + 2))) _ c.until-end.ensures c.pack.ensures
