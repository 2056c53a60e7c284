-- `measure_one` meets its contract: the area is made, its item noted, and it is put behind those so far.
use native.Mathlib.Omega.{arith}
use mathlib.Core.Path.{refl}
use lib.ListN.{length-set}
use Rattle.area_measure.proofs.MeasureLaws.{area_in_lem, areas_clear, areas_in, measured}
use Rattle.area_measure.proofs.measure_one.Goals as goal

pub append-requires : goal.append-requires
append-requires c = (
  omega (arith, c.requires.2.small, c.area-count.ensures.count),
  simp length-set
      (areas_in c.args.blocks.now c.args.kind c.args.t c.args.s c.args.o c.args.total c.requires.1 c.requires.2 c.area-count.ensures),
  simp length-set
      (area_in_lem c.args.blocks.now c.args.kind c.args.t c.args.s c.args.o c.args.total c.requires.1 c.requires.2 c.area-count.ensures),
  areas_clear
      c.args.blocks.now c.args.kind c.args.t c.args.s c.args.o c.args.total c.requires.1 c.requires.2 c.area-count.ensures,
)

pub returns : goal.returns
returns c =
    measured c.args.blocks.now c.args.kind c.args.t c.args.s c.args.o c.args.total c.requires.1 c.requires.2
    c.area-count.ensures refl c.append.ensures
