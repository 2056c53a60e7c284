-- `ending` meets its contract: the pieces of the touches, behind them the blocks arrived at, merged.
use native.Mathlib.Omega.{arith}
use Rattle.area_ends.proofs.EndAreaLaws.{ending_asked, ending_room, ending_done}
use Rattle.area_ends.proofs.ending.Goals as goal

pub overflow_add-s : goal.overflow_add-s
overflow_add-s c =
    let a = ending_asked c.args.blocks.now c.args.t c.args.s c.requires.sound.1 c.requires.sound.2 c.requires.bounded.0 c.covers-m.ensures in
    omega (arith, a.fits)

pub arrived-n-requires : goal.arrived-n-requires
arrived-n-requires c =
    ending_asked c.args.blocks.now c.args.t c.args.s c.requires.sound.1 c.requires.sound.2 c.requires.bounded.0 c.covers-m.ensures

pub overflow_add-m : goal.overflow_add-m
overflow_add-m c =
    omega (
      arith,
      ending_room c.args.blocks.now c.args.t c.args.s c.requires.sound.1 c.requires.sound.2 c.requires.bounded.0
          c.covers-m.ensures c.arrived-n.ensures,
    )

pub merge-requires : goal.merge-requires
merge-requires c =
    ending_room c.args.blocks.now c.args.t c.args.s c.requires.sound.1 c.requires.sound.2 c.requires.bounded.0
    c.covers-m.ensures c.arrived-n.ensures

pub returns : goal.returns
returns c =
    ending_done c.args.blocks.now c.args.t c.args.s c.requires.sound.1 c.requires.sound.2 c.requires.bounded.0
    c.covers-m.ensures c.arrived-n.ensures
    c.requires.sound.0 c.requires.bounded.1 (omega arith) c.merge.ensures
