-- `slot_spots::fetch` meets its contract: the walk along the moves to the slot, then along those from it.
use native.Mathlib.Omega.{arith}
use mathlib.Core.Path.{refl}
use Rattle.slot_spots.proofs.MoveLaws.{to_walkable, from_table, from_walkable, fetched}
use Rattle.slot_spots.proofs.fetch.Goals as goal

pub overflow_add-top : goal.overflow_add-top
overflow_add-top c = omega arith

pub overflow_add-top-2 : goal.overflow_add-top-2
overflow_add-top-2 c = omega arith

pub overflow_add-past : goal.overflow_add-past
overflow_add-past c = omega arith

pub overflow_add-from : goal.overflow_add-from
overflow_add-from c = omega arith

pub walk-a-requires : goal.walk-a-requires
walk-a-requires c =
    record {
      sound = (c.requires.sound.0, c.requires.sound.1, omega arith);
      moves_value = c.requires.moves_value.0;
      walkable = to_walkable c.args.blocks.now c.requires.sound.2 c.requires.moves_value.1 c.requires.moves_value.2 _ refl;
    }

pub overflow_sub-top : goal.overflow_sub-top
overflow_sub-top c = omega arith

pub walk-b-requires : goal.walk-b-requires
walk-b-requires c =
    record {
      sound = (
        c.requires.sound.0,
        from_table c.args.blocks.now c.requires.sound.2 c.requires.moves_value.1 c.requires.moves_value.2 refl c.walk-a.ensures
            c.requires.sound.1,
        omega arith,
      );
      moves_value = c.requires.moves_value.0;
      walkable = from_walkable c.args.blocks.now c.requires.sound.2 c.requires.moves_value.1
          c.requires.moves_value.2 refl c.walk-a.ensures _ refl;
    }

pub overflow_add-result : goal.overflow_add-result
overflow_add-result c =
    omega (arith, c.walk-a.ensures.few, c.walk-b.ensures.few, c.requires.sound.2.fits, c.requires.sound.2)

pub returns : goal.returns
returns c =
    fetched c.args.blocks.now c.requires.sound.2 c.requires.moves_value.1 c.requires.moves_value.2 refl c.walk-a.ensures refl c.args.points
    c.args.insts.now refl c.walk-b.ensures (omega arith) _ refl
