-- `plain` meets its contract: the between-pieces, behind them the pieces in line order, merged.
use native.Mathlib.Omega.{arith}
use mathlib.Core.Path.{refl}
use Rattle.area_pieces.proofs.AreaLaws.{plain_asked, plain_both, plain_room, plain_done}
use Rattle.area_pieces.proofs.plain.Goals as goal

pub overflow_add-s : goal.overflow_add-s
overflow_add-s c =
    let a = plain_asked c.args.blocks.now c.args.t c.args.s _ c.requires.sound.1 c.requires.sound.2 c.requires.unmarked.1 c.spans-m.ensures in
    omega (arith, a.swept)

pub line-n-requires : goal.line-n-requires
line-n-requires c = (
  plain_asked c.args.blocks.now c.args.t c.args.s _ c.requires.sound.1 c.requires.sound.2 c.requires.unmarked.1 c.spans-m.ensures,
  plain_both c.args.blocks.now c.args.t
      c.args.s _ c.requires.sound.1 c.requires.sound.2 c.requires.unmarked.1 c.spans-m.ensures,
  c.requires.sound.0,
)

pub overflow_add-m : goal.overflow_add-m
overflow_add-m c =
    omega (
      arith,
      plain_room c.args.blocks.now c.args.t c.args.s _ c.requires.sound.1 c.requires.sound.2 c.requires.unmarked.1
          c.spans-m.ensures c.line-n.ensures,
    )

pub merge-requires : goal.merge-requires
merge-requires c =
    plain_room c.args.blocks.now c.args.t c.args.s _ c.requires.sound.1 c.requires.sound.2 c.requires.unmarked.1
    c.spans-m.ensures c.line-n.ensures

pub returns : goal.returns
returns c =
    plain_done c.args.blocks.now c.args.t c.args.s _ c.requires.sound.1 c.requires.sound.2 c.requires.unmarked.1
    c.spans-m.ensures c.line-n.ensures refl
    (omega arith) c.merge.ensures
