-- `covers` meets its contract: the first i touches are put.
use native.Mathlib.Omega.{arith}
use mathlib.Core.Path.{refl}
use mathlib.Core.List.{[]}
use Rattle.area_pieces.proofs.SpanLaws.{touch_in_line}
use Rattle.area_ends.proofs.CoverLaws.{cover_begin, cover_fits, cover_stand, cover_room, cover_word, cover_more, cover_done}
use Rattle.area_ends.proofs.covers.Goals as goal

pub loop-i-init : goal.loop-i-init
loop-i-init c = (c.requires.3, λ es. cover_begin _ _ _ _ _ c.requires.1 c.requires.2)

pub cover_touch-m-requires : goal.cover_touch-m-requires
cover_touch-m-requires c =
    record {
      sound = (
        c.requires.0,
        cover_stand (c.loop-i.invariant.1 []),
        touch_in_line c.args.blocks.now c.args.t c.args.work.now c.loop-i.i _ (omega (arith, c.requires.2)) c.loop-i.invariant.0
            (omega arith) (cover_word (c.loop-i.invariant.1 []) (omega arith)),
      );
      count_bound = ((
        (cover_fits (c.loop-i.invariant.1 [])).0,
        (cover_fits (c.loop-i.invariant.1 [])).1,
        cover_room (c.loop-i.invariant.1 [])
            (omega arith),
      ));
    }

pub loop-i-preserved : goal.loop-i-preserved
loop-i-preserved c =
    (c.loop-i.invariant.0, λ es. cover_more (c.loop-i.invariant.1 es) _ (omega arith) refl (c.cover_touch-m.ensures es))

pub returns : goal.returns
returns c = λ es. cover_done (c.loop-i.invariant.1 es) (omega arith)
