-- `spans` meets its contract: the first i touches are put.
use native.Mathlib.Omega.{arith}
use mathlib.Core.Path.{refl}
use mathlib.Core.List.{[]}
use Rattle.area_pieces.proofs.SpanLaws.{span_start, span_word, span_free, span_more, span_done, touch_in_line}
use Rattle.area_pieces.proofs.spans.Goals as goal

pub loop-i-init : goal.loop-i-init
loop-i-init c = (c.requires.3, λ es. span_start _ _ _ _ _ c.requires.1 c.requires.2)

pub touch-m-requires : goal.touch-m-requires
touch-m-requires c = (
  c.requires.0,
  span_free (c.loop-i.invariant.1 []) (omega arith),
  touch_in_line c.args.blocks.now c.args.t c.args.work.now c.loop-i.i _
      (omega (arith, c.loop-i.invariant.1 [])) c.loop-i.invariant.0 (omega arith) (span_word (c.loop-i.invariant.1 []) (omega arith)),
)

pub loop-i-preserved : goal.loop-i-preserved
loop-i-preserved c =
    (c.loop-i.invariant.0, λ es. span_more (c.loop-i.invariant.1 es) _ (omega arith) refl (c.touch-m.ensures es))

pub returns : goal.returns
returns c = λ es. span_done (c.loop-i.invariant.1 es) (omega arith)
