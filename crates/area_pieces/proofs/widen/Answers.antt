-- `widen` meets its contract: the span is widened, or it begins.
use native.Mathlib.Omega.{arith}
use mathlib.Core.Path.{refl, sym, ◌∙◌}
use Rattle.ranges.specs.Points.{range}
use Rattle.area_pieces.proofs.SpanLaws.{widen_more, widen_new}
use Rattle.area_pieces.proofs.widen.Goals as goal

pub returns-then-test : goal.returns-then-test
returns-then-test c =
    rw (
      c.pack.ensures,
      c.smaller-first.ensures,
      c.larger-last.ensures,
      c.start_of.ensures,
      c.end_of.ensures,
    ) (widen_more c.args.s c.args.k (range c.args.start c.args.end) (omega arith) c.args.work.now c.requires
    (sym c.test.ensures ∙ c.if-test.true) _ refl)

pub returns : goal.returns
returns c =
    rw c.pack-2.ensures (widen_new c.args.s c.args.k (range c.args.start c.args.end) (omega arith) c.args.work.now c.requires
    (sym c.test.ensures ∙ c.if-test.false) c.set.ensures)
