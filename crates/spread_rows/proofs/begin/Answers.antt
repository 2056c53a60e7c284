-- `spread::rows::begin` meets its contract: the first r ranks wait.
use Rattle.spread_rows.proofs.Turns.{begin_start, begin_more, begin_done}
use Rattle.spread_rows.proofs.Bounds.{filled, begin_word}
use mathlib.Core.Path.{◌∙◌}
use Rattle.spread_rows.proofs.begin.Goals as goal

pub overflow_add-s : goal.overflow_add-s
overflow_add-s c = (filled _ c.args.s.wait _ _ c.requires.out_fits c.well_formed.0.1).waits

pub overflow_mul-s : goal.overflow_mul-s
overflow_mul-s c =
    (filled _ c.args.s.wait _ _ c.requires.out_fits c.well_formed.0.1).rows

pub overflow_add-s-2 : goal.overflow_add-s-2
overflow_add-s-2 c =
    (filled _ c.args.s.wait _ _ c.requires.out_fits c.well_formed.0.1).all

pub fill-requires : goal.fill-requires
fill-requires c =
    (filled _ c.args.s.wait _ _ c.requires.out_fits c.well_formed.0.1).inside

pub loop-r-init : goal.loop-r-init
loop-r-init c = begin_start _ _ _ _ _ c.requires.out_fits c.fill.ensures

pub set-requires : goal.set-requires
set-requires c = begin_word c.loop-r.invariant c.loop-r-test.true

pub loop-r-preserved : goal.loop-r-preserved
loop-r-preserved c = begin_more c.loop-r.invariant c.loop-r-test.true c.set.ensures

pub shape_of-work : goal.shape_of-work
shape_of-work c = c.loop-r.invariant.kept.len ∙ c.fill.ensures.len

pub returns : goal.returns
returns c = begin_done c.fill.ensures c.loop-r.invariant c.loop-r-test.false
