-- `spread::rows::spread` meets its contract: each place that does not wait has sent what it has.
use mathlib.Core.Path.{refl, ◌∙◌}
use Rattle.spread_rows.proofs.Turns.{spread_start, spread_more, spread_falls, spread_done, arrived_from, laid₁, node}
use Rattle.words.proofs.FitLaws.{as_long}
use Rattle.spread_rows.proofs.Bounds.{filled, waits_again, spread_word, order_at_lem}
use Rattle.spread_rows.proofs.spread.Goals as goal

pub overflow_add-words : goal.overflow_add-words
overflow_add-words c =
    (filled _ _ c.args.s.words _ c.requires.out_fits c.well_formed.0.1).waits

pub first_from-r-requires : goal.first_from-r-requires
first_from-r-requires c = waits_again (spread_start _ _ _ c.requires c.begin.ensures) _ refl

pub loop-r-init : goal.loop-r-init
loop-r-init c = (spread_start _ _ _ c.requires c.begin.ensures, c.first_from-r.ensures)

pub unset-requires : goal.unset-requires
unset-requires c = spread_word c.loop-r.invariant.0 _ c.loop-r-test.true

pub overflow_add-u : goal.overflow_add-u
overflow_add-u c =
    (order_at_lem c.loop-r.invariant.0 _ c.loop-r-test.true _ c.unset.ensures.len (as_long _ _
    (c.unset.ensures.len ∙ c.loop-r.invariant.0.kept.len ∙ c.begin.ensures.kept.len)
    c.well_formed.0.1)).fits

pub offset_bounds-work-s : goal.offset_bounds-work-s
offset_bounds-work-s c =
    (order_at_lem c.loop-r.invariant.0 _ c.loop-r-test.true _ c.unset.ensures.len (as_long _ _
    (c.unset.ensures.len ∙ c.loop-r.invariant.0.kept.len ∙ c.begin.ensures.kept.len)
    c.well_formed.0.1)).in_bytes

pub bounds-work-s : goal.bounds-work-s
bounds-work-s c =
    (order_at_lem c.loop-r.invariant.0 _ c.loop-r-test.true _ c.unset.ensures.len (as_long _ _
    (c.unset.ensures.len ∙ c.loop-r.invariant.0.kept.len ∙ c.begin.ensures.kept.len)
    c.well_formed.0.1)).inside

pub push-requires : goal.push-requires
push-requires c =
    (laid₁ c.loop-r.invariant.0 c.loop-r.invariant.1 c.loop-r-test.true c.unset.ensures, node c.loop-r.invariant.0 c.loop-r.invariant.1 c.loop-r-test.true c.unset.ensures)

pub first_from-r-requires-in-loop-r : goal.first_from-r-requires-in-loop-r
first_from-r-requires-in-loop-r c =
    waits_again c.loop-r.invariant.0 _
    (c.push.ensures.kept.len ∙ c.unset.ensures.len)

pub loop-r-smaller : goal.loop-r-smaller
loop-r-smaller c =
    spread_falls c.loop-r.invariant.0 c.loop-r.invariant.1 c.loop-r-test.true
    c.unset.ensures c.push.ensures

pub loop-r-preserved : goal.loop-r-preserved
loop-r-preserved c = (
  spread_more c.loop-r.invariant.0 c.loop-r.invariant.1 c.loop-r-test.true
      c.unset.ensures c.push.ensures,
  c.first_from-r-in-loop-r.ensures,
)

pub shape_of-work : goal.shape_of-work
shape_of-work c = c.loop-r.invariant.0.kept.len ∙ c.begin.ensures.kept.len

pub returns : goal.returns
returns c =
    arrived_from c.requires c.begin.ensures
    (spread_done c.loop-r.invariant.0 c.loop-r.invariant.1 c.loop-r-test.false)
