-- `pieces` is safe and ends: as much more can be read as is left of the text.
use native.Mathlib.Omega.{arith}
use mathlib.Core.Path.{refl, sym, ◌∙◌}
use Rattle.text_lines.proofs.EndLaws.{ready_start, ready_less, ready_fed}
use Rattle.text_tests.proofs.pieces.Goals as goal

pub start-s-requires : goal.start-s-requires
start-s-requires c = (refl, c.requires.0, c.requires.1)

pub loop-rest-init : goal.loop-rest-init
loop-rest-init c = (refl, ready_start c.start-s.ensures _ (omega arith))

pub feed-s-requires : goal.feed-s-requires
feed-s-requires c = (omega arith, ready_less c.loop-rest.invariant.1 _ (omega arith))

pub loop-rest-preserved : goal.loop-rest-preserved
loop-rest-preserved c =
    (c.feed-s.ensures.fields_kept ∙ c.loop-rest.invariant.0, ready_fed c.loop-rest.invariant.1 c.feed-s.ensures _ (omega arith))

pub finish-requires : goal.finish-requires
finish-requires c = c.loop-rest.invariant.1.reading.held.taken.rows_length

pub shape_of-rows : goal.shape_of-rows
shape_of-rows c = c.loop-rest.invariant.1.reading.held.taken.rows_length ∙ sym c.requires.0

pub shape_of-counts : goal.shape_of-counts
shape_of-counts c =
    c.loop-rest.invariant.1.reading.held.taken.counts_length ∙ sym c.requires.1
