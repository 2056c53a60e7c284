-- `read_all` meets its contract: the text is one piece.
use native.Mathlib.Omega.{arith}
use mathlib.Core.Path.{refl, sym, ◌∙◌}
use lib.Dec.{lit≤}
use mathlib.Core.List.{[]}
use Rattle.text_lines.proofs.text.read_all.Goals as goal

pub start-s-requires : goal.start-s-requires
start-s-requires c = (refl, c.requires.0, c.requires.1)

pub feed-q-requires : goal.feed-q-requires
feed-q-requires c = (lit≤ tt, record { text = []; reading = c.start-s.ensures; short = omega arith })

pub finish-requires : goal.finish-requires
finish-requires c =
    c.feed-q.ensures.rows_kept ∙ c.start-s.ensures.held.taken.rows_length

pub shape_of-rows : goal.shape_of-rows
shape_of-rows c =
    c.feed-q.ensures.rows_kept ∙ c.start-s.ensures.held.taken.rows_length ∙ sym c.requires.0

pub shape_of-counts : goal.shape_of-counts
shape_of-counts c =
    c.feed-q.ensures.counts_kept ∙ c.start-s.ensures.held.taken.counts_length ∙ sym c.requires.1

pub returns : goal.returns
returns c =
    let a = c.args in
    record
    { verdict = c.finish.ensures.answer a.text.now _ _ (c.feed-q.ensures.feeds [] c.start-s.ensures); records = c.finish.ensures.records a.text.now _ _ (c.feed-q.ensures.feeds [] c.start-s.ensures) }
