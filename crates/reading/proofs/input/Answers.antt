-- `input` meets its contract: as much more can be read as turns are left, and what was read is some text.
use native.Mathlib.Omega.{arith}
use Prim.Native.Nat.{◌-◌}
use mathlib.Core.Path.{refl, sym, ◌∙◌}
use lib.ListN.{length-take}
use lib.Dec.{lit≤}
use Rattle.text_lines.proofs.EndLaws.{ready_start, ready_less, ready_fed}
use Rattle.planning.proofs.AnswerLaws.{read_of}
use Rattle.reading.proofs.input.Goals as goal

pub start-s-requires : goal.start-s-requires
start-s-requires c = (refl, c.requires.0, c.requires.1)

pub loop-turn-init : goal.loop-turn-init
loop-turn-init c = (refl, refl, ready_start c.start-s.ensures _ (lit≤ tt))

pub finish-requires : goal.finish-requires
finish-requires c = c.loop-turn.invariant.2.reading.held.taken.rows_length

pub shape_of-rows-then-n-eq0 : goal.shape_of-rows-then-n-eq0
shape_of-rows-then-n-eq0 c =
    c.loop-turn.invariant.2.reading.held.taken.rows_length ∙ sym c.requires.0

pub shape_of-counts-then-n-eq0 : goal.shape_of-counts-then-n-eq0
shape_of-counts-then-n-eq0 c =
    c.loop-turn.invariant.2.reading.held.taken.counts_length ∙ sym c.requires.1

pub returns-then-n-eq0-clause-read : goal.returns-then-n-eq0-clause-read
returns-then-n-eq0-clause-read c = read_of c.loop-turn.invariant.2 c.finish.ensures

pub slice_bounds-feed-count : goal.slice_bounds-feed-count
slice_bounds-feed-count c = omega arith

pub finish-requires-2 : goal.finish-requires-2
finish-requires-2 c = c.loop-turn.invariant.2.reading.held.taken.rows_length

pub shape_of-rows : goal.shape_of-rows
shape_of-rows c = c.loop-turn.invariant.2.reading.held.taken.rows_length ∙ sym c.requires.0

pub shape_of-counts : goal.shape_of-counts
shape_of-counts c = c.loop-turn.invariant.2.reading.held.taken.counts_length ∙ sym c.requires.1

pub returns-clause-read : goal.returns-clause-read
returns-clause-read c = read_of c.loop-turn.invariant.2 c.finish-2.ensures

pub loop-turn-preserved : goal.loop-turn-preserved
loop-turn-preserved c = (
  c.feed-s.ensures.fields_kept ∙ c.loop-turn.invariant.0,
  c.read.auto.buf ∙ c.loop-turn.invariant.1,
  ready_fed c.loop-turn.invariant.2 c.feed-s.ensures _
      (let p = c.read.auto.buf in let q = c.loop-turn.invariant.1 in let r = c.in_ok-n.ensures.bound.0 in let t = c.loop-turn-test.true in simp length-take (omega arith)),
)
