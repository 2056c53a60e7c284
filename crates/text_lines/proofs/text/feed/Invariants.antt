-- `feed` meets its contract: a byte more is read each turn.
use Prim.Native.Nat.{◌≤◌}
use lib.ListN.{length, take}
use Rattle.text_lines.specs.Inner.{Feeds}
use Rattle.text_lines.proofs.text.feed.Given as goal

abbrev pub invariant-loop-b : goal.invariant-loop-b
invariant-loop-b l = (l.b-index ≤ length l.piece) × Feeds (take l.b-index l.piece) l.initial.q.reader l.initial.q.len l.initial.line l.initial.fields l.initial.rows l.initial.counts l.q.reader l.q.len l.line l.fields l.rows l.counts
