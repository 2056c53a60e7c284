-- `count` meets its contract: the first i items are counted.
use Rattle.members.proofs.MemberLaws.{counting_start, cell_known, count_small, counting_more}
use native.Mathlib.Omega.{arith}
use Rattle.members.proofs.count.Goals as goal

pub loop-i-init : goal.loop-i-init
loop-i-init c = counting_start c.args.items.now c.args.counts.now c.requires.1 c.requires.2

pub bounds-counts-c : goal.bounds-counts-c
bounds-counts-c c = omega (arith, cell_known c.loop-i.invariant (omega arith))

pub overflow_add-counts : goal.overflow_add-counts
overflow_add-counts c = omega (arith, count_small c.loop-i.invariant (omega arith))

pub bounds-counts-c-in-loop-i : goal.bounds-counts-c-in-loop-i
bounds-counts-c-in-loop-i c = omega (arith, cell_known c.loop-i.invariant (omega arith))

pub loop-i-preserved : goal.loop-i-preserved
loop-i-preserved c = counting_more c.loop-i.invariant (omega arith)
