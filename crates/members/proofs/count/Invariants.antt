-- `count` meets its contract: the first i items are counted.
use Rattle.members.proofs.MemberLaws.{Counting}
use Rattle.members.proofs.count.Given as goal

abbrev pub invariant-loop-i : goal.invariant-loop-i
invariant-loop-i l = Counting l.items l.initial.counts l.counts l.i
