-- `read` meets its contract: the columns so far rise within the numbers so far.
use Rattle.std.proofs.Common.{◌^◌, ◌≤◌, ◌<◌, length}
use Rattle.cases.specs.Inner.{RisingTo}
use Rattle.cases.proofs.read.Given as goal

abbrev pub invariant-loop-b : goal.invariant-loop-b
invariant-loop-b l = record {
  number : l.x < 2 ^ 32;
  columns : l.c ≤ length l.ends;
  numbers : l.n ≤ length l.numbers;
  rising : RisingTo l.ends l.n l.c;
}
