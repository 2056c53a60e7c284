-- `touches::of_registers` meets its contract: the pieces of the registers before k stand there.
use Rattle.touches.proofs.RegisterLaws.{Gathering}
use Rattle.touches.proofs.of_registers.Given as goal

abbrev pub invariant-loop-k : goal.invariant-loop-k
invariant-loop-k l = Gathering l.pieces l.keys l.from l.count l.to l.initial.work l.work l.m l.k
