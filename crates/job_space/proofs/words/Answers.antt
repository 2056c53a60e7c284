-- `words` meets its contract: numbers of 32 bits are what W is computed for.
use native.Mathlib.Omega.{arith}
use Rattle.job_space.proofs.words.Goals as goal

pub needed-requires : goal.needed-requires
needed-requires c = record {
  registers = omega arith;
  blocks = omega arith;
  edges = omega arith;
  insts = omega arith;
  operands = omega arith;
  crossings = omega arith;
  locals = omega arith;
  slots = omega arith;
  addresses = omega arith;
  ends = omega arith;
  pieces = omega arith;
  assigned = omega arith;
  moves = omega arith;
  ranges = omega arith;
}

pub returns : goal.returns
returns c = c.needed.ensures
