-- `at` of words meets its contract: the word's two numbers.
use mathlib.Core.Path.{sym}
use native.Mathlib.Omega.{arith}
use Rattle.ranges.proofs.FormLaws.{unpacked_length, unpacked_at}
use Rattle.packed_pairs.proofs.WordsListed.at.Goals as goal

pub offset_bounds-self-i : goal.offset_bounds-self-i
offset_bounds-self-i c = omega (arith, unpacked_length c.args.self.now.words.now)

pub bounds-self-i : goal.bounds-self-i
bounds-self-i c = omega (arith, unpacked_length c.args.self.now.words.now)

pub returns : goal.returns
returns c = rw (c.start_of.ensures, c.end_of.ensures) (sym (unpacked_at c.args.self.now.words.now c.args.i))
