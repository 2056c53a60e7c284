-- `count` of words meets its contract: a range a word.
use mathlib.Core.Path.{sym}
use Rattle.ranges.proofs.FormLaws.{unpacked_length}
use Rattle.packed_pairs.proofs.WordsListed.count.Goals as goal

pub returns : goal.returns
returns c = sym (unpacked_length c.args.self.now.words.now)
