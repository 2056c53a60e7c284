-- What the functions here promise each other. No public promise names these.
use Rattle.std.specs.Prelude.{ℕ, ◌+◌}
use Rattle.std.proofs.Math.Option.{Option, some, none}

-- Document 01, "Areas of items": the register of a slot as a word.

-- the word of a slot: the register that `spilled` gives plus 1, or 0 for none
abbrev pub held_word : Option ℕ → ℕ
held_word none = 0
held_word (some r) = r + 1
