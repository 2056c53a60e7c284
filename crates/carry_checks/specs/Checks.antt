-- What the entries of carrying refuse: numbers 1, 2, 4, 5 and 7, and W.
use Rattle.std.specs.Prelude.{ℕ, ◌+◌, ◌*◌, List, [], ◌∷◌, length}
use Rattle.refusals.specs.Verdicts.{first, in_order, room_verdict, Verdict}
use Rattle.words.specs.Widths.{block_count, inst_count, operand_count, local_count, address_count, end_count}
use Rattle.words.specs.Regions.{row_words}
use Rattle.graph.specs.Line.{blocks_of, line_verdict}
use Rattle.carrying.specs.Insts.{insts_of}
use Rattle.carrying.specs.Carried.{mentions_of}
use Rattle.carrying.specs.Checks.{inst_verdict, crossing_verdict, address_verdict, end_verdict}
use Rattle.insts.specs.Counts.{block_counts, code_counts}

-- number 1
unfoldable pub carry_counts : ℕ → List ℕ → List ℕ → List ℕ → List ℕ → List ℕ → List ℕ → List ℕ → Verdict
carry_counts v blocks insts operands crossings locals addresses ends = first (block_counts blocks) (code_counts v insts operands crossings locals addresses ends)

-- W = 8 × (the records lent + blocks × ⌈locals/64⌉ + ⌈V/64⌉): "other entries count what they are lent"
abbrev pub carry_words : ℕ → ℕ → ℕ → ℕ → ℕ → ℕ → ℕ → ℕ → ℕ
carry_words v blocks insts operands crossings locals addresses ends =
    8 * (blocks + insts + operands + crossings + locals + addresses + ends + blocks * row_words locals + row_words v)

abbrev pub carry_space : ℕ → List ℕ → List ℕ → List ℕ → List ℕ → List ℕ → List ℕ → List ℕ → ℕ
carry_space v blocks insts operands crossings locals addresses ends =
    carry_words v (block_count blocks) (inst_count insts) (operand_count operands) (length crossings) (local_count locals) (address_count addresses) (end_count ends)

-- the checks of `reach` and `carried` in their order: numbers 1, 2, 4, 5 and 7
abbrev pub carry_checks : ℕ → ℕ → List ℕ → List ℕ → List ℕ → List ℕ → List ℕ → List ℕ → List ℕ → ℕ → ℕ → ℕ → List Verdict
carry_checks points v blocks insts operands crossings locals addresses ends lent most work =
    carry_counts v blocks insts operands crossings locals addresses ends
    ∷ line_verdict (blocks_of blocks) points
    ∷ inst_verdict (blocks_of blocks) v (insts_of insts operands)
    ∷ crossing_verdict v crossings
    ∷ address_verdict (insts_of insts operands) (mentions_of addresses)
    ∷ end_verdict (insts_of insts operands) (mentions_of ends)
    ∷ room_verdict lent most work (carry_space v blocks insts operands crossings locals addresses ends) ∷ []

unfoldable pub carry_verdict : ℕ → ℕ → List ℕ → List ℕ → List ℕ → List ℕ → List ℕ → List ℕ → List ℕ → ℕ → ℕ → ℕ → Verdict
carry_verdict points v blocks insts operands crossings locals addresses ends lent most work =
    in_order (carry_checks points v blocks insts operands crossings locals addresses ends lent most work)
