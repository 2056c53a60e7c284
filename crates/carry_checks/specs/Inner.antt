-- What the functions here promise each other. No public promise names these.
use Rattle.std.specs.Prelude.{ℕ, ◌+◌, ◌*◌, ◌≤◌, ◌<◌, List, get_or}
use Rattle.refusals.specs.Verdicts.{first, Verdict}
use Rattle.words.specs.Widths.{inst_count, operand_count, local_count, address_count, end_count, mention_width}
use Rattle.words.specs.Regions.{row_words}
use Rattle.graph.specs.Line.{blocks_of, line_verdict}
use Rattle.carrying.specs.Insts.{insts_of}
use Rattle.carrying.specs.Carried.{mentions_of}
use Rattle.carrying.specs.Checks.{inst_verdict, address_verdict, end_verdict}
use Rattle.insts.specs.Rows.{AddsUp}

-- numbers 2 and 4 of the blocks and the instructions
abbrev pub place_verdict : ℕ → ℕ → List ℕ → List ℕ → List ℕ → Verdict
place_verdict points v blocks insts operands = first (line_verdict (blocks_of blocks) points) (inst_verdict (blocks_of blocks) v (insts_of insts operands))

-- number 5 of the addresses and the ends
abbrev pub stray_verdict : List ℕ → List ℕ → List ℕ → List ℕ → Verdict
stray_verdict insts operands addresses ends = first (address_verdict (insts_of insts operands) (mentions_of addresses)) (end_verdict (insts_of insts operands) (mentions_of ends))

-- The words that carrying uses, and what no refusal says of the rows lent.

-- the words that carrying uses: w words a row of bits, i instructions, o operands, l locals, a addresses
abbrev pub used_of : ℕ → ℕ → ℕ → ℕ → ℕ → ℕ
used_of w i o l a = 3 * w + 3 * i + o + 2 * l + a

-- what no refusal says of the rows lent
pub record Checked (v : ℕ) (insts operands locals addresses ends : List ℕ) (work : ℕ) : Type 0 where
  pub adds : AddsUp insts operands
  pub few_insts : inst_count insts ≤ 65536
  pub few_operands : operand_count operands ≤ 262144
  pub few_locals : local_count locals ≤ 2048
  pub few_addresses : address_count addresses ≤ 65536
  pub registers : v ≤ 65535
  pub found : (a : ℕ) → a < address_count addresses → get_or addresses (mention_width * a) 0 < inst_count insts
  pub ended : (k : ℕ) → k < end_count ends → get_or ends (mention_width * k) 0 < inst_count insts
  pub room : used_of (row_words v) (inst_count insts) (operand_count operands) (local_count locals) (address_count addresses) ≤ work
