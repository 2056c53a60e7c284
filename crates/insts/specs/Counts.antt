-- Document 01, "Limits and what is turned back": number 1 for the rows that entries are lent.
use Rattle.std.specs.Prelude.{ℕ, ◌/◌, ◌%◌, not, ◌||◌, List, length, eqb, ltb}
use Rattle.refusals.specs.declared.Refusal.TheVariants.{Count}
use Rattle.refusals.specs.Verdicts.{first, check, Verdict}
use Rattle.words.specs.Rows.{row_count}
use Rattle.words.specs.Widths.{block_width, inst_width, inst_operands, operand_width, local_width, mention_width}
use Rattle.graph.specs.Work.{sum_of}

-- n numbers that are no whole rows of the width, or more rows than the limit
abbrev pub rows_verdict : ℕ → ℕ → ℕ → Verdict
rows_verdict width limit n = check Count (not (eqb (n % width) 0) || ltb limit (n / width))

abbrev pub most_verdict : ℕ → ℕ → Verdict
most_verdict limit n = check Count (ltb limit n)

-- "B 1 to 4,096"
abbrev pub block_counts : List ℕ → Verdict
block_counts blocks = first (rows_verdict block_width 4096 (length blocks)) (check Count (ltb (row_count block_width blocks) 1))

-- how many operands the first n instructions have: where those of instruction n begin
abbrev pub offset : List ℕ → ℕ → ℕ
offset insts n = sum_of (λ k. inst_operands insts k) n

-- "instructions 65,536; operands 262,144"; operand counts that do not add up to the operand list are no count that records can have
abbrev pub add_up : List ℕ → List ℕ → Verdict
add_up insts operands = check Count (not (eqb (offset insts (row_count inst_width insts)) (row_count operand_width operands)))

unfoldable pub inst_counts : List ℕ → List ℕ → Verdict
inst_counts insts operands = first (rows_verdict inst_width 65536 (length insts)) (first (rows_verdict operand_width 262144 (length operands)) (add_up insts operands))

-- "V 65,535; locals 2,048; crossings, addresses, ends 65,536 each"
unfoldable pub code_counts : ℕ → List ℕ → List ℕ → List ℕ → List ℕ → List ℕ → List ℕ → Verdict
code_counts v insts operands crossings locals addresses ends =
    first (most_verdict 65535 v) (first (inst_counts insts operands) (first (most_verdict 65536 (length crossings))
    (first (rows_verdict local_width 2048 (length locals)) (first (rows_verdict mention_width 65536 (length addresses)) (rows_verdict mention_width 65536 (length ends))))))
