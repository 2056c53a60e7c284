-- Document 01, the table: number 4, and of number 5 the addresses and the ends.
use Rattle.std.specs.Prelude.{ℕ, ◌+◌, Bool, not, ◌&&◌, ◌||◌, List, length, get_or, leb, ltb}
use Rattle.refusals.specs.declared.Refusal.TheVariants.{Inst as InstWord, Stray}
use Rattle.refusals.specs.Verdicts.{scan, Verdict}
use Rattle.graph.specs.Line.{Stretch, block_at, place_in}
use Rattle.carrying.specs.Lists.{any}
use Rattle.carrying.specs.Insts.{Operand, Inst, inst_at, is_set}
use Rattle.carrying.specs.Carried.{Mention}

-- "placed in no block or outside its points"
abbrev pub misplaced : List Stretch → Inst → Bool
misplaced bs i =
    leb (length bs) i.block
    || (ltb i.early (block_at bs (place_in bs i.block)).start || ltb (block_at bs (place_in bs i.block)).end i.late)

-- "a register ≥ V+256 (crossings too)"
abbrev pub bad_register : ℕ → ℕ → Bool
bad_register v r = leb (v + 256) r

abbrev pub bad_operand : ℕ → Operand → Bool
bad_operand v o = ltb 1 o.def || bad_register v o.register

-- number 4: "placed in no block or outside its points, early > late, a flag or position out of range, a register ≥ V+256"
abbrev pub bad_flags : Inst → Bool
bad_flags i = ltb 1 i.placed || (ltb 1 i.lea || ltb 1 i.mem)

abbrev pub bad_positions : Inst → Bool
bad_positions i = ltb 256 i.base || ltb 256 i.index

unfoldable pub bad_inst : List Stretch → ℕ → Inst → Bool
bad_inst bs v i =
    ltb i.late i.early
    || (is_set i.placed && misplaced bs i || (bad_flags i || (bad_positions i || any (bad_operand v) i.operands)))

abbrev pub inst_verdict : List Stretch → ℕ → List Inst → Verdict
inst_verdict bs v is = scan InstWord (λ n. bad_inst bs v (inst_at is n)) (length is)

abbrev pub crossing_verdict : ℕ → List ℕ → Verdict
crossing_verdict v xs = scan InstWord (λ n. bad_register v (get_or xs n 0)) (length xs)

-- number 5: "an address at an absent or unplaced instruction, an end at an absent instruction"
abbrev pub absent : List Inst → ℕ → Bool
absent is n = leb (length is) n

abbrev pub mention_at : List Mention → ℕ → Mention
mention_at ms n = get_or ms n (record { inst = 0; local = 0 })

abbrev pub address_verdict : List Inst → List Mention → Verdict
address_verdict is ms =
    scan Stray (λ n. absent is (mention_at ms n).inst || not (is_set (inst_at is (mention_at ms n).inst).placed)) (length ms)

abbrev pub end_verdict : List Inst → List Mention → Verdict
end_verdict is ms = scan Stray (λ n. absent is (mention_at ms n).inst) (length ms)
