-- The corners of the job text, by computation: the largest number and one more, a leading zero, `-` where it has a place and where it has none, V 64 and 65.
use Prim.Native.Nat.{ℕ}
use mathlib.Core.Path.{◌≡◌, refl}
use mathlib.Core.Bool.{true, false}
use mathlib.Core.List.{List, [], ◌∷◌, ◌++◌, map}
use Rattle.refusals.specs.declared.Refusal.TheVariants.{Text as TextRefused}
use Rattle.refusals.specs.Verdicts.{first, scan, Bad, Fine}
use Rattle.text_grammar.specs.Numerals.{digits_of, decimal, digits, value_from, number_from, field_of, dash, no_field}
use Rattle.text_grammar.specs.Groups.{Group, groups, group_count, letters, no_slot, base_at, row_numbers, may_follow, index_of}
use Rattle.text_grammar.specs.Groups.{head_group, block_group, inst_group, operand_group, assigned_group, move_group}
use Rattle.text_grammar.proofs.TableLaws.{column_of}
use Rattle.text_grammar.specs.Lines.{lines_of, parts, group_of, fields_of, fits, formed, well_formed, line_group}
use Rattle.text_grammar.specs.Text.{bad_line, numbers, operands_after, rows_in, crowded, too_many, text_verdict, row_with}

-- "decimal up to 4,294,967,295 without leading zeros"; 0 by itself; no digit at all; the bytes beside the digits; `-` and `--`
pub numerals : (field_of (52 ∷ 50 ∷ 57 ∷ 52 ∷ 57 ∷ 54 ∷ 55 ∷ 50 ∷ 57 ∷ 53 ∷ []) ≡ 4294967295) × (field_of (52 ∷ 50 ∷ 57 ∷ 52 ∷ 57 ∷ 54 ∷ 55 ∷ 50 ∷ 57 ∷ 54 ∷ []) ≡ no_field)
    × (field_of (48 ∷ []) ≡ 0) × (field_of (48 ∷ 49 ∷ []) ≡ no_field) × (field_of [] ≡ no_field) × (field_of (47 ∷ []) ≡ no_field) × (field_of (58 ∷ []) ≡ no_field) × (field_of (57 ∷ []) ≡ 9)
    × (field_of (45 ∷ []) ≡ dash) × (field_of (45 ∷ 45 ∷ []) ≡ no_field) × (decimal 1048576 ≡ 49 ∷ 48 ∷ 52 ∷ 56 ∷ 53 ∷ 55 ∷ 54 ∷ []) × (decimal 0 ≡ 48 ∷ []) × (decimal 10 ≡ 49 ∷ 48 ∷ [])
unfolding digits value_from number_from field_of digits_of
numerals = (refl, refl, refl, refl, refl, refl, refl, refl, refl, refl, refl, refl, refl)

-- "groups in this order": H, B, E, I, O, X, L, S, A, K, R, P, M; numbers a row, of which an instruction has a flag and an operand count more than fields; "64 of each"
pub table : (letters ≡ 72 ∷ 66 ∷ 69 ∷ 73 ∷ 79 ∷ 88 ∷ 76 ∷ 83 ∷ 65 ∷ 75 ∷ 82 ∷ 80 ∷ 77 ∷ []) × (map (λ (g : Group). g.width) groups ≡ 3 ∷ 3 ∷ 2 ∷ 9 ∷ 2 ∷ 1 ∷ 2 ∷ 1 ∷ 2 ∷ 2 ∷ 3 ∷ 2 ∷ 4 ∷ [])
    × (map (λ (g : Group). g.room) groups ≡ 1 ∷ 64 ∷ 64 ∷ 64 ∷ 64 ∷ 64 ∷ 64 ∷ 64 ∷ 64 ∷ 64 ∷ 64 ∷ 64 ∷ 64 ∷ [])
    × (column_of group_count base_at ≡ 0 ∷ 3 ∷ 195 ∷ 323 ∷ 899 ∷ 1027 ∷ 1091 ∷ 1219 ∷ 1283 ∷ 1411 ∷ 1539 ∷ 1731 ∷ 1859 ∷ [])
    × (row_numbers ≡ 2115)
table = (refl, refl, refl, refl, refl)

-- `H` first and once, a group behind itself, none back, `O` only behind an `I` or its other `O`s
pub order : (may_follow 0 head_group ≡ true) × (may_follow 1 head_group ≡ false) × (may_follow 0 block_group ≡ false) × (may_follow 1 move_group ≡ true) × (may_follow 3 block_group ≡ false)
    × (may_follow 2 block_group ≡ true) × (may_follow 3 operand_group ≡ false) × (may_follow 4 operand_group ≡ true) × (may_follow 5 operand_group ≡ false)
order = (refl, refl, refl, refl, refl, refl, refl, refl, refl)

-- a line without its newline; a blank one; a carriage return; a field missing, and one too many. (No line of a group is longer than 79 bytes, so "at most 128" has no corner of its own.)
pub lines : (well_formed (83 ∷ 44 ∷ 56 ∷ 10 ∷ []) ≡ true) × (well_formed (83 ∷ 44 ∷ 56 ∷ []) ≡ false) × (well_formed (10 ∷ []) ≡ false)
    × (well_formed (83 ∷ 44 ∷ 56 ∷ 13 ∷ 10 ∷ []) ≡ false) × (well_formed (83 ∷ 44 ∷ 10 ∷ []) ≡ false) × (well_formed (83 ∷ 44 ∷ 56 ∷ 44 ∷ 56 ∷ 10 ∷ []) ≡ false)
unfolding parts group_of fields_of fits formed well_formed index_of digits value_from number_from field_of
lines = (refl, refl, refl, refl, refl, refl)

-- an instruction's row: the flag, the fields told apart, and how many `O` follow; `-` for unplaced, no base, no index; and for no slot
pub records : (row_with inst_group (2 ∷ 3 ∷ 4 ∷ 5 ∷ 6 ∷ 7 ∷ 8 ∷ []) 9 ≡ 1 ∷ 2 ∷ 3 ∷ 4 ∷ 5 ∷ 6 ∷ 7 ∷ 8 ∷ 9 ∷ [])
    × (row_with inst_group (dash ∷ 3 ∷ 4 ∷ 5 ∷ 6 ∷ dash ∷ dash ∷ []) 9 ≡ 0 ∷ 0 ∷ 3 ∷ 4 ∷ 5 ∷ 6 ∷ 256 ∷ 256 ∷ 9 ∷ [])
    × (row_with assigned_group (2 ∷ dash ∷ []) 9 ≡ 2 ∷ no_slot ∷ []) × (row_with move_group (2 ∷ 3 ∷ dash ∷ 5 ∷ []) 9 ≡ 2 ∷ 3 ∷ no_slot ∷ 5 ∷ [])
unfolding numbers
records = (refl, refl, refl, refl)

-- `-` where it has no place: a block's number, an operand
pub dashes : (well_formed (66 ∷ 44 ∷ 45 ∷ 44 ∷ 48 ∷ 44 ∷ 57 ∷ 10 ∷ []) ≡ false) × (well_formed (80 ∷ 44 ∷ 49 ∷ 44 ∷ 45 ∷ 10 ∷ []) ≡ true)
    × (well_formed (80 ∷ 44 ∷ 45 ∷ 44 ∷ 49 ∷ 10 ∷ []) ≡ false)
unfolding parts group_of fields_of fits formed well_formed index_of digits value_from number_from field_of
dashes = (refl, refl, refl)

-- V ≤ 64: `H,9,64,9` and `H,9,65,9`; an empty text lacks its first line; a second `H` is malformed
abbrev header : ℕ → List ℕ
header d = 72 ∷ 44 ∷ 57 ∷ 44 ∷ 54 ∷ d ∷ 44 ∷ 57 ∷ 10 ∷ []

pub heads : (too_many (header 52 ∷ []) ≡ false) × (too_many (header 53 ∷ []) ≡ true) × (text_verdict [] ≡ Bad TextRefused 0) × (text_verdict (header 52) ≡ Fine)
    × (text_verdict (header 52 ++ header 52) ≡ Bad TextRefused 1)
unfolding lines_of parts group_of fields_of fits formed well_formed line_group index_of digits value_from number_from field_of bad_line numbers operands_after rows_in crowded first scan
heads = (refl, refl, refl, refl, refl)
