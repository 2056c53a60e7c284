-- ★1's text, of the definitions: no line is malformed, and it decodes to these rows.
use mathlib.Core.Path.{◌≡◌, refl}
use mathlib.Core.List.{List, [], ◌∷◌}
use Prim.Native.Nat.{ℕ}
use Rattle.refusals.specs.Verdicts.{first, scan, Fine}
use Rattle.text_grammar.specs.Numerals.{digits, value_from, number_from, field_of}
use Rattle.text_grammar.specs.Groups.{index_of, head_group, block_group, edge_group, inst_group, operand_group, crossing_group, local_group, slot_group}
use Rattle.text_grammar.specs.Groups.{address_group, end_group, piece_group, assigned_group, move_group}
use Rattle.text_grammar.specs.Lines.{lines_of, parts, group_of, fields_of, fits, formed, well_formed, line_group}
use Rattle.text_grammar.specs.Text.{bad_line, numbers, operands_after, rows_in, crowded, read_verdict}

unfoldable pub star : List ℕ
star =
    -- H,20,0,1048576
    72 ∷ 44 ∷ 50 ∷ 48 ∷ 44 ∷ 48 ∷ 44 ∷ 49 ∷ 48 ∷ 52 ∷ 56 ∷ 53 ∷ 55 ∷ 54 ∷ 10 ∷
    -- B,0,0,19
    66 ∷ 44 ∷ 48 ∷ 44 ∷ 48 ∷ 44 ∷ 49 ∷ 57 ∷ 10 ∷
    -- I,0,2,3,0,0,-,-
    73 ∷ 44 ∷ 48 ∷ 44 ∷ 50 ∷ 44 ∷ 51 ∷ 44 ∷ 48 ∷ 44 ∷ 48 ∷ 44 ∷ 45 ∷ 44 ∷ 45 ∷ 10 ∷
    -- I,0,6,7,0,0,-,-
    73 ∷ 44 ∷ 48 ∷ 44 ∷ 54 ∷ 44 ∷ 55 ∷ 44 ∷ 48 ∷ 44 ∷ 48 ∷ 44 ∷ 45 ∷ 44 ∷ 45 ∷ 10 ∷
    -- L,8,8
    76 ∷ 44 ∷ 56 ∷ 44 ∷ 56 ∷ 10 ∷
    -- L,4,4
    76 ∷ 44 ∷ 52 ∷ 44 ∷ 52 ∷ 10 ∷
    -- A,0,0
    65 ∷ 44 ∷ 48 ∷ 44 ∷ 48 ∷ 10 ∷
    -- A,1,1
    65 ∷ 44 ∷ 49 ∷ 44 ∷ 49 ∷ 10 ∷ []

-- its records: points, V and budget; a block; two instructions without operands; two locals; two addresses
pub record Read (text : List ℕ) : Type 0 where
  pub fine : read_verdict text ≡ Fine
  pub head : rows_in head_group (lines_of text) ≡ (20 ∷ 0 ∷ 1048576 ∷ []) ∷ []
  pub blocks : rows_in block_group (lines_of text) ≡ (0 ∷ 0 ∷ 19 ∷ []) ∷ []
  pub edges : rows_in edge_group (lines_of text) ≡ []
  pub insts : rows_in inst_group (lines_of text) ≡ (1 ∷ 0 ∷ 2 ∷ 3 ∷ 0 ∷ 0 ∷ 256 ∷ 256 ∷ 0 ∷ []) ∷ (1 ∷ 0 ∷ 6 ∷ 7 ∷ 0 ∷ 0 ∷ 256 ∷ 256 ∷ 0 ∷ []) ∷ []
  pub operands : rows_in operand_group (lines_of text) ≡ []
  pub crossings : rows_in crossing_group (lines_of text) ≡ []
  pub locals : rows_in local_group (lines_of text) ≡ (8 ∷ 8 ∷ []) ∷ (4 ∷ 4 ∷ []) ∷ []
  pub slots : rows_in slot_group (lines_of text) ≡ []
  pub addresses : rows_in address_group (lines_of text) ≡ (0 ∷ 0 ∷ []) ∷ (1 ∷ 1 ∷ []) ∷ []
  pub ends : rows_in end_group (lines_of text) ≡ []
  pub pieces : rows_in piece_group (lines_of text) ≡ []
  pub assigned : rows_in assigned_group (lines_of text) ≡ []
  pub moves : rows_in move_group (lines_of text) ≡ []

pub star_1 : Read star
unfolding star lines_of parts group_of fields_of fits formed well_formed line_group index_of digits value_from number_from field_of bad_line numbers operands_after rows_in crowded first scan
star_1 = record {
  fine = refl;
  head = refl;
  blocks = refl;
  edges = refl;
  insts = refl;
  operands = refl;
  crossings = refl;
  locals = refl;
  slots = refl;
  addresses = refl;
  ends = refl;
  pieces = refl;
  assigned = refl;
  moves = refl;
}
