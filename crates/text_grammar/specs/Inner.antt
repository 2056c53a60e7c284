-- What the functions here promise each other. No public promise names these.
use Rattle.std.specs.Prelude.{ℕ, List, length, ◌≡◌}
use Rattle.text_grammar.specs.Groups.{group_at, base_at}
use Rattle.text_grammar.specs.declared.Entry.{Entry}
use Rattle.text_grammar.specs.Text.{head_field}

abbrev pub most_fields : ℕ
most_fields = 7

-- The table's entry of a group, as the code has it.

pub record Tabled (k : ℕ) (e : Entry) : Type 0 where
  pub fields : e.fields ≡ length (group_at k).dashes
  pub place : e.place ≡ (group_at k).place
  pub least : e.least ≡ (group_at k).least
  pub most : e.most ≡ (group_at k).most
  pub width : e.width ≡ (group_at k).width
  pub room : e.room ≡ (group_at k).room
  pub base : e.base ≡ base_at k

abbrev pub points : List (List ℕ) → ℕ
points ls = head_field 0 ls

abbrev pub budget : List (List ℕ) → ℕ
budget ls = head_field 2 ls
