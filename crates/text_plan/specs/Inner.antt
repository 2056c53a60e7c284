-- What the functions here promise each other. No public promise names these.
use Rattle.std.specs.Prelude.{ℕ, ◌+◌, ◌≡◌, List, [], ◌∷◌, length}
use Rattle.refusals.specs.Outcomes.{unless}
use Rattle.words.specs.Widths.{range_start, range_end}
use Rattle.text_plan.specs.Lines.{line_text}
use Rattle.std.proofs.lemmas.List.Edits.{sets}
use Rattle.refusals.specs.Verdicts.{Verdict}

-- the line of a row of the area list
abbrev pub row_line : List ℕ → ℕ → ℕ → List ℕ
row_line areas i j = line_text 71 (i ∷ range_start areas j ∷ range_end areas j ∷ [])

-- two verdicts that refuse by the same number and index, or neither does
pub record Alike (v w : Verdict) : Type 0 where
  pub outcome : (l : List ℕ) → unless v l ≡ unless w l

-- Bytes written into a lent list from a place on; those that the list has no place for are only counted.

pub record Puts (bytes out : List ℕ) (at : ℕ) (out' : List ℕ) (next : ℕ) : Type 0 where
  pub place : next ≡ at + length bytes
  pub written : out' ≡ sets out at bytes
