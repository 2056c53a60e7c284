-- Document 01, "Job text": a line of text.
use Rattle.std.specs.Prelude.{ℕ, List, [], ◌∷◌, ◌++◌}
use Rattle.text_grammar.specs.Numerals.{decimal}

-- "fields are parted by commas"
unfoldable pub fields_text : List ℕ → List ℕ
fields_text [] = []
fields_text (n ∷ ns) = (44 ∷ decimal n) ++ fields_text ns

-- "each line ends in one newline"
abbrev pub line_text : ℕ → List ℕ → List ℕ
line_text letter ns = (letter ∷ fields_text ns) ++ (10 ∷ [])
