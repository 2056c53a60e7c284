-- Document 01, "Job text": a text as lines, a line as a letter and fields "parted by commas".
use Rattle.std.specs.Prelude.{ℕ, ◌-◌, Bool, true, false, cond, ◌&&◌, List, [], ◌∷◌, map, length, get_or, take, drop, eqb, leb, ltb}
use Rattle.text_grammar.specs.Numerals.{field_of, dash, limit}
use Rattle.text_grammar.specs.Groups.{group_at, letters, index_of, group_count}

abbrev pub newline : ℕ
newline = 10

abbrev pub comma : ℕ
comma = 44

abbrev pub onto : ℕ → List (List ℕ) → List (List ℕ)
onto b [] = (b ∷ []) ∷ []
onto b (p ∷ ps) = (b ∷ p) ∷ ps

-- the lines of a text: "each line ends in one newline, counted"; what stands behind the last newline is a line too, and malformed
unfoldable pub lines_of : List ℕ → List (List ℕ)
lines_of [] = []
lines_of (b ∷ s) = cond (eqb b newline) ((b ∷ []) ∷ lines_of s) (onto b (lines_of s))

-- the parts between separators
unfoldable pub parts : ℕ → List ℕ → List (List ℕ)
parts c [] = [] ∷ []
parts c (b ∷ s) = cond (eqb b c) ([] ∷ parts c s) (onto b (parts c s))

-- a line ends in a newline; what stands before it
abbrev pub ended : List ℕ → Bool
ended l = eqb (get_or l (length l - 1) 0) newline

abbrev pub body : List ℕ → List ℕ
body l = take (length l - 1) l

-- the first part is the letter, the others are the fields
abbrev pub letter_in : List (List ℕ) → ℕ
letter_in ps = cond (eqb (length (get_or ps 0 [])) 1) (get_or (get_or ps 0 []) 0 0) 0

unfoldable pub group_of : List ℕ → ℕ
group_of b = index_of (letter_in (parts comma b)) letters

unfoldable pub fields_of : List ℕ → List ℕ
fields_of b = map field_of (drop 1 (parts comma b))

-- what a field means where `-` stands for d; no number where `-` has no place or what stands there is no field
abbrev pub meant : ℕ → ℕ → ℕ
meant d f = cond (eqb f dash) d f

-- each field is a number, or `-` where it has a place, and there are as many as the group has
unfoldable pub fits : List ℕ → List ℕ → Bool
fits [] [] = true
fits [] (f ∷ fs) = false
fits (d ∷ ds) [] = false
fits (d ∷ ds) (f ∷ fs) = ltb (meant d f) limit && fits ds fs

-- what stands before the newline has a group's letter and its fields
unfoldable pub formed : List ℕ → Bool
formed b = ltb (group_of b) group_count && fits (group_at (group_of b)).dashes (fields_of b)

-- "lines of at most 128 bytes", the newline among them
abbrev pub longest : ℕ
longest = 128

-- a line by itself
unfoldable pub well_formed : List ℕ → Bool
well_formed l = leb (length l) longest && (ended l && formed (body l))

-- the group of a line, or `group_count` where it is malformed, and its fields
unfoldable pub line_group : List ℕ → ℕ
line_group l = cond (well_formed l) (group_of (body l)) group_count

abbrev pub line_fields : List ℕ → List ℕ
line_fields l = fields_of (body l)
