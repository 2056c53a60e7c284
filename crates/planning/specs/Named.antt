-- Document 01, demand 3, of what the program prints: the cells that the `L` and `S` lines of a text name, and the sizes that its `C` lines tell.
use Rattle.std.specs.Prelude.{ℕ, ◌+◌, ◌<◌, ◌^◌, length}
use mathlib.Core.List.{List, [], ◌∷◌, Memᴰ}
use Rattle.areas.specs.Job.{Job, item_count}
use Rattle.text_grammar.specs.Lines.{lines_of}
use Rattle.text_plan.specs.Lines.{line_text}

-- a line is one of a text's lines
abbrev pub Listed : List ℕ → List ℕ → Type 0
Listed text line = Memᴰ line (lines_of text)

-- `L,i,c` and `S,i,c` name the cell of each item, locals first, then slots; `C,c,size,align` tells the size of each cell named; numbers of 64 bits
pub record Named (J : Job) (text : List ℕ) (cell size : ℕ → ℕ) : Type 0 where
  pub locals : (i : ℕ) → i < length J.locals → Listed text (line_text 76 (i ∷ cell i ∷ []))
  pub slots : (i : ℕ) → i < length J.slots → Listed text (line_text 83 (i ∷ cell (length J.locals + i) ∷ []))
  pub cells : (i : ℕ) → i < item_count J → (align : ℕ) × Listed text (line_text 67 (cell i ∷ size (cell i) ∷ align ∷ []))
  pub cell_small : (i : ℕ) → i < item_count J → cell i < 2 ^ 64
  pub size_small : (i : ℕ) → i < item_count J → size (cell i) < 2 ^ 64
