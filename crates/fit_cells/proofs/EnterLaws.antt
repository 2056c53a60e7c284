-- The work space after an item has entered a cell: what each table holds.
use Prim.Native.Nat.{ℕ, ◌+◌, ◌≤◌, ◌<◌}
use native.Mathlib.Omega.{arith}
use mathlib.Core.Path.{◌≡◌, ◌∙◌}
use mathlib.Core.Logic.{◌≢◌, ◌⊎◌, inl, inr}
use mathlib.Core.List.{List}
use lib.ListN.{length, get_or, set, length-set}
use lib.Seq.{get_or-set_same, get_or-set_other}
use Rattle.fit_tables.specs.Inner.{entered_in, head_at, next_at, list_at, head_table, link_table, cell_table, home_table, list_table, behind}
use Rattle.fit_tables.specs.declared.Tables.{Tables}

module _ (w : List ℕ) (t : Tables) (k i c link word area : ℕ) (room : behind t ≤ length w) (k_lt : k < t.n) (i_lt : i < t.n) (c_lt : c < t.n) where
  abbrev one : List ℕ
  one = set w (link_table t + k) link

  abbrev two : List ℕ
  two = set one (head_table t + c) (k + 1)

  abbrev three : List ℕ
  three = set two (cell_table t + c) word

  abbrev four : List ℕ
  four = set three (home_table t + i) c

  length_one : length one ≡ length w
  length_one = length-set w (link_table t + k) link

  length_two : length two ≡ length w
  length_two = length-set one (head_table t + c) (k + 1) ∙ length_one

  length_three : length three ≡ length w
  length_three = length-set two (cell_table t + c) word ∙ length_two

  length_four : length four ≡ length w
  length_four = length-set three (home_table t + i) c ∙ length_three

  pub entered_length : length (entered_in w t k i c link word area) ≡ length w
  entered_length = length-set four (list_table t + k) area ∙ length_four

  -- elsewhere
  other : (x : ℕ) → x ≢ link_table t + k → x ≢ head_table t + c → x ≢ cell_table t + c → x ≢ home_table t + i → x ≢ list_table t + k → get_or (entered_in w t k i c link word area) x 0 ≡ get_or w x 0
  other x d e f g h =
      get_or-set_other four (list_table t + k) x area 0 h ∙ get_or-set_other three (home_table t + i) x c 0 g ∙ get_or-set_other two (cell_table t + c) x word 0 f ∙ get_or-set_other one (head_table t + c) x (k + 1) 0 e ∙ get_or-set_other w (link_table t + k) x link 0 d

  pub entered_rest : (x : ℕ) → (x < head_table t) ⊎ (behind t ≤ x) → get_or (entered_in w t k i c link word area) x 0 ≡ get_or w x 0
  entered_rest x (inl h) = other x (λ e. omega arith) (λ e. omega arith) (λ e. omega arith) (λ e. omega arith) (λ e. omega arith)
  entered_rest x (inr h) = other x (λ e. omega arith) (λ e. omega arith) (λ e. omega arith) (λ e. omega arith) (λ e. omega arith)

  pub next_same : next_at (entered_in w t k i c link word area) t k ≡ link
  next_same =
      get_or-set_other four (list_table t + k) (link_table t + k) area 0 (λ e. omega arith) ∙ get_or-set_other three (home_table t + i) (link_table t + k) c 0 (λ e. omega arith) ∙ get_or-set_other two (cell_table t + c) (link_table t + k) word 0 (λ e. omega arith)
      ∙ get_or-set_other one (head_table t + c) (link_table t + k) (k + 1) 0 (λ e. omega arith) ∙ get_or-set_same w (link_table t + k) link 0 (omega arith)

  pub next_other : (q : ℕ) → q < t.n → q ≢ k → next_at (entered_in w t k i c link word area) t q ≡ next_at w t q
  next_other q h d = other (link_table t + q) (λ e. d (omega arith)) (λ e. omega arith) (λ e. omega arith) (λ e. omega arith) (λ e. omega arith)

  pub head_same : head_at (entered_in w t k i c link word area) t c ≡ k + 1
  head_same =
      get_or-set_other four (list_table t + k) (head_table t + c) area 0 (λ e. omega arith) ∙ get_or-set_other three (home_table t + i) (head_table t + c) c 0 (λ e. omega arith) ∙ get_or-set_other two (cell_table t + c) (head_table t + c) word 0 (λ e. omega arith)
      ∙ get_or-set_same one (head_table t + c) (k + 1) 0 (rw length_one (omega arith))

  pub head_other : (b : ℕ) → b < t.n → b ≢ c → head_at (entered_in w t k i c link word area) t b ≡ head_at w t b
  head_other b h d = other (head_table t + b) (λ e. omega arith) (λ e. d (omega arith)) (λ e. omega arith) (λ e. omega arith) (λ e. omega arith)

  pub word_same : get_or (entered_in w t k i c link word area) (cell_table t + c) 0 ≡ word
  word_same = get_or-set_other four (list_table t + k) (cell_table t + c) area 0 (λ e. omega arith) ∙ get_or-set_other three (home_table t + i) (cell_table t + c) c 0 (λ e. omega arith) ∙ get_or-set_same two (cell_table t + c) word 0 (rw length_two (omega arith))

  pub word_other : (b : ℕ) → b < t.n → b ≢ c → get_or (entered_in w t k i c link word area) (cell_table t + b) 0 ≡ get_or w (cell_table t + b) 0
  word_other b h d = other (cell_table t + b) (λ e. omega arith) (λ e. omega arith) (λ e. d (omega arith)) (λ e. omega arith) (λ e. omega arith)

  pub cell_same : get_or (entered_in w t k i c link word area) (home_table t + i) 0 ≡ c
  cell_same = get_or-set_other four (list_table t + k) (home_table t + i) area 0 (λ e. omega arith) ∙ get_or-set_same three (home_table t + i) c 0 (rw length_three (omega arith))

  pub cell_other : (j : ℕ) → j < t.n → j ≢ i → get_or (entered_in w t k i c link word area) (home_table t + j) 0 ≡ get_or w (home_table t + j) 0
  cell_other j h d = other (home_table t + j) (λ e. omega arith) (λ e. omega arith) (λ e. omega arith) (λ e. d (omega arith)) (λ e. omega arith)

  pub list_same : list_at (entered_in w t k i c link word area) t k ≡ area
  list_same = get_or-set_same four (list_table t + k) area 0 (rw length_four (omega arith))

  pub list_other : (q : ℕ) → q < t.n → q ≢ k → list_at (entered_in w t k i c link word area) t q ≡ list_at w t q
  list_other q h d = other (list_table t + q) (λ e. omega arith) (λ e. omega arith) (λ e. omega arith) (λ e. omega arith) (λ e. d (omega arith))
