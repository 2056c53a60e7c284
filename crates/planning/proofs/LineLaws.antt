-- The lines of a text that is printed: each ends in its newline, and tells its letter and its numbers.
use Prim.Native.Nat.{ℕ, zero, suc, ◌-◌, ◌<◌, ◌^◌}
use native.Mathlib.Omega.{arith}
use mathlib.Core.Path.{◌≡◌, refl, ap, sym, subst, ◌∙◌}
use mathlib.Core.Logic.{◌⊎◌, inl, inr, ⊎_elim}
use mathlib.Core.Bool.{Bool, true, false, cond}
use mathlib.Core.Option.{Option, some, none}
use mathlib.Core.List.Memᴰ
use mathlib.Core.List.{List, [], ◌∷◌, ◌++◌, map, append_assoc, append-nil, Memᴰ}
use lib.ListN.{get_or, drop}
use lib.Dec.{leb}
use borrow.Author.Tests.{ne_eqb, leb-true}
use Rattle.words.specs.Rows.{tabulate, flat}
use Rattle.words.specs.Widths.{cell_count, item_row_count}
use Rattle.words.proofs.Bools.{and_both, not_both}
use Rattle.words.proofs.RowLaws.{mem_tabulate, mem_of_tabulate}
use Rattle.ranges.specs.declared.Range.{Range}
use Rattle.fitting.specs.Queries.{slots_of, shared}
use Rattle.text_grammar.specs.Numerals.{decimal, digit, digits, value_from}
use Rattle.text_grammar.specs.Lines.{newline, lines_of}
use Rattle.text_grammar.proofs.RoundTrip.{decimal_digits, decimal_value}
use Rattle.text_lines.specs.Inner.{unbroken}
use Rattle.text_lines.proofs.ByteLaws.{lines_end}
use Rattle.text_plan.specs.Lines.{fields_text, line_text}
use Rattle.text_plan.specs.Printed.{cell_line, item_line, range_line, area_lines, shared_lines, total_line, printed}

-- ---- a line ends in its newline, and has no other

digits_unbroken : (s more : List ℕ) → digits s ≡ true → unbroken more ≡ true → unbroken (s ++ more) ≡ true
unfolding digits unbroken
digits_unbroken [] more e u = u
digits_unbroken (b ∷ s) more e u =
    let p = and_both (digit b) (digits s) e in
    ap (λ (t : Bool). cond t false (unbroken (s ++ more))) (ne_eqb b newline (λ q. let l = leb-true 48 b (and_both (leb 48 b) (leb b 57) p.0).0 in omega arith))
    ∙ digits_unbroken s more p.1 u

fields_unbroken : (ns : List ℕ) → unbroken (fields_text ns) ≡ true
unfolding fields_text unbroken
fields_unbroken [] = refl
fields_unbroken (n ∷ ns) = digits_unbroken (decimal n) (fields_text ns) (decimal_digits n) (fields_unbroken ns)

line_is : (letter : ℕ) (ns : List ℕ) → (letter ≡ newline → ⊥) → (more : List ℕ) → lines_of (line_text letter ns ++ more) ≡ line_text letter ns ∷ lines_of more
unfolding unbroken
line_is letter ns d more =
    ap lines_of (append_assoc (letter ∷ fields_text ns) (10 ∷ []) more)
    ∙ lines_end (letter ∷ fields_text ns) more (ap (λ (t : Bool). cond t false (unbroken (fields_text ns))) (ne_eqb letter newline d) ∙ fields_unbroken ns)

lines_flat : (row : ℕ → List ℕ) (n : ℕ) (more : List ℕ) → ((i : ℕ) (m : List ℕ) → lines_of (row i ++ m) ≡ row i ∷ lines_of m) → lines_of (flat (tabulate n row) ++ more) ≡ tabulate n row ++ lines_of more
unfolding flat tabulate
lines_flat row zero more h = refl
lines_flat row (suc n) more h =
    ap lines_of (append_assoc (row 0) (flat (tabulate n (λ i. row (suc i)))) more) ∙ h 0 (flat (tabulate n (λ i. row (suc i))) ++ more)
    ∙ ap (λ (l : List (List ℕ)). row 0 ∷ l) (lines_flat (λ i. row (suc i)) n more (λ i m. h (suc i) m))

-- lines that all have one letter
pub record Block (letter : ℕ) (text : List ℕ) : Type 0 where
  pub lines : List (List ℕ)
  pub split : (more : List ℕ) → lines_of (text ++ more) ≡ lines ++ lines_of more
  pub lettered : (l : List ℕ) → Memᴰ l lines → get_or l 0 0 ≡ letter

block_none : (letter : ℕ) → Block letter []
block_none letter = record { lines = []; split = λ more. refl; lettered = λ l m. absurd (Memᴰ.not-nil m) }

block_line : (letter : ℕ) (ns : List ℕ) → (letter ≡ newline → ⊥) → Block letter (line_text letter ns)
block_line letter ns d = record { lines = line_text letter ns ∷ []; split = line_is letter ns d; lettered = λ l m. ap (λ (x : List ℕ). get_or x 0 0) (Memᴰ.eq_of_singleton m) }

block_then : {letter : ℕ} {a b : List ℕ} → Block letter a → Block letter b → Block letter (a ++ b)
block_then {letter} {a} {b} p q = record {
  lines = p.lines ++ q.lines;
  split = λ more. ap lines_of (append_assoc a b more) ∙ p.split (b ++ more) ∙ ap (λ (l : List (List ℕ)). p.lines ++ l) (q.split more) ∙ sym (append_assoc p.lines q.lines (lines_of more));
  lettered = λ l m. ⊎_elim (p.lettered l) (q.lettered l) (Memᴰ.append_cases p.lines m);
}

block_ranges : (i : ℕ) (rs : List Range) → Block 71 (flat (map (range_line i) rs))
unfolding flat
block_ranges i [] = block_none 71
block_ranges i (r ∷ rs) = block_then (block_line 71 (i ∷ r.start ∷ r.end ∷ []) (λ e. omega arith)) (block_ranges i rs)

block_area : (i : ℕ) (o : Option (List Range)) → Block 71 (area_lines i o)
block_area i none = block_none 71
block_area i (some rs) = block_ranges i rs

block_flat : {letter : ℕ} (row : ℕ → List ℕ) → ((i : ℕ) → Block letter (row i)) → (n : ℕ) → Block letter (flat (tabulate n row))
unfolding flat tabulate
block_flat {letter} row h zero = block_none letter
block_flat row h (suc n) = block_then (h 0) (block_flat (λ i. row (suc i)) (λ i. h (suc i)) n)

-- ---- a line tells its numbers

-- what stands behind the letter
abbrev rest : List ℕ → List ℕ
rest ns = fields_text ns ++ (10 ∷ [])

rest_next : (n : ℕ) (ns : List ℕ) → rest (n ∷ ns) ≡ 44 ∷ (decimal n ++ rest ns)
unfolding fields_text
rest_next n ns = ap (λ (l : List ℕ). 44 ∷ l) (append_assoc (decimal n) (fields_text ns) (10 ∷ []))

rest_first : (ns : List ℕ) → digit (get_or (rest ns) 0 0) ≡ false
unfolding fields_text
rest_first [] = refl
rest_first (n ∷ ns) = refl

split_digits : (s t u v : List ℕ) → digits s ≡ true → digits t ≡ true → digit (get_or u 0 0) ≡ false → digit (get_or v 0 0) ≡ false → s ++ u ≡ t ++ v → (s ≡ t) × (u ≡ v)
unfolding digits
split_digits [] [] u v a b x y e = (refl, e)
split_digits [] (d ∷ t) u v a b x y e = not_both (and_both (digit d) (digits t) b).0 (ap (λ (l : List ℕ). digit (get_or l 0 0)) (sym e) ∙ x)
split_digits (c ∷ s) [] u v a b x y e = not_both (and_both (digit c) (digits s) a).0 (ap (λ (l : List ℕ). digit (get_or l 0 0)) e ∙ y)
split_digits (c ∷ s) (d ∷ t) u v a b x y e =
    let h : c ≡ d = ap (λ (l : List ℕ). get_or l 0 0) e in
    let r = split_digits s t u v (and_both (digit c) (digits s) a).1 (and_both (digit d) (digits t) b).1 x y (ap (drop 1) e) in
    (ap (λ (k : ℕ). k ∷ s) h ∙ ap (λ (l : List ℕ). d ∷ l) r.0, r.1)

same_number : (m n : ℕ) (ms ns : List ℕ) → m < 2 ^ 64 → n < 2 ^ 64 → rest (m ∷ ms) ≡ rest (n ∷ ns) → (m ≡ n) × (rest ms ≡ rest ns)
same_number m n ms ns h k e =
    let p = split_digits (decimal m) (decimal n) (rest ms) (rest ns) (decimal_digits m) (decimal_digits n) (rest_first ms) (rest_first ns) (ap (drop 1) (sym (rest_next m ms) ∙ e ∙ rest_next n ns)) in
    (sym (decimal_value m h) ∙ ap (value_from 0) p.0 ∙ decimal_value n k, p.1)

-- the first two numbers
pub same_two : (letter a b c d : ℕ) (ms ns : List ℕ) → a < 2 ^ 64 → b < 2 ^ 64 → c < 2 ^ 64 → d < 2 ^ 64 → line_text letter (a ∷ b ∷ ms) ≡ line_text letter (c ∷ d ∷ ns) → (a ≡ c) × (b ≡ d)
same_two letter a b c d ms ns ha hb hc hd e =
    let p = same_number a c (b ∷ ms) (d ∷ ns) ha hc (ap (drop 1) e) in
    (p.0, (same_number b d ms ns hb hd p.1).0)

-- ---- the lines of a plan's text

module _ (cells items areas : List ℕ) (locals probes depth : ℕ) where
  abbrev cs : List (List ℕ)
  cs = tabulate (cell_count cells) (cell_line cells)

  abbrev xs : List (List ℕ)
  xs = tabulate locals (item_line 76 items 0)

  abbrev ss : List (List ℕ)
  ss = tabulate (item_row_count items - locals) (item_line 83 items locals)

  pub gs : Block 71 (shared_lines cells items areas locals)
  gs = block_flat (λ i. area_lines i (shared (slots_of locals cells items areas) i)) (λ i. block_area i (shared (slots_of locals cells items areas) i)) locals

  no_lines : lines_of [] ≡ []
  unfolding lines_of
  no_lines = refl

  last : lines_of (total_line cells items probes depth) ≡ total_line cells items probes depth ∷ []
  last =
      ap lines_of (sym (append-nil (total_line cells items probes depth))) ∙ line_is 84 (cell_count cells ∷ (item_row_count items - cell_count cells) ∷ probes ∷ depth ∷ []) (λ e. omega arith) []
      ∙ ap (λ (l : List (List ℕ)). total_line cells items probes depth ∷ l) no_lines

  pub printed_lines : lines_of (printed cells items areas locals probes depth) ≡ cs ++ (xs ++ (ss ++ (gs.lines ++ (total_line cells items probes depth ∷ []))))
  printed_lines =
      lines_flat (cell_line cells) (cell_count cells) _ (λ i m. line_is 67 _ (λ e. omega arith) m)
      ∙ ap (λ (l : List (List ℕ)). cs ++ l)
      (lines_flat (item_line 76 items 0) locals _ (λ i m. line_is 76 _ (λ e. omega arith) m)
      ∙ ap (λ (l : List (List ℕ)). xs ++ l)
      (lines_flat (item_line 83 items locals) (item_row_count items - locals) _ (λ i m. line_is 83 _ (λ e. omega arith) m)
      ∙ ap (λ (l : List (List ℕ)). ss ++ l) (gs.split (total_line cells items probes depth) ∙ ap (λ (l : List (List ℕ)). gs.lines ++ l) last)))

  abbrev Line : List ℕ → Type 0
  Line l = Memᴰ l (lines_of (printed cells items areas locals probes depth))

  pub cell_in_lem : (i : ℕ) → i < cell_count cells → Line (cell_line cells i)
  cell_in_lem i h = subst (λ (x : List (List ℕ)). Memᴰ (cell_line cells i) x) (sym printed_lines) (Memᴰ.append_left (xs ++ (ss ++ (gs.lines ++ (total_line cells items probes depth ∷ [])))) (mem_tabulate (cell_count cells) (cell_line cells) i h))

  pub local_in : (i : ℕ) → i < locals → Line (item_line 76 items 0 i)
  local_in i h =
      subst (λ (x : List (List ℕ)). Memᴰ (item_line 76 items 0 i) x) (sym printed_lines)
      (Memᴰ.append_right cs (Memᴰ.append_left (ss ++ (gs.lines ++ (total_line cells items probes depth ∷ []))) (mem_tabulate locals (item_line 76 items 0) i h)))

  pub slot_in : (i : ℕ) → i < item_row_count items - locals → Line (item_line 83 items locals i)
  slot_in i h =
      subst (λ (x : List (List ℕ)). Memᴰ (item_line 83 items locals i) x) (sym printed_lines)
      (Memᴰ.append_right cs (Memᴰ.append_right xs (Memᴰ.append_left (gs.lines ++ (total_line cells items probes depth ∷ [])) (mem_tabulate (item_row_count items - locals) (item_line 83 items locals) i h))))

  -- a line of the text stands among those of its letter
  module _ (l : List ℕ) (m : Memᴰ l (lines_of (printed cells items areas locals probes depth))) where
    of_letter : (n : ℕ) (row : ℕ → List ℕ) (letter : ℕ) → ((i : ℕ) → get_or (row i) 0 0 ≡ letter) → Memᴰ l (tabulate n row) → get_or l 0 0 ≡ letter
    of_letter n row letter h q = let f = mem_of_tabulate n row q in ap (λ (x : List ℕ). get_or x 0 0) f.2 ∙ h f.0

    in_lines : Memᴰ l (cs ++ (xs ++ (ss ++ (gs.lines ++ (total_line cells items probes depth ∷ [])))))
    in_lines = subst (λ (x : List (List ℕ)). Memᴰ l x) printed_lines m

    abbrev Else : Type 0
    Else = (get_or l 0 0 ≡ 71) ⊎ (get_or l 0 0 ≡ 84)

    behind : Memᴰ l (gs.lines ++ (total_line cells items probes depth ∷ [])) → Else
    behind q = ⊎_elim (λ a. inl (gs.lettered l a)) (λ a. inr (ap (λ (x : List ℕ). get_or x 0 0) (Memᴰ.eq_of_singleton a))) (Memᴰ.append_cases gs.lines q)

    blocks : Memᴰ l cs ⊎ (Memᴰ l xs ⊎ (Memᴰ l ss ⊎ Else))
    blocks =
        ⊎_elim inl (λ a. inr (⊎_elim inl (λ b. inr (⊎_elim inl (λ d. inr (behind d)) (Memᴰ.append_cases ss b))) (Memᴰ.append_cases xs a))) (Memᴰ.append_cases cs in_lines)

    not_else : (letter : ℕ) → get_or l 0 0 ≡ letter → (letter ≡ 71 → ⊥) → (letter ≡ 84 → ⊥) → Else → ⊥
    not_else letter e a b = ⊎_elim (λ q. a (sym e ∙ q)) (λ q. b (sym e ∙ q))

    pub cell_line_lem : get_or l 0 0 ≡ 67 → (i : ℕ) × (i < cell_count cells) × (l ≡ cell_line cells i)
    cell_line_lem e =
        ⊎_elim (λ a. mem_of_tabulate (cell_count cells) (cell_line cells) a)
        (⊎_elim (λ a. absurd (let z = sym e ∙ of_letter locals (item_line 76 items 0) 76 (λ i. refl) a in omega arith))
        (⊎_elim (λ a. absurd (let z = sym e ∙ of_letter (item_row_count items - locals) (item_line 83 items locals) 83 (λ i. refl) a in omega arith))
        (λ a. absurd (not_else 67 e (λ q. omega arith) (λ q. omega arith) a)))) blocks

    pub local_line : get_or l 0 0 ≡ 76 → (i : ℕ) × (i < locals) × (l ≡ item_line 76 items 0 i)
    local_line e =
        ⊎_elim (λ a. absurd (let z = sym e ∙ of_letter (cell_count cells) (cell_line cells) 67 (λ i. refl) a in omega arith))
        (⊎_elim (λ a. mem_of_tabulate locals (item_line 76 items 0) a)
        (⊎_elim (λ a. absurd (let z = sym e ∙ of_letter (item_row_count items - locals) (item_line 83 items locals) 83 (λ i. refl) a in omega arith))
        (λ a. absurd (not_else 76 e (λ q. omega arith) (λ q. omega arith) a)))) blocks

    pub slot_line : get_or l 0 0 ≡ 83 → (i : ℕ) × (i < item_row_count items - locals) × (l ≡ item_line 83 items locals i)
    slot_line e =
        ⊎_elim (λ a. absurd (let z = sym e ∙ of_letter (cell_count cells) (cell_line cells) 67 (λ i. refl) a in omega arith))
        (⊎_elim (λ a. absurd (let z = sym e ∙ of_letter locals (item_line 76 items 0) 76 (λ i. refl) a in omega arith))
        (⊎_elim (λ a. mem_of_tabulate (item_row_count items - locals) (item_line 83 items locals) a)
        (λ a. absurd (not_else 83 e (λ q. omega arith) (λ q. omega arith) a)))) blocks
