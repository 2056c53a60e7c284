-- The rows that lines decode to, and one line more.
use Prim.Native.Nat.{ℕ, zero, suc, ◌+◌, ◌*◌, ◌<◌}
use native.Mathlib.Omega.{arith}
use native.Mathlib.Nat.{mul-suc, mul-zero}
use mathlib.Core.Path.{◌≡◌, refl, ap, sym, ◌∙◌}
use mathlib.Core.Bool.{Bool, true, false, cond}
use mathlib.Core.List.{List, [], ◌∷◌, ◌++◌}
use lib.ListN.{length, get_or, length-append}
use lib.Dec.{eqb, leb, ltb, eqb→eq, lit<}
use borrow.Author.Tests.{eq-eqb, ne_eqb, eqb-true, ltb-true}
use Rattle.words.specs.Rows.{flat}
use Rattle.words.proofs.Points.{same}
use Rattle.words.proofs.Bools.{and_both, never}
use Rattle.text_grammar.specs.Numerals.{limit}
use Rattle.text_grammar.specs.Groups.{group_at, group_count, inst_group, operand_group}
use Rattle.text_grammar.specs.Lines.{meant, fits, group_of, formed, well_formed, body, ended, line_group, line_fields}
use Rattle.text_grammar.specs.Text.{numbers, placed, row_with, operands_after, rows_in, count_of}
use Rattle.text_grammar.proofs.TableLaws.{at}

-- ---- a line that has a group is well formed, and its row has the group's width

has_group : (l : List ℕ) → line_group l < group_count → (well_formed l ≡ true) × (line_group l ≡ group_of (body l))
unfolding line_group
has_group l h = go (well_formed l) refl h
  where
    go : (t : Bool) → well_formed l ≡ t → cond t (group_of (body l)) group_count < group_count → (well_formed l ≡ true) × (cond (well_formed l) (group_of (body l)) group_count ≡ group_of (body l))
    go true e g = (e, ap (λ (t : Bool). cond t (group_of (body l)) group_count) e)
    go false e g = absurd (omega arith)

pub group_fits : (l : List ℕ) → line_group l < group_count → fits (group_at (line_group l)).dashes (line_fields l) ≡ true
unfolding well_formed formed
group_fits l h =
    ap (λ (k : ℕ). fits (group_at k).dashes (line_fields l)) (has_group l h).1
    ∙ (and_both (ltb (group_of (body l)) group_count) _ (and_both (ended l) _ (and_both (leb (length l) 128) _ (has_group l h).0).1).1).1

pub length_numbers : (ds fs : List ℕ) → fits ds fs ≡ true → (length (numbers ds fs) ≡ length ds) × (length fs ≡ length ds)
unfolding fits numbers
length_numbers [] [] e = (refl, refl)
length_numbers [] (f ∷ fs) e = never e
length_numbers (d ∷ ds) [] e = never e
length_numbers (d ∷ ds) (f ∷ fs) e =
    let r = length_numbers ds fs (and_both (ltb (meant d f) 4294967296) (fits ds fs) e).1 in (ap suc r.0, ap suc r.1)

wide_entry : ℕ → Bool
wide_entry k = eqb (group_at k).width (cond (eqb k inst_group) (suc (length (group_at k).dashes + 1)) (length (group_at k).dashes))

pub length_row : (k : ℕ) (fs : List ℕ) (n : ℕ) → k < group_count → fits (group_at k).dashes fs ≡ true → length (row_with k fs n) ≡ (group_at k).width
unfolding wide_entry
length_row k fs n h e =
    go (eqb k inst_group) (length_numbers (group_at k).dashes fs e).0 ∙ sym (eqb→eq (group_at k).width _ (at group_count wide_entry tt k h))
  where
    go : (t : Bool) → length (numbers (group_at k).dashes fs) ≡ length (group_at k).dashes
        → length (cond t (placed fs ∷ (numbers (group_at k).dashes fs ++ (n ∷ []))) (numbers (group_at k).dashes fs))
        ≡ cond t (suc (length (group_at k).dashes + 1)) (length (group_at k).dashes)
    go true q = ap suc (length-append (numbers (group_at k).dashes fs) (n ∷ []) ∙ ap (λ (m : ℕ). m + 1) q)
    go false q = q

pub length_rows : (k : ℕ) → k < group_count → (ls : List (List ℕ)) → length (flat (rows_in k ls)) ≡ (group_at k).width * count_of k ls
unfolding rows_in flat
length_rows k h [] = sym (mul-zero (group_at k).width)
length_rows k h (l ∷ ls) = go (eqb (line_group l) k) refl (length_rows k h ls)
  where
    go : (t : Bool) → eqb (line_group l) k ≡ t → length (flat (rows_in k ls)) ≡ (group_at k).width * count_of k ls
        → length (flat (cond t (row_with k (line_fields l) (operands_after ls) ∷ rows_in k ls) (rows_in k ls)))
        ≡ (group_at k).width * length (cond t (row_with k (line_fields l) (operands_after ls) ∷ rows_in k ls) (rows_in k ls))
    go true e q =
        let g : line_group l ≡ k = eqb-true (line_group l) k e in
        length-append (row_with k (line_fields l) (operands_after ls)) (flat (rows_in k ls))
        ∙ omega (arith, length_row k (line_fields l) (operands_after ls) h (rw g at (group_fits l (rw g h))), mul-suc (group_at k).width (count_of k ls))
    go false e q = q

-- ---- the numbers of a row are 32-bit; only an instruction's operand count is none of its fields

numbers_below : (ds fs : List ℕ) → fits ds fs ≡ true → (i : ℕ) → get_or (numbers ds fs) i 0 < limit
unfolding fits numbers
numbers_below [] [] e i = lit< tt
numbers_below [] (f ∷ fs) e i = never e
numbers_below (d ∷ ds) [] e i = never e
numbers_below (d ∷ ds) (f ∷ fs) e zero = ltb-true (meant d f) limit (and_both (ltb (meant d f) limit) (fits ds fs) e).0
numbers_below (d ∷ ds) (f ∷ fs) e (suc i) = numbers_below ds fs (and_both (ltb (meant d f) limit) (fits ds fs) e).1 i

append_below : (a b : List ℕ) (m : ℕ) → ((i : ℕ) → get_or a i 0 < m) → ((i : ℕ) → get_or b i 0 < m) → (i : ℕ) → get_or (a ++ b) i 0 < m
append_below [] b m f g i = g i
append_below (x ∷ a) b m f g zero = f 0
append_below (x ∷ a) b m f g (suc i) = append_below a b m (λ j. f (suc j)) g i

pub rows_below : (k : ℕ) → k < group_count → (k ≡ inst_group → ⊥) → (ls : List (List ℕ)) (i : ℕ) → get_or (flat (rows_in k ls)) i 0 < limit
unfolding rows_in flat
rows_below k h d [] i = lit< tt
rows_below k h d (l ∷ ls) i = go (eqb (line_group l) k) refl (rows_below k h d ls)
  where
    go : (t : Bool) → eqb (line_group l) k ≡ t → ((j : ℕ) → get_or (flat (rows_in k ls)) j 0 < limit)
        → get_or (flat (cond t (row_with k (line_fields l) (operands_after ls) ∷ rows_in k ls) (rows_in k ls))) i 0 < limit
    go true e r =
        let g : line_group l ≡ k = eqb-true (line_group l) k e in
        let w : row_with k (line_fields l) (operands_after ls) ≡ numbers (group_at k).dashes (line_fields l) =
        ap (λ (t : Bool). cond t (placed (line_fields l) ∷ (numbers (group_at k).dashes (line_fields l) ++ (operands_after ls ∷ []))) (numbers (group_at k).dashes (line_fields l))) (ne_eqb k inst_group d) in
        append_below (row_with k (line_fields l) (operands_after ls)) (flat (rows_in k ls)) limit
        (λ j. rw w (numbers_below (group_at k).dashes (line_fields l) (rw g at (group_fits l (rw g h))) j)) r i
    go false e r = r i

-- ---- one line more

module _ (l : List ℕ) where
  operands_kept : (line_group l ≡ operand_group → ⊥) → (ls : List (List ℕ)) → operands_after (ls ++ (l ∷ [])) ≡ operands_after ls
  unfolding operands_after
  operands_kept d [] = ap (λ (t : Bool). cond t 1 0) (ne_eqb (line_group l) operand_group d)
  operands_kept d (m ∷ ls) = ap (λ (n : ℕ). cond (eqb (line_group m) operand_group) (suc n) 0) (operands_kept d ls)

  pub count_more : (k : ℕ) (ls : List (List ℕ)) → count_of k (ls ++ (l ∷ [])) ≡ count_of k ls + cond (eqb (line_group l) k) 1 0
  unfolding rows_in
  count_more k [] = go (eqb (line_group l) k)
    where
      go : (t : Bool) → length (cond t (row_with k (line_fields l) (operands_after []) ∷ []) []) ≡ 0 + cond t 1 0
      go true = refl
      go false = refl
  count_more k (m ∷ ls) = go (eqb (line_group m) k) (count_more k ls)
    where
      go : (t : Bool) → count_of k (ls ++ (l ∷ [])) ≡ count_of k ls + cond (eqb (line_group l) k) 1 0
          → length (cond t (row_with k (line_fields m) (operands_after (ls ++ (l ∷ []))) ∷ rows_in k (ls ++ (l ∷ []))) (rows_in k (ls ++ (l ∷ []))))
          ≡ length (cond t (row_with k (line_fields m) (operands_after ls) ∷ rows_in k ls) (rows_in k ls)) + cond (eqb (line_group l) k) 1 0
      go true e = omega arith
      go false e = e

  -- the row does not depend on what follows, or what follows is no operand
  free : (k : ℕ) (fs : List ℕ) (a b : ℕ) → (k ≡ inst_group → a ≡ b) → row_with k fs a ≡ row_with k fs b
  free k fs a b h = same k inst_group (λ e. ap (row_with k fs) (h e)) (λ d. go (eqb k inst_group) (ne_eqb k inst_group d))
    where
      go : (t : Bool) → t ≡ false → cond t (placed fs ∷ (numbers (group_at k).dashes fs ++ (a ∷ []))) (numbers (group_at k).dashes fs)
          ≡ cond t (placed fs ∷ (numbers (group_at k).dashes fs ++ (b ∷ []))) (numbers (group_at k).dashes fs)
      go true e = never (sym e)
      go false e = refl

  -- the rows of group k grow by those of the line
  pub rows_more : (k : ℕ) → (k ≡ inst_group → line_group l ≡ operand_group → ⊥) → (ls : List (List ℕ)) → rows_in k (ls ++ (l ∷ [])) ≡ rows_in k ls ++ rows_in k (l ∷ [])
  unfolding rows_in
  rows_more k d [] = refl
  rows_more k d (m ∷ ls) = go (eqb (line_group m) k) (free k (line_fields m) (operands_after (ls ++ (l ∷ []))) (operands_after ls) (λ e. operands_kept (d e) ls)) (rows_more k d ls)
    where
      go : (t : Bool) → row_with k (line_fields m) (operands_after (ls ++ (l ∷ []))) ≡ row_with k (line_fields m) (operands_after ls)
          → rows_in k (ls ++ (l ∷ [])) ≡ rows_in k ls ++ rows_in k (l ∷ [])
          → cond t (row_with k (line_fields m) (operands_after (ls ++ (l ∷ []))) ∷ rows_in k (ls ++ (l ∷ []))) (rows_in k (ls ++ (l ∷ [])))
          ≡ cond t (row_with k (line_fields m) (operands_after ls) ∷ rows_in k ls) (rows_in k ls) ++ rows_in k (l ∷ [])
      go true p q = cc
      go false p q = q

  pub row_of : (k : ℕ) → line_group l ≡ k → rows_in k (l ∷ []) ≡ row_with k (line_fields l) 0 ∷ []
  unfolding rows_in operands_after
  row_of k e = ap (λ (t : Bool). cond t (row_with k (line_fields l) 0 ∷ []) []) (eq-eqb (line_group l) k e)

  pub row_none : (k : ℕ) → (line_group l ≡ k → ⊥) → rows_in k (l ∷ []) ≡ []
  unfolding rows_in
  row_none k d = ap (λ (t : Bool). cond t (row_with k (line_fields l) (operands_after []) ∷ []) []) (ne_eqb (line_group l) k d)
