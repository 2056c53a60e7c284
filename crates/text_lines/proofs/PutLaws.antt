-- The numbers of a row, one after another.
use Prim.Native.Nat.{ℕ, zero, suc, ◌+◌, ◌-◌, ◌≤◌, ◌<◌}
use native.Mathlib.Omega.{arith}
use native.Mathlib.Nat.{le_of_suc-le-suc, not-suc-le-zero}
use mathlib.Core.Path.{◌≡◌, refl, ap, sym, subst, ◌∙◌}
use mathlib.Core.Bool.{Bool, true, false, cond, ◌||◌}
use mathlib.Core.List.{List, [], ◌∷◌, ◌++◌}
use lib.ListN.{length, get_or, set, length-set, get_or-append, length-append}
use lib.Seq.{get_or-append_seam}
use lib.Dec.{T, eqb, ltb, eqb→eq}
use native.Mathlib.Numerals.{add-one}
use borrow.Author.Tests.{eq-eqb, ne_eqb, ltb-true}
use Rattle.words.specs.Inner.{Region}
use Rattle.words.proofs.Points.{cut, same, stored}
use Rattle.words.proofs.Bools.{and_both, never}
use Rattle.text_grammar.specs.Numerals.{dash, limit}
use Rattle.text_grammar.specs.Groups.{group_at, group_count, inst_group}
use Rattle.text_grammar.specs.Lines.{meant, fits, line_group, line_fields}
use Rattle.text_grammar.specs.Text.{numbers, placed, row_with}
use Rattle.text_grammar.proofs.RowLaws.{group_fits, length_numbers}
use Rattle.text_grammar.proofs.TableLaws.{at}
use Rattle.text_lines.specs.Inner.{Meant}

pub numbers_at_lem : (ds fs : List ℕ) (j : ℕ) → j < length ds → length ds ≤ length fs → get_or (numbers ds fs) j 0 ≡ meant (get_or ds j 0) (get_or fs j 0)
unfolding numbers
numbers_at_lem [] fs j h l = absurd (not-suc-le-zero h)
numbers_at_lem (d ∷ ds) [] j h l = absurd (not-suc-le-zero l)
numbers_at_lem (d ∷ ds) (f ∷ fs) zero h l = refl
numbers_at_lem (d ∷ ds) (f ∷ fs) (suc j) h l = numbers_at_lem ds fs j (le_of_suc-le-suc h) (le_of_suc-le-suc l)

pub fits_at : (ds fs : List ℕ) → fits ds fs ≡ true → (j : ℕ) → j < length ds → meant (get_or ds j 0) (get_or fs j 0) < limit
unfolding fits
fits_at [] fs e j h = absurd (not-suc-le-zero h)
fits_at (d ∷ ds) [] e j h = never e
fits_at (d ∷ ds) (f ∷ fs) e zero h = ltb-true (meant d f) limit (and_both (ltb (meant d f) limit) (fits ds fs) e).0
fits_at (d ∷ ds) (f ∷ fs) e (suc j) h = fits_at ds fs (and_both (ltb (meant d f) limit) (fits ds fs) e).1 j (le_of_suc-le-suc h)

pub numbers_front : (ds fs more : List ℕ) → length fs ≡ length ds → numbers ds (fs ++ more) ≡ numbers ds fs
unfolding numbers
numbers_front [] fs more e = refl
numbers_front (d ∷ ds) [] more e = absurd (omega arith)
numbers_front (d ∷ ds) (f ∷ fs) more e = ap (λ (l : List ℕ). meant d f ∷ l) (numbers_front ds fs more (omega arith))

plain_entry : ℕ → Bool
plain_entry k = eqb k inst_group || eqb (length (group_at k).dashes) (group_at k).width

-- a line's fields in front of a list
module _ (l : List ℕ) (h : line_group l < group_count) (more : List ℕ) where
  lengths : length (line_fields l) ≡ length (group_at (line_group l)).dashes
  lengths = (length_numbers (group_at (line_group l)).dashes (line_fields l) (group_fits l h)).1

  pub front_meant : Meant (line_group l) (line_fields l ++ more)
  front_meant = record {
    group = h;
    enough = let e = length-append (line_fields l) more in omega (arith, lengths);
    number = λ j q. let g : j < length (line_fields l) = omega (arith, lengths) in
        rw (get_or-append (line_fields l) more 0 j g) (fits_at (group_at (line_group l)).dashes (line_fields l) (group_fits l h) j q);
  }

  pub front_row : (n : ℕ) → row_with (line_group l) (line_fields l ++ more) n ≡ row_with (line_group l) (line_fields l) n
  front_row n =
      ap (λ (x : List ℕ). cond (eqb (line_group l) inst_group) (placed (line_fields l ++ more) ∷ (x ++ (n ∷ []))) x) (numbers_front (group_at (line_group l)).dashes (line_fields l) more lengths)
      ∙ same (line_group l) inst_group
      (λ e. ap (λ (x : ℕ). cond (eqb (line_group l) inst_group) (cond (eqb x dash) 0 1 ∷ (numbers (group_at (line_group l)).dashes (line_fields l) ++ (n ∷ []))) (numbers (group_at (line_group l)).dashes (line_fields l)))
      (get_or-append (line_fields l) more 0 0 (let s : length (group_at (line_group l)).dashes ≡ 7 = ap (λ (k : ℕ). length (group_at k).dashes) e in omega (arith, lengths))))
      (λ d. go (eqb (line_group l) inst_group) (ne_eqb (line_group l) inst_group d))
    where
      go : (t : Bool) → t ≡ false → cond t (placed (line_fields l ++ more) ∷ (numbers (group_at (line_group l)).dashes (line_fields l) ++ (n ∷ []))) (numbers (group_at (line_group l)).dashes (line_fields l))
          ≡ cond t (placed (line_fields l) ∷ (numbers (group_at (line_group l)).dashes (line_fields l) ++ (n ∷ []))) (numbers (group_at (line_group l)).dashes (line_fields l))
      go true e = never (sym e)
      go false e = refl

pub meant_dash : (d f : ℕ) → f ≡ dash → meant d f ≡ d
meant_dash d f e = ap (λ (t : Bool). cond t d f) (eq-eqb f dash e)

pub meant_number : (d f : ℕ) → (f ≡ dash → ⊥) → meant d f ≡ f
meant_number d f h = ap (λ (t : Bool). cond t d f) (ne_eqb f dash h)

numbers_length : (ds fs : List ℕ) → length ds ≤ length fs → length (numbers ds fs) ≡ length ds
unfolding numbers
numbers_length [] fs h = refl
numbers_length (d ∷ ds) [] h = absurd (not-suc-le-zero h)
numbers_length (d ∷ ds) (f ∷ fs) h = ap suc (numbers_length ds fs (le_of_suc-le-suc h))

-- ---- an instruction's row: a flag before its numbers and a 0 behind them

module _ (ns : List ℕ) (seven : length ns ≡ 7) (p : ℕ) where
  inst_at_lem : (j : ℕ) → j < 7 → get_or (p ∷ (ns ++ (0 ∷ []))) (j + 1) 0 ≡ get_or ns j 0
  inst_at_lem j h = ap (λ (i : ℕ). get_or (p ∷ (ns ++ (0 ∷ []))) i 0) (add-one j) ∙ get_or-append ns (0 ∷ []) 0 j (omega arith)

  inst_end : get_or (p ∷ (ns ++ (0 ∷ []))) 8 0 ≡ 0
  inst_end = ap (λ (i : ℕ). get_or (ns ++ (0 ∷ [])) i 0) (sym seven) ∙ get_or-append_seam ns 0 [] 0

module _ (fs rows r : List ℕ) (at : ℕ) (enough : 7 ≤ length fs) (room : at + 9 ≤ length rows)
    (g : Region rows r (at + 1) 7 (λ j. get_or (numbers (group_at inst_group).dashes fs) j 0)) (p : ℕ) (pe : p ≡ placed fs) where
  seven_are : length (numbers (group_at inst_group).dashes fs) ≡ 7
  seven_are = numbers_length (group_at inst_group).dashes fs enough

  pub inst_region : Region rows (set (set r (at + 8) 0) at p) at 9 (λ j. get_or (row_with inst_group fs 0) j 0)
  inst_region = record {
    len = length-set (set r (at + 8) 0) at p ∙ length-set r (at + 8) 0 ∙ g.len;
    inside = λ x j e h.
        stored (λ y. y ≡ get_or (row_with inst_group fs 0) j 0) (set r (at + 8) 0) at p x (rw (length-set r (at + 8) 0) (rw g.len (omega arith)))
        (λ q. pe ∙ ap (λ (i : ℕ). get_or (row_with inst_group fs 0) i 0) (let z : 0 ≡ j = omega arith in z))
        (λ q. stored (λ y. y ≡ get_or (row_with inst_group fs 0) j 0) r (at + 8) 0 x (rw g.len (omega arith))
        (λ s. sym (inst_end (numbers (group_at inst_group).dashes fs) seven_are (placed fs)) ∙ ap (λ (i : ℕ). get_or (row_with inst_group fs 0) i 0) (let z : 8 ≡ j = omega arith in z))
        (λ s. let a : 0 < j = cut 1 j (λ u. u) (λ u. absurd (q (omega arith))) in
        let b : j < 8 = cut j 7 (λ u. omega arith) (λ u. absurd (s (omega arith))) in
        let i : j - 1 + 1 ≡ j = omega arith in
        g.inside x (j - 1) (omega arith) (omega arith) ∙ sym (inst_at_lem (numbers (group_at inst_group).dashes fs) seven_are (placed fs) (j - 1) (omega arith)) ∙ ap (λ (n : ℕ). get_or (row_with inst_group fs 0) n 0) i));
    before = λ i h.
        stored (λ y. y ≡ get_or rows i 0) (set r (at + 8) 0) at p i (rw (length-set r (at + 8) 0) (rw g.len (omega arith))) (λ q. absurd (omega arith))
        (λ q. stored (λ y. y ≡ get_or rows i 0) r (at + 8) 0 i (rw g.len (omega arith)) (λ s. absurd (omega arith)) (λ s. g.before i (omega arith)));
    after = λ i h.
        stored (λ y. y ≡ get_or rows i 0) (set r (at + 8) 0) at p i (rw (length-set r (at + 8) 0) (rw g.len (omega arith))) (λ q. absurd (omega arith))
        (λ q. stored (λ y. y ≡ get_or rows i 0) r (at + 8) 0 i (rw g.len (omega arith)) (λ s. absurd (omega arith)) (λ s. g.after i (omega arith)));
  }

-- the row of any other group is its numbers
pub plain_row : (k : ℕ) (fs : List ℕ) → k < group_count → (k ≡ inst_group → ⊥) → (row_with k fs 0 ≡ numbers (group_at k).dashes fs) × (length (group_at k).dashes ≡ (group_at k).width)
unfolding plain_entry
plain_row k fs h d = (
  ap (λ (t : Bool). cond t (placed fs ∷ (numbers (group_at k).dashes fs ++ (0 ∷ []))) (numbers (group_at k).dashes fs)) (ne_eqb k inst_group d),
  go (eqb k inst_group) (ne_eqb k inst_group d) (at group_count plain_entry tt k h),
)
  where
    go : (t : Bool) → t ≡ false → T (t || eqb (length (group_at k).dashes) (group_at k).width) → length (group_at k).dashes ≡ (group_at k).width
    go true e q = never (sym e)
    go false e q = eqb→eq (length (group_at k).dashes) (group_at k).width q

-- which of the two a row is
module _ (k : ℕ) (fs rows r : List ℕ) (at : ℕ) where
  pub inst_is : k ≡ inst_group → Region rows r at 9 (λ j. get_or (row_with inst_group fs 0) j 0) → Region rows r at (group_at k).width (λ j. get_or (row_with k fs 0) j 0)
  inst_is e g = subst (λ (n : ℕ). Region rows r at (group_at n).width (λ j. get_or (row_with n fs 0) j 0)) (sym e) g

  pub plain_is : (n : ℕ) → (row_with k fs 0 ≡ numbers (group_at k).dashes fs) × (length (group_at k).dashes ≡ (group_at k).width) → n ≡ length (group_at k).dashes
      → Region rows r at n (λ j. get_or (numbers (group_at k).dashes fs) j 0) → Region rows r at (group_at k).width (λ j. get_or (row_with k fs 0) j 0)
  plain_is n w e g =
      subst (λ (l : List ℕ). Region rows r at (group_at k).width (λ j. get_or l j 0)) (sym w.0)
      (subst (λ (m : ℕ). Region rows r at m (λ j. get_or (numbers (group_at k).dashes fs) j 0)) (e ∙ w.1) g)
