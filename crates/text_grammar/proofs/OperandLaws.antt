-- Lines that end in an instruction and its operands: one operand more raises the last number of the instructions' rows.
use Prim.Native.Nat.{ℕ, suc, ◌≤◌}
use native.Mathlib.Omega.{arith}
use mathlib.Core.Path.{◌≡◌, refl, ap, sym, ◌∙◌}
use mathlib.Core.Bool.{Bool, true, false, cond, ◌&&◌}
use mathlib.Core.List.{List, [], ◌∷◌, ◌++◌, append_assoc, append-nil}
use lib.ListN.{length}
use lib.Dec.{eqb}
use borrow.Author.Tests.{eq-eqb, ne_eqb, eqb-true}
use Rattle.words.specs.Rows.{flat}
use Rattle.words.proofs.Bools.{never}
use Rattle.text_grammar.specs.Groups.{group_at, inst_group, operand_group}
use Rattle.text_grammar.specs.Lines.{line_group, line_fields}
use Rattle.text_grammar.specs.Text.{numbers, placed, row_with, operands_after, rows_in, count_of}

unfoldable pub operands_only : List (List ℕ) → Bool
operands_only [] = true
operands_only (l ∷ ls) = eqb (line_group l) operand_group && operands_only ls

-- the lines end in an instruction and its operands
unfoldable pub opens : List (List ℕ) → Bool
opens [] = false
opens (l ∷ ls) = cond (opens ls) true (eqb (line_group l) inst_group && operands_only ls)

-- the flat rows of the instructions end in a number that one operand more raises
pub record Raised (ls : List (List ℕ)) (o : List ℕ) : Type 0 where
  pub front : List ℕ
  pub last : ℕ
  pub was : flat (rows_in inst_group ls) ≡ front ++ (last ∷ [])
  pub is : flat (rows_in inst_group (ls ++ (o ∷ []))) ≡ front ++ (suc last ∷ [])
  pub few : last ≤ count_of operand_group ls

not_both : {A : Type 0} (l : List ℕ) → eqb (line_group l) operand_group ≡ true → eqb (line_group l) inst_group ≡ true → A
not_both l p q = absurd (let a : line_group l ≡ 4 = eqb-true (line_group l) 4 p in let b : line_group l ≡ 3 = eqb-true (line_group l) 3 q in omega arith)

few_after : (ls : List (List ℕ)) → operands_after ls ≤ count_of operand_group ls
unfolding operands_after rows_in
few_after [] = omega arith
few_after (l ∷ ls) = go (eqb (line_group l) operand_group) (few_after ls)
  where
    go : (t : Bool) → operands_after ls ≤ count_of operand_group ls
        → cond t (suc (operands_after ls)) 0 ≤ length (cond t (row_with operand_group (line_fields l) (operands_after ls) ∷ rows_in operand_group ls) (rows_in operand_group ls))
    go true h = omega arith
    go false h = omega arith

module _ (o : List ℕ) (oe : eqb (line_group o) operand_group ≡ true) where
  only_after : (ls : List (List ℕ)) → operands_only ls ≡ true → operands_after (ls ++ (o ∷ [])) ≡ suc (operands_after ls)
  unfolding operands_only operands_after
  only_after [] e = ap (λ (t : Bool). cond t 1 0) oe
  only_after (l ∷ ls) e = go (eqb (line_group l) operand_group) e (only_after ls)
    where
      go : (t : Bool) → (t && operands_only ls) ≡ true → (operands_only ls ≡ true → operands_after (ls ++ (o ∷ [])) ≡ suc (operands_after ls))
          → cond t (suc (operands_after (ls ++ (o ∷ [])))) 0 ≡ suc (cond t (suc (operands_after ls)) 0)
      go true e r = ap suc (r e)
      go false e r = never e

  no_inst_lem : eqb (line_group o) inst_group ≡ false
  no_inst_lem = ne_eqb (line_group o) inst_group (λ e. not_both o oe (eq-eqb (line_group o) inst_group e))

  only_rows : (ls : List (List ℕ)) → operands_only ls ≡ true → (rows_in inst_group ls ≡ []) × (rows_in inst_group (ls ++ (o ∷ [])) ≡ [])
  unfolding operands_only rows_in
  only_rows [] e = (refl, ap (λ (t : Bool). cond t (row_with inst_group (line_fields o) (operands_after []) ∷ []) []) no_inst_lem)
  only_rows (l ∷ ls) e = go (eqb (line_group l) operand_group) refl (eqb (line_group l) inst_group) refl e (only_rows ls)
    where
      go : (t : Bool) → eqb (line_group l) operand_group ≡ t → (u : Bool) → eqb (line_group l) inst_group ≡ u → (t && operands_only ls) ≡ true
          → (operands_only ls ≡ true → (rows_in inst_group ls ≡ []) × (rows_in inst_group (ls ++ (o ∷ [])) ≡ []))
          → (cond u (row_with inst_group (line_fields l) (operands_after ls) ∷ rows_in inst_group ls) (rows_in inst_group ls) ≡ [])
          × (cond u (row_with inst_group (line_fields l) (operands_after (ls ++ (o ∷ []))) ∷ rows_in inst_group (ls ++ (o ∷ []))) (rows_in inst_group (ls ++ (o ∷ []))) ≡ [])
      go true te true ue e r = not_both l te ue
      go true te false ue e r = r e
      go false te u ue e r = never e

  -- an instruction further on keeps the operands of one before it
  open_after : (ls : List (List ℕ)) → opens ls ≡ true → operands_after (ls ++ (o ∷ [])) ≡ operands_after ls
  unfolding opens operands_after
  open_after [] e = never e
  open_after (l ∷ ls) e = go (eqb (line_group l) operand_group) refl (eqb (line_group l) inst_group) refl (opens ls) e (open_after ls)
    where
      go : (t : Bool) → eqb (line_group l) operand_group ≡ t → (u : Bool) → eqb (line_group l) inst_group ≡ u → (w : Bool) → cond w true (u && operands_only ls) ≡ true
          → (w ≡ true → operands_after (ls ++ (o ∷ [])) ≡ operands_after ls)
          → cond t (suc (operands_after (ls ++ (o ∷ [])))) 0 ≡ cond t (suc (operands_after ls)) 0
      go true te u ue true e r = ap suc (r refl)
      go true te true ue false e r = not_both l te ue
      go true te false ue false e r = never e
      go false te u ue w e r = refl

  pub raised : (ls : List (List ℕ)) → opens ls ≡ true → Raised ls o
  unfolding opens rows_in flat
  raised [] e = never e
  raised (l ∷ ls) e = go (opens ls) refl (eqb (line_group l) inst_group) refl e (raised ls)
    where
      more : {n : ℕ} → n ≤ count_of operand_group ls → n ≤ count_of operand_group (l ∷ ls)
      more h = grown (eqb (line_group l) operand_group) h
        where
          grown : {n : ℕ} (t : Bool) → n ≤ count_of operand_group ls → n ≤ length (cond t (row_with operand_group (line_fields l) (operands_after ls) ∷ rows_in operand_group ls) (rows_in operand_group ls))
          grown true h = omega arith
          grown false h = h

      go : (w : Bool) → opens ls ≡ w → (u : Bool) → eqb (line_group l) inst_group ≡ u → cond w true (u && operands_only ls) ≡ true → (w ≡ true → Raised ls o) → Raised (l ∷ ls) o
      go true we true ue e r = record {
        front = row_with inst_group (line_fields l) (operands_after ls) ++ (r refl).front;
        last = (r refl).last;
        was = ap (λ (t : Bool). flat (cond t (row_with inst_group (line_fields l) (operands_after ls) ∷ rows_in inst_group ls) (rows_in inst_group ls))) ue
            ∙ ap (λ (x : List ℕ). row_with inst_group (line_fields l) (operands_after ls) ++ x) (r refl).was ∙ sym (append_assoc (row_with inst_group (line_fields l) (operands_after ls)) (r refl).front ((r refl).last ∷ []));
        is = ap (λ (t : Bool). flat (cond t (row_with inst_group (line_fields l) (operands_after (ls ++ (o ∷ []))) ∷ rows_in inst_group (ls ++ (o ∷ []))) (rows_in inst_group (ls ++ (o ∷ []))))) ue
            ∙ ap (λ (n : ℕ). row_with inst_group (line_fields l) n ++ flat (rows_in inst_group (ls ++ (o ∷ [])))) (open_after ls we)
            ∙ ap (λ (x : List ℕ). row_with inst_group (line_fields l) (operands_after ls) ++ x) (r refl).is ∙ sym (append_assoc (row_with inst_group (line_fields l) (operands_after ls)) (r refl).front (suc (r refl).last ∷ []));
        few = more (r refl).few;
      }
      go true we false ue e r = record {
        front = (r refl).front;
        last = (r refl).last;
        was = ap (λ (t : Bool). flat (cond t (row_with inst_group (line_fields l) (operands_after ls) ∷ rows_in inst_group ls) (rows_in inst_group ls))) ue ∙ (r refl).was;
        is = ap (λ (t : Bool). flat (cond t (row_with inst_group (line_fields l) (operands_after (ls ++ (o ∷ []))) ∷ rows_in inst_group (ls ++ (o ∷ []))) (rows_in inst_group (ls ++ (o ∷ []))))) ue ∙ (r refl).is;
        few = more (r refl).few;
      }
      go false we true ue e r = record {
        front = placed (line_fields l) ∷ numbers (group_at inst_group).dashes (line_fields l);
        last = operands_after ls;
        was = ap (λ (t : Bool). flat (cond t (row_with inst_group (line_fields l) (operands_after ls) ∷ rows_in inst_group ls) (rows_in inst_group ls))) ue
            ∙ ap (λ (x : List (List ℕ)). row_with inst_group (line_fields l) (operands_after ls) ++ flat x) (only_rows ls e).0 ∙ append-nil (row_with inst_group (line_fields l) (operands_after ls));
        is = ap (λ (t : Bool). flat (cond t (row_with inst_group (line_fields l) (operands_after (ls ++ (o ∷ []))) ∷ rows_in inst_group (ls ++ (o ∷ []))) (rows_in inst_group (ls ++ (o ∷ []))))) ue
            ∙ ap (λ (n : ℕ). row_with inst_group (line_fields l) n ++ flat (rows_in inst_group (ls ++ (o ∷ [])))) (only_after ls e)
            ∙ ap (λ (x : List (List ℕ)). row_with inst_group (line_fields l) (suc (operands_after ls)) ++ flat x) (only_rows ls e).1 ∙ append-nil (row_with inst_group (line_fields l) (suc (operands_after ls)));
        few = more (few_after ls);
      }
      go false we false ue e r = never e

  only_more : (ls : List (List ℕ)) → operands_only ls ≡ true → operands_only (ls ++ (o ∷ [])) ≡ true
  unfolding operands_only
  only_more [] e = ap (λ (t : Bool). t && true) oe
  only_more (l ∷ ls) e = go (eqb (line_group l) operand_group) e (only_more ls)
    where
      go : (t : Bool) → (t && operands_only ls) ≡ true → (operands_only ls ≡ true → operands_only (ls ++ (o ∷ [])) ≡ true) → (t && operands_only (ls ++ (o ∷ []))) ≡ true
      go true e r = r e
      go false e r = never e

  -- an operand behind them keeps them open
  pub open_operand : (ls : List (List ℕ)) → opens ls ≡ true → opens (ls ++ (o ∷ [])) ≡ true
  unfolding opens
  open_operand [] e = never e
  open_operand (l ∷ ls) e = go (opens ls) (eqb (line_group l) inst_group) e (open_operand ls) (opens (ls ++ (o ∷ [])))
    where
      go : (w u : Bool) → cond w true (u && operands_only ls) ≡ true → (w ≡ true → opens (ls ++ (o ∷ [])) ≡ true) → (v : Bool)
          → cond (opens (ls ++ (o ∷ []))) true (u && operands_only (ls ++ (o ∷ []))) ≡ true
      go true u e r v = ap (λ (t : Bool). cond t true (u && operands_only (ls ++ (o ∷ [])))) (r refl)
      go false true e r v = either (opens (ls ++ (o ∷ []))) (only_more ls e)
        where
          either : (x : Bool) → operands_only (ls ++ (o ∷ [])) ≡ true → cond x true (operands_only (ls ++ (o ∷ []))) ≡ true
          either true q = refl
          either false q = q
      go false false e r v = never e

-- an instruction opens them
pub open_inst : (i : List ℕ) → line_group i ≡ inst_group → (ls : List (List ℕ)) → opens (ls ++ (i ∷ [])) ≡ true
unfolding opens operands_only
open_inst i e [] = ap (λ (t : Bool). t && true) (eq-eqb (line_group i) inst_group e)
open_inst i e (l ∷ ls) = ap (λ (t : Bool). cond t true (eqb (line_group l) inst_group && operands_only (ls ++ (i ∷ [])))) (open_inst i e ls)
