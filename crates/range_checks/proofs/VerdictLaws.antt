-- The verdicts of the range entries, by the facts that each way out of their checks has found.
use mathlib.Core.Path.{◌≡◌, refl, sym, ap, ◌∙◌}
use mathlib.Core.Bool.{Bool, true, false, ◌||◌}
use mathlib.Core.List.{List, [], ◌∷◌}
use Prim.Native.Nat.{ℕ, ◌≤◌, ◌<◌}
use native.Mathlib.Nat.{add-zero}
use lib.ListN.{length}
use lib.Dec.{ltb}
use borrow.Author.Tests.{lt-ltb, le-ltb, eq-eqb, ne_eqb, eqb-true, ltb-false, not-false}
use Rattle.words.proofs.Bools.{or_neither}
use Rattle.refusals.specs.declared.Refusal.{Refusal}
use Rattle.refusals.specs.declared.Refusal.TheVariants.{Count, Space, Want}
use Rattle.refusals.specs.Verdicts.{first, in_order, scan, check, counted_on, Bad, Fine, Verdict}
use Rattle.refusals.proofs.Laws.{first_fine, first_bad, check_bad, check_fine, check_last, three_second, three_third}
use Rattle.ranges.specs.declared.Range.{Range}
use Rattle.ranges.specs.Points.{range}
use Rattle.ranges.specs.Lent.{list_verdict}
use Rattle.range_checks.specs.Verdicts.{uneven, bad_list, pair_verdict}

-- a list that is no bad one has columns of one length
pub even_list : (ss es : List ℕ) → bad_list ss es ≡ false → length ss ≡ length es
even_list ss es e = eqb-true _ _ (not-false _ (or_neither _ _ e).0)

pub small_list : (ss es : List ℕ) → bad_list ss es ≡ false → length ss ≤ 65536
small_list ss es e = ltb-false 65536 (length ss) (or_neither (uneven (length ss) (length es)) (ltb 65536 (length ss)) e).1

pub uneven_true : (n m : ℕ) → (n ≡ m → ⊥) → uneven n m ≡ true
uneven_true n m h = rw (ne_eqb n m h)

pub uneven_false : (n m : ℕ) → n ≡ m → uneven n m ≡ false
uneven_false n m h = rw (eq-eqb n m h)

pub or_false : (a b : Bool) → a ≡ false → b ≡ false → a || b ≡ false
or_false a b e d = rw (e, d)

-- ---- two lists

module _ (o : Bool) (rs ss : List Range) where
  pub pair_first : (r : Refusal) (i : ℕ) → list_verdict o rs ≡ Bad r i → Bad r i ≡ pair_verdict o rs ss
  unfolding pair_verdict
  pair_first r i e = sym (first_bad _ _ r i e)

  pub pair_second : list_verdict o rs ≡ Fine → (n : ℕ) → n ≡ length rs → counted_on n (list_verdict o ss) ≡ pair_verdict o rs ss
  unfolding pair_verdict
  pair_second e n h = ap (λ (k : ℕ). counted_on k (list_verdict o ss)) h ∙ sym (first_fine _ _ e)

-- one range by itself
single_bad : (s e : ℕ) → e < s → list_verdict false (range s e ∷ []) ≡ Bad Want 0
unfolding list_verdict scan first
single_bad s e h = rw (lt-ltb e s h)

single_fine : (s e : ℕ) → s ≤ e → list_verdict false (range s e ∷ []) ≡ Fine
unfolding list_verdict scan first
single_fine s e h = rw (le-ltb e s h)

pub pair_new_bad : (rs : List Range) (s e n : ℕ) → list_verdict false rs ≡ Fine → n ≡ length rs → e < s → Bad Want n ≡ pair_verdict false rs (range s e ∷ [])
pair_new_bad rs s e n f h l =
    ap (Bad Want) (sym (add-zero n)) ∙ ap (counted_on n) (sym (single_bad s e l)) ∙ pair_second false rs (range s e ∷ []) f n h

pub pair_new_fine : (rs : List Range) (s e : ℕ) → list_verdict false rs ≡ Fine → s ≤ e → Fine ≡ pair_verdict false rs (range s e ∷ [])
pair_new_fine rs s e f l = ap (counted_on (length rs)) (sym (single_fine s e l)) ∙ pair_second false rs (range s e ∷ []) f (length rs) refl

-- ---- the entries

pub entry_count : (c : Bool) (vs : List Verdict) → c ≡ true → Bad Count 0 ≡ in_order (check Count c ∷ vs)
entry_count c vs e = sym (check_bad Count c vs e)

module _ (c t : Bool) (v : Verdict) where
  pub entry_space : c ≡ false → t ≡ true → Bad Space 0 ≡ in_order (check Count c ∷ check Space t ∷ v ∷ [])
  entry_space e d = three_second Count Space c t v e d

  pub entry_lists : c ≡ false → t ≡ false → v ≡ in_order (check Count c ∷ check Space t ∷ v ∷ [])
  entry_lists e d = three_third Count Space c t v e d

-- without an answer list
pub test_lists : (c : Bool) (v : Verdict) → c ≡ false → v ≡ in_order (check Count c ∷ v ∷ [])
test_lists c v e = sym (check_fine Count c (v ∷ []) e ∙ check_last v)
