-- Laws of the lent rows: an instruction by its index, lists by a test over an index, and scans of equal tests.
use Prim.Native.Nat.{ℕ, zero, suc, ◌+◌, ◌-◌, ◌≤◌, ◌<◌}
use native.Mathlib.Numerals.{add-one}
use native.Mathlib.Nat.{add_assoc, add-zero, zero-add}
use native.Mathlib.Omega.{arith}
use mathlib.Core.Path.{◌≡◌, refl, sym, ap, ◌∙◌}
use mathlib.Core.Bool.{Bool, true, false, ◌||◌, or-false, or_assoc}
use mathlib.Core.List.{List, [], ◌∷◌, ◌++◌}
use lib.ListN.{length, get_or, take, drop}
use lib.Seq.{drop-drop}
use Rattle.refusals.specs.declared.Refusal.{Refusal}
use Rattle.refusals.specs.Verdicts.{scan}
use Rattle.words.specs.Rows.{tabulate, field, records}
use Rattle.words.specs.Widths.{inst_width, inst_count, inst_operands, operand_width, operand_count}
use Rattle.words.specs.Inner.{inst_placed, inst_early, inst_late, inst_lea}
use Rattle.words.proofs.RowLaws.{length_tabulate, get_d_tabulate, take_tabulate, drop_tabulate, tabulate_suc, mem_tabulate}
use Rattle.graph.specs.Work.{sum_of}
use Rattle.graph.proofs.Sums.{sum_start, sum_within}
use Rattle.carrying.specs.Lists.{any}
use Rattle.carrying.specs.Insts.{Operand, Inst, inst_of, dealt, insts_of, inst_at}
use Rattle.carrying.specs.Inner.{no_inst}
use Rattle.carrying.proofs.ListLaws.{any_true}
use Rattle.insts.specs.Counts.{offset}
use Rattle.insts.specs.Inner.{operand_at, operands_from}
use Rattle.insts.specs.Rows.{AddsUp}

-- ---- scans of tests that agree

pub scan_same : (r : Refusal) (t u : ℕ → Bool) (n : ℕ) → ((i : ℕ) → i < n → t i ≡ u i) → scan r t n ≡ scan r u n
unfolding scan
scan_same r t u zero h = refl
scan_same r t u (suc n) h = rw (scan_same r t u n (λ i l. h i (omega arith)), h n (omega arith))

-- ---- some of the first n values of g passes

module _ {A : Type 0} (f : A → Bool) where
  any_last : (l : List A) (a : A) → any f (l ++ (a ∷ [])) ≡ any f l || f a
  unfolding any
  any_last [] a = or-false (f a)
  any_last (b ∷ l) a = ap (λ (t : Bool). f b || t) (any_last l a) ∙ sym (or_assoc (f b) (any f l) (f a))

  module _ (g : ℕ → A) where
    pub any_none : any f (tabulate 0 g) ≡ false
    unfolding any tabulate
    any_none = refl

    pub any_next : (k : ℕ) → any f (tabulate (k + 1) g) ≡ any f (tabulate k g) || f (g k)
    any_next k = ap (λ (i : ℕ). any f (tabulate i g)) (add-one k) ∙ ap (any f) (tabulate_suc k g) ∙ any_last (tabulate k g) (g k)

    pub any_miss : (k : ℕ) → any f (tabulate k g) ≡ false → f (g k) ≡ false → any f (tabulate (k + 1) g) ≡ false
    any_miss k e h = any_next k ∙ rw (e, h)

    pub any_hit : (k n : ℕ) → k < n → f (g k) ≡ true → any f (tabulate n g) ≡ true
    any_hit k n h e = any_true f (tabulate n g) (g k) (mem_tabulate n g k h) e

-- ---- sums

pub sum_front : (f : ℕ → ℕ) (n : ℕ) → sum_of f (suc n) ≡ f 0 + sum_of (λ k. f (suc k)) n
unfolding sum_of
sum_front f zero = zero-add (f 0) ∙ sym (add-zero (f 0))
sum_front f (suc n) = ap (λ (x : ℕ). x + f (suc n)) (sum_front f n) ∙ add_assoc (f 0) (sum_of (λ k. f (suc k)) n) (f (suc n))

-- ---- an instruction by its index

-- how many operands the first n rows take
abbrev skipped : List (ℕ → ℕ) → ℕ → ℕ
skipped fs zero = 0
skipped [] (suc n) = 0
skipped (f ∷ fs) (suc n) = f 8 + skipped fs n

skipped_sum : (m n : ℕ) (g : ℕ → ℕ → ℕ) → n ≤ m → skipped (tabulate m g) n ≡ sum_of (λ k. g k 8) n
unfolding tabulate
skipped_sum m zero g h = sum_start (λ k. g k 8)
skipped_sum zero (suc n) g h = absurd (omega arith)
skipped_sum (suc m) (suc n) g h =
    ap (λ (x : ℕ). g 0 8 + x) (skipped_sum m n (λ i. g (suc i)) (omega arith)) ∙ sym (sum_front (λ k. g k 8) n)

abbrev nothing : ℕ → ℕ
nothing f = 0

dealt_at : (fs : List (ℕ → ℕ)) (os : List Operand) (n : ℕ) → n < length fs
    → get_or (dealt fs os) n no_inst ≡ inst_of (get_or fs n nothing) (take (get_or fs n nothing 8) (drop (skipped fs n) os))
unfolding dealt
dealt_at [] os n h = absurd (omega arith)
dealt_at (f ∷ fs) os zero h = refl
dealt_at (f ∷ fs) os (suc n) h =
    dealt_at fs (drop (f 8) os) n (omega arith)
    ∙ ap (λ (l : List Operand). inst_of (get_or fs n nothing) (take (get_or fs n nothing 8) l)) (drop-drop (skipped fs n) (f 8) os)

dealt_length : (fs : List (ℕ → ℕ)) (os : List Operand) → length (dealt fs os) ≡ length fs
unfolding dealt
dealt_length [] os = refl
dealt_length (f ∷ fs) os = ap suc (dealt_length fs (drop (f 8) os))

module _ (insts operands : List ℕ) where
  pub insts_length : length (insts_of insts operands) ≡ inst_count insts
  insts_length = dealt_length (records inst_width (λ f. f) insts) _ ∙ length_tabulate (inst_count insts) _

  -- an instruction's fields do not depend on the operands
  row_at : (i : ℕ) → i < inst_count insts
      → inst_at (insts_of insts operands) i ≡ inst_of (field inst_width insts i) (take (inst_operands insts i) (drop (offset insts i) (records operand_width (λ f. record { def = f 0; register = f 1 }) operands)))
  row_at i h =
      let l : i < length (records inst_width (λ f. f) insts) = rw (length_tabulate (inst_count insts) (λ i. field inst_width insts i)) h in
      let e : get_or (records inst_width (λ f. f) insts) i nothing ≡ field inst_width insts i = get_d_tabulate (inst_count insts) (λ i. field inst_width insts i) i nothing h in
      dealt_at (records inst_width (λ f. f) insts) (records operand_width (λ f. record { def = f 0; register = f 1 }) operands) i l
      ∙ ap (λ (f : ℕ → ℕ). inst_of f (take (f 8) (drop (skipped (records inst_width (λ f. f) insts) i) (records operand_width (λ f. record { def = f 0; register = f 1 }) operands)))) e
      ∙ ap (λ (k : ℕ). inst_of (field inst_width insts i) (take (inst_operands insts i) (drop k (records operand_width (λ f. record { def = f 0; register = f 1 }) operands))))
      (skipped_sum (inst_count insts) i (λ i. field inst_width insts i) (omega arith))

  module _ (adds : AddsUp insts operands) where
    pub operands_within : (i : ℕ) → i < inst_count insts → offset insts i + inst_operands insts i ≤ operand_count operands
    operands_within i h = rw adds at (sum_within (λ k. inst_operands insts k) i (inst_count insts) h)

    -- its operands are those from its offset on
    pub inst_at_lem : (i : ℕ) → i < inst_count insts
        → inst_at (insts_of insts operands) i ≡ inst_of (field inst_width insts i) (operands_from operands (offset insts i) (inst_operands insts i))
    inst_at_lem i h =
        row_at i h
        ∙ ap (λ (l : List Operand). inst_of (field inst_width insts i) (take (inst_operands insts i) l)) (drop_tabulate (offset insts i) (operand_count operands) (operand_at operands) (omega (arith, operands_within i h)))
        ∙ ap (inst_of (field inst_width insts i)) (take_tabulate (inst_operands insts i) (operand_count operands - offset insts i) (λ p. operand_at operands (offset insts i + p)) (omega (arith, operands_within i h)))

  -- the fields of an instruction that is there
  module _ (i : ℕ) (h : i < inst_count insts) where
    pub placed_is : (inst_at (insts_of insts operands) i).placed ≡ inst_placed insts i
    placed_is = ap (λ (x : Inst). x.placed) (row_at i h)

    pub early_is : (inst_at (insts_of insts operands) i).early ≡ inst_early insts i
    early_is = ap (λ (x : Inst). x.early) (row_at i h)

    pub late_is : (inst_at (insts_of insts operands) i).late ≡ inst_late insts i
    late_is = ap (λ (x : Inst). x.late) (row_at i h)

    pub lea_is : (inst_at (insts_of insts operands) i).lea ≡ inst_lea insts i
    lea_is = ap (λ (x : Inst). x.lea) (row_at i h)
