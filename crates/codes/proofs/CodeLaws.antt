-- What the codes tell apart, and what is told in a list.
use mathlib.Core.Path.{◌≡◌, refl, sym, ◌∙◌}
use mathlib.Core.List.{List, [], ◌∷◌}
use Prim.Native.Nat.{ℕ, ◌/◌, ◌%◌, ◌^◌, ◌≤◌, ◌<◌}
use native.Mathlib.Omega.{arith}
use lib.ListN.{length, set, drop}
use Rattle.refusals.specs.declared.Refusal.{Refusal}
use Rattle.refusals.specs.declared.Refusal.TheVariants.{Count, Line, Edge, Inst, Stray, Piece, Space, List as ListFull, Want, Text, Align, Depth}
use Rattle.refusals.specs.Verdicts.{number_of}
use Rattle.refusals.proofs.Numbers.{no_eight}
use Rattle.codes.specs.Codes.{refusal_code, absent_code}

-- ---- a refusal's code is no answer, is not that of absence, and gives its number and index back

number_small : (r : Refusal) → (1 ≤ number_of r) × (number_of r ≤ 13)
number_small Count = (omega arith, omega arith)
number_small Line = (omega arith, omega arith)
number_small Edge = (omega arith, omega arith)
number_small Inst = (omega arith, omega arith)
number_small Stray = (omega arith, omega arith)
number_small Piece = (omega arith, omega arith)
number_small Space = (omega arith, omega arith)
number_small ListFull = (omega arith, omega arith)
number_small Want = (omega arith, omega arith)
number_small Text = (omega arith, omega arith)
number_small Align = (omega arith, omega arith)
number_small Depth = (omega arith, omega arith)

pub refusal_no_answer : (r : Refusal) (i n : ℕ) → n < 2 ^ 32 → n < refusal_code (number_of r) i
refusal_no_answer r i n h = let s = number_small r in omega arith

pub refusal_not_absent : (r : Refusal) (i : ℕ) → refusal_code (number_of r) i < absent_code
refusal_not_absent r i = let s = number_small r in omega arith

pub code_number : (k i : ℕ) → refusal_code k i / 2 ^ 32 ≡ k
code_number k i = omega arith

-- number 8 is retired: no code has it
pub no_code_eight : (r : Refusal) (i : ℕ) → refusal_code (number_of r) i / 2 ^ 32 ≡ 8 → ⊥
no_code_eight r i e = no_eight r (sym (code_number (number_of r) i) ∙ e)

pub code_index : (k i : ℕ) → i < 2 ^ 32 → refusal_code k i % 2 ^ 32 ≡ i
code_index k i h = omega arith

-- ---- counts told

pub told_all : (c p d : ℕ) (l : List ℕ) → 3 ≤ length l → set (set (set l 0 c) 1 p) 2 d ≡ c ∷ p ∷ d ∷ drop 3 l
told_all c p d [] e = absurd (omega arith)
told_all c p d (x ∷ []) e = absurd (omega arith)
told_all c p d (x ∷ y ∷ []) e = absurd (omega arith)
told_all c p d (x ∷ y ∷ z ∷ l) e = refl
