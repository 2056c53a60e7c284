-- What the pass computes fits and stands in the lists, each bound as the code asks for it.
use Prim.Native.Nat.{ℕ, ◌+◌, ◌*◌, ◌/◌, ◌^◌, ◌≤◌, ◌<◌}
use mathlib.Core.Bool.{Bool}
use mathlib.Core.List.{List}
use mir.Syntax.{w64}
use mir.Val.{Fits}
use native.Mathlib.Omega.{arith}
use lib.ListN.{length}
use Rattle.words.proofs.FitLaws.{Word, word}
use Rattle.reach.proofs.MarkLaws.{Linking}
use Rattle.words.specs.Widths.{inst_width, operand_width}

-- how many operands instruction i has is read, of a list of n numbers
pub record CountAt (n i : ℕ) : Type 0 where
  pub row : Fits w64 (inst_width * i)
  pub fits : Fits w64 (inst_width * i + 8)
  pub in_bytes : Fits w64 ((inst_width * i + 8) * 4)
  pub inside : inst_width * i + 8 < n

pub count_at_lem : (n i : ℕ) → i < n / 9 → n * 4 < 2 ^ 63 → CountAt n i
count_at_lem n i h r =
    let x : inst_width * i + 8 < n = omega arith in
    record { row = omega (arith, r, x); fits = omega (arith, r, x); in_bytes = omega (arith, r, x); inside = x }

-- the register of operand p of the n from `from` on is read, of a list of m numbers
pub record OperandAt (m from p : ℕ) : Type 0 where
  pub place : Fits w64 (from + p)
  pub row : Fits w64 (operand_width * (from + p))
  pub fits : Fits w64 (operand_width * (from + p) + 1)
  pub in_bytes : Fits w64 ((operand_width * (from + p) + 1) * 4)
  pub inside : operand_width * (from + p) + 1 < m
  pub low : from + p < m / 2
  pub next : Fits w64 (p + 1)

pub operand_at_lem : (m from n p : ℕ) → from + n ≤ m / 2 → p < n → m * 4 < 2 ^ 63 → OperandAt m from p
operand_at_lem m from n p h k r =
    let x : operand_width * (from + p) + 1 < m = omega arith in
    record { place = omega (arith, r, x); row = omega (arith, r, x); fits = omega (arith, r, x); in_bytes = omega (arith, r, x); inside = x; low = omega arith; next = omega (arith, r, x) }

-- a register below v and an instruction as one key
pub record KeyFits (r inst : ℕ) : Type 0 where
  pub register : Fits w64 r
  pub high : Fits w64 (r * 4294967296)
  pub all : Fits w64 (r * 4294967296 + inst)

pub key_fits : (r v inst : ℕ) → r < v → v ≤ 65535 → inst < 65536 → KeyFits r inst
key_fits r v inst h k i = record { register = omega arith; high = omega arith; all = omega arith }

-- the def of instruction i is put down
pub def_at_lem : (defs i edges count n m : ℕ) → defs + i < edges → edges + count + n ≤ m → m * 8 < 2 ^ 63 → Word (defs + i) m
def_at_lem defs i edges count n m h k r = word _ m (omega arith) r

-- the key is put behind the k that stand
pub put_at : {w₀ w : List ℕ} {at j count : ℕ} {t : ℕ → Bool} {reg : ℕ → ℕ} {n k p : ℕ} → Linking w₀ w at j count t reg n k p → p < n → length w₀ * 8 < 2 ^ 63 → Word (at + k) (length w)
put_at {w = w} d h r = let a = d.room in let b = d.few in let l = d.kept.len in word _ (length w) (omega arith) (omega arith)

pub put_more : {w₀ w : List ℕ} {at j count : ℕ} {t : ℕ → Bool} {reg : ℕ → ℕ} {n k p : ℕ} → Linking w₀ w at j count t reg n k p → p < n → length w₀ * 8 < 2 ^ 63 → Fits w64 (k + 1)
put_more d h r = let a = d.room in let b = d.few in omega arith
