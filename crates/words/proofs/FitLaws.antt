-- What is computed from places in a list of words fits 64 bits.
use Prim.Native.Nat.{ℕ, ◌*◌, ◌^◌, ◌≤◌, ◌<◌}
use mathlib.Core.Path.{◌≡◌}
use mir.Syntax.{w64}
use mir.Val.{Fits}
use native.Mathlib.Nat.{mul-le-mul_left}
use native.Mathlib.Omega.{arith}
use Rattle.words.specs.Regions.{row_words}

-- what is at most the length of a list of words fits, in words and in bytes
pub small : (a n : ℕ) → a ≤ n → n * 8 < 2 ^ 63 → Fits w64 a
small a n h r = omega arith

pub bytes : (a n : ℕ) → a ≤ n → n * 8 < 2 ^ 63 → Fits w64 (a * 8)
bytes a n h r = omega arith

-- a list as long has as much room
pub as_long : (m n : ℕ) → m ≡ n → n * 8 < 2 ^ 63 → m * 8 < 2 ^ 63
as_long m n e r = omega arith

-- word a of n is read or written
pub record Word (a n : ℕ) : Type 0 where
  pub fits : Fits w64 a
  pub in_bytes : Fits w64 (a * 8)
  pub inside : a < n

pub word : (a n : ℕ) → a < n → n * 8 < 2 ^ 63 → Word a n
word a n h r = record { fits = omega arith; in_bytes = omega arith; inside = h }

-- ---- what tests and lengths say

pub within : (k n m : ℕ) → n ≡ m → k < n → k < m
within k n m e h = omega arith

pub not_none : (n : ℕ) → (n ≡ 0 → ⊥) → 1 ≤ n
not_none n h = omega arith

pub positive : (n : ℕ) → (n ≡ 0 → ⊥) → 0 < n
positive n h = omega arith

-- a row of bits for each of at most 4,096 blocks, of at most 2,048 locals
pub rows_few : {b l : ℕ} → b ≤ 4096 → l ≤ 2048 → b * row_words l ≤ 131072
rows_few {b} {l} h k =
    let w : row_words l ≤ 32 = omega arith in
    let a = mul-le-mul_left b w in
    omega arith
