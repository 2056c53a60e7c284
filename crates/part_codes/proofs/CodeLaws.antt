-- Any other number than 0 is that of successors; a product of two 32-bit numbers fits 64 bits, with two more of them added.
use Prim.Native.Nat.{ℕ, zero, suc, ◌*◌, ◌^◌, ◌≤◌, ◌<◌}
use native.Mathlib.Omega.{arith}
use native.Mathlib.Nat.{mul-le-mul_right}
use mathlib.Core.Path.{◌≡◌, refl}
use mathlib.Core.Logic.{◌≢◌}
use Rattle.flow.specs.declared.Over.TheVariants.{Successors}
use Rattle.part_codes.specs.Codes.{over_of}

pub over_some : (n : ℕ) → n ≢ 0 → Successors ≡ over_of n
over_some zero h = absurd (h refl)
over_some (suc n) h = refl

pub product_fits : (a b : ℕ) → a < 2 ^ 32 → b < 2 ^ 32 → a * b ≤ 18446744065119617025
product_fits a b h l = let p : a * b ≤ 4294967295 * b = mul-le-mul_right b (omega arith) in omega arith
