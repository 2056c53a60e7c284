-- Tests of numbers.
use mathlib.Core.Path.{◌≡◌, refl}
use mathlib.Core.Bool.{Bool, true, false}
use Prim.Native.Nat.{ℕ}
use lib.Dec.{eqb}
use borrow.Author.Tests.{eqb-true, eqb-false}

-- two tests of equal meaning
pub eqb_iff : (a b c d : ℕ) → (a ≡ b → c ≡ d) → (c ≡ d → a ≡ b) → eqb a b ≡ eqb c d
eqb_iff a b c d f g = go (eqb a b) (eqb c d) refl refl
  where
    go : (x y : Bool) → eqb a b ≡ x → eqb c d ≡ y → x ≡ y
    go true true p q = refl
    go false false p q = refl
    go true false p q = absurd (eqb-false c d q (f (eqb-true a b p)))
    go false true p q = absurd (eqb-false a b p (g (eqb-true c d q)))
