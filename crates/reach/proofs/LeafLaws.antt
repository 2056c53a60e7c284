-- The ways out of the tests of one operand.
use Prim.Native.Nat.{ℕ, ◌*◌, ◌≤◌, ◌<◌}
use native.Mathlib.Nat.{add-zero}
use mathlib.Core.Path.{◌≡◌, sym, ap, ◌∙◌}
use mathlib.Core.Logic.{◌≢◌}
use mathlib.Core.Bool.{Bool, true, false, not, ◌&&◌}
use mathlib.Core.List.{List}
use lib.ListN.{get_or}
use lib.Dec.{ltb}
use borrow.Author.Tests.{eq-eqb, ne_eqb, lt-ltb, le-ltb}
use Rattle.carrying.specs.Insts.{is_set}
use Rattle.insts.specs.Inner.{operand_at}
use Rattle.words.specs.Widths.{operand_width}

module _ (s : List ℕ) (i v : ℕ) where
  flag_is : (operand_at s i).def ≡ get_or s (operand_width * i) 0
  flag_is = ap (λ (k : ℕ). get_or s k 0) (add-zero (operand_width * i))

  no_flag : get_or s (operand_width * i) 0 ≢ 1 → is_set (operand_at s i).def ≡ false
  no_flag e = ne_eqb (operand_at s i).def 1 (λ q. e (sym flag_is ∙ q))

  pub test_def : (t : Bool) → get_or s (operand_width * i) 0 ≡ 1 → false ≡ not (is_set (operand_at s i).def) && t
  test_def t e = rw (eq-eqb (operand_at s i).def 1 (flag_is ∙ e))

  pub test_physical : (t : Bool) → get_or s (operand_width * i) 0 ≢ 1 → v ≤ (operand_at s i).register → false ≡ not (is_set (operand_at s i).def) && (ltb (operand_at s i).register v && t)
  test_physical t e h = rw (no_flag e, le-ltb (operand_at s i).register v h)

  pub test_use : (t u : Bool) → get_or s (operand_width * i) 0 ≢ 1 → (operand_at s i).register < v → u ≡ t → u ≡ not (is_set (operand_at s i).def) && (ltb (operand_at s i).register v && t)
  test_use t u e h z = rw (no_flag e, lt-ltb (operand_at s i).register v h) z

pub not_memory : (mem : ℕ) (t : Bool) → mem ≢ 1 → true ≡ not (is_set mem && t)
not_memory mem t e = rw (ne_eqb mem 1 e)

pub in_memory : (mem : ℕ) (t u : Bool) → mem ≡ 1 → u ≡ not t → u ≡ not (is_set mem && t)
in_memory mem t u e z = rw (eq-eqb mem 1 e) z

pub both_of : (a b : Bool) → a ≡ true → b ≡ a && b
both_of a b e = rw e

pub neither_of : (a b : Bool) → a ≡ false → false ≡ a && b
neither_of a b e = rw e
