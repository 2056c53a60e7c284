-- The flags of a row, as the code reads them.
use Prim.Native.Nat.{ℕ, ◌*◌}
use native.Mathlib.Nat.{add-zero}
use mathlib.Core.Path.{◌≡◌, sym, ap, ◌∙◌}
use mathlib.Core.Logic.{◌≢◌}
use mathlib.Core.Bool.{Bool, false, not, ◌&&◌}
use mathlib.Core.List.{List}
use lib.ListN.{get_or}
use borrow.Author.Tests.{eq-eqb, ne_eqb}
use Rattle.words.specs.Widths.{inst_width}
use Rattle.words.specs.Inner.{inst_placed, inst_lea, inst_mem}
use Rattle.carrying.specs.Insts.{is_set}

module _ (s : List ℕ) (i : ℕ) where
  first : get_or s (inst_width * i) 0 ≡ inst_placed s i
  first = ap (λ (k : ℕ). get_or s k 0) (sym (add-zero (inst_width * i)))

  pub unplaced_is : not (is_set (get_or s (inst_width * i) 0)) ≡ not (is_set (inst_placed s i))
  unplaced_is = ap (λ (x : ℕ). not (is_set x)) first

  pub handing_unplaced : get_or s (inst_width * i) 0 ≢ 1 → false ≡ (is_set (inst_placed s i) && (is_set (inst_lea s i) && is_set (inst_mem s i)))
  handing_unplaced h = sym (ap (λ (t : Bool). t && (is_set (inst_lea s i) && is_set (inst_mem s i))) (ne_eqb (inst_placed s i) 1 (λ e. h (first ∙ e))))

  module _ (placed : get_or s (inst_width * i) 0 ≡ 1) where
    is_placed : (is_set (inst_placed s i) && (is_set (inst_lea s i) && is_set (inst_mem s i))) ≡ (is_set (inst_lea s i) && is_set (inst_mem s i))
    is_placed = ap (λ (t : Bool). t && (is_set (inst_lea s i) && is_set (inst_mem s i))) (eq-eqb (inst_placed s i) 1 (sym first ∙ placed))

    pub handing_other : inst_lea s i ≢ 1 → false ≡ (is_set (inst_placed s i) && (is_set (inst_lea s i) && is_set (inst_mem s i)))
    handing_other h = sym (is_placed ∙ ap (λ (t : Bool). t && is_set (inst_mem s i)) (ne_eqb (inst_lea s i) 1 h))

    pub handing_lea : inst_lea s i ≡ 1 → is_set (inst_mem s i) ≡ (is_set (inst_placed s i) && (is_set (inst_lea s i) && is_set (inst_mem s i)))
    handing_lea h = sym (is_placed ∙ ap (λ (t : Bool). t && is_set (inst_mem s i)) (eq-eqb (inst_lea s i) 1 h))
