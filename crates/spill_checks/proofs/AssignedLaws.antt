-- The register of a slot after one assignment more.
use Prim.Native.Nat.{ℕ, ◌+◌}
use native.Mathlib.Numerals.{add-one}
use mathlib.Core.Path.{◌≡◌, refl, ap, ◌∙◌}
use mathlib.Core.Logic.{◌≢◌}
use mathlib.Core.Bool.{cond}
use mathlib.Core.Option.{Option, some, none}
use mathlib.Core.List.{List, [], ◌∷◌, ◌++◌}
use lib.Dec.{eqb}
use borrow.Author.Tests.{eq-eqb, ne_eqb}
use Rattle.words.specs.Rows.{tabulate}
use Rattle.words.specs.Inner.{assigned_register, assigned_slot}
use Rattle.words.proofs.RowLaws.{tabulate_suc}
use Rattle.areas.specs.Slots.{Assigned, or_else, spilled}

assoc : (a b c : Option ℕ) → or_else (or_else a b) c ≡ or_else a (or_else b c)
assoc none b c = refl
assoc (some r) b c = refl

spilled_last : (l : List Assigned) (a : Assigned) (s : ℕ) → spilled (l ++ (a ∷ [])) s ≡ or_else (cond (eqb a.slot s) (some a.register) none) (spilled l s)
unfolding spilled
spilled_last [] a s = go (cond (eqb a.slot s) (some a.register) none)
  where
    go : (o : Option ℕ) → or_else none o ≡ or_else o none
    go none = refl
    go (some r) = refl
spilled_last (b ∷ l) a s =
    ap (λ (o : Option ℕ). or_else o (cond (eqb b.slot s) (some b.register) none)) (spilled_last l a s)
    ∙ assoc (cond (eqb a.slot s) (some a.register) none) (spilled l s) (cond (eqb b.slot s) (some b.register) none)

-- assignment i of the rows
abbrev pub assigned_at : List ℕ → ℕ → Assigned
assigned_at s i = record { register = assigned_register s i; slot = assigned_slot s i }

module _ (g : ℕ → Assigned) where
  next : (i s : ℕ) → spilled (tabulate (i + 1) g) s ≡ or_else (cond (eqb (g i).slot s) (some (g i).register) none) (spilled (tabulate i g) s)
  next i s = ap (λ (k : ℕ). spilled (tabulate k g) s) (add-one i) ∙ ap (λ (l : List Assigned). spilled l s) (tabulate_suc i g) ∙ spilled_last (tabulate i g) (g i) s

  pub next_same : (i s : ℕ) → (g i).slot ≡ s → spilled (tabulate (i + 1) g) s ≡ some (g i).register
  next_same i s e = next i s ∙ rw (eq-eqb (g i).slot s e)

  pub next_other : (i s : ℕ) → (g i).slot ≢ s → spilled (tabulate (i + 1) g) s ≡ spilled (tabulate i g) s
  next_other i s e = next i s ∙ rw (ne_eqb (g i).slot s e)
