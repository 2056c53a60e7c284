-- Where a move stands: each way out of the match on its kind, and what a position says of the kind and the number.
use Prim.Native.Nat.{ℕ, zero, suc, ◌<◌}
use native.Mathlib.Omega.{arith}
use mathlib.Core.Path.{◌≡◌, refl, sym, ap, ◌∙◌}
use mathlib.Core.Bool.{Bool, true, false, cond, true≢false}
use mathlib.Core.List.{List}
use Rattle.graph.specs.Line.{Stretch}
use Rattle.carrying.specs.Insts.{Inst}
use Rattle.areas.specs.Slots.{bad_move}
use Rattle.spill_checks.specs.declared.Position.{Position}
use Rattle.spill_checks.specs.declared.Position.TheVariants.{Early, Late, Start, End, Stray}
use Rattle.spill_checks.specs.Inner.{chosen, position_of}
use Rattle.spill_checks.proofs.CheckLaws.{kind_over}

-- the kind of a position, and the number of its instruction or block
abbrev pub kind_at : Position → ℕ
kind_at (Early i) = 0
kind_at (Late i) = 1
kind_at (Start b) = 2
kind_at (End b) = 3
kind_at Stray = 4

abbrev pub number_at : Position → ℕ
number_at (Early i) = i
number_at (Late i) = i
number_at (Start b) = b.0
number_at (End b) = b.0
number_at Stray = 0

-- ---- each way out

pub stray_when : {t : Bool} (p : Position) → t ≡ true → Stray ≡ cond t Stray p
stray_when p e = rw e

pub kept_when : {t : Bool} (p : Position) → t ≡ false → p ≡ cond t Stray p
kept_when p e = rw e

module _ (bs : List Stretch) (is : List Inst) where
  pub by_kind : (k n j : ℕ) {t : Bool} {r : Position} → r ≡ cond t Stray (chosen j n) → j ≡ k → bad_move bs is k n ≡ t → r ≡ position_of bs is k n
  by_kind k n j {t} {r} e q f = e ∙ ap (λ (x : ℕ). cond t Stray (chosen x n)) q ∙ ap (λ (u : Bool). cond u Stray (chosen k n)) (sym f)

  -- ---- what a position says

  back : (k n : ℕ) → bad_move bs is k n ≡ false → (k ≡ kind_at (chosen k n)) × (n ≡ number_at (chosen k n))
  back zero n e = (refl, refl)
  back (suc zero) n e = (refl, refl)
  back (suc (suc zero)) n e = (refl, refl)
  back (suc (suc (suc zero))) n e = (refl, refl)
  back (suc (suc (suc (suc k)))) n e = absurd (true≢false e)

  module _ (k n : ℕ) where
    pub stray_over : 3 < k → Stray ≡ position_of bs is k n
    stray_over h = stray_when (chosen k n) (kind_over bs is n k h)

    split : (p : Position) → position_of bs is k n ≡ p → (p ≡ Stray → ⊥) → (bad_move bs is k n ≡ false) × (chosen k n ≡ p)
    split p e d = go (bad_move bs is k n) refl e
      where
        go : (t : Bool) → bad_move bs is k n ≡ t → cond t Stray (chosen k n) ≡ p → (bad_move bs is k n ≡ false) × (chosen k n ≡ p)
        go true f q = absurd (d (sym q))
        go false f q = (f, q)

    -- a move that stands somewhere is not refused, and its kind and number are those of its position
    pub told : (p : Position) → position_of bs is k n ≡ p → (p ≡ Stray → ⊥) → (bad_move bs is k n ≡ false) × (k ≡ kind_at p) × (n ≡ number_at p)
    told p e d =
        let s = split p e d in
        let b = back k n s.0 in
        (s.0, b.0 ∙ ap kind_at s.1, b.1 ∙ ap number_at s.1)

    pub stray_told : position_of bs is k n ≡ Stray → bad_move bs is k n ≡ true
    stray_told e = go (bad_move bs is k n) refl e
      where
        go : (t : Bool) → bad_move bs is k n ≡ t → cond t Stray (chosen k n) ≡ Stray → bad_move bs is k n ≡ true
        go true f q = f
        go false f q = kind_over bs is n k (let b = (back k n f).0 in let z = ap kind_at q in omega arith)
