-- A verdict is known by document 01's number and index: no two refusals have one number. None has number 8.
use Rattle.std.specs.Prelude.{Err}
use Prim.Native.Nat.{ℕ}
use native.Mathlib.Omega.{arith}
use mathlib.Core.Path.{◌≡◌, refl, sym, ap, ◌∙◌}
use mathlib.Core.List.{[], ◌∷◌}
use lib.ListN.{get_or}
use Rattle.refusals.specs.Verdicts.{number_of, Bad, Fine, Verdict}
use Rattle.refusals.specs.Outcomes.{Outcome, given, refused, numbered}
use Rattle.refusals.specs.declared.Refusal.{Refusal}
use Rattle.refusals.specs.declared.Refusal.TheVariants.{Count, Line, Edge, Inst, Stray, Piece, Space, List as ListFull, Want, Text, Align, Depth}

-- the refusal of a number; 8 is no refusal's, so what stands there is never asked
abbrev refusal_of : ℕ → Refusal
refusal_of n = get_or (Count ∷ Count ∷ Line ∷ Edge ∷ Inst ∷ Stray ∷ Piece ∷ Space ∷ Space ∷ ListFull ∷ Want ∷ Text ∷ Align ∷ []) n Depth

number_back : (r : Refusal) → refusal_of (number_of r) ≡ r
number_back Count = refl
number_back Line = refl
number_back Edge = refl
number_back Inst = refl
number_back Stray = refl
number_back Piece = refl
number_back Space = refl
number_back ListFull = refl
number_back Want = refl
number_back Text = refl
number_back Align = refl
number_back Depth = refl

abbrev verdict_by : Outcome (Unit {0}) → Verdict
verdict_by (given a) = Fine
verdict_by (refused n i) = Bad (refusal_of n) i

verdict_back : (v : Verdict) → verdict_by (numbered v) ≡ v
verdict_back Fine = refl
verdict_back (Err e) = ap (λ (s : Refusal). Bad s e.1) (number_back e.0)

pub numbered_same : (v w : Verdict) → numbered v ≡ numbered w → v ≡ w
numbered_same v w e = sym (verdict_back v) ∙ ap verdict_by e ∙ verdict_back w

-- number 8 is retired
pub no_eight : (r : Refusal) → number_of r ≡ 8 → ⊥
no_eight r e =
    let z : r ≡ Space = sym (number_back r) ∙ ap refusal_of e in
    let n = ap number_of z in
    absurd (omega arith)
