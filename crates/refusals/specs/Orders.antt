-- Document 01, "lowest number wins": an entry's checks in its own order, and which refusals they give.
use Rattle.std.specs.Prelude.{Err, ℕ, ◌≡◌, Bool, true, ◌&&◌, List, [], ◌∷◌, leb}
use Rattle.refusals.specs.declared.Refusal.{Refusal}
use Rattle.refusals.specs.Verdicts.{Verdict, Fine}

-- a check that gives no other refusal than r
abbrev pub Gives : Refusal → Verdict → Type 0
Gives r Fine = Unit {0}
Gives r (Err e) = e.0 ≡ r

-- the refusals that the checks of a list give, one each
abbrev pub Giving : List Refusal → List Verdict → Type 0
Giving [] [] = Unit {0}
Giving [] (v ∷ vs) = ⊥
Giving (r ∷ rs) [] = ⊥
Giving (r ∷ rs) (v ∷ vs) = Gives r v × Giving rs vs

-- ranks that do not fall, from n on
abbrev pub rising : (Refusal → ℕ) → ℕ → List Refusal → Bool
rising rank n [] = true
rising rank n (r ∷ rs) = leb n (rank r) && rising rank (rank r) rs

-- an entry's checks: which refusal each gives, in an order of rising ranks; the rank is the refusal's number but where an entry has an order of its own
pub record Ordered (rank : Refusal → ℕ) (rs : List Refusal) (vs : List Verdict) : Type 0 where
  pub gives : Giving rs vs
  pub rises : rising rank 0 rs ≡ true
