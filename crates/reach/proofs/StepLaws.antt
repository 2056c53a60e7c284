-- A split at the same place of tests that agree, and the last of some values that is a given one.
use Prim.Native.Nat.{ℕ, suc, ◌+◌, ◌<◌}
use native.Mathlib.Omega.{arith}
use native.Mathlib.Numerals.{add-one}
use mathlib.Core.Path.{◌≡◌, refl, sym, ap, ◌∙◌}
use mathlib.Core.Logic.{◌≢◌}
use mathlib.Core.Bool.{Bool, cond}
use borrow.Author.Tests.{eq-eqb, ne_eqb}
use Rattle.words.specs.Inner.{Splits}
use Rattle.reach.specs.Inner.{latest}

pub splits_same : {t u : ℕ → Bool} {n r : ℕ} → Splits t n r → ((k : ℕ) → k < n → u k ≡ t k) → Splits u n r
splits_same s e = record {
  within = s.within;
  holds = λ i h. e i (let q = s.within in omega arith) ∙ s.holds i h;
  fails = λ i h l. e i l ∙ s.fails i h l;
}

module _ (f : ℕ → ℕ) where
  pub latest_here : (m a : ℕ) → f a ≡ m → latest f m (a + 1) ≡ a + 1
  unfolding latest
  latest_here m a e = ap (latest f m) (add-one a) ∙ ap (λ (t : Bool). cond t (suc a) (latest f m a)) (eq-eqb (f a) m e) ∙ sym (add-one a)

  pub latest_other : (m a : ℕ) → f a ≢ m → latest f m (a + 1) ≡ latest f m a
  unfolding latest
  latest_other m a e = ap (latest f m) (add-one a) ∙ ap (λ (t : Bool). cond t (suc a) (latest f m a)) (ne_eqb (f a) m e)

  pub latest_none : (m : ℕ) → latest f m 0 ≡ 0
  unfolding latest
  latest_none m = refl
