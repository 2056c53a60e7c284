-- Laws of `run_end`: the places of one component stand together in the order.
use Prim.Native.Nat.{ℕ, ◌+◌, ◌≤◌, ◌<◌}
use mathlib.Core.Path.{◌≡◌, sym, ap, ◌∙◌}
use mathlib.Core.List.{List}
use native.Mathlib.Omega.{arith}
use lib.ListN.{get_or}
use Rattle.words.proofs.Points.{same}
use Rattle.flow_rows.specs.declared.Flow.{Flow}
use Rattle.flow_rows.specs.Inner.{which, order_from, order, Run}

-- the component of the place that stands at p in the order, the order from ord on and the numbers from base on
abbrev pub number_at : List ℕ → ℕ → ℕ → ℕ → ℕ
number_at w base ord p = get_or w (base + get_or w (ord + p) 0) 0

pub record Running (w : List ℕ) (n base ord i c j : ℕ) : Type 0 where
  pub first : i < j
  pub last : j ≤ n
  pub inside : (p : ℕ) → i ≤ p → p < j → number_at w base ord p ≡ c

-- the order stands from ord on
number_is : (f : Flow) (w : List ℕ) {ord : ℕ} → ord ≡ order_from f → (p : ℕ) → number_at w f.base ord p ≡ which f w (order f w p)
number_is f w e p = ap (λ (y : ℕ). number_at w f.base y p) e

pub run_start : (f : Flow) (w : List ℕ) {ord i c : ℕ} → ord ≡ order_from f → i < f.n → which f w (order f w i) ≡ c → Running w f.n f.base ord i c (i + 1)
run_start f w {ord} {i} o h e = record { first = omega arith; last = omega arith; inside = λ p a b. let q : p ≡ i = omega arith in ap (number_at w f.base ord) q ∙ number_is f w o i ∙ e }

pub run_more : {w : List ℕ} {n base ord i c j : ℕ} → Running w n base ord i c j → j < n → number_at w base ord j ≡ c → Running w n base ord i c (j + 1)
run_more {w} {n} {base} {ord} {i} {c} {j} r h e = record {
  first = omega (arith, r.first);
  last = omega arith;
  inside = λ p a b. same p j (λ q. ap (number_at w base ord) q ∙ e) (λ q. r.inside p a (omega arith));
}

module _ (f : Flow) {w : List ℕ} {ord i c j : ℕ} (e : ord ≡ order_from f) (r : Running w f.n f.base ord i c j) where
  -- the next place is another component's
  pub run_stops : (number_at w f.base ord j ≡ c → ⊥) → Run f w i j c
  run_stops ne = record { first = r.first; last = r.last; inside = λ p a b. sym (number_is f w e p) ∙ r.inside p a b; next = λ h q. ne (number_is f w e j ∙ q) }

  -- there is none
  pub run_ends : f.n ≤ j → Run f w i j c
  run_ends h = record { first = r.first; last = r.last; inside = λ p a b. sym (number_is f w e p) ∙ r.inside p a b; next = λ l. absurd (omega arith) }
