-- The same numbers at the places: the same components, order and flow.
use Prim.Native.Nat.{ℕ, ◌<◌}
use mathlib.Core.Path.{◌≡◌, sym, ap, ◌∙◌}
use mathlib.Core.Bool.{Bool}
use mathlib.Core.List.{List}
use native.Mathlib.Omega.{arith}
use Rattle.graph.specs.Paths.{Edge, Route, one, more, Between}
use Rattle.graph.specs.Flow.{Reaching}
use Rattle.tarjan.specs.Components.{Components}
use Rattle.tarjan.specs.Inner.Components.{InOrder}

pub components_as : {es : List Edge} {n : ℕ} {which which' : ℕ → ℕ} {count : ℕ} → Between n es → ((k : ℕ) → k < n → which' k ≡ which k) → Components es n which count → Components es n which' count
components_as B is X = record {
  alike = λ j k a b t. is j a ∙ X.alike j k a b t ∙ sym (is k b);
  together = λ j k a b q. X.together j k a b (sym (is j a) ∙ q ∙ is k b);
  down = λ j k l ne.
      let a = B.from _ l in
      let b = B.to _ l in
      let d = X.down j k l (λ q. ne (is j a ∙ q ∙ sym (is k b))) in
      omega (arith, is j a, is k b);
  low = λ k a. omega (arith, is k a, X.low k a);
  used = λ x a. let r = X.used x a in (r.0, r.1, is r.0 r.1 ∙ r.2);
}

pub order_as : {n : ℕ} {which which' order order' : ℕ → ℕ} → ((k : ℕ) → k < n → which' k ≡ which k) → ((i : ℕ) → i < n → order' i ≡ order i) → InOrder n which order → InOrder n which' order'
order_as {n} {which} {which'} {order} {order'} f g X =
    let both : (i : ℕ) → i < n → which' (order' i) ≡ which (order i) = λ i h. ap which' (g i h) ∙ f (order i) (X.listed i h) in
    record {
      listed = λ i h. omega (arith, g i h, X.listed i h);
      sorted = λ i j h l. omega (arith, both i (omega arith), both j l, X.sorted i j h l);
      every = λ k h. let r = X.every k h in (r.0, r.1, g r.0 r.1 ∙ r.2);
      once = λ i j h l q. X.once i j h l (sym (g i (omega arith)) ∙ q ∙ g j l);
    }

route_end : {es : List Edge} {n j k : ℕ} → Between n es → Route es j k → k < n
route_end B (one l) = B.to _ l
route_end B (more r l) = B.to _ l

pub reaching_as : {es : List Edge} {n : ℕ} {f g : ℕ → Bool} → Between n es → ((k : ℕ) → k < n → f k ≡ g k) → {v : ℕ} → Reaching es f v → Reaching es g v
reaching_as B h r = (r.0, sym (h r.0 (route_end B r.2)) ∙ r.1, r.2)
