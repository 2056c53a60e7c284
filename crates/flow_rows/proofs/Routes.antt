-- One visit of each component in order gives, for one bit, exactly what the paths of one or more edges say.
use Prim.Native.Nat.{ℕ, zero, suc, ◌<◌}
use mathlib.Core.Path.{◌≡◌, refl, sym, ◌∙◌, subst}
use mathlib.Core.Logic.{◌≢◌, ◌⊎◌, inl, inr, ◌↔◌}
use mathlib.Core.Bool.{Bool, true}
use mathlib.Core.List.{List}
use native.Mathlib.Omega.{arith}
use Rattle.words.proofs.Points.{same}
use Rattle.graph.specs.Paths.{Edge, Link, Route, one, more, turned, Together, same as alone, loop, Between}
use Rattle.graph.specs.Flow.{Reached, Reaching}
use Rattle.graph.proofs.RoundLaws.{turned_route, route_turned}
use Rattle.tarjan.specs.Components.{Components}

-- ---- paths

pub route_then : {es : List Edge} {j k l : ℕ} → Route es j k → Route es k l → Route es j l
route_then r (one e) = more r e
route_then r (more s e) = more (route_then r s) e

-- "over predecessors, and over successors": one the other over turned edges
pub reached_turned : (es : List Edge) (touched : ℕ → Bool) (k : ℕ) → Reaching (turned es) touched k ↔ Reached es touched k
reached_turned es touched k = ((λ r. (r.0, r.1, route_turned es r.2)), (λ r. (r.0, r.1, turned_route es r.2)))

-- ---- where a bit of v's row comes from: an edge out of v's component, or a touch in it, if an edge stays in it

pub data From (es : List Edge) (n : ℕ) (which : ℕ → ℕ) (touched out : ℕ → Bool) (v : ℕ) : Type 0 where
  across : {u g : ℕ} → which u ≡ which v → Link es u g → which u ≢ which g → (out g ≡ true) ⊎ (touched g ≡ true) → From es n which touched out v
  around : {u g x : ℕ} → which u ≡ which v → Link es u g → which g ≡ which v → x < n → which x ≡ which v → touched x ≡ true → From es n which touched out v

pub record Flows (es : List Edge) (n : ℕ) (which : ℕ → ℕ) (touched out : ℕ → Bool) : Type 0 where
  pub has : (v : ℕ) → v < n → From es n which touched out v → out v ≡ true
  pub only : (v : ℕ) → v < n → out v ≡ true → From es n which touched out v

module _ {es : List Edge} {n : ℕ} {which : ℕ → ℕ} {count : ℕ} {touched out : ℕ → Bool} (B : Between n es) (C : Components es n which count) (F : Flows es n which touched out) where
  -- the rows are closed under the edges
  closed : (u f : ℕ) → Link es u f → (out f ≡ true) ⊎ (touched f ≡ true) → out u ≡ true
  closed u f l t = same (which u) (which f)
      (λ q. go q t)
      (λ q. F.has u (B.from _ l) (across refl l q t))
    where
      move : which u ≡ which f → From es n which touched out f → From es n which touched out u
      move q (across a b d t) = across (a ∙ sym q) b d t
      move q (around a b d x y t) = around (a ∙ sym q) b (d ∙ sym q) x (y ∙ sym q) t

      go : which u ≡ which f → (out f ≡ true) ⊎ (touched f ≡ true) → out u ≡ true
      go q (inl o) = F.has u (B.from _ l) (move q (F.only f (B.to _ l) o))
      go q (inr o) = F.has u (B.from _ l) (around refl l (sym q) (B.to _ l) (sym q) o)

  along : {v k : ℕ} → Route es v k → (out k ≡ true) ⊎ (touched k ≡ true) → out v ≡ true
  along {v} {k} (one l) t = closed v k l t
  along {v} (more {j} {k} {l} r e) t = along r (inl (closed k l e t))

  -- to a place of the same component, and on over an edge
  past : {v u f : ℕ} → v < n → u < n → which u ≡ which v → Link es u f → Route es v f
  past {v} {u} {f} h k q l = go (C.together v u h k (sym q))
    where
      go : Together es v u → Route es v f
      go (alone e) = one (subst (λ (y : ℕ). Link es y f) (sym e) l)
      go (loop r s) = more r l

  -- on to a place of the same component
  within : {v f x : ℕ} → Route es v f → Together es f x → Route es v x
  within {v} r (alone e) = subst (λ (y : ℕ). Route es v y) e r
  within r (loop s t) = route_then r s

  true_below : (m v : ℕ) → which v < m → v < n → out v ≡ true → Reaching es touched v
  true_below zero v h l o = absurd (omega arith)
  true_below (suc m) v h l o = go (F.only v l o) (true_below m)
    where
      go : From es n which touched out v → ((y : ℕ) → which y < m → y < n → out y ≡ true → Reaching es touched y) → Reaching es touched v
      go (across {u} {g = f} q e ne (inl t)) ih =
          let r = ih f (omega (arith, C.down u f e ne)) (B.to _ e) t in
          (r.0, r.1, route_then (past l (B.from _ e) q e) r.2)
      go (across {u} {g = f} q e ne (inr t)) ih = (f, t, past l (B.from _ e) q e)
      go (around {u} {g = f} {x} q e s k p t) ih = (x, t, within (past l (B.from _ e) q e) (C.together f x (B.to _ e) k (s ∙ sym p)))

  -- the rows say what the paths say
  pub flows_reach : (v : ℕ) → v < n → (out v ≡ true) ↔ Reaching es touched v
  flows_reach v l = (true_below (suc (which v)) v (omega arith) l, λ r. along r.2 (inr r.1))
