-- The rows that the walk reads are those of the graph: its steps are edges, and its pieces the components.
use Prim.Native.Nat.{ℕ, ◌+◌, ◌<◌}
use mathlib.Core.Path.{◌≡◌, refl, sym, ap, subst}
use mathlib.Core.Logic.{◌⊎◌, inl, inr}
use mathlib.Core.List.{List}
use native.Mathlib.Omega.{arith}
use Rattle.graph.specs.Paths.{Edge as Jump, Link, Route, one, more, Together, same as alone, loop, Between}
use Rattle.graph.specs.Inner.Work.{EdgeRows}
use Rattle.tarjan.specs.Inner.Graph.{Edge, Reach, here, step, ComponentsOf}
use Rattle.tarjan.specs.Inner.Space.{graph, rows_of, Given, Pieced}
use Rattle.tarjan.specs.Components.{Components}
use Rattle.tarjan.specs.Inner.Components.{Walkable, Found}

-- what the walk asks, of the rows of any graph
pub rows_given : {n at base : ℕ} {w : List ℕ} → Walkable n at base w → Given n at (at + n + 1) base w
rows_given {n} {at} {base} {w} y = let b = y.below in record {
  room = y.room;
  starts = omega arith;
  ascending = y.rows.rising;
  ends = λ u h. omega (arith, y.rows.ends u h);
  nodes = λ u k h a c. y.between.to _ (y.rows.only u k h a c);
}

module _ {es : List Jump} {n at : ℕ} {w : List ℕ} (B : Between n es) (R : EdgeRows es n at w) where
  link : {u v : ℕ} → u < n → Edge (graph n (rows_of at (at + n + 1) w)) u v → Link es u v
  link {u} h E = subst (λ (x : ℕ). Link es u x) E.is (R.only u E.k h E.from E.to)

  edge_of : {u v : ℕ} → Link es u v → Edge (graph n (rows_of at (at + n + 1) w)) u v
  edge_of {u} {v} l = let p = R.has u v l in record { k = p.0; from = p.1; to = p.2; is = p.3 }

  reach_of : {u v : ℕ} → Route es u v → Reach (graph n (rows_of at (at + n + 1) w)) u v
  reach_of (one l) = step here (edge_of l)
  reach_of (more r l) = step (reach_of r) (edge_of l)

  -- no edge, or one or more
  route_of : {u v : ℕ} → u < n → Reach (graph n (rows_of at (at + n + 1) w)) u v → ((u ≡ v) ⊎ Route es u v) × (v < n)
  route_of h here = (inl refl, h)
  route_of {u} h (step {v = x} {w = y} r e) = let p = route_of h r in let l = link p.1 e in (go p.0 l, B.to _ l)
    where
      go : (u ≡ x) ⊎ Route es u x → Link es x y → (u ≡ y) ⊎ Route es u y
      go (inl q) l = inr (one (subst (λ (t : ℕ). Link es t y) (sym q) l))
      go (inr q) l = inr (more q l)

  both : {u v : ℕ} → (u ≡ v) ⊎ Route es u v → (v ≡ u) ⊎ Route es v u → Together es u v
  both (inl q) s = alone q
  both (inr r) (inl q) = alone (sym q)
  both (inr r) (inr s) = loop r s

  pub pieces_are : {which : ℕ → ℕ} {count : ℕ} → ComponentsOf (graph n (rows_of at (at + n + 1) w)) which count → Components es n which count
  pieces_are {which} P = record {
    alike = λ j k h l t. go j k h l t;
    together = λ j k h l q. let p = P.together j k h l q in both (route_of h p.0).0 (route_of l p.1).0;
    down = λ j k l ne. P.down j k (B.from _ l) (edge_of l) ne;
    low = P.which_lt;
    used = P.used;
  }
    where
      go : (j k : ℕ) → j < n → k < n → Together es j k → which j ≡ which k
      go j k h l (alone q) = ap which q
      go j k h l (loop r s) = P.alike j k h l (reach_of r) (reach_of s)

pub found : {n at base : ℕ} {w₀ w : List ℕ} {count : ℕ} → Pieced n at (at + n + 1) base w₀ w count → Found n at base w₀ w count
found p = record {
  kept = record { len = p.kept.len; below = p.kept.below; past = p.kept.past };
  few = p.pieces.count_le;
  components = λ es B R. pieces_are B R p.pieces;
  order = record { listed = p.listed.listed; sorted = p.listed.sorted; every = p.listed.every; once = p.listed.once };
}
