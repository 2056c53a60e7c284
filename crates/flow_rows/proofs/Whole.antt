-- Laws of `flowed`: component after component, the rows that are worked out are final, and say what the paths say.
use Prim.Native.Nat.{ℕ, ◌+◌, ◌*◌, ◌≤◌, ◌<◌}
use mathlib.Core.Path.{◌≡◌, sym, ap, ◌∙◌, subst}
use mathlib.Core.Logic.{◌≢◌, inl, inr, ⊎_elim}
use mathlib.Core.Bool.{Bool, true}
use mathlib.Core.List.{List}
use native.Mathlib.Omega.{arith}
use Rattle.words.proofs.Points.{cut}
use Rattle.graph.specs.Paths.{Edge, Link, Between}
use Rattle.graph.specs.Inner.Work.{Within, EdgeRows}
use Rattle.graph.proofs.Within.{within_refl, within_trans}
use Rattle.tarjan.specs.Components.{Components}
use Rattle.tarjan.specs.Inner.Components.{InOrder}
use Rattle.flow_rows.specs.declared.Flow.{Flow}
use Rattle.flow_rows.specs.Inner.{which, order, begins, ends, target, touched_bit, out_bit, Laid, Source, Visited, Flowed}
use Rattle.flow_rows.proofs.Joins.{which_kept, order_kept, begins_kept, ends_kept, target_kept, touched_kept, laid_kept}
use Rattle.flow_rows.proofs.Routes.{From, across, around, flows_reach}

-- one bit of the rows: of the touched ones, and of the answer's
abbrev pub touched_of : Flow → List ℕ → ℕ → ℕ → Bool
touched_of f w b k = touched_bit f w k b

abbrev pub out_of : Flow → List ℕ → ℕ → ℕ → Bool
out_of f w b k = out_bit f w k b

-- the rows of the first i places of the order are what `From` says, in every graph that the rows are of
pub record Flowing (f : Flow) (w₀ w : List ℕ) (i : ℕ) : Type 0 where
  pub laid : Laid f w₀
  pub ordered : InOrder f.n (which f w₀) (order f w₀)
  pub i_le : i ≤ f.n
  pub kept : Within f.out (f.out + f.n * f.words) w₀ w
  pub apart : (p q : ℕ) → p < i → i ≤ q → q < f.n → which f w₀ (order f w₀ p) ≢ which f w₀ (order f w₀ q)
  pub has : (es : List Edge) (count : ℕ) → Between f.n es → EdgeRows es f.n f.at w₀ → Components es f.n (which f w₀) count
      → (p b : ℕ) → p < i → b < f.words * 64 → From es f.n (which f w₀) (touched_of f w₀ b) (out_of f w b) (order f w₀ p) → out_bit f w (order f w₀ p) b ≡ true
  pub only : (es : List Edge) (count : ℕ) → Between f.n es → EdgeRows es f.n f.at w₀ → Components es f.n (which f w₀) count
      → (p b : ℕ) → p < i → b < f.words * 64 → out_bit f w (order f w₀ p) b ≡ true → From es f.n (which f w₀) (touched_of f w₀ b) (out_of f w b) (order f w₀ p)

pub flow_start : (f : Flow) (w : List ℕ) → Laid f w → InOrder f.n (which f w) (order f w) → Flowing f w w 0
flow_start f w L O = record {
  laid = L;
  ordered = O;
  i_le = omega arith;
  kept = within_refl _ _ w;
  apart = λ p q h a b. absurd (omega arith);
  has = λ es count B R C p b h. absurd (omega arith);
  only = λ es count B R C p b h. absurd (omega arith);
}

-- ---- one more component

module _ {f : Flow} {w₀ w w' : List ℕ} {i j : ℕ} (t : Flowing f w₀ w i) (h : i < f.n) (S : Visited f i j (which f w (order f w i)) w w') where
  L : Laid f w₀
  L = t.laid

  K : Within f.out (f.out + f.n * f.words) w₀ w
  K = t.kept

  order_is : (p : ℕ) → p < f.n → order f w p ≡ order f w₀ p
  order_is = order_kept L K

  c_is : which f w (order f w i) ≡ which f w₀ (order f w₀ i)
  c_is = ap (which f w) (order_is i h) ∙ which_kept L K (order f w₀ i) (L.listed i h)

  inside : (p : ℕ) → i ≤ p → p < j → which f w₀ (order f w₀ p) ≡ which f w₀ (order f w₀ i)
  inside p a b =
      let l : p < f.n = omega (arith, S.run.last) in
      sym (ap (which f w) (order_is p l) ∙ which_kept L K (order f w₀ p) (L.listed p l)) ∙ S.run.inside p a b ∙ c_is

  next : j < f.n → which f w₀ (order f w₀ j) ≢ which f w₀ (order f w₀ i)
  next l e = S.run.next l (ap (which f w) (order_is j l) ∙ which_kept L K (order f w₀ j) (L.listed j l) ∙ e ∙ sym c_is)

  -- the places of the component stand from i up to j
  pub located : (u : ℕ) → u < f.n → which f w₀ u ≡ which f w₀ (order f w₀ i) → (q : ℕ) × (i ≤ q) × (q < j) × (order f w₀ q ≡ u)
  located u l e =
      let r = t.ordered.every u l in
      let q = r.0 in
      let q-is : which f w₀ (order f w₀ q) ≡ which f w₀ (order f w₀ i) = ap (which f w₀) r.2 ∙ e in (
        q,
        cut i q (λ a. a) (λ a. absurd (t.apart q i a (omega arith) h q-is)),
        cut j q
            (λ a. absurd (next (omega (arith, r.1)) (let s = t.ordered.sorted i j (omega (arith, S.run.first)) (omega (arith, r.1)) in let o = t.ordered.sorted j q a r.1 in omega arith)))
            (λ a. a),
        r.2,
      )

  -- a row of another component is as it was
  other : (v b : ℕ) → v < f.n → which f w₀ v ≢ which f w₀ (order f w₀ i) → b < f.words * 64 → out_bit f w' v b ≡ out_bit f w v b
  other v b l ne k = S.others v b l (λ e. ne (sym (which_kept L K v l) ∙ e ∙ c_is)) k

  module _ (es : List Edge) (count : ℕ) (B : Between f.n es) (R : EdgeRows es f.n f.at w₀) (C : Components es f.n (which f w₀) count) where
    -- a component that was worked out has edges only to such: no row that they read has changed
    lower : (p : ℕ) → p < i → {u g : ℕ} → which f w₀ u ≡ which f w₀ (order f w₀ p) → Link es u g → which f w₀ u ≢ which f w₀ g → which f w₀ g ≢ which f w₀ (order f w₀ i)
    lower p a {u} {g} e l ne q =
        let d = C.down u g l ne in
        let s = t.ordered.sorted p i (omega arith) h in
        omega arith

    module _ (p b : ℕ) (k : b < f.words * 64) where
      old-to : p < i → From es f.n (which f w₀) (touched_of f w₀ b) (out_of f w' b) (order f w₀ p) → From es f.n (which f w₀) (touched_of f w₀ b) (out_of f w b) (order f w₀ p)
      old-to a (across {u} {g} e l ne s) = across e l ne (⊎_elim (λ o. inl (sym (other g b (B.to _ l) (lower p a e l ne) k) ∙ o)) (λ o. inr o) s)
      old-to a (around e l s x y z) = around e l s x y z

      old-back : p < i → From es f.n (which f w₀) (touched_of f w₀ b) (out_of f w b) (order f w₀ p) → From es f.n (which f w₀) (touched_of f w₀ b) (out_of f w' b) (order f w₀ p)
      old-back a (across {u} {g} e l ne s) = across e l ne (⊎_elim (λ o. inl (other g b (B.to _ l) (lower p a e l ne) k ∙ o)) (λ o. inr o) s)
      old-back a (around e l s x y z) = around e l s x y z

      -- a member of the component, and an edge of it
      member : (q : ℕ) → i ≤ q → q < j → i ≤ p → p < j → which f w₀ (order f w₀ q) ≡ which f w₀ (order f w₀ p)
      member q a d e g = inside q a d ∙ sym (inside p e g)

      u_lt : (q : ℕ) → q < j → order f w₀ q < f.n
      u_lt q a = L.listed q (omega (arith, S.run.last))

      edge-low : (q m : ℕ) → q < j → begins f w (order f w q) ≤ m → m < ends f w (order f w q) → (begins f w₀ (order f w₀ q) ≤ m) × (m < ends f w₀ (order f w₀ q))
      edge-low q m a d e =
          let o = order_is q (omega (arith, S.run.last)) in (
            omega (arith, ap (begins f w) o, begins_kept L K (order f w₀ q) (u_lt q a)),
            omega (arith, ap (ends f w) o, ends_kept L K (order f w₀ q) (u_lt q a)),
          )

      module _ (q m : ℕ) (a : q < j) (d : begins f w₀ (order f w₀ q) ≤ m) (e : m < ends f w₀ (order f w₀ q)) where
        target_is : target f w m ≡ target f w₀ m
        target_is = target_kept L K (order f w₀ q) m (u_lt q a) e

        target_lt : target f w₀ m < f.n
        target_lt = L.nodes (order f w₀ q) m (u_lt q a) d e

        which_is : which f w (target f w m) ≡ which f w₀ (target f w₀ m)
        which_is = ap (which f w) target_is ∙ which_kept L K (target f w₀ m) target_lt

        link-is : Link es (order f w₀ q) (target f w₀ m)
        link-is = R.only (order f w₀ q) m (u_lt q a) d e

        out_is : which f w₀ (target f w₀ m) ≢ which f w₀ (order f w₀ i) → out_bit f w' (target f w₀ m) b ≡ out_bit f w (target f w m) b
        out_is ne = other (target f w₀ m) b target_lt ne k ∙ ap (λ (y : ℕ). out_bit f w y b) (sym target_is)

        touched_is : touched_bit f w (target f w m) b ≡ touched_bit f w₀ (target f w₀ m) b
        touched_is = ap (λ (y : ℕ). touched_bit f w y b) target_is ∙ touched_kept L K (target f w₀ m) b target_lt k

      new-to : i ≤ p → p < j → Source f w i j (which f w (order f w i)) b → From es f.n (which f w₀) (touched_of f w₀ b) (out_of f w' b) (order f w₀ p)
      new-to a d (inl m) =
          let q = m.0 in
          let s = m.3 in
          let x = edge-low q s.0 m.2 s.1 s.2 in
          let ne : which f w₀ (target f w₀ s.0) ≢ which f w₀ (order f w₀ i) = λ e. s.3 (which_is q s.0 m.2 x.0 x.1 ∙ e ∙ sym c_is) in
          across (member q m.1 m.2 a d) (link-is q s.0 m.2 x.0 x.1) (λ e. ne (sym e ∙ inside q m.1 m.2))
          (⊎_elim (λ o. inl (out_is q s.0 m.2 x.0 x.1 ne ∙ o)) (λ o. inr (sym (touched_is q s.0 m.2 x.0 x.1) ∙ o)) s.4)
      new-to a d (inr m) =
          let r = m.0 in
          let q = r.0 in
          let s = r.3 in
          let x = edge-low q s.0 r.2 s.1 s.2 in
          let z = m.1 in
          around (member q r.1 r.2 a d) (link-is q s.0 r.2 x.0 x.1)
          (sym (which_is q s.0 r.2 x.0 x.1) ∙ s.3 ∙ c_is ∙ sym (inside p a d))
          (u_lt z.0 z.2) (member z.0 z.1 z.2 a d)
          (sym (ap (λ (y : ℕ). touched_bit f w y b) (order_is z.0 (omega (arith, z.2, S.run.last))) ∙ touched_kept L K (order f w₀ z.0) b (u_lt z.0 z.2) k) ∙ z.3)

      new-back : i ≤ p → p < j → From es f.n (which f w₀) (touched_of f w₀ b) (out_of f w' b) (order f w₀ p) → Source f w i j (which f w (order f w i)) b
      new-back a d (across {u} {g} e l ne s) =
          let r = located u (B.from _ l) (e ∙ inside p a d) in
          let q = r.0 in
          let y = R.has u g l in
          let m = y.0 in
          let lo : begins f w₀ (order f w₀ q) ≤ m = rw r.3 y.1 in
          let hi : m < ends f w₀ (order f w₀ q) = rw r.3 y.2 in
          let o = order_is q (omega (arith, r.2, S.run.last)) in
          let ne' : which f w₀ (target f w₀ m) ≢ which f w₀ (order f w₀ i) = λ z. ne (e ∙ inside p a d ∙ sym z ∙ ap (which f w₀) y.3) in
          inl (
            q,
            r.1,
            r.2,
            (
              m,
              omega (arith, ap (begins f w) o, begins_kept L K (order f w₀ q) (u_lt q r.2)),
              omega (arith, ap (ends f w) o, ends_kept L K (order f w₀ q) (u_lt q r.2)),
              (λ z. ne' (sym (which_is q m r.2 lo hi) ∙ z ∙ c_is)),
              ⊎_elim
                  (λ z. inl (sym (out_is q m r.2 lo hi ne') ∙ ap (λ (v : ℕ). out_bit f w' v b) y.3 ∙ z))
                  (λ z. inr (touched_is q m r.2 lo hi ∙ ap (λ (v : ℕ). touched_bit f w₀ v b) y.3 ∙ z))
                  s,
            ),
          )
      new-back a d (around {u} {g} {x} e l s xl xe xt) =
          let r = located u (B.from _ l) (e ∙ inside p a d) in
          let q = r.0 in
          let y = R.has u g l in
          let m = y.0 in
          let lo : begins f w₀ (order f w₀ q) ≤ m = rw r.3 y.1 in
          let hi : m < ends f w₀ (order f w₀ q) = rw r.3 y.2 in
          let o = order_is q (omega (arith, r.2, S.run.last)) in
          let z = located x xl (xe ∙ inside p a d) in
          inr (
            (
              q,
              r.1,
              r.2,
              (
                m,
                omega (arith, ap (begins f w) o, begins_kept L K (order f w₀ q) (u_lt q r.2)),
                omega (arith, ap (ends f w) o, ends_kept L K (order f w₀ q) (u_lt q r.2)),
                which_is q m r.2 lo hi ∙ ap (which f w₀) y.3 ∙ s ∙ inside p a d ∙ sym c_is,
              ),
            ),
            (
              z.0,
              z.1,
              z.2,
              ap (λ (v : ℕ). touched_bit f w v b) (order_is z.0 (omega (arith, z.2, S.run.last))) ∙ touched_kept L K (order f w₀ z.0) b (u_lt z.0 z.2) k
                  ∙ ap (λ (v : ℕ). touched_bit f w₀ v b) z.3 ∙ xt,
            ),
          )

  -- a place that was worked out before is of another component
  before_other : (p : ℕ) → p < i → which f w₀ (order f w₀ p) ≢ which f w₀ (order f w₀ i)
  before_other p a = t.apart p i a (omega arith) h

  p_lt : (p : ℕ) → p < j → p < f.n
  p_lt p a = omega (arith, S.run.last)

  pub flow_more : Flowing f w₀ w' j
  flow_more = record {
    laid = t.laid;
    ordered = t.ordered;
    i_le = S.run.last;
    kept = within_trans t.kept S.kept;
    apart = λ p q a d e. λ s. absurd (cut i p
        (λ o. next (omega arith) (let x = t.ordered.sorted p j (omega arith) (omega arith) in let y = t.ordered.sorted j q d e in let z = inside p o a in omega arith))
        (λ o. t.apart p q o (omega (arith, S.run.first)) e s));
    has = λ es count B R C p b a k s. cut i p
        (λ o. ap (λ (y : ℕ). out_bit f w' y b) (sym (order_is p (p_lt p a))) ∙ S.has p b o a k (new-back es count B R C p b k o a s))
        (λ o. other (order f w₀ p) b (L.listed p (p_lt p a)) (before_other p o) k ∙ t.has es count B R C p b o k (old-to es count B R C p b k o s));
    only = λ es count B R C p b a k s. cut i p
        (λ o. new-to es count B R C p b k o a (S.only p b o a k (ap (λ (y : ℕ). out_bit f w' y b) (order_is p (p_lt p a)) ∙ s)))
        (λ o. old-back es count B R C p b k o (t.only es count B R C p b o k (sym (other (order f w₀ p) b (L.listed p (p_lt p a)) (before_other p o) k) ∙ s)));
  }

  pub flow_laid : Laid f w
  flow_laid = laid_kept L K

-- ---- all of them

pub flow_done : {f : Flow} {w₀ w : List ℕ} {i : ℕ} → Flowing f w₀ w i → f.n ≤ i → Flowed f w₀ w
flow_done {f} {w₀} {w} {i} t h = record {
  kept = t.kept;
  bits = λ es count B R C v b l k. flows_reach B C (record {
    has = λ u a s. let r = t.ordered.every u a in
        ap (λ (y : ℕ). out_bit f w y b) (sym r.2) ∙ t.has es count B R C r.0 b (omega (arith, r.1)) k (subst (λ (y : ℕ). From es f.n (which f w₀) (touched_of f w₀ b) (out_of f w b) y) (sym r.2) s);
    only = λ u a s. let r = t.ordered.every u a in
        subst (λ (y : ℕ). From es f.n (which f w₀) (touched_of f w₀ b) (out_of f w b) y) r.2 (t.only es count B R C r.0 b (omega (arith, r.1)) k (ap (λ (y : ℕ). out_bit f w y b) r.2 ∙ s));
  }) v l;
}
