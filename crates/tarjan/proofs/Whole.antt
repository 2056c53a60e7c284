-- States that agree; the first state; the last; the edges left.
-- Assumes nothing.
use mathlib.Core.Path.{◌≡◌, refl, sym, ap, ◌∙◌}
use mathlib.Core.Logic.{◌≢◌}
use Prim.Native.Nat.{ℕ, zero, suc, ◌+◌, ◌-◌, ◌≤◌, ◌<◌}
use native.Mathlib.Omega.{arith}
use Rattle.words.proofs.Points.{cut, same}
use Rattle.tarjan.specs.Inner.Graph.{Graph, Sound, Reach, here, step, ComponentsOf, Listed}
use Rattle.tarjan.specs.Inner.Walk.{State, Bound, one, seen, Inv, Order, Walks}
use Rattle.tarjan.specs.Inner.Moves.{Agree, left}
use Rattle.tarjan.proofs.Tools.{seen_mono, seen_same, seen_le, one_pos}
use Rattle.tarjan.proofs.Steps.{s_le, d_le, looked, edge_node}

module _ {G : Graph} {z z' : State} (S : Sound G) (I : Inv G z) (A : Agree G.n z z') where
  size : z.c + z.s ≤ G.n
  size = s_le S I

  deep : z.d ≤ G.n
  deep = omega (arith, d_le S I, s_le S I)

  to_old : {b : ℕ} → Bound z'.fr z'.lw z'.d b → Bound z.fr z.lw z.d b
  to_old B = let dn = deep in record {
    i = B.i;
    lt = omega (arith, B.lt, A.d);
    is = sym (A.fr B.i (omega (arith, B.lt, A.d))) ∙ B.is;
    low = λ j h k. omega (arith, A.lw j (omega arith), B.low j h (omega (arith, A.d)));
  }

  to_new : {b : ℕ} → Bound z.fr z.lw z.d b → Bound z'.fr z'.lw z'.d b
  to_new B = let dn = deep in record {
    i = B.i;
    lt = omega (arith, B.lt, A.d);
    is = A.fr B.i (omega (arith, B.lt)) ∙ B.is;
    low = λ j h k. omega (arith, A.lw j (omega (arith, A.d)), B.low j h (omega (arith, A.d)));
  }

  pub agree_inv : Inv G z'
  agree_inv =
      let dn = deep in
      let sn = size in
      record {
        node = λ p h. omega (arith, A.s, A.stk p (omega (arith, A.s)), I.node p (omega (arith, A.s)));
        held = λ p h.
            let l : p < z.s = omega (arith, A.s) in
            ap z'.num (A.stk p (omega arith)) ∙ A.num (z.stk p) (I.node p l) ∙ I.held p l;
        place = λ v p h e m.
            let r = I.place v p h (sym (A.num v h) ∙ e) m in
            (omega (arith, A.s, r.0), A.stk p m ∙ r.1);
        first = λ e. A.s ∙ I.first (sym A.d ∙ e);
        bottom = λ h. A.fr 0 (omega (arith, A.d)) ∙ I.bottom (omega (arith, A.d));
        rising = λ i j h k. omega (arith, A.fr i (omega (arith, A.d)), A.fr j (omega (arith, A.d)), I.rising i j h (omega (arith, A.d)));
        framed = λ i h. omega (arith, A.s, A.fr i (omega (arith, A.d)), I.framed i (omega (arith, A.d)));
        low = λ i h. omega (arith, A.lw i (omega (arith, A.d)), A.fr i (omega (arith, A.d)), I.low i (omega (arith, A.d)));
        count = omega (arith, A.s, A.c, I.count, seen_mono G.n z.num z'.num (λ v l h. omega (arith, A.num v l)));
        begun = λ v h. omega (arith, A.nxt v h, I.begun v h);
        ended = λ v h. omega (arith, A.nxt v h, I.ended v h);
        fresh = λ v h e. omega (arith, A.nxt v h, I.fresh v h (sym (A.num v h) ∙ e));
        spent = λ p h f.
            let l : p < z.s = omega (arith, A.s) in
            let g = I.spent p l (λ i k m. f i (omega (arith, A.d)) (A.fr i (omega arith) ∙ m)) in
            rw (A.stk p (omega arith)) (omega (arith, g, A.nxt (z.stk p) (I.node p l)));
        known = λ p k h a b.
            let l : p < z.s = omega (arith, A.s) in
            let q = A.stk p (omega arith) in
            let a' : G.beg (z.stk p) ≤ k = rw q at a in
            let b0 : k < z'.nxt (z.stk p) = rw q at b in
            let b' : k < z.nxt (z.stk p) = omega (arith, A.nxt (z.stk p) (I.node p l)) in
            omega (arith, A.num (G.tgt k) (looked S I p k l a' b'), I.known p k l a' b');
        fwd = λ p k r h a b e m o B.
            let l : p < z.s = omega (arith, A.s) in
            let q = A.stk p (omega arith) in
            let a' : G.beg (z.stk p) ≤ k = rw q at a in
            let b0 : k < z'.nxt (z.stk p) = rw q at b in
            let b' : k < z.nxt (z.stk p) = omega (arith, A.nxt (z.stk p) (I.node p l)) in
            I.fwd p k r l a' b' (sym (A.num (G.tgt k) (looked S I p k l a' b')) ∙ e) m o (to_old B);
        reach = λ p q h k f.
            let l : p < z.s = omega (arith, A.s) in
            let m : q < z.s = omega (arith, A.s) in
            rw (A.stk p (omega arith), A.stk q (omega arith)) (I.reach p q l m (λ b B. f b (to_new B)));
        below = λ v h m. let e = A.num v h in omega (arith, A.c, I.below v h (omega arith));
        shut = λ v w h m E.
            let e = A.num v h in
            let f = A.num w (edge_node S h E) in
            let r = I.shut v w h (omega arith) E in
            (omega (arith, r.0), omega (arith, r.1));
        joined = λ u v h k m r.
            let e = A.num u h in
            let f = A.num v k in
            I.joined u v h k (omega arith) (omega arith);
        used = λ x h. let r = I.used x (omega (arith, A.c)) in (r.0, r.1, A.num r.0 r.1 ∙ r.2);
      }

  pub agree_order : Order G.n z.num z.ord z.s z.e → Order G.n z'.num z'.ord z'.s z'.e
  agree_order O =
      let en : z.e ≤ G.n = omega (arith, O.total, seen_le G.n z.num) in
      record {
        total = omega (arith, A.s, A.e, O.total, seen_same G.n z.num z'.num (λ v l h. omega (arith, A.num v l)) (λ v l h. omega (arith, A.num v l)));
        listed = λ i h.
            let l : i < z.e = omega (arith, A.e) in
            let r = O.listed i l in
            rw (A.ord i (omega arith)) (r.0, omega (arith, A.num (z.ord i) r.0, r.1));
        sorted = λ i j h k.
            let l : j < z.e = omega (arith, A.e) in
            let a = O.listed i (omega arith) in
            let b = O.listed j l in
            rw (A.ord i (omega arith), A.ord j (omega arith))
            (omega (arith, A.num (z.ord i) a.0, A.num (z.ord j) b.0, O.sorted i j h l));
        every = λ v h m.
            let e = A.num v h in
            let r = O.every v h (omega arith) in
            (r.0, omega (arith, A.e, r.1), A.ord r.0 (omega (arith, r.1)) ∙ r.2);
        once = λ i j h k q.
            let l : j < z.e = omega (arith, A.e) in
            O.once i j h l (sym (A.ord i (omega arith)) ∙ q ∙ A.ord j l);
      }

  pub agree_walks : Order G.n z.num z.ord z.s z.e → Walks G z'
  agree_walks O = record { inv = agree_inv; order = agree_order O }

-- ---- the first state: nothing seen
pub zero_seen : (m : ℕ) (f : ℕ → ℕ) → ((v : ℕ) → v < m → f v ≡ 0) → seen m f ≡ 0
unfolding seen
zero_seen zero f h = refl
zero_seen (suc m) f h = omega (arith, ap one (h m (omega arith)), zero_seen m f (λ v l. h v (omega arith)))

pub start_walks : (G : Graph) (z : State) → Sound G → z.s ≡ 0 → z.d ≡ 0 → z.c ≡ 0 → z.e ≡ 0
    → ((v : ℕ) → v < G.n → z.num v ≡ 0) → ((v : ℕ) → v < G.n → z.nxt v ≡ G.beg v) → Walks G z
start_walks G z S s0 d0 c0 e0 f g = record {
  inv = record {
    node = λ p h. absurd (omega arith);
    held = λ p h. absurd (omega arith);
    place = λ v p h e m. absurd (omega (arith, f v h));
    first = λ _. s0;
    bottom = λ h. absurd (omega arith);
    rising = λ i j h k. absurd (omega arith);
    framed = λ i h. absurd (omega arith);
    low = λ i h. absurd (omega arith);
    count = omega arith;
    begun = λ v h. omega (arith, g v h);
    ended = λ v h. omega (arith, g v h, S.rows v h);
    fresh = λ v h _. omega (arith, g v h);
    spent = λ p h _. absurd (omega arith);
    known = λ p k h a b. absurd (omega arith);
    fwd = λ p k q h a b e m. absurd (omega arith);
    reach = λ p q h k _. absurd (omega arith);
    below = λ v h m. absurd (omega (arith, f v h));
    shut = λ v w h m E. absurd (omega (arith, f v h));
    joined = λ u v h k m e. absurd (omega (arith, f u h));
    used = λ x h. absurd (omega arith);
  };
  order = record {
    total = omega (arith, zero_seen G.n z.num f);
    listed = λ i h. absurd (omega arith);
    sorted = λ i j h k. absurd (omega arith);
    every = λ v h m. absurd (omega (arith, f v h));
    once = λ i j h k. absurd (omega arith);
  };
}

-- ---- the last state: everything seen, nothing held
pub all_seen : (m : ℕ) (f : ℕ → ℕ) → ((v : ℕ) → v < m → 0 < f v) → seen m f ≡ m
unfolding seen
all_seen zero f h = refl
all_seen (suc m) f h = omega (arith, one_pos (f m) (h m (omega arith)), all_seen m f (λ v l. h v (omega arith)))

module _ {G : Graph} {z : State} (S : Sound G) (W : Walks G z) (stop : z.d ≡ 0) (all : (v : ℕ) → v < G.n → 0 < z.num v) where
  empty : z.s ≡ 0
  empty = W.inv.first stop

  pub shut_all : (v : ℕ) → v < G.n → G.n < z.num v
  shut_all v h = go (z.num v) refl
    where
      go : (m : ℕ) → z.num v ≡ m → G.n < z.num v
      go zero e = absurd (omega (arith, all v h))
      go (suc p) e = cut (suc p) G.n
          (λ k. absurd (omega (arith, empty, (W.inv.place v p h e k).0)))
          (λ k. omega arith)

  falls : (u v : ℕ) → u < G.n → Reach G u v → (v < G.n) × (z.num v ≤ z.num u)
  falls u v h here = (h, omega arith)
  falls u v h (step {v = x} r E) =
      let a = falls u x h r in
      (edge_node S a.0 E, omega (arith, a.1, (W.inv.shut x v a.0 (shut_all x a.0) E).1))

  pub last_pieces : (which : ℕ → ℕ) → ((v : ℕ) → v < G.n → which v ≡ z.num v - suc G.n) → ComponentsOf G which z.c
  last_pieces which is = record {
    count_le = omega (arith, s_le S W.inv);
    which_lt = λ v h. omega (arith, is v h, shut_all v h, W.inv.below v h (shut_all v h));
    alike = λ u v h k a b. omega (arith, is u h, is v k, (falls u v h a).1, (falls v u k b).1);
    together = λ u v h k e.
        let q : z.num u ≡ z.num v = omega (arith, is u h, is v k, shut_all u h, shut_all v k) in
        (W.inv.joined u v h k (shut_all u h) q, W.inv.joined v u k h (shut_all v k) (sym q));
    down = λ u v h E ne. omega (arith, is u h, is v (edge_node S h E), (W.inv.shut u v h (shut_all u h) E).1);
    used = λ x h. let r = W.inv.used x h in (r.0, r.1, omega (arith, is r.0 r.1, r.2));
  }

  pub last_listed : (which : ℕ → ℕ) → ((v : ℕ) → v < G.n → which v ≡ z.num v - suc G.n) → Listed G.n which z.ord
  last_listed which is =
      let O = W.order in
      let full : z.e ≡ G.n = omega (arith, O.total, empty, all_seen G.n z.num all) in
      record {
        listed = λ i h. (O.listed i (omega arith)).0;
        sorted = λ i j h k.
            let a = O.listed i (omega arith) in
            let b = O.listed j (omega arith) in
            omega (arith, is (z.ord i) a.0, is (z.ord j) b.0, O.sorted i j h (omega arith));
        every = λ v h. let r = O.every v h (shut_all v h) in (r.0, omega (arith, r.1), r.2);
        once = λ i j h k. O.once i j h (omega arith);
      }

-- ---- the edges left
pub left_same : (m : ℕ) (f f' g g' : ℕ → ℕ) → ((v : ℕ) → v < m → f' v ≡ f v) → ((v : ℕ) → v < m → g' v ≡ g v) → left m f' g' ≡ left m f g
unfolding left
left_same zero f f' g g' a b = refl
left_same (suc m) f f' g g' a b = omega (arith, a m (omega arith), b m (omega arith), left_same m f f' g g' (λ v l. a v (omega arith)) (λ v l. b v (omega arith)))

pub left_falls : (m : ℕ) (f g g' : ℕ → ℕ) (u : ℕ) → u < m → g u < f u → g' u ≡ suc (g u) → ((v : ℕ) → v < m → v ≢ u → g' v ≡ g v) → suc (left m f g') ≡ left m f g
unfolding left
left_falls zero f g g' u l h e k = absurd (omega arith)
left_falls (suc m) f g g' u l h e k = same u m
    (λ q. let h' : g m < f m = rw q at h in
    let e' : g' m ≡ suc (g m) = rw q at e in
    omega (arith, left_same m f f g g' (λ _ _. refl) (λ v o. k v (omega arith) (λ r. absurd (omega arith)))))
    (λ q. omega (arith, k m (omega arith) (λ r. q (sym r)), left_falls m f g g' u (omega arith) h e (λ v o. k v (omega arith))))
