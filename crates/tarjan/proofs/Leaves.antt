-- The steps of the walk keep the invariant: a frame is left, and its node stays held or closes a component.
use mathlib.Core.Path.{◌≡◌, refl, sym, ap, ◌∙◌}
use Prim.Native.Nat.{ℕ, zero, suc, ◌+◌, ◌-◌, ◌≤◌, ◌<◌, min}
use native.Mathlib.Omega.{arith}
use Rattle.words.proofs.Points.{cut, same}
use Rattle.tarjan.specs.Inner.Graph.{Graph, Sound, Edge, Reach}
use Rattle.tarjan.specs.Inner.Walk.{State, Bound, Fwd, Inv, Order}
use Rattle.tarjan.specs.Inner.Moves.{retired, closed}
use Rattle.tarjan.proofs.Tools.{pasted_old, pasted_new, seen_same, upd_case, upd_at, shut_case, seen_mono}
use Rattle.tarjan.proofs.Steps.{edge_node, s_le, bound_top}

-- ---- the top frame, over the frame e, is left, and its node stays held
module _ (G : Graph) (z : State) (e : ℕ) where
  module _ (S : Sound G) (I : Inv G z) (top : z.d ≡ suc (suc e)) (less : z.lw (suc e) < z.fr (suc e))
      (done : G.end (z.stk (z.fr (suc e))) ≤ z.nxt (z.stk (z.fr (suc e)))) where
    left_le : (j : ℕ) → (retired z e).lw j ≤ z.lw j
    left_le j = upd_case (λ y. y ≤ z.lw j) z.lw e (min (z.lw e) (z.lw (suc e))) j (λ h. omega (arith, ap z.lw h)) (λ _. omega arith)

    left_was : {b : ℕ} → Bound z.fr (retired z e).lw (suc e) b → Bound z.fr z.lw z.d b
    left_was B = record {
      i = B.i;
      lt = omega (arith, B.lt);
      is = B.is;
      low = λ j h k. same j (suc e)
          (λ r. rw r (omega (arith, B.low e (omega (arith, B.lt)) (omega arith), upd_at z.lw e (min (z.lw e) (z.lw (suc e))) e refl)))
          (λ r. omega (arith, B.low j h (omega arith), left_le j));
    }

    left_is : {b : ℕ} → Bound z.fr z.lw z.d b → Bound z.fr (retired z e).lw (suc e) b
    left_is {b} B = record {
      i = B.i;
      lt = same B.i (suc e)
          (λ r. absurd (omega (arith, B.low (suc e) (omega (arith, B.lt)) (omega arith), B.is, ap z.fr r)))
          (λ r. omega (arith, B.lt));
      is = B.is;
      low = λ j h k. upd_case (λ y. b ≤ y) z.lw e (min (z.lw e) (z.lw (suc e))) j
          (λ r. omega (arith, ap z.lw r, B.low j h (omega arith), B.low (suc e) (omega (arith, B.lt)) (omega arith)))
          (λ _. B.low j h (omega arith));
    }

    pub retire_inv : Inv G (retired z e)
    retire_inv = record {
      node = I.node;
      held = I.held;
      place = I.place;
      first = λ h. absurd (omega arith);
      bottom = λ h. I.bottom (omega arith);
      rising = λ i j h k. I.rising i j h (omega arith);
      framed = λ i h. I.framed i (omega arith);
      low = λ i h. omega (arith, I.low i (omega arith), left_le i);
      count = I.count;
      begun = I.begun;
      ended = I.ended;
      fresh = I.fresh;
      spent = λ p h f. same p (z.fr (suc e))
          (λ r. rw r done)
          (λ r. I.spent p h (λ i k m. same i (suc e) (λ o. r (sym m ∙ ap z.fr o)) (λ o. f i (omega arith) m)));
      known = I.known;
      fwd = λ p k q h a b f m o B. I.fwd p k q h a b f m o (left_was B);
      reach = λ p q h k f. I.reach p q h k (λ b B. f b (left_is B));
      below = I.below;
      shut = I.shut;
      joined = I.joined;
      used = I.used;
    }

-- ---- the top frame e is left, and what is held from its place on is a piece
module _ (G : Graph) (z : State) (e : ℕ) where
  module _ (S : Sound G) (I : Inv G z) (top : z.d ≡ suc e) (all : z.fr e ≤ z.lw e)
      (done : G.end (z.stk (z.fr e)) ≤ z.nxt (z.stk (z.fr e))) where
    num_case : (P : ℕ → Type 0) (v : ℕ)
        → (z.fr e < z.num v → z.num v ≤ G.n → P (suc (G.n + z.c)))
        → (z.num v ≤ z.fr e → P (z.num v)) → (G.n < z.num v → P (z.num v)) → P ((closed G.n z e).num v)
    num_case P v a b c = shut_case P G.n (z.fr e) (suc (G.n + z.c)) z.num v a b c

    in_stack : z.fr e < z.s
    in_stack = I.framed e (omega arith)

    size : z.c + z.s ≤ G.n
    size = s_le S I

    low_same : (v : ℕ) → z.num v ≤ z.fr e → (closed G.n z e).num v ≡ z.num v
    low_same v h = num_case (λ y. y ≡ z.num v) v (λ a _. absurd (omega arith)) (λ _. refl) (λ _. refl)

    high_same : (v : ℕ) → G.n < z.num v → (closed G.n z e).num v ≡ z.num v
    high_same v h = num_case (λ y. y ≡ z.num v) v (λ _ a. absurd (omega arith)) (λ _. refl) (λ _. refl)

    mid_new : (v : ℕ) → z.fr e < z.num v → z.num v ≤ G.n → (closed G.n z e).num v ≡ suc (G.n + z.c)
    mid_new v h k = num_case (λ y. y ≡ suc (G.n + z.c)) v (λ _ _. refl) (λ a. absurd (omega arith)) (λ a. absurd (omega arith))

    was : {b : ℕ} → Bound z.fr z.lw e b → Bound z.fr z.lw z.d b
    was B = record {
      i = B.i;
      lt = omega (arith, B.lt);
      is = B.is;
      low = λ j h k. same j e
          (λ r. rw r (omega (arith, all, B.is, I.rising B.i e B.lt (omega arith))))
          (λ r. B.low j h (omega arith));
    }

    still : {b : ℕ} → Bound z.fr z.lw z.d b → b < z.fr e → Bound z.fr z.lw e b
    still B m = record {
      i = B.i;
      lt = same B.i e (λ r. absurd (omega (arith, B.is, ap z.fr r))) (λ r. omega (arith, B.lt));
      is = B.is;
      low = λ j h k. B.low j h (omega arith);
    }

    itself : Bound z.fr z.lw z.d (z.fr e)
    itself = record { i = e; lt = omega arith; is = refl; low = λ j h k. let r : j ≡ e = omega arith in rw r all }

    -- the node at a place from the frame's on has no edge left to look at
    through : (p : ℕ) → z.fr e ≤ p → p < z.s → G.end (z.stk p) ≤ z.nxt (z.stk p)
    through p h k = same p (z.fr e)
        (λ r. rw r done)
        (λ r. I.spent p k (λ i m o. absurd (same i e (λ t. r (sym o ∙ ap z.fr t)) (λ t. omega (arith, I.rising i e (omega arith) (omega arith))))))

    -- the place of a node that is closed now
    spot : (v : ℕ) → v < G.n → z.fr e < z.num v → z.num v ≤ G.n → (p : ℕ) × (z.fr e ≤ p) × (p < z.s) × (z.stk p ≡ v)
    spot v l h k = go (z.num v) refl
      where
        go : (m : ℕ) → z.num v ≡ m → (p : ℕ) × (z.fr e ≤ p) × (p < z.s) × (z.stk p ≡ v)
        go zero r = absurd (omega arith)
        go (suc p) r = let o = I.place v p l r (omega arith) in (p, omega arith, o.0, o.1)

    -- an edge of a node that is closed now goes to a node that is closed
    onward : (p : ℕ) (w : ℕ) → z.fr e ≤ p → p < z.s → Edge G (z.stk p) w → (G.n < (closed G.n z e).num w) × ((closed G.n z e).num w ≤ suc (G.n + z.c))
    onward p w h k E = num_case (λ y. (G.n < y) × (y ≤ suc (G.n + z.c))) w
        (λ _ _. (omega arith, omega arith))
        (λ a. absurd (lower (z.num w) refl a))
        (λ a. (a, omega (arith, I.below w (edge_node S (I.node p k) E) a)))
      where
        last : E.k < z.nxt (z.stk p)
        last = omega (arith, E.to, through p h k)

        lower : (m : ℕ) → z.num w ≡ m → z.num w ≤ z.fr e → ⊥
        lower zero r a = omega (arith, I.known p E.k k E.from last, ap z.num E.is)
        lower (suc q) r a = omega (arith, I.fwd p E.k q k E.from last (ap z.num E.is ∙ r) (omega (arith, in_stack, size)) (z.fr e) itself h)

    one_piece : (u v : ℕ) → u < G.n → v < G.n → z.fr e < z.num u → z.num u ≤ G.n → z.fr e < z.num v → z.num v ≤ G.n → Reach G u v
    one_piece u v h k a b c d =
        let (p, p-ge, p_lt, p_is) = spot u h a b in
        let (q, q-ge, q_lt, q-is) = spot v k c d in
        rw (← p_is, ← q-is) (I.reach p q p_lt q_lt (λ o B _. omega (arith, bound_top S I e top B)))

    pub close_inv : Inv G (closed G.n z e)
    close_inv = let inside : z.fr e < z.s = in_stack in let fits : z.c + z.s ≤ G.n = size in record {
      node = λ p h. I.node p (omega arith);
      held = λ p h. let r = I.held p (omega arith) in low_same (z.stk p) (omega arith) ∙ r;
      place = λ v p h r m. num_case (λ y. y ≡ suc p → (p < z.fr e) × (z.stk p ≡ v)) v
          (λ a b o. absurd (omega arith))
          (λ a o. (omega arith, (I.place v p h o m).1))
          (λ a o. absurd (omega arith))
          r;
      first = λ r. ap z.fr r ∙ I.bottom (omega arith);
      bottom = λ h. I.bottom (omega arith);
      rising = λ i j h k. I.rising i j h (omega arith);
      framed = λ i h. I.rising i e h (omega arith);
      low = λ i h. I.low i (omega arith);
      count = omega (arith, I.count, in_stack, seen_mono G.n z.num (closed G.n z e).num (λ v _ h. num_case (λ y. 0 < y) v (λ _ _. omega arith) (λ _. h) (λ _. h)));
      begun = I.begun;
      ended = I.ended;
      fresh = λ v h r. I.fresh v h (num_case (λ y. y ≡ 0 → z.num v ≡ 0) v (λ _ _ o. absurd (omega arith)) (λ _ o. o) (λ _ o. o) r);
      spent = λ p h f. I.spent p (omega arith) (λ i k m. same i e (λ r. absurd (omega (arith, ap z.fr r))) (λ r. f i (omega arith) m));
      known = λ p k h a b. num_case (λ y. 0 < y) (G.tgt k) (λ _ _. omega arith) (λ _. I.known p k (omega arith) a b) (λ _. I.known p k (omega arith) a b);
      fwd = λ p k q h a b r m. num_case (λ y. y ≡ suc q → Fwd z.fr z.lw e p q) (G.tgt k)
          (λ _ _ o. absurd (omega arith))
          (λ _ o. λ x B. I.fwd p k q (omega arith) a b o m x (was B))
          (λ t o. absurd (omega arith))
          r;
      reach = λ p q h k f. I.reach p q (omega arith) (omega arith) (λ b B o. f b (still B (omega arith)) o);
      below = λ v h. num_case (λ y. G.n < y → y ≤ G.n + suc z.c) v (λ _ _ _. omega arith) (λ a o. absurd (omega arith)) (λ a o. omega (arith, I.below v h a));
      shut = λ v w h m E. num_case (λ y. G.n < y → (G.n < (closed G.n z e).num w) × ((closed G.n z e).num w ≤ y)) v
          (λ a b _. let (p, p-ge, p_lt, p_is) = spot v h a b in onward p w p-ge p_lt (rw (← p_is) at E))
          (λ a o. absurd (omega arith))
          (λ a o. let r = I.shut v w h a E in let x = high_same w r.0 in (omega (arith, x, r.0), omega (arith, x, r.1)))
          m;
      joined = λ u v h k m r. num_case (λ x. G.n < x → x ≡ (closed G.n z e).num v → Reach G u v) u
          (λ a b _ o. num_case (λ y. suc (G.n + z.c) ≡ y → Reach G u v) v
          (λ a' b' _. one_piece u v h k a b a' b')
          (λ a' o'. absurd (omega arith))
          (λ a' o'. absurd (omega (arith, I.below v k a')))
          o)
          (λ a o. absurd (omega arith))
          (λ a _ o. num_case (λ y. z.num u ≡ y → Reach G u v) v
          (λ a' b' o'. absurd (omega (arith, I.below u h a)))
          (λ a' o'. absurd (omega arith))
          (λ a' o'. I.joined u v h k a o')
          o)
          m r;
      used = λ x h. same x z.c
          (λ q. let v = z.stk (z.fr e) in
          let r = I.held (z.fr e) in_stack in
          (v, I.node (z.fr e) in_stack, mid_new v (omega arith) (omega arith) ∙ ap (λ (y : ℕ). suc (G.n + y)) (sym q)))
          (λ q. let r = I.used x (omega arith) in (r.0, r.1, high_same r.0 (omega (arith, r.2)) ∙ r.2));
    }

    pub close_order : Order G.n z.num z.ord z.s z.e → Order G.n (closed G.n z e).num (closed G.n z e).ord (closed G.n z e).s (closed G.n z e).e
    close_order O = let inside : z.fr e < z.s = in_stack in let fits : z.c + z.s ≤ G.n = size in record {
      total = omega (
        arith,
        O.total,
        seen_same G.n z.num (closed G.n z e).num
            (λ v _ h. num_case (λ y. 0 < y) v (λ _ _. omega arith) (λ _. h) (λ _. h))
            (λ v _ h. num_case (λ y. 0 < y → 0 < z.num v) v (λ a _ _. omega arith) (λ _ k. k) (λ _ k. k) h),
      );
      listed = λ i h. cut z.e i
          (λ k. let r = fresh_at i k h in (r.0, omega (arith, r.1)))
          (λ k. let r = old-at i k in (r.0, omega (arith, r.1, r.2)));
      sorted = λ i j h k. cut z.e j
          (λ m. let b = fresh_at j m k in cut z.e i
          (λ o. let a = fresh_at i o (omega arith) in omega (arith, a.1, b.1))
          (λ o. let a = old-at i o in omega (arith, a.1, a.2, a.3, b.1)))
          (λ m. let a = old-at i (omega arith) in let b = old-at j m in
          omega (arith, O.sorted i j h m, a.1, b.1, ap z.num a.4, ap z.num b.4));
      every = λ v h. num_case (λ y. G.n < y → (i : ℕ) × (i < (closed G.n z e).e) × ((closed G.n z e).ord i ≡ v)) v
          (λ a b _. let (p, p-ge, p_lt, p_is) = spot v h a b in
          (z.e + (p - z.fr e), omega arith, pasted_new z.ord z.e z.stk (z.fr e) _ p (omega arith) (omega arith) ∙ p_is))
          (λ a o. absurd (omega arith))
          (λ a _. let r = O.every v h a in (r.0, omega (arith, r.1), pasted_old z.ord z.e z.stk (z.fr e) r.0 r.1 ∙ r.2));
      once = λ i j h k q. cut z.e j
          (λ m. let b = fresh_at j m k in cut z.e i
          (λ o. let a = fresh_at i o (omega arith) in omega (arith, a.2, b.2, ap z.num q))
          (λ o. let a = old-at i o in omega (arith, a.2, b.2, b.3, ap z.num q)))
          (λ m. let a = old-at i (omega arith) in let b = old-at j m in O.once i j h m (sym a.4 ∙ q ∙ b.4));
    }
      where
        old-at : (i : ℕ) → i < z.e → ((closed G.n z e).ord i < G.n) × ((closed G.n z e).num ((closed G.n z e).ord i) ≡ z.num ((closed G.n z e).ord i)) × (G.n < z.num ((closed G.n z e).ord i)) × (z.num ((closed G.n z e).ord i) ≤ G.n + z.c) × ((closed G.n z e).ord i ≡ z.ord i)
        old-at i h =
            let r = O.listed i h in
            let q = pasted_old z.ord z.e z.stk (z.fr e) i h in
            rw q (r.0, high_same (z.ord i) r.1, r.1, I.below (z.ord i) r.0 r.1, refl)

        fresh_at : (i : ℕ) → z.e ≤ i → i < (closed G.n z e).e
            → ((closed G.n z e).ord i < G.n) × ((closed G.n z e).num ((closed G.n z e).ord i) ≡ suc (G.n + z.c)) × (z.num ((closed G.n z e).ord i) ≡ suc (z.fr e + (i - z.e))) × (z.fr e + (i - z.e) < G.n)
        fresh_at i h k =
            let p : ℕ = z.fr e + (i - z.e) in
            let l : p < z.s = omega (arith, in_stack) in
            let r = I.held p l in
            rw (pasted_new z.ord z.e z.stk (z.fr e) i p h (omega arith)) (I.node p l, mid_new (z.stk p) (omega (arith, r)) (omega (arith, r, l, size)), r, omega (arith, l, size))
