-- The steps of the walk keep the invariant: a node is taken up, an edge looked at, low lowered.
use mathlib.Core.Path.{◌≡◌, refl, sym, ap, ◌∙◌}
use mathlib.Core.Logic.{◌⊎◌, inl, inr}
use Prim.Native.Nat.{ℕ, zero, suc, ◌+◌, ◌≤◌, ◌<◌, min}
use native.Mathlib.Omega.{arith}
use Rattle.words.proofs.Points.{cut, same}
use Rattle.tarjan.specs.Inner.Graph.{Graph, Sound, Edge, Reach, here, step}
use Rattle.tarjan.specs.Inner.Walk.{State, Bound, Fwd, Inv, Order}
use Rattle.tarjan.specs.Inner.Moves.{pushed, advanced, lowered}
use Rattle.tarjan.proofs.Tools.{seen_upd, upd_case, upd_at, upd_off, seen_more, seen_le, seen_lt}

pub trans : {G : Graph} {u v w : ℕ} → Reach G u v → Reach G v w → Reach G u w
trans a here = a
trans a (step b e) = step (trans a b) e

pub edge_node : {G : Graph} {u v : ℕ} → Sound G → u < G.n → Edge G u v → v < G.n
edge_node {G} {u} S l e = rw (← e.is) (S.nodes u e.k l e.from e.to)

-- ---- what follows from the invariant
module _ {G : Graph} {z : State} (S : Sound G) (I : Inv G z) where
  pub s_le : z.c + z.s ≤ G.n
  s_le = omega (arith, I.count, seen_le G.n z.num)

  pub s_lt : (v : ℕ) → v < G.n → z.num v ≡ 0 → z.s < G.n
  s_lt v l e = omega (arith, I.count, seen_lt G.n z.num v l e)

  pub frame_le : (i : ℕ) → i < z.d → i ≤ z.fr i
  frame_le zero l = omega arith
  frame_le (suc i) l = omega (arith, frame_le i (omega arith), I.rising i (suc i) (omega arith) l)

  pub d_le : z.d ≤ z.s
  d_le = go z.d refl
    where
      go : (e : ℕ) → z.d ≡ e → e ≤ z.s
      go zero h = omega arith
      go (suc e) h = omega (arith, frame_le e (omega arith), I.framed e (omega arith))

  pub bound_lt : {b : ℕ} → Bound z.fr z.lw z.d b → b < z.s
  bound_lt B = omega (arith, I.framed B.i B.lt, B.is)

  -- a target that was looked at
  pub looked : (p k : ℕ) → p < z.s → G.beg (z.stk p) ≤ k → k < z.nxt (z.stk p) → G.tgt k < G.n
  looked p k l a b = S.nodes (z.stk p) k (I.node p l) a (omega (arith, I.ended (z.stk p) (I.node p l)))

  -- the top frame e
  module _ (e : ℕ) (top : z.d ≡ suc e) where
    pub bound_top : {b : ℕ} → Bound z.fr z.lw z.d b → b ≤ z.fr e
    bound_top B =
        same B.i e (λ h. omega (arith, B.is, ap z.fr h))
        (λ h. omega (arith, B.is, I.rising B.i e (omega (arith, B.lt)) (omega arith)))

    pub to_top : (p : ℕ) → p < z.s → Reach G (z.stk p) (z.stk (z.fr e))
    to_top p l = I.reach p (z.fr e) l (I.framed e (omega arith)) (λ b B _. bound_top B)

-- ---- a node is taken up
module _ (G : Graph) (z : State) (v : ℕ) where
  module _ (S : Sound G) (I : Inv G z) (l : v < G.n) (new : z.num v ≡ 0) (to : (p : ℕ) → p < z.s → Reach G (z.stk p) v) where
    room : z.s < G.n
    room = s_lt S I v l new

    deep : z.d ≤ z.s
    deep = d_le S I

    -- a node that was seen has its number still
    old : (x : ℕ) → 0 < z.num x → (pushed z v).num x ≡ z.num x
    old x h = upd_off _ v _ x (λ e. absurd (omega (arith, ap z.num e, new)))

    -- at a place of the stack
    at : (P : ℕ → Type 0) (p : ℕ) → p < suc z.s → (p ≡ z.s → P v) → (p < z.s → P (z.stk p)) → P ((pushed z v).stk p)
    at P p h a b = upd_case P z.stk z.s v p a (λ e. b (omega arith))

    fr_old : (i : ℕ) → i < z.d → (pushed z v).fr i ≡ z.fr i
    fr_old i h = upd_off _ _ _ i (λ e. absurd (omega arith))

    fr_new : (pushed z v).fr z.d ≡ z.s
    fr_new = upd_at _ _ _ _ refl

    lw_old : (i : ℕ) → i < z.d → (pushed z v).lw i ≡ z.lw i
    lw_old i h = upd_off _ _ _ i (λ e. absurd (omega arith))

    lw_new : (pushed z v).lw z.d ≡ z.s
    lw_new = upd_at _ _ _ _ refl

    bound_old : {b : ℕ} → Bound z.fr z.lw z.d b → Bound (pushed z v).fr (pushed z v).lw (pushed z v).d b
    bound_old B = record {
      i = B.i;
      lt = omega (arith, B.lt);
      is = fr_old B.i B.lt ∙ B.is;
      low = λ j h k. same j z.d
          (λ e. rw e (omega (arith, lw_new, bound_lt S I B)))
          (λ e. omega (arith, lw_old j (omega arith), B.low j h (omega arith)));
    }

    bound_new : Bound (pushed z v).fr (pushed z v).lw (pushed z v).d z.s
    bound_new = record {
      i = z.d;
      lt = omega arith;
      is = fr_new;
      low = λ j h k. let e : j ≡ z.d = omega arith in rw e (omega (arith, lw_new));
    }

    bound_cases : {b : ℕ} → Bound (pushed z v).fr (pushed z v).lw (pushed z v).d b → (b ≡ z.s) ⊎ Bound z.fr z.lw z.d b
    bound_cases {b} B =
        same B.i z.d
        (λ e. inl (omega (arith, B.is, ap (pushed z v).fr e, fr_new)))
        (λ e. let k : B.i < z.d = omega (arith, B.lt) in
        inr (record { i = B.i; lt = k; is = sym (fr_old B.i k) ∙ B.is; low = λ j h m. omega (arith, lw_old j m, B.low j h (omega arith)) }))

    fwd_old : (p q : ℕ) → p < z.s → Fwd z.fr z.lw z.d p q → Fwd (pushed z v).fr (pushed z v).lw (pushed z v).d p q
    fwd_old p q h f b B k = go (bound_cases B)
      where
        go : (b ≡ z.s) ⊎ Bound z.fr z.lw z.d b → b ≤ q
        go (inl e) = absurd (omega arith)
        go (inr C) = f b C k

    pub push_inv : Inv G (pushed z v)
    push_inv = record {
      node = λ p h. at (λ x. x < G.n) p h (λ _. l) (λ k. I.node p k);
      held = λ p h. at (λ x. (pushed z v).num x ≡ suc p) p h
          (λ e. upd_at _ _ _ v refl ∙ ap suc (sym e))
          (λ k. old (z.stk p) (omega (arith, I.held p k)) ∙ I.held p k);
      place = λ x p h e m. same x v
          (λ q. let r : p ≡ z.s = omega (arith, e, upd_at z.num v (suc z.s) x q) in
          (omega arith, upd_at _ _ _ p r ∙ sym q))
          (λ q. let r = I.place x p h (sym (upd_off z.num v (suc z.s) x q) ∙ e) m in
          (omega (arith, r.0), upd_off _ _ _ p (λ y. absurd (omega (arith, r.0))) ∙ r.1));
      first = λ e. absurd (omega arith);
      bottom = λ h. same 0 z.d
          (λ e. upd_at z.fr z.d z.s 0 e ∙ I.first (sym e))
          (λ e. upd_off z.fr z.d z.s 0 e ∙ I.bottom (omega arith));
      rising = λ i j h k. same j z.d
          (λ e. rw e (omega (arith, fr_new, fr_old i (omega arith), I.framed i (omega arith))))
          (λ e. omega (arith, fr_old i (omega arith), fr_old j (omega arith), I.rising i j h (omega arith)));
      framed = λ i h. upd_case (λ y. y < suc z.s) z.fr z.d z.s i (λ _. omega arith) (λ e. omega (arith, I.framed i (omega arith)));
      low = λ i h. same i z.d
          (λ e. rw e (omega (arith, fr_new, lw_new)))
          (λ e. omega (arith, fr_old i (omega arith), lw_old i (omega arith), I.low i (omega arith)));
      count = omega (arith, I.count, seen_more G.n z.num (pushed z v).num v (λ x _ m. omega (arith, old x m)) l new (omega (arith, upd_at z.num v (suc z.s) v refl)));
      begun = I.begun;
      ended = I.ended;
      fresh = λ x h e. I.fresh x h (upd_case (λ y. y ≡ 0 → z.num x ≡ 0) z.num v (suc z.s) x (λ q m. absurd (omega arith)) (λ q m. m) e);
      spent = λ p h f. at (λ x. G.end x ≤ z.nxt x) p h
          (λ e. absurd (f z.d (omega arith) (fr_new ∙ sym e)))
          (λ k. I.spent p k (λ i m q. f i (omega arith) (fr_old i m ∙ q)));
      known = λ p k h. at (λ x. G.beg x ≤ k → k < z.nxt x → 0 < (pushed z v).num (G.tgt k)) p h
          (λ e a b. absurd (omega (arith, I.fresh v l new)))
          (λ m a b. let r = I.known p k m a b in omega (arith, old (G.tgt k) r));
      fwd = λ p k q h. at (λ x. G.beg x ≤ k → k < z.nxt x → (pushed z v).num (G.tgt k) ≡ suc q → q < G.n → Fwd (pushed z v).fr (pushed z v).lw (pushed z v).d p q) p h
          (λ e a b. absurd (omega (arith, I.fresh v l new)))
          (λ m a b e r. fwd_old p q m (I.fwd p k q m a b (sym (old (G.tgt k) (I.known p k m a b)) ∙ e) r));
      reach = λ p q h k. at (λ x. Fwd (pushed z v).fr (pushed z v).lw (pushed z v).d p q → Reach G x ((pushed z v).stk q)) p h
          (λ e f. at (λ y. Reach G v y) q k (λ _. here) (λ m. absurd (omega (arith, f z.s bound_new (omega arith)))))
          (λ m f. at (λ y. Reach G (z.stk p) y) q k (λ _. to p m) (λ r. I.reach p q m r (λ b B. f b (bound_old B))));
      below = λ x h. upd_case (λ y. G.n < y → y ≤ G.n + z.c) z.num v (suc z.s) x (λ _ m. absurd (omega (arith, room))) (λ _. I.below x h);
      shut = λ x w h. upd_case (λ y. G.n < y → Edge G x w → (G.n < (pushed z v).num w) × ((pushed z v).num w ≤ y)) z.num v (suc z.s) x
          (λ _ m. absurd (omega (arith, room)))
          (λ _ m E. let r = I.shut x w h m E in let o = old w (omega (arith, r.0)) in (omega (arith, o, r.0), omega (arith, o, r.1)));
      joined = λ x y h k m e.
          upd_case (λ a. G.n < a → a ≡ (pushed z v).num y → Reach G x y) z.num v (suc z.s) x
          (λ _ o. absurd (omega (arith, room)))
          (λ _ o. upd_case (λ b. z.num x ≡ b → Reach G x y) z.num v (suc z.s) y
          (λ _ r. absurd (omega (arith, room)))
          (λ _ r. I.joined x y h k o r))
          m e;
      used = λ x h. let r = I.used x h in (r.0, r.1, old r.0 (omega (arith, r.2)) ∙ r.2);
    }

    pub push_order : Order G.n z.num z.ord z.s z.e → Order G.n (pushed z v).num (pushed z v).ord (pushed z v).s (pushed z v).e
    push_order O = record {
      total = omega (arith, O.total, seen_upd G.n z.num v (suc z.s) l new (omega arith));
      listed = λ i h. let r = O.listed i h in (r.0, omega (arith, r.1, old (z.ord i) (omega (arith, r.1))));
      sorted = λ i j h k.
          let a = O.listed i (omega arith) in
          let b = O.listed j k in
          omega (arith, O.sorted i j h k, old (z.ord i) (omega (arith, a.1)), old (z.ord j) (omega (arith, b.1)));
      every = λ x h. upd_case (λ y. G.n < y → (i : ℕ) × (i < z.e) × (z.ord i ≡ x)) z.num v (suc z.s) x
          (λ _ m. absurd (omega (arith, room))) (λ _. O.every x h);
      once = O.once;
    }

-- ---- an edge was looked at: the next of the node at place p of the stack
module _ (G : Graph) (z : State) (p : ℕ) where
  module _ (S : Sound G) (I : Inv G z) (l : p < z.s) (more : z.nxt (z.stk p) < G.end (z.stk p))
      (known : 0 < z.num (G.tgt (z.nxt (z.stk p))))
      (fwd : (q : ℕ) → z.num (G.tgt (z.nxt (z.stk p))) ≡ suc q → q < G.n → Fwd z.fr z.lw z.d p q) where
    nxt_ge : (x : ℕ) → z.nxt x ≤ (advanced z (z.stk p)).nxt x
    nxt_ge x = upd_case (λ y. z.nxt x ≤ y) z.nxt (z.stk p) (suc (z.nxt (z.stk p))) x (λ e. omega (arith, ap z.nxt e)) (λ _. omega arith)

    nxt_cases : (x k : ℕ) → k < (advanced z (z.stk p)).nxt x → (k < z.nxt x) ⊎ ((x ≡ z.stk p) × (k ≡ z.nxt (z.stk p)))
    nxt_cases x k = upd_case (λ y. k < y → (k < z.nxt x) ⊎ ((x ≡ z.stk p) × (k ≡ z.nxt (z.stk p)))) z.nxt (z.stk p) (suc (z.nxt (z.stk p))) x
        (λ e h. same k (z.nxt (z.stk p)) (λ q. inr (e, q)) (λ q. inl (omega (arith, ap z.nxt e))))
        (λ _ h. inl h)

    pub advance_inv : Inv G (advanced z (z.stk p))
    advance_inv = record {
      node = I.node;
      held = I.held;
      place = I.place;
      first = I.first;
      bottom = I.bottom;
      rising = I.rising;
      framed = I.framed;
      low = I.low;
      count = I.count;
      begun = λ v h. omega (arith, I.begun v h, nxt_ge v);
      ended = λ v h. upd_case (λ y. y ≤ G.end v) z.nxt (z.stk p) (suc (z.nxt (z.stk p))) v (λ e. omega (arith, more, ap G.end e)) (λ _. I.ended v h);
      fresh = λ v h e. upd_case (λ y. y ≤ G.beg v) z.nxt (z.stk p) (suc (z.nxt (z.stk p))) v
          (λ q. absurd (omega (arith, e, ap z.num q, I.held p l))) (λ _. I.fresh v h e);
      spent = λ q h f. omega (arith, I.spent q h f, nxt_ge (z.stk q));
      known = λ q k h a b. seen-edge q k h a (nxt_cases (z.stk q) k b);
      fwd = λ q k r h a b e m. fwd-edge q k r h a e m (nxt_cases (z.stk q) k b);
      reach = I.reach;
      below = I.below;
      shut = I.shut;
      joined = I.joined;
      used = I.used;
    }
      where
        seen-edge : (q k : ℕ) → q < z.s → G.beg (z.stk q) ≤ k → (k < z.nxt (z.stk q)) ⊎ ((z.stk q ≡ z.stk p) × (k ≡ z.nxt (z.stk p))) → 0 < z.num (G.tgt k)
        seen-edge q k h a (inl b) = I.known q k h a b
        seen-edge q k h a (inr b) = rw b.1 known

        fwd-edge : (q k r : ℕ) → q < z.s → G.beg (z.stk q) ≤ k → z.num (G.tgt k) ≡ suc r → r < G.n
            → (k < z.nxt (z.stk q)) ⊎ ((z.stk q ≡ z.stk p) × (k ≡ z.nxt (z.stk p))) → Fwd z.fr z.lw z.d q r
        fwd-edge q k r h a e m (inl b) = I.fwd q k r h a b e m
        fwd-edge q k r h a e m (inr b) = λ o B n. fwd r (rw b.1 at e) m o B (omega (arith, I.held q h, I.held p l, ap z.num b.0))

-- ---- an edge of the top frame e goes to the held node at place q
module _ (G : Graph) (z : State) (e q : ℕ) where
  module _ (S : Sound G) (I : Inv G z) (top : z.d ≡ suc e) (l : q < z.s) (E : Edge G (z.stk (z.fr e)) (z.stk q)) where
    lw_le : (j : ℕ) → (lowered z e q).lw j ≤ z.lw j
    lw_le j = upd_case (λ y. y ≤ z.lw j) z.lw e (min (z.lw e) q) j (λ h. omega (arith, ap z.lw h)) (λ _. omega arith)

    bound_was : {b : ℕ} → Bound z.fr (lowered z e q).lw z.d b → Bound z.fr z.lw z.d b
    bound_was B = record { i = B.i; lt = B.lt; is = B.is; low = λ j h k. omega (arith, B.low j h k, lw_le j) }

    bound_is : {b : ℕ} → Bound z.fr z.lw z.d b → b ≤ q → Bound z.fr (lowered z e q).lw z.d b
    bound_is {b} B m = record {
      i = B.i;
      lt = B.lt;
      is = B.is;
      low = λ j h k. upd_case (λ y. b ≤ y) z.lw e (min (z.lw e) q) j (λ r. omega (arith, ap z.lw r, B.low j h k)) (λ _. B.low j h k);
    }

    pub lower_inv : Inv G (lowered z e q)
    lower_inv = record {
      node = I.node;
      held = I.held;
      place = I.place;
      first = I.first;
      bottom = I.bottom;
      rising = I.rising;
      framed = I.framed;
      low = λ i h. omega (arith, I.low i h, lw_le i);
      count = I.count;
      begun = I.begun;
      ended = I.ended;
      fresh = I.fresh;
      spent = I.spent;
      known = I.known;
      fwd = λ p k r h a b f m o B. I.fwd p k r h a b f m o (bound_was B);
      reach = λ p r h k f. cut q p
          (λ m. trans (step (to_top S I e top p h) E) (I.reach q r l k (λ b B o. f b (bound_is B o) (omega arith))))
          (λ m. I.reach p r h k (λ b B o. f b (bound_is B (omega arith)) o));
      below = I.below;
      shut = I.shut;
      joined = I.joined;
      used = I.used;
    }

    -- and the edge goes forward now
    pub lower_fwd : (p : ℕ) → Fwd (lowered z e q).fr (lowered z e q).lw (lowered z e q).d p q
    lower_fwd p b B m = omega (arith, B.low e (omega (arith, B.lt)) (omega arith), upd_at z.lw e (min (z.lw e) q) e refl)
