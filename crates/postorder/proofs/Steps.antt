-- The steps of the walk: each keeps what holds of the state.
use Prim.Native.Nat.{ℕ, suc, ◌+◌, ◌-◌, ◌≤◌, ◌<◌}
use mathlib.Core.Path.{◌≡◌, sym, ap, ◌∙◌, subst}
use mathlib.Core.Logic.{◌≢◌, ◌⊎◌, inl, inr, ⊎_elim}
use mathlib.Core.List.{List}
use native.Mathlib.Omega.{arith}
use Rattle.words.proofs.Points.{same}
use Rattle.graph.specs.Paths.{Edge, Link, Route, one, Between}
use Rattle.graph.specs.Inner.Work.{EdgeRows}
use Rattle.tarjan.specs.Inner.Walk.{seen}
use Rattle.tarjan.specs.Inner.Moves.{upd}
use Rattle.tarjan.proofs.Tools.{upd_case, seen_same, seen_upd, seen_le, seen_lt}
use Rattle.tarjan.proofs.Whole.{zero_seen, all_seen}
use Rattle.postorder.specs.Settling.{Settling}
use Rattle.postorder.specs.Inner.{State, begins, ends, target, Ranked, Walks}

-- ---- the steps, by what they leave of the n numbers of each region

-- v is put on the stack, with none of its edges looked at
pub record Pushed (w : List ℕ) (n at : ℕ) (z : State) (v : ℕ) (z' : State) : Type 0 where
  pub depth : z'.depth ≡ z.depth + 1
  pub left : z'.left ≡ z.left
  pub order : (j : ℕ) → j < n → z'.order j ≡ z.order j
  pub rank : (j : ℕ) → j < n → z'.rank j ≡ z.rank j
  pub stack : (j : ℕ) → j < z.depth → z'.stack j ≡ z.stack j
  pub top : z'.stack z.depth ≡ v
  pub next : (j : ℕ) → j < n → j ≢ v → z'.next j ≡ z.next j
  pub first : z'.next v ≡ begins w at v + 1

-- an edge of u was looked at
pub record Looked (n : ℕ) (z : State) (u : ℕ) (z' : State) : Type 0 where
  pub depth : z'.depth ≡ z.depth
  pub left : z'.left ≡ z.left
  pub order : (j : ℕ) → j < n → z'.order j ≡ z.order j
  pub rank : (j : ℕ) → j < n → z'.rank j ≡ z.rank j
  pub stack : (j : ℕ) → j < z.depth → z'.stack j ≡ z.stack j
  pub next : (j : ℕ) → j < n → j ≢ u → z'.next j ≡ z.next j
  pub looked : z'.next u ≡ z.next u + 1

-- u is taken off the stack and put before the order
pub record Left (n : ℕ) (z : State) (u : ℕ) (z' : State) : Type 0 where
  pub depth : z.depth ≡ z'.depth + 1
  pub left : z.left ≡ z'.left + 1
  pub top : z.stack z'.depth ≡ u
  pub order : (j : ℕ) → j < n → j ≢ z'.left → z'.order j ≡ z.order j
  pub first : z'.order z'.left ≡ u
  pub rank : (j : ℕ) → j < n → j ≢ u → z'.rank j ≡ z.rank j
  pub ranked : z'.rank u ≡ z'.left
  pub stack : (j : ℕ) → j < z'.depth → z'.stack j ≡ z.stack j
  pub next : (j : ℕ) → j < n → z'.next j ≡ z.next j

-- ---- what is in range

module _ {es : List Edge} {w : List ℕ} {n at : ℕ} {z : State} (B : Between n es) (R : EdgeRows es n at w) (W : Walks es w n at z) where
  pub depth_le : z.depth + (n - z.left) ≤ n
  depth_le = omega (arith, W.total, seen_le n z.next)

  pub depth_lt : (v : ℕ) → v < n → z.next v ≡ 0 → z.depth < n
  depth_lt v l new = omega (arith, W.total, seen_lt n z.next v l new)

  -- the target of an edge that was looked at
  pub looked_at_lem : (i k : ℕ) → i < z.depth → begins w at (z.stack i) ≤ k → k + 1 < z.next (z.stack i) → target w n at k < n
  looked_at_lem i k h a b = B.to _ (R.only (z.stack i) k (W.node i h) a (omega (arith, W.high (z.stack i) (W.node i h))))

-- ---- a place is put on the stack

module _ {es : List Edge} {w : List ℕ} {n at : ℕ} {z z' : State} (B : Between n es) (R : EdgeRows es n at w) (W : Walks es w n at z)
    {v : ℕ} (P : Pushed w n at z v z') (l : v < n) (new : z.next v ≡ 0) (reach : (i : ℕ) → i < z.depth → Route es (z.stack i) v) where
  unlike : (j : ℕ) → 0 < z.next j → j ≢ v
  unlike j o e = absurd (omega (arith, ap z.next e))

  grows : (j : ℕ) → j < n → 0 < z.next j → 0 < z'.next j
  grows j h o = omega (arith, P.next j h (unlike j o))

  stack_case : (Q : ℕ → Type 0) (i : ℕ) → i < z'.depth → (i < z.depth → Q (z.stack i)) → (i ≡ z.depth → Q v) → Q (z'.stack i)
  stack_case Q i h f t = same i z.depth
      (λ e. subst Q (sym (ap z'.stack e ∙ P.top)) (t e))
      (λ e. let k : i < z.depth = omega (arith, P.depth) in subst Q (sym (P.stack i k)) (f k))

  ranked_as : (x : ℕ) → x < n → Ranked n z x → Ranked n z' x
  ranked_as x h r = let e = P.rank x h in record {
    low = omega (arith, P.left, r.low);
    high = omega (arith, r.high);
    is = ap z'.order e ∙ P.order (z.rank x) r.high ∙ r.is;
  }

  count : seen n z'.next ≡ suc (seen n z.next)
  count =
      seen_same n (upd z.next v (begins w at v + 1)) z'.next
      (λ j h. upd_case (λ y. 0 < y → 0 < z'.next j) z.next v (begins w at v + 1) j (λ e _. rw (e, P.first) (omega arith)) (λ _ o. grows j h o))
      (λ j h o. upd_case (λ y. 0 < y) z.next v (begins w at v + 1) j (λ _. omega arith) (λ e. omega (arith, P.next j h e)))
      ∙ seen_upd n z.next v (begins w at v + 1) l new (omega arith)

  pub push_walks : Walks es w n at z'
  push_walks = record {
    left_le = omega (arith, P.left, W.left_le);
    total = omega (arith, P.depth, P.left, W.total, count);
    node = λ i h. stack_case (λ y. y < n) i h (W.node i) (λ _. l);
    on = λ i h. stack_case (λ y. 0 < z'.next y) i h (λ k. grows (z.stack i) (W.node i k) (W.on i k)) (λ _. omega (arith, P.first));
    distinct = λ i j h k q.
        let m : i < z.depth = omega (arith, P.depth) in
        stack_case (λ y. z.stack i ≡ y → ⊥) j k (λ o. W.distinct i j h o) (λ _. unlike (z.stack i) (W.on i m)) (sym (P.stack i m) ∙ q);
    path = λ i j h k.
        let m : i < z.depth = omega (arith, P.depth) in
        subst (λ (y : ℕ). Route es y (z'.stack j)) (sym (P.stack i m)) (stack_case (λ y. Route es (z.stack i) y) j k (W.path i j h) (λ _. reach i m));
    low = λ j h o. same j v
        (λ e. subst (λ (y : ℕ). begins w at y < z'.next y) (sym e) (omega (arith, P.first)))
        (λ e. omega (arith, P.next j h e, W.low j h (omega (arith, P.next j h e))));
    high = λ j h. same j v
        (λ e. subst (λ (y : ℕ). z'.next y ≤ ends w at y + 1) (sym e) (omega (arith, P.first, R.rising v l)))
        (λ e. omega (arith, P.next j h e, W.high j h));
    known = λ i k h. stack_case (λ y. begins w at y ≤ k → k + 1 < z'.next y → 0 < z'.next (target w n at k)) i h
        (λ o a b.
        let b' : k + 1 < z.next (z.stack i) = omega (arith, P.next (z.stack i) (W.node i o) (unlike (z.stack i) (W.on i o))) in
        grows (target w n at k) (looked_at_lem B R W i k o a b') (W.known i k o a b'))
        (λ _ a b. absurd (omega (arith, P.first)));
    held = λ x h o. same x v
        (λ e. inl (record { place = z.depth; lt = omega (arith, P.depth); is = P.top ∙ sym e }))
        (λ e. ⊎_elim
        (λ s. inl (record { place = s.place; lt = omega (arith, P.depth, s.lt); is = P.stack s.place s.lt ∙ s.is }))
        (λ r. inr (ranked_as x h r))
        (W.held x h (omega (arith, P.next x h e))));
    listed = λ r a h. omega (arith, P.order r h, W.listed r (omega (arith, P.left)) h);
    done = λ r a h.
        let b : z.left ≤ r = omega (arith, P.left) in
        subst (λ (y : ℕ). 0 < z'.next y) (sym (P.order r h)) (grows (z.order r) (W.listed r b h) (W.done r b h));
    rank_of_lem = λ r a h.
        let b : z.left ≤ r = omega (arith, P.left) in
        ap z'.rank (P.order r h) ∙ P.rank (z.order r) (W.listed r b h) ∙ W.rank_of_lem r b h;
    free = λ i r h a b q.
        let c : z.left ≤ r = omega (arith, P.left) in
        stack_case (λ y. z.order r ≡ y → ⊥) i h (λ o. W.free i r o c b)
        (λ _. unlike (z.order r) (W.done r c b)) (sym (P.order r b) ∙ q);
    settled = λ r x a h k.
        let b : z.left ≤ r = omega (arith, P.left) in
        let e = P.order r h in
        let k' : Link es (z.order r) x = subst (λ (y : ℕ). Link es y x) e k in
        let xl = B.to _ k' in
        ⊎_elim
        (λ s. inl (omega (arith, s.0, P.rank x xl), ranked_as x xl s.1))
        (λ s. inr (subst (λ (y : ℕ). Route es x y) (sym e) s))
        (W.settled r x b h k');
  }

-- ---- an edge is looked at

module _ {es : List Edge} {w : List ℕ} {n at : ℕ} {z z' : State} (B : Between n es) (R : EdgeRows es n at w) (W : Walks es w n at z)
    {u : ℕ} (P : Looked n z u z') (l : u < n) (k : ℕ) (is : z.next u ≡ k + 1) (more : k < ends w at u) (target-seen : 0 < z.next (target w n at k)) where
  later : (j : ℕ) → j < n → z.next j ≤ z'.next j
  later j h = same j u (λ e. subst (λ (y : ℕ). z.next y ≤ z'.next y) (sym e) (omega (arith, P.looked))) (λ e. omega (arith, P.next j h e))

  no_new : (j : ℕ) → j < n → 0 < z'.next j → 0 < z.next j
  no_new j h o = same j u (λ e. subst (λ (y : ℕ). 0 < z.next y) (sym e) (omega arith)) (λ e. omega (arith, P.next j h e))

  still_ranked : (x : ℕ) → x < n → Ranked n z x → Ranked n z' x
  still_ranked x h r = let e = P.rank x h in record {
    low = omega (arith, P.left, r.low);
    high = omega (arith, r.high);
    is = ap z'.order e ∙ P.order (z.rank x) r.high ∙ r.is;
  }

  stack_as : (Q : ℕ → Type 0) (i : ℕ) → i < z'.depth → (i < z.depth → Q (z.stack i)) → Q (z'.stack i)
  stack_as Q i h f = let m : i < z.depth = omega (arith, P.depth) in subst Q (sym (P.stack i m)) (f m)

  -- what the edges that were looked at lead to
  looked_known : (y : ℕ) → y < n → ((j : ℕ) → begins w at y ≤ j → j + 1 < z.next y → 0 < z.next (target w n at j)) → (j : ℕ) → begins w at y ≤ j → j + 1 < z'.next y → 0 < z.next (target w n at j)
  looked_known y h f j a b = same y u
      (λ e. same j k
      (λ q. subst (λ (t : ℕ). 0 < z.next (target w n at t)) (sym q) target-seen)
      (λ q. f j a (subst (λ (t : ℕ). j + 1 < z.next t) (sym e) (let c : j + 1 < z'.next u = subst (λ (t : ℕ). j + 1 < z'.next t) e b in omega (arith, P.looked)))))
      (λ e. f j a (omega (arith, P.next y h e)))

  pub look_walks : Walks es w n at z'
  look_walks = record {
    left_le = omega (arith, P.left, W.left_le);
    total = omega (arith, P.depth, P.left, W.total, seen_same n z.next z'.next (λ j h o. omega (arith, later j h)) no_new);
    node = λ i h. stack_as (λ y. y < n) i h (W.node i);
    on = λ i h. stack_as (λ y. 0 < z'.next y) i h (λ m. omega (arith, later (z.stack i) (W.node i m), W.on i m));
    distinct = λ i j h m q.
        let a : j < z.depth = omega (arith, P.depth) in
        W.distinct i j h a (sym (P.stack i (omega arith)) ∙ q ∙ P.stack j a);
    path = λ i j h m.
        let a : j < z.depth = omega (arith, P.depth) in
        subst (λ (y : ℕ). Route es y (z'.stack j)) (sym (P.stack i (omega arith))) (subst (λ (y : ℕ). Route es (z.stack i) y) (sym (P.stack j a)) (W.path i j h a));
    low = λ j h o. omega (arith, later j h, W.low j h (no_new j h o));
    high = λ j h. same j u
        (λ e. subst (λ (y : ℕ). z'.next y ≤ ends w at y + 1) (sym e) (omega (arith, P.looked)))
        (λ e. omega (arith, P.next j h e, W.high j h));
    known = λ i j h. stack_as (λ y. begins w at y ≤ j → j + 1 < z'.next y → 0 < z'.next (target w n at j)) i h
        (λ m a b.
        let h' = W.node i m in
        let s = looked_known (z.stack i) h' (λ t c d. W.known i t m c d) j a b in
        let e : j < ends w at (z.stack i) = same (z.stack i) u
        (λ q. subst (λ (y : ℕ). j < ends w at y) (sym q) (let c : j + 1 < z'.next u = subst (λ (t : ℕ). j + 1 < z'.next t) q b in omega (arith, P.looked)))
        (λ q. omega (arith, P.next (z.stack i) h' q, W.high (z.stack i) h')) in
        omega (arith, later (target w n at j) (B.to _ (R.only (z.stack i) j h' a e))));
    held = λ x h o. ⊎_elim
        (λ s. inl (record { place = s.place; lt = omega (arith, P.depth, s.lt); is = P.stack s.place s.lt ∙ s.is }))
        (λ r. inr (still_ranked x h r))
        (W.held x h (no_new x h o));
    listed = λ r a h. omega (arith, P.order r h, W.listed r (omega (arith, P.left)) h);
    done = λ r a h.
        let b : z.left ≤ r = omega (arith, P.left) in
        subst (λ (y : ℕ). 0 < z'.next y) (sym (P.order r h)) (omega (arith, later (z.order r) (W.listed r b h), W.done r b h));
    rank_of_lem = λ r a h.
        let b : z.left ≤ r = omega (arith, P.left) in
        ap z'.rank (P.order r h) ∙ P.rank (z.order r) (W.listed r b h) ∙ W.rank_of_lem r b h;
    free = λ i r h a b q.
        let m : i < z.depth = omega (arith, P.depth) in
        W.free i r m (omega (arith, P.left)) b (sym (P.order r b) ∙ q ∙ P.stack i m);
    settled = λ r x a h c.
        let e = P.order r h in
        let c' : Link es (z.order r) x = subst (λ (y : ℕ). Link es y x) e c in
        let xl = B.to _ c' in
        ⊎_elim
        (λ s. inl (omega (arith, s.0, P.rank x xl), still_ranked x xl s.1))
        (λ s. inr (subst (λ (y : ℕ). Route es x y) (sym e) s))
        (W.settled r x (omega (arith, P.left)) h c');
  }

-- ---- a place is taken off the stack

module _ {es : List Edge} {w : List ℕ} {n at : ℕ} {z z' : State} (B : Between n es) (R : EdgeRows es n at w) (W : Walks es w n at z)
    {u : ℕ} (P : Left n z u z') (spent : ends w at u < z.next u) where
  top_lt : z'.depth < z.depth
  top_lt = omega (arith, P.depth)

  u_lt : u < n
  u_lt = subst (λ (y : ℕ). y < n) P.top (W.node z'.depth top_lt)

  left_lt : z'.left < n
  left_lt = omega (arith, P.left, W.left_le)

  -- u was not in the order
  not_u : (x : ℕ) → Ranked n z x → x ≢ u
  not_u x r e = W.free z'.depth (z.rank x) top_lt r.low r.high (r.is ∙ e ∙ sym P.top)

  ranked_still : (x : ℕ) → x < n → Ranked n z x → Ranked n z' x
  ranked_still x h r = let e = P.rank x h (not_u x r) in record {
    low = omega (arith, P.left, r.low);
    high = omega (arith, r.high);
    is = ap z'.order e ∙ P.order (z.rank x) r.high (λ q. absurd (omega (arith, P.left, r.low))) ∙ r.is;
  }

  u_ranked : Ranked n z' u
  u_ranked = record { low = omega (arith, P.ranked); high = omega (arith, P.ranked, left_lt); is = ap z'.order P.ranked ∙ P.first }

  -- by cases: r is u's place in the order, or one behind
  order_case : (Q : ℕ → ℕ → Type 0) (r : ℕ) → z'.left ≤ r → r < n → Q z'.left u → (z.left ≤ r → Q r (z.order r)) → Q r (z'.order r)
  order_case Q r a h f g = same r z'.left
      (λ e. subst (λ (t : ℕ). Q t (z'.order t)) (sym e) (subst (Q z'.left) (sym P.first) f))
      (λ e. subst (Q r) (sym (P.order r h e)) (g (omega (arith, P.left))))

  -- an edge from u
  from_u : (x : ℕ) → Link es u x → ((z'.left < z'.rank x) × Ranked n z' x) ⊎ Route es x u
  from_u x k =
      let p = R.has u x k in
      let xl = B.to _ k in
      let seen-x : 0 < z.next x = subst (λ (y : ℕ). 0 < z.next y) p.3
      (W.known z'.depth p.0 top_lt (subst (λ (y : ℕ). begins w at y ≤ p.0) (sym P.top) p.1) (subst (λ (y : ℕ). p.0 + 1 < z.next y) (sym P.top) (omega (arith, p.2)))) in
      ⊎_elim
      (λ s. inr (same s.place z'.depth
      (λ e. let q : x ≡ u = sym s.is ∙ ap z.stack e ∙ P.top in subst (λ (y : ℕ). Route es y u) (sym q) (one (subst (λ (y : ℕ). Link es u y) q k)))
      (λ e. subst (λ (y : ℕ). Route es y u) s.is (subst (λ (y : ℕ). Route es (z.stack s.place) y) P.top (W.path s.place z'.depth (omega (arith, s.lt, P.depth)) top_lt)))))
      (λ r. inl (omega (arith, P.left, P.rank x xl (not_u x r), r.low), ranked_still x xl r))
      (W.held x xl seen-x)

  pub leave_walks : Walks es w n at z'
  leave_walks = record {
    left_le = omega (arith, left_lt);
    total = omega (arith, P.depth, P.left, W.left_le, W.total, seen_same n z.next z'.next (λ j h o. omega (arith, P.next j h)) (λ j h o. omega (arith, P.next j h)));
    node = λ i h. omega (arith, P.stack i h, W.node i (omega (arith, P.depth)));
    on = λ i h.
        let m : i < z.depth = omega (arith, P.depth) in
        subst (λ (y : ℕ). 0 < z'.next y) (sym (P.stack i h)) (omega (arith, P.next (z.stack i) (W.node i m), W.on i m));
    distinct = λ i j h m q. W.distinct i j h (omega (arith, P.depth)) (sym (P.stack i (omega arith)) ∙ q ∙ P.stack j m);
    path = λ i j h m.
        subst (λ (y : ℕ). Route es y (z'.stack j)) (sym (P.stack i (omega arith))) (subst (λ (y : ℕ). Route es (z.stack i) y) (sym (P.stack j m)) (W.path i j h (omega (arith, P.depth))));
    low = λ j h o. omega (arith, P.next j h, W.low j h (omega (arith, P.next j h)));
    high = λ j h. omega (arith, P.next j h, W.high j h);
    known = λ i j h. subst (λ (y : ℕ). begins w at y ≤ j → j + 1 < z'.next y → 0 < z'.next (target w n at j)) (sym (P.stack i h))
        (λ a b.
        let m : i < z.depth = omega (arith, P.depth) in
        let b' : j + 1 < z.next (z.stack i) = omega (arith, P.next (z.stack i) (W.node i m)) in
        omega (arith, P.next (target w n at j) (looked_at_lem B R W i j m a b'), W.known i j m a b'));
    held = λ x h o. same x u
        (λ e. inr (subst (λ (y : ℕ). Ranked n z' y) (sym e) u_ranked))
        (λ e. ⊎_elim
        (λ s.
        let m : s.place < z'.depth = same s.place z'.depth (λ q. absurd (e (sym s.is ∙ ap z.stack q ∙ P.top))) (λ q. omega (arith, s.lt, P.depth)) in
        inl (record { place = s.place; lt = m; is = P.stack s.place m ∙ s.is }))
        (λ r. inr (ranked_still x h r))
        (W.held x h (omega (arith, P.next x h))));
    listed = λ r a h. order_case (λ _ y. y < n) r a h u_lt (λ b. W.listed r b h);
    done = λ r a h. order_case (λ _ y. 0 < z'.next y) r a h
        (omega (arith, P.next u u_lt))
        (λ b. omega (arith, P.next (z.order r) (W.listed r b h), W.done r b h));
    rank_of_lem = λ r a h. order_case (λ t y. z'.rank y ≡ t) r a h
        P.ranked
        (λ b. P.rank (z.order r) (W.listed r b h) (λ q. W.free z'.depth r top_lt b h (q ∙ sym P.top)) ∙ W.rank_of_lem r b h);
    free = λ i r h a b q.
        let m : i < z.depth = omega (arith, P.depth) in
        order_case (λ _ y. y ≡ z.stack i → ⊥) r a b
        (λ e. W.distinct i z'.depth h top_lt (sym e ∙ sym P.top))
        (λ c. W.free i r m c b) (q ∙ P.stack i h);
    settled = λ r x a h. order_case (λ t y. Link es y x → ((t < z'.rank x) × Ranked n z' x) ⊎ Route es x y) r a h
        (from_u x)
        (λ b k.
        let xl = B.to _ k in
        ⊎_elim
        (λ s. inl (omega (arith, s.0, P.rank x xl (not_u x s.1)), ranked_still x xl s.1))
        inr
        (W.settled r x b h k));
  }

-- ---- the first state and the last

pub start_walks : (es : List Edge) (w : List ℕ) (n at : ℕ) (z : State) → z.depth ≡ 0 → z.left ≡ n → ((v : ℕ) → v < n → z.next v ≡ 0) → Walks es w n at z
start_walks es w n at z none full new = record {
  left_le = omega arith;
  total = omega (arith, zero_seen n z.next new);
  node = λ i h. absurd (omega arith);
  on = λ i h. absurd (omega arith);
  distinct = λ i j h k. absurd (omega arith);
  path = λ i j h k. absurd (omega arith);
  low = λ v h o. absurd (omega (arith, new v h));
  high = λ v h. omega (arith, new v h);
  known = λ i k h. absurd (omega arith);
  held = λ v h o. absurd (omega (arith, new v h));
  listed = λ r a h. absurd (omega arith);
  done = λ r a h. absurd (omega arith);
  rank_of_lem = λ r a h. absurd (omega arith);
  free = λ i r h. absurd (omega arith);
  settled = λ r x a h. absurd (omega arith);
}

module _ {es : List Edge} {w : List ℕ} {n at : ℕ} {z : State} (W : Walks es w n at z) (none : z.depth ≡ 0) (all : (v : ℕ) → v < n → 0 < z.next v) where
  filled : z.left ≡ 0
  filled = omega (arith, W.left_le, W.total, all_seen n z.next all)

  in_order_lem : (v : ℕ) → v < n → Ranked n z v
  in_order_lem v h = ⊎_elim (λ s. absurd (omega (arith, s.lt))) (λ r. r) (W.held v h (all v h))

  pub last_ranks : (i : ℕ) → i < n → z.rank (z.order i) ≡ i
  last_ranks i h = W.rank_of_lem i (omega (arith, filled)) h

  pub last_settling : Settling es n z.order
  last_settling = record {
    listed = λ i h. W.listed i (omega (arith, filled)) h;
    every = λ k h. let r = in_order_lem k h in (z.rank k, r.high, r.is);
    once = λ i j h l e. sym (last_ranks i h) ∙ ap z.rank e ∙ last_ranks j l;
    before = λ j k l never p q h m ep eq. ⊎_elim
        (λ s. let t : z.rank k ≡ q = ap z.rank (sym eq) ∙ last_ranks q m in omega (arith, s.0))
        (λ s. absurd (never (subst (λ (y : ℕ). Route es k y) ep s)))
        (W.settled p k (omega (arith, filled)) h (subst (λ (y : ℕ). Link es y k) (sym ep) l));
  }
