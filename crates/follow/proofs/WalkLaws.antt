-- The loops of a walk: the edges of a register, the registers of the queue, and the way back.
use Prim.Native.Nat.{ℕ, suc, ◌+◌, ◌-◌, ◌*◌, ◌/◌, ◌%◌, ◌^◌, ◌≤◌, ◌<◌}
use native.Mathlib.Omega.{arith}
use mathlib.Core.Path.{◌≡◌, refl, sym, ap, ◌∙◌, subst}
use mathlib.Core.Logic.{◌≢◌, ◌⊎◌, inl, inr}
use mathlib.Core.Bool.{Bool, true, false, not, ◌&&◌, ◌||◌, true≢false, or-false, or_assoc}
use mathlib.Core.List.{List}
use lib.ListN.{length, get_or, set, length-set}
use lib.Seq.{get_or-set_same, get_or-set_other}
use lib.Dec.{ltb}
use borrow.Author.Tests.{ltb-true, ltb-false}
use Rattle.words.specs.Inner.{Splits}
use Rattle.words.specs.Regions.{row_words}
use Rattle.words.proofs.SortLaws.{rising_le}
use Rattle.words.proofs.Points.{cut, same}
use Rattle.words.proofs.Bools.{both_ways}
use Rattle.bits.specs.Bits.{bit}
use Rattle.insts.proofs.DealtLaws.{any_none, any_next}
use Rattle.reach.specs.declared.Lay.{Lay}
use Rattle.reach.specs.Inner.{key}
use Rattle.reach.proofs.StepLaws.{splits_same}
use Rattle.reach.proofs.UseLaws.{Some, some_at, some_index}
use Rattle.reach.proofs.ScanLaws.{same_bit}
use Rattle.follow.specs.declared.Sizes.{Sizes}
use Rattle.follow.specs.declared.Begun.{Begun}
use Rattle.follow.specs.declared.Walk.{Walk}
use Rattle.queue.specs.Inner.{def_at, queued, Held, Listed, Grew, Joined}
use Rattle.follow.specs.Inner.{Walkable, Edge, Grown, register_at, Stepped, Walking, Walked, Unseen}
use Rattle.queue.proofs.QueueLaws.{grew_none, grew_def, grew_listed, grew_then}

-- ---- the tables stay

module _ {lay : Lay} {z : Sizes} {w₀ w : List ℕ} {n₀ n : ℕ} {P : ℕ → Type 0} (t : Walkable lay z w₀) (g : Grew z.v z.insts lay w₀ w n₀ n P) where
  pub edge_same : (k : ℕ) → k < z.edges → get_or w (lay.edges + k) 0 ≡ get_or w₀ (lay.edges + k) 0
  edge_same k h = g.outside (lay.edges + k) (inr (let l = t.laid in omega arith)) (inl (let l = t.laid in let f = t.few in omega arith))

  pub def_same : (i : ℕ) → i < z.insts → def_at lay w i ≡ def_at lay w₀ i
  def_same i h = grew_def g i h

  pub walkable_still : Walkable lay z w
  walkable_still = record {
    operands = t.operands;
    addresses = t.addresses;
    few = t.few;
    laid = rw g.len t.laid;
    registers = t.registers;
    few_insts = t.few_insts;
    def_le = λ i h. let e = def_same i h in let q = t.def_le i h in omega arith;
    rising = λ k h. let a = edge_same k (omega arith) in let b = edge_same (k + 1) h in let r = t.rising k h in omega arith;
    keys = λ k h.
        let (q, j, a, b, c, d) = t.keys k h in
        let e = def_same j b in
        (q, j, a, b, omega arith, edge_same k h ∙ d);
    first = λ i q h e.
        let f : get_or w (lay.firsts + i) 0 ≡ get_or w₀ (lay.firsts + i) 0 = g.outside (lay.firsts + i) (inr (let l = t.laid in omega arith)) (inl (let l = t.laid in omega arith)) in
        rw f (splits_same (t.first i q h (sym (def_same i h) ∙ e)) (λ k l. ap (λ (y : ℕ). ltb y (q * 2 ^ 32)) (edge_same k l)));
  }

  pub edge_back : (q j : ℕ) → Edge lay z w q j → Edge lay z w₀ q j
  edge_back q j e = record { place = e.place; within = e.within; small = e.small; is = sym (edge_same e.place e.within) ∙ e.is }

  pub edge_on : (q j : ℕ) → Edge lay z w₀ q j → Edge lay z w q j
  edge_on q j e = record { place = e.place; within = e.within; small = e.small; is = edge_same e.place e.within ∙ e.is }

-- ---- the edges of a register

pub record Growing (lay : Lay) (z : Sizes) (w₀ : List ℕ) (q first n₀ : ℕ) (w : List ℕ) (n x : ℕ) : Type 0 where
  pub tables : Walkable lay z w₀
  pub start : Splits (λ k. ltb (get_or w₀ (lay.edges + k) 0) (q * 2 ^ 32)) z.edges first
  pub grew : Grew z.v z.insts lay w₀ w n₀ n (Edge lay z w₀ q)
  pub x_low : first ≤ x
  pub x_high : x ≤ z.edges
  pub all : (k j : ℕ) → first ≤ k → k < x → j < z.insts → get_or w₀ (lay.edges + k) 0 ≡ key q j → Listed lay w n (def_at lay w j)

pub grow_start : (lay : Lay) (z : Sizes) (w : List ℕ) (i q n x : ℕ) → Walkable lay z w → Held z.v z.insts lay w n → i < z.insts → 0 < def_at lay w i → q ≡ def_at lay w i - 1
    → x ≡ get_or w (lay.firsts + i) 0 → Growing lay z w q x n w n x
grow_start lay z w i q n x t h l d e ex = record {
  tables = t;
  start = s;
  grew = grew_none h (Edge lay z w q);
  x_low = omega arith;
  x_high = s.within;
  all = λ k j a b. absurd (omega arith);
}
  where
    s : Splits (λ k. ltb (get_or w (lay.edges + k) 0) (q * 2 ^ 32)) z.edges x
    s = rw ex (t.first i q l (omega arith))

module _ {lay : Lay} {z : Sizes} {w₀ : List ℕ} {q first n₀ : ℕ} {w : List ℕ} {n x : ℕ} (d : Growing lay z w₀ q first n₀ w n x) where
  -- the edge at x is of the register
  pub record Turn (i : ℕ) : Type 0 where
    pub low : i < z.insts
    pub has_def : 0 < def_at lay w i
    pub is : get_or w₀ (lay.edges + x) 0 ≡ key q i

  pub grow_turn : (y i : ℕ) → x < z.edges → y ≡ get_or w (lay.edges + x) 0 → y / 4294967296 ≡ q → i ≡ y % 4294967296 → Turn i
  grow_turn y i h ey eq ei =
      let t = d.tables in
      let (p, j, a, b, c, e) = t.keys x h in
      let s = edge_same t d.grew x h in
      let f = def_same t d.grew j b in
      let m = t.few_insts in
      let u : y ≡ p * 4294967296 + j = ey ∙ s ∙ e in
      let o : j ≡ i = omega arith in
      let r : p ≡ q = omega arith in
      record { low = omega arith; has_def = rw (← o) (omega arith); is = e ∙ ap (λ (k : ℕ). key k j) r ∙ ap (key q) o }

  pub grow_more : {w' : List ℕ} {i n' : ℕ} → x < z.edges → Turn i → Joined z.v z.insts lay w w' i n n' → Growing lay z w₀ q first n₀ w' n' (x + 1)
  grow_more {w'} {i} {n'} h u j = record {
    tables = d.tables;
    start = d.start;
    grew = grew_then d.grew j.grew (λ k e. record { place = x; within = h; small = (let l = u.low in omega arith); is = u.is ∙ ap (key q) (sym e) });
    x_low = (let l = d.x_low in omega arith);
    x_high = omega arith;
    all = λ k c a b l e. same k x
        (λ y.
        let p : get_or w₀ (lay.edges + x) 0 ≡ key q c = (rw y at e) in
        let o : c ≡ i = (let s = u.is in omega arith) in
        rw o j.has)
        (λ y.
        let s = grew_listed j.grew (def_at lay w c) d.grew.held.low (d.all k c a (omega arith) l e) in
        rw (grew_def j.grew c l) s);
  }

  grow_end : ((k : ℕ) → x ≤ k → k < z.edges → suc q * 4294967296 ≤ get_or w₀ (lay.edges + k) 0) → Grown lay z w₀ w q n₀ n
  grow_end f = record {
    grew = d.grew;
    all = λ j e.
        let l = e.small in
        let m = d.tables.few_insts in
        cut first e.place
        (λ a. cut x e.place
        (λ b. absurd (let s = f e.place b e.within in let i = e.is in omega arith))
        (λ b. d.all e.place j a b e.small e.is))
        (λ a. absurd (let s = ltb-true (get_or w₀ (lay.edges + e.place) 0) (q * 2 ^ 32) (d.start.holds e.place a) in let i = e.is in omega arith));
  }

  pub grow_done : z.edges ≤ x → Grown lay z w₀ w q n₀ n
  grow_done h = grow_end (λ k a b. absurd (omega arith))

  pub grow_stop : (y : ℕ) → x < z.edges → y ≡ get_or w (lay.edges + x) 0 → y / 4294967296 ≢ q → Grown lay z w₀ w q n₀ n
  grow_stop y h ey ne = grow_end (λ k a b.
      let s = edge_same d.tables d.grew x h in
      let r = rising_le (λ k. get_or w₀ (lay.edges + k) 0) z.edges d.tables.rising x k a b in
      let l = ltb-false (get_or w₀ (lay.edges + x) 0) (q * 2 ^ 32) (d.start.fails x d.x_low h) in
      cut (suc q * 4294967296) (get_or w₀ (lay.edges + x) 0) (λ p. omega arith) (λ p. absurd (ne (omega arith))))

-- ---- the registers of the queue

some_same : (n : ℕ) (f g : ℕ → Bool) → ((k : ℕ) → k < n → f k ≡ g k) → Some n f ≡ Some n g
some_same n f g e = both_ways _ _
    (λ t. let (k, h, u) = some_index n f t in some_at n g k h (sym (e k h) ∙ u))
    (λ t. let (k, h, u) = some_index n g t in some_at n f k h (e k h ∙ u))

pub walk_start : (lay : Lay) (z : Sizes) (w : List ℕ) (b : Begun) → Held z.v z.insts lay w b.count
    → Walking lay z w w b 0 (record { bad = b.lost; escapes = false; count = b.count })
walk_start lay z w b h = record {
  grew = grew_none h (λ j. j < z.insts);
  h_le = omega arith;
  from = λ k a c. absurd (omega arith);
  closed = λ k j a. absurd (omega arith);
  escapes = sym (any_none (λ k. bit w lay.escapes (register_at lay w k)) (λ k. k));
  bad = sym (ap (λ (u : Bool). b.lost || u) (any_none (λ k. bit w lay.dead (register_at lay w k)) (λ k. k)) ∙ or-false b.lost);
}

module _ {lay : Lay} {z : Sizes} {w₀ w : List ℕ} {b : Begun} {h : ℕ} {s : Walk} (t : Walkable lay z w₀) (d : Walking lay z w₀ w b h s) where
  pub walk_tables : Walkable lay z w
  walk_tables = walkable_still t d.grew

  -- the register at h is numbered
  pub record Here : Type 0 where
    pub low : queued lay w h < z.insts
    pub has_def : 0 < def_at lay w (queued lay w h)
    pub small : register_at lay w h < z.v

  pub walk_here : h < s.count → Here
  walk_here l =
      let g = d.grew.held in
      let a = g.low h l in
      let c = g.defined h l in
      let e = g.def_le (queued lay w h) a in
      record { low = a; has_def = c; small = omega arith }

  pub walk_more : {w' : List ℕ} {s' : Walk} → h < s.count → Stepped lay z w w' h s s' → Walking lay z w₀ w' b (h + 1) s'
  walk_more {w'} {s'} l p = record {
    grew = grew_then d.grew gr (λ j e. e.small);
    h_le = (let m = gr.more in omega arith);
    from = λ k a c. cut s.count k
        (λ q. (h, omega arith, edge_back t d.grew (register_at lay w' h) (queued lay w' k) (subst (λ (x : ℕ). Edge lay z w x (queued lay w' k)) (sym (reg h l)) (gr.new k q c))))
        (λ q.
        let (x, f, e) = d.from k a q in
        (x, f, subst (λ (y : ℕ). Edge lay z w₀ y (queued lay w' k)) (sym (reg x (omega arith))) (subst (λ (y : ℕ). Edge lay z w₀ (register_at lay w x) y) (sym (gr.old k q)) e)));
    closed = λ k j a e. same k h
        (λ y.
        let f : Edge lay z w₀ (register_at lay w h) j = subst (λ (x : ℕ). Edge lay z w₀ x j) (ap (register_at lay w') y ∙ reg h l) e in
        p.grown.all j (edge_on t d.grew (register_at lay w h) j f))
        (λ y.
        let m : k < s.count = (let o = d.h_le in omega arith) in
        let f : Edge lay z w₀ (register_at lay w k) j = subst (λ (x : ℕ). Edge lay z w₀ x j) (reg k m) e in
        let o = grew_listed gr (def_at lay w j) d.grew.held.low (d.closed k j (omega arith) f) in
        rw (grew_def gr j e.small) o);
    escapes =
        p.escapes ∙ ap (λ (u : Bool). u || bit w lay.escapes (register_at lay w h)) d.escapes
        ∙ flags lay.escapes (λ x a c. d.grew.outside x (inl (let q = t.laid in omega arith)) (inl (let q = t.laid in omega arith)));
    bad =
        p.bad ∙ ap (λ (u : Bool). u || bit w lay.dead (register_at lay w h)) d.bad
        ∙ or_assoc b.lost _ _
        ∙ ap (λ (u : Bool). b.lost || u) (flags lay.dead (λ x a c. d.grew.outside x (inl (let q = t.laid in omega arith)) (inl (let q = t.laid in omega arith))));
  }
    where
      gr : Grew z.v z.insts lay w w' s.count s'.count (Edge lay z w (register_at lay w h))
      gr = p.grown.grew

      reg : (k : ℕ) → k < s.count → register_at lay w' k ≡ register_at lay w k
      reg k a = ap (λ (x : ℕ). x - 1) (ap (def_at lay w') (gr.old k a) ∙ grew_def gr (queued lay w k) (d.grew.held.low k a))

      flags : (row : ℕ) → ((x : ℕ) → row ≤ x → x < row + row_words z.v → get_or w x 0 ≡ get_or w₀ x 0)
          → (Some h (λ k. bit w₀ row (register_at lay w k)) || bit w row (register_at lay w h)) ≡ Some (h + 1) (λ k. bit w₀ row (register_at lay w' k))
      flags row f =
          ap (λ (u : Bool). Some h (λ k. bit w₀ row (register_at lay w k)) || u) (same_bit w₀ w row z.v (register_at lay w h) (walk_here l).small f)
          ∙ ap (λ (u : Bool). u || bit w₀ row (register_at lay w h)) (some_same h (λ k. bit w₀ row (register_at lay w k)) (λ k. bit w₀ row (register_at lay w' k)) (λ k a. ap (bit w₀ row) (sym (reg k (let o = d.h_le in omega arith)))))
          ∙ ap (λ (u : ℕ). Some h (λ k. bit w₀ row (register_at lay w' k)) || bit w₀ row u) (sym (reg h l))
          ∙ sym (any_next (λ k. bit w₀ row (register_at lay w' k)) (λ k. k) h)

  pub walk_done : (whole : Bool) → s.count ≤ h → Walked lay z w₀ w b whole s
  walk_done whole l = record { upto = h; walking = d; done = λ _. l }

  pub walk_stop : (whole : Bool) → (s.bad && not whole) ≡ true → Walked lay z w₀ w b whole s
  walk_stop whole e = record { upto = h; walking = d; done = λ f. absurd (true≢false (sym e ∙ f)) }

-- ---- the way back

pub record Unseeing (lay : Lay) (v m : ℕ) (w₀ w : List ℕ) (n k : ℕ) : Type 0 where
  pub held : Held v m lay w₀ n
  pub k_le : k ≤ n
  pub len : length w ≡ length w₀
  pub outside : (x : ℕ) → (x < lay.seen) ⊎ (lay.seen + row_words v ≤ x) → (x < lay.queue) ⊎ (lay.queue + k ≤ x) → get_or w x 0 ≡ get_or w₀ x 0
  pub done : (j : ℕ) → j < k → suc (queued lay w j) ≡ def_at lay w₀ (queued lay w₀ j)
  pub words : (x : ℕ) → x < row_words v → (get_or w (lay.seen + x) 0 ≡ 0) ⊎ ((j : ℕ) × (k ≤ j) × (j < n) × ((def_at lay w₀ (queued lay w₀ j) - 1) / 64 ≡ x))

pub unsee_start : {lay : Lay} {v m : ℕ} {w : List ℕ} {n : ℕ} → Held v m lay w n → Unseeing lay v m w w n 0
unsee_start {lay} {v} {m} {w} {n} h = record {
  held = h;
  k_le = omega arith;
  len = refl;
  outside = λ x a b. refl;
  done = λ j a. absurd (omega arith);
  words = λ x a. go x (h.words x a);
}
  where
    go : (x : ℕ) → (get_or w (lay.seen + x) 0 ≡ 0) ⊎ ((k : ℕ) × (k < n) × ((def_at lay w (queued lay w k) - 1) / 64 ≡ x))
        → (get_or w (lay.seen + x) 0 ≡ 0) ⊎ ((j : ℕ) × (0 ≤ j) × (j < n) × ((def_at lay w (queued lay w j) - 1) / 64 ≡ x))
    go x (inl e) = inl e
    go x (inr (k, a, e)) = inr (k, omega arith, a, e)

module _ {lay : Lay} {v m : ℕ} {w₀ w : List ℕ} {n k : ℕ} (d : Unseeing lay v m w₀ w n k) where
  pub record Back : Type 0 where
    pub inst : queued lay w k ≡ queued lay w₀ k
    pub low : queued lay w₀ k < m
    pub def : def_at lay w (queued lay w k) ≡ def_at lay w₀ (queued lay w₀ k)
    pub has_def : 0 < def_at lay w₀ (queued lay w₀ k)
    pub small : def_at lay w₀ (queued lay w₀ k) ≤ v
    pub fits : lay.queue + m ≤ length w

  pub unsee_back : k < n → Back
  unsee_back l =
      let h = d.held in
      let a = h.low k l in
      let e : queued lay w k ≡ queued lay w₀ k = d.outside (lay.queue + k) (inr (omega arith)) (inr (omega arith)) in
      record {
        inst = e;
        low = a;
        def = ap (def_at lay w) e ∙ d.outside (lay.defs + queued lay w₀ k) (inr (omega arith)) (inl (omega arith));
        has_def = h.defined k l;
        small = h.def_le (queued lay w₀ k) a;
        fits = (let q = h.queue_fits in let r = d.len in omega arith);
      }

  pub unsee_more : (x y r : ℕ) → k < n → x ≡ lay.queue + k → r ≡ def_at lay w (queued lay w k) - 1 → y ≡ lay.seen + r / 64 → Unseeing lay v m w₀ (set (set w x r) y 0) n (k + 1)
  unsee_more x y r l ex er ey = record {
    held = d.held;
    k_le = omega arith;
    len = simp length-set d.len;
    outside = λ u a c. out u a c;
    done = λ j a. same j k
        (λ e.
        let f : queued lay (set (set w x r) y 0) j ≡ r = get_or-set_other (set w x r) y (lay.queue + j) 0 0 (away j) ∙ ap (λ (u : ℕ). get_or (set w x r) u 0) (let o : lay.queue + j ≡ x = omega arith in o) ∙ get_or-set_same w x r 0 in_x in
        let o : def_at lay w₀ (queued lay w₀ j) ≡ def_at lay w₀ (queued lay w₀ k) = ap (λ (u : ℕ). def_at lay w₀ (queued lay w₀ u)) e in
        let q = back.def in let s = back.has_def in
        omega arith)
        (λ e.
        let f : queued lay (set (set w x r) y 0) j ≡ queued lay w j = get_or-set_other (set w x r) y (lay.queue + j) 0 0 (away j) ∙ get_or-set_other w x (lay.queue + j) r 0 (λ o. absurd (omega arith)) in
        let q = d.done j (omega arith) in
        omega arith);
    words = λ u a. same u (r / 64)
        (λ e. inl (ap (λ (o : ℕ). get_or (set (set w x r) y 0) o 0) (let o : lay.seen + u ≡ y = omega arith in o) ∙ get_or-set_same (set w x r) y 0 0 (simp length-set in-y)))
        (λ e. go u a e (d.words u a));
  }
    where
      back : Back
      back = unsee_back l

      in_x : x < length w
      in_x = (let q = back.fits in let s = d.held.n_le in omega arith)

      low-r : r / 64 < row_words v
      low-r = (let q = back.small in let s = back.def in let f = back.has_def in omega arith)

      in-y : y < length w
      in-y = (let q = low-r in let s = d.held.seen_fits in let f = d.held.defs_fits in let o = back.fits in omega arith)

      away : (j : ℕ) → lay.queue + j ≢ y
      away j e = absurd (let q = low-r in let s = d.held.seen_fits in let f = d.held.defs_fits in omega arith)

      out : (u : ℕ) → (u < lay.seen) ⊎ (lay.seen + row_words v ≤ u) → (u < lay.queue) ⊎ (lay.queue + (k + 1) ≤ u) → get_or (set (set w x r) y 0) u 0 ≡ get_or w₀ u 0
      out u (inl a) (inl c) = get_or-set_other (set w x r) y u 0 0 (λ e. absurd (omega arith)) ∙ get_or-set_other w x u r 0 (λ e. absurd (omega arith)) ∙ d.outside u (inl a) (inl c)
      out u (inl a) (inr c) = get_or-set_other (set w x r) y u 0 0 (λ e. absurd (omega arith)) ∙ get_or-set_other w x u r 0 (λ e. absurd (omega arith)) ∙ d.outside u (inl a) (inr (omega arith))
      out u (inr a) (inl c) = get_or-set_other (set w x r) y u 0 0 (λ e. absurd (let q = low-r in omega arith)) ∙ get_or-set_other w x u r 0 (λ e. absurd (omega arith)) ∙ d.outside u (inr a) (inl c)
      out u (inr a) (inr c) = get_or-set_other (set w x r) y u 0 0 (λ e. absurd (let q = low-r in omega arith)) ∙ get_or-set_other w x u r 0 (λ e. absurd (omega arith)) ∙ d.outside u (inr a) (inr (omega arith))

      go : (u : ℕ) → u < row_words v → u ≢ r / 64 → (get_or w (lay.seen + u) 0 ≡ 0) ⊎ ((j : ℕ) × (k ≤ j) × (j < n) × ((def_at lay w₀ (queued lay w₀ j) - 1) / 64 ≡ u))
          → (get_or (set (set w x r) y 0) (lay.seen + u) 0 ≡ 0) ⊎ ((j : ℕ) × (k + 1 ≤ j) × (j < n) × ((def_at lay w₀ (queued lay w₀ j) - 1) / 64 ≡ u))
      go u a e (inl f) =
          inl (get_or-set_other (set w x r) y (lay.seen + u) 0 0 (λ o. e (omega arith))
          ∙ get_or-set_other w x (lay.seen + u) r 0 (λ o. absurd (let q = d.held.seen_fits in let s = d.held.defs_fits in omega arith)) ∙ f)
      go u a e (inr (j, f, g, o)) = same j k
          (λ q. absurd (e (sym o ∙ ap (λ (c : ℕ). (def_at lay w₀ (queued lay w₀ c) - 1) / 64) q ∙ ap (λ (c : ℕ). c / 64) (sym (er ∙ ap (λ (c : ℕ). c - 1) back.def)))))
          (λ q. inr (j, omega arith, g, o))

pub unsee_done : {lay : Lay} {z : Sizes} {w₀ w : List ℕ} {n k : ℕ} → Unseeing lay z.v z.insts w₀ w n k → n ≤ k → Unseen lay z w₀ w n
unsee_done {lay} {z} {w₀} {w} {n} {k} d h = record {
  len = d.len;
  outside = λ x a b. d.outside x a (far x b);
  seen = λ x a. go x (d.words x a);
  registers = λ j a. d.done j (omega arith);
}
  where
    far : (x : ℕ) → (x < lay.queue) ⊎ (lay.queue + n ≤ x) → (x < lay.queue) ⊎ (lay.queue + k ≤ x)
    far x (inl a) = inl a
    far x (inr a) = inr (let q = d.k_le in omega arith)

    go : (x : ℕ) → (get_or w (lay.seen + x) 0 ≡ 0) ⊎ ((j : ℕ) × (k ≤ j) × (j < n) × ((def_at lay w₀ (queued lay w₀ j) - 1) / 64 ≡ x)) → get_or w (lay.seen + x) 0 ≡ 0
    go x (inl e) = e
    go x (inr (j, a, b, c)) = absurd (omega arith)
