-- Laws of the queue: room for one more, what a new entry leaves, and one growth after another.
use Prim.Native.Nat.{ℕ, suc, ◌+◌, ◌-◌, ◌/◌, ◌≤◌, ◌<◌}
use native.Mathlib.Omega.{arith}
use mathlib.Core.Path.{◌≡◌, refl, sym, ap, ◌∙◌, subst}
use mathlib.Core.Logic.{◌≢◌, ◌⊎◌, inl, inr}
use mathlib.Core.Bool.{Bool, true, false, cond, true≢false}
use mathlib.Core.List.{List}
use lib.ListN.{get_or, set, length-set}
use lib.Seq.{get_or-set_same, get_or-set_other}
use lib.Dec.{eqb}
use borrow.Author.Tests.{eq-eqb, ne_eqb}
use Rattle.words.proofs.Points.{cut, same}
use Rattle.bits.specs.Bits.{bit}
use Rattle.bits.specs.Inner.{PutBit}
use Rattle.graph.proofs.Counting.{all_taken}
use Rattle.reach.specs.declared.Lay.{Lay}
use Rattle.reach.proofs.ScanLaws.{same_bit}
use Rattle.queue.specs.Inner.{def_at, queued, Held, Listed, Grew, Joined}
use Rattle.words.specs.Regions.{row_words}

module _ {v m : ℕ} {lay : Lay} {w : List ℕ} {n : ℕ} (h : Held v m lay w n) where
  -- a def that is not seen is of an instruction that is not there, so there is room
  pub held_room : (i : ℕ) → i < m → bit w lay.seen (def_at lay w i - 1) ≡ false → n < m
  held_room i l e = cut m n
      (λ g.
      let (k, a, z) = all_taken m (queued lay w) (λ k q. h.low k (omega arith)) (λ j k p q r. h.differ j k p (omega arith) (ap (def_at lay w) r)) i l in
      let y : bit w lay.seen (def_at lay w i - 1) ≡ true = (rw z at (h.marked k (omega arith))) in
      absurd (true≢false (sym y ∙ e)))
      (λ g. g)

  pub seen_listed : (i : ℕ) → i < m → 0 < def_at lay w i → bit w lay.seen (def_at lay w i - 1) ≡ true → Listed lay w n (def_at lay w i)
  seen_listed i l d e =
      let (k, a, z) = h.listed (def_at lay w i - 1) (let q = h.def_le i l in omega arith) e in
      record { place = k; within = a; is = omega arith }

  pub grew_none : (P : ℕ → Type 0) → Grew v m lay w w n n P
  grew_none P = record { held = h; len = refl; outside = λ k a b. refl; more = omega arith; old = λ k l. refl; new = λ k a b. absurd (omega arith) }

  pub joined_seen : (i : ℕ) → i < m → 0 < def_at lay w i → bit w lay.seen (def_at lay w i - 1) ≡ true → Joined v m lay w w i n n
  joined_seen i l d e = record { grew = grew_none (λ j. j ≡ i); has = seen_listed i l d e }

  module _ (i r x : ℕ) (l : i < m) (d : 0 < def_at lay w i) (er : r ≡ def_at lay w i - 1) (e : bit w lay.seen r ≡ false) {w₁ : List ℕ} (p : PutBit w w₁ lay.seen r true)
      (ex : x ≡ lay.queue + n) where
    abbrev after : List ℕ
    after = set w₁ x i

    room : n < m
    room = held_room i l (ap (bit w lay.seen) (sym er) ∙ e)

    small : r < v
    small = let q = h.def_le i l in omega arith

    other : (k : ℕ) → (k < lay.seen) ⊎ (lay.seen + row_words v ≤ k) → k ≢ lay.queue + n → get_or after k 0 ≡ get_or w k 0
    other k (inl a) b = get_or-set_other w₁ x k i 0 (λ z. b (z ∙ ex)) ∙ p.rest k (λ z. absurd (omega arith))
    other k (inr a) b = get_or-set_other w₁ x k i 0 (λ z. b (z ∙ ex)) ∙ p.rest k (λ z. absurd (let q = small in omega arith))

    def_same : (j : ℕ) → j < m → def_at lay after j ≡ def_at lay w j
    def_same j a = other (lay.defs + j) (inr (let q = h.seen_fits in omega arith)) (λ z. absurd (let q = h.defs_fits in omega arith))

    queue_same : (k : ℕ) → k < n → queued lay after k ≡ queued lay w k
    queue_same k a = other (lay.queue + k) (inr (let q = h.seen_fits in let s = h.defs_fits in omega arith)) (λ z. absurd (omega arith))

    queue_new : queued lay after n ≡ i
    queue_new = ap (λ (y : ℕ). get_or after y 0) (sym ex) ∙ get_or-set_same w₁ x i 0 (let q = h.queue_fits in let s = p.len in let t = room in omega arith)

    defs_same : (k : ℕ) → k < n → def_at lay after (queued lay after k) ≡ def_at lay w (queued lay w k)
    defs_same k a = ap (def_at lay after) (queue_same k a) ∙ def_same (queued lay w k) (h.low k a)

    def_new : def_at lay after (queued lay after n) ≡ suc r
    def_new = ap (def_at lay after) queue_new ∙ def_same i l ∙ (let q : def_at lay w i ≡ suc r = omega arith in q)

    bits_same : (c : ℕ) → c < v → bit after lay.seen c ≡ cond (eqb c r) true (bit w lay.seen c)
    bits_same c g =
        same_bit w₁ after lay.seen v c g (λ k a b. get_or-set_other w₁ x k i 0 (λ z. absurd (let q = h.seen_fits in let s = h.defs_fits in omega arith)))
        ∙ p.bits c

    bit_old : (c : ℕ) → c < v → bit w lay.seen c ≡ true → bit after lay.seen c ≡ true
    bit_old c g b = bits_same c g ∙ ap (λ (t : Bool). cond (eqb c r) true t) b ∙ both (eqb c r)
      where
        both : (t : Bool) → cond t true true ≡ true
        both true = refl
        both false = refl

    bit_new : bit after lay.seen r ≡ true
    bit_new = bits_same r small ∙ ap (λ (t : Bool). cond t true (bit w lay.seen r)) (eq-eqb r r refl)

    held_after : Held v m lay after (n + 1)
    held_after = record {
      seen_fits = h.seen_fits;
      defs_fits = h.defs_fits;
      queue_fits = simp length-set (let q = h.queue_fits in let s = p.len in omega arith);
      def_le = λ j a. let q = def_same j a in let s = h.def_le j a in omega arith;
      n_le = let t = room in omega arith;
      low = λ k a. same k n (λ z. let q : queued lay after k ≡ i = ap (queued lay after) z ∙ queue_new in omega arith) (λ z. let q = queue_same k (omega arith) in let s = h.low k (omega arith) in omega arith);
      defined = λ k a. same k n
          (λ z. let q : def_at lay after (queued lay after k) ≡ suc r = ap (λ (y : ℕ). def_at lay after (queued lay after y)) z ∙ def_new in omega arith)
          (λ z. let q = defs_same k (omega arith) in let s = h.defined k (omega arith) in omega arith);
      marked = λ k a. same k n
          (λ z.
          let q : def_at lay after (queued lay after k) ≡ suc r = ap (λ (y : ℕ). def_at lay after (queued lay after y)) z ∙ def_new in
          let s : def_at lay after (queued lay after k) - 1 ≡ r = omega arith in
          ap (bit after lay.seen) s ∙ bit_new)
          (λ z.
          let q = defs_same k (omega arith) in
          let s = h.defined k (omega arith) in
          let t = h.def_le (queued lay w k) (h.low k (omega arith)) in
          ap (λ (y : ℕ). bit after lay.seen (y - 1)) q ∙ bit_old (def_at lay w (queued lay w k) - 1) (omega arith) (h.marked k (omega arith)));
      listed = λ c g b. same c r
          (λ z. (n, omega arith, def_new ∙ ap suc (sym z)))
          (λ z.
          let (k, a, y) = h.listed c g (sym (bits_same c g ∙ ap (λ (t : Bool). cond t true (bit w lay.seen c)) (ne_eqb c r z)) ∙ b) in
          (k, omega arith, defs_same k a ∙ y));
      differ = λ j k a b z. same k n
          (λ y.
          let q : def_at lay after (queued lay after k) ≡ suc r = ap (λ (u : ℕ). def_at lay after (queued lay after u)) y ∙ def_new in
          let t = defs_same j (omega arith) in
          let o : def_at lay w (queued lay w j) - 1 ≡ r = omega arith in
          true≢false (sym (ap (bit w lay.seen) (sym o) ∙ h.marked j (omega arith)) ∙ e))
          (λ y. h.differ j k a (omega arith) (sym (defs_same j (omega arith)) ∙ z ∙ defs_same k (omega arith)));
      words = λ y g. same y (r / 64)
          (λ z. inr (n, omega arith, (let q = def_new in let t : def_at lay after (queued lay after n) - 1 ≡ r = omega arith in ap (λ (u : ℕ). u / 64) t ∙ sym z)))
          (λ z. go y z g (h.words y g));
    }
      where
        go : (y : ℕ) → y ≢ r / 64 → y < row_words v → (get_or w (lay.seen + y) 0 ≡ 0) ⊎ ((k : ℕ) × (k < n) × ((def_at lay w (queued lay w k) - 1) / 64 ≡ y))
            → (get_or after (lay.seen + y) 0 ≡ 0) ⊎ ((k : ℕ) × (k < n + 1) × ((def_at lay after (queued lay after k) - 1) / 64 ≡ y))
        go y z g (inl a) =
            inl (get_or-set_other w₁ x (lay.seen + y) i 0 (λ q. absurd (let s = h.seen_fits in let t = h.defs_fits in omega arith)) ∙ p.rest (lay.seen + y) (λ q. z (omega arith)) ∙ a)
        go y z g (inr (k, a, b)) = inr (k, omega arith, ap (λ (u : ℕ). (u - 1) / 64) (defs_same k a) ∙ b)

    pub joined_new : Joined v m lay w after i n (n + 1)
    joined_new = record {
      grew = record {
        held = held_after;
        len = simp length-set p.len;
        outside = λ k a b. other k a (away k b);
        more = omega arith;
        old = queue_same;
        new = λ k a b. let z : k ≡ n = omega arith in ap (queued lay after) z ∙ queue_new;
      };
      has = record { place = n; within = omega arith; is = ap (def_at lay after) queue_new };
    }
      where
        away : (k : ℕ) → (k < lay.queue) ⊎ (lay.queue + m ≤ k) → k ≢ lay.queue + n
        away k (inl a) z = absurd (omega arith)
        away k (inr a) z = absurd (let t = room in omega arith)

-- ---- one growth after another

module _ {v m : ℕ} {lay : Lay} {w₀ w : List ℕ} {n₀ n : ℕ} {P : ℕ → Type 0} (g : Grew v m lay w₀ w n₀ n P) where
  pub grew_def : (i : ℕ) → i < m → def_at lay w i ≡ def_at lay w₀ i
  grew_def i l = let h = g.held in g.outside (lay.defs + i) (inr (let q = h.seen_fits in omega arith)) (inl (let q = h.defs_fits in omega arith))

  -- what was listed still is
  pub grew_listed : (d : ℕ) → ((k : ℕ) → k < n₀ → queued lay w₀ k < m) → Listed lay w₀ n₀ d → Listed lay w n d
  grew_listed d low s = record {
    place = s.place;
    within = (let q = g.more in let r = s.within in omega arith);
    is = ap (def_at lay w) (g.old s.place s.within) ∙ grew_def (queued lay w₀ s.place) (low s.place s.within) ∙ s.is;
  }

  pub grew_then : {w' : List ℕ} {n' : ℕ} {Q : ℕ → Type 0} → Grew v m lay w w' n n' Q → ((j : ℕ) → Q j → P j) → Grew v m lay w₀ w' n₀ n' P
  grew_then f e = record {
    held = f.held;
    len = f.len ∙ g.len;
    outside = λ k a b. f.outside k a b ∙ g.outside k a b;
    more = (let q = g.more in let r = f.more in omega arith);
    old = λ k a. f.old k (let q = g.more in omega arith) ∙ g.old k a;
    new = λ k a b. cut n k (λ l. e _ (f.new k l b)) (λ l. subst P (sym (f.old k l)) (g.new k a l));
  }
