-- The address entries of a local: along its chain, the last first.
use Prim.Native.Nat.{ℕ, zero, suc, ◌+◌, ◌*◌, ◌≤◌, ◌<◌}
use native.Mathlib.Omega.{arith}
use mathlib.Core.Path.{◌≡◌, refl, sym, ap, ◌∙◌, subst}
use mathlib.Core.Logic.{◌≢◌, ◌⊎◌, inl, inr}
use mathlib.Core.Bool.{Bool, true, false, cond, ◌&&◌, ◌||◌, true≢false, or-false, and-false, or-true}
use mathlib.Core.List.{List}
use lib.ListN.{get_or}
use lib.Dec.{eqb}
use borrow.Author.Tests.{eqb-true, eq-eqb, ne_eqb}
use Rattle.words.specs.Inner.{inst_lea}
use Rattle.words.specs.Widths.{mention_width, address_count}
use Rattle.words.proofs.Points.{cut, same}
use Rattle.words.proofs.Bools.{and_both, or_cases, or_left}
use Rattle.carrying.specs.Insts.{is_set}
use Rattle.reach.specs.declared.Lay.{Lay}
use Rattle.reach.specs.Inner.{latest, row_local}
use Rattle.reach.proofs.UseLaws.{by_bool}
use Rattle.follow.specs.declared.Sizes.{Sizes}
use Rattle.follow.specs.declared.Begun.{Begun}
use Rattle.queue.specs.Inner.{def_at, Held, Listed, Grew, Joined}
use Rattle.follow.specs.Inner.{Walkable, Entry, Chain, Took, Began}
use Rattle.queue.proofs.QueueLaws.{grew_none, grew_def, grew_listed, grew_then}

-- ---- the last of some values that is l

module _ (f : ℕ → ℕ) (l : ℕ) where
  pub latest_le : (k : ℕ) → latest f l k ≤ k
  unfolding latest
  latest_le zero = omega arith
  latest_le (suc k) = go (eqb (f k) l) (latest_le k)
    where
      go : (t : Bool) → latest f l k ≤ k → cond t (suc k) (latest f l k) ≤ suc k
      go true h = omega arith
      go false h = omega arith

  pub latest_is : (k a : ℕ) → latest f l k ≡ suc a → f a ≡ l
  unfolding latest
  latest_is zero a e = absurd (omega arith)
  latest_is (suc k) a e = go (eqb (f k) l) refl e (latest_is k a)
    where
      go : (t : Bool) → eqb (f k) l ≡ t → cond t (suc k) (latest f l k) ≡ suc a → (latest f l k ≡ suc a → f a ≡ l) → f a ≡ l
      go true h q ih = let z : k ≡ a = omega arith in rw z at (eqb-true (f k) l h)
      go false h q ih = ih q

  pub latest_gap : (k j : ℕ) → latest f l k ≤ j → j < k → f j ≢ l
  unfolding latest
  latest_gap zero j a h e = absurd (omega arith)
  latest_gap (suc k) j a h e = go (eqb (f k) l) refl a (latest_gap k j)
    where
      go : (t : Bool) → eqb (f k) l ≡ t → cond t (suc k) (latest f l k) ≤ j → (latest f l k ≤ j → j < k → f j ≢ l) → ⊥
      go true q b ih = absurd (omega arith)
      go false q b ih = same j k (λ z. true≢false (sym (eq-eqb (f k) l (ap f (sym z) ∙ e)) ∙ q)) (λ z. ih b (omega arith) e)

-- ---- one entry

module _ (lay : Lay) (z : Sizes) (insts w : List ℕ) (i : ℕ) (b : Begun) where
  pub took_other : Held z.v z.insts lay w b.count → inst_lea insts i ≢ 1 → Took lay z insts w w i b b
  took_other h e = record {
    grew = grew_none h (λ j. (j ≡ i) × (inst_lea insts i ≡ 1));
    has = λ f. absurd (e f);
    lost = sym (ap (λ (t : Bool). b.lost || (t && eqb (def_at lay w i) 0)) (ne_eqb (inst_lea insts i) 1 e) ∙ or-false b.lost);
  }

  pub took_lost : Held z.v z.insts lay w b.count → inst_lea insts i ≡ 1 → def_at lay w i ≡ 0 → Took lay z insts w w i b (record { lost = true; count = b.count })
  took_lost h e d = record {
    grew = grew_none h (λ j. (j ≡ i) × (inst_lea insts i ≡ 1));
    has = λ f g. absurd (omega arith);
    lost = sym (ap (λ (t : Bool). b.lost || (t && eqb (def_at lay w i) 0)) (eq-eqb (inst_lea insts i) 1 e) ∙ ap (λ (t : Bool). b.lost || t) (eq-eqb (def_at lay w i) 0 d) ∙ or-true b.lost);
  }

  pub took_new : {w' : List ℕ} {n : ℕ} → Joined z.v z.insts lay w w' i b.count n → inst_lea insts i ≡ 1 → def_at lay w i ≢ 0
      → Took lay z insts w w' i b (record { lost = b.lost; count = n })
  took_new j e d = record {
    grew = record { held = j.grew.held; len = j.grew.len; outside = j.grew.outside; more = j.grew.more; old = j.grew.old; new = λ k a c. (j.grew.new k a c, e) };
    has = λ f g. j.has;
    lost = sym (ap (λ (t : Bool). b.lost || (is_set (inst_lea insts i) && t)) (ne_eqb (def_at lay w i) 0 d) ∙ ap (λ (t : Bool). b.lost || t) (and-false (is_set (inst_lea insts i))) ∙ or-false b.lost);
  }

-- ---- the chain

pub record Beginning (lay : Lay) (z : Sizes) (insts addresses : List ℕ) (l : ℕ) (w₀ w : List ℕ) (b : Begun) (c : ℕ) : Type 0 where
  pub tables : Walkable lay z w₀
  pub chain : Chain lay z insts addresses l w₀
  pub grew : Grew z.v z.insts lay w₀ w 0 b.count (Entry insts addresses l)
  pub c_le : c ≤ address_count addresses
  pub here : (a : ℕ) → c ≡ suc a → row_local addresses a ≡ l
  pub all : (a : ℕ) → c ≤ a → a < address_count addresses → row_local addresses a ≡ l → inst_lea insts (get_or addresses (mention_width * a) 0) ≡ 1
      → 0 < def_at lay w (get_or addresses (mention_width * a) 0) → Listed lay w b.count (def_at lay w (get_or addresses (mention_width * a) 0))
  pub lost : b.lost ≡ true → (i : ℕ) × Entry insts addresses l i × (def_at lay w i ≡ 0)
  pub kept : b.lost ≡ false → (a : ℕ) → c ≤ a → a < address_count addresses → row_local addresses a ≡ l → inst_lea insts (get_or addresses (mention_width * a) 0) ≡ 1
      → 0 < def_at lay w (get_or addresses (mention_width * a) 0)

pub begin_start : (lay : Lay) (z : Sizes) (insts addresses : List ℕ) (l : ℕ) (w : List ℕ) (c : ℕ) → Walkable lay z w → Held z.v z.insts lay w 0
    → Chain lay z insts addresses l w → c ≡ get_or w (lay.heads + l) 0 → Beginning lay z insts addresses l w w (record { lost = false; count = 0 }) c
begin_start lay z insts addresses l w c t h d e = record {
  tables = t;
  chain = d;
  grew = grew_none h (Entry insts addresses l);
  c_le = (let q = latest_le (row_local addresses) l (address_count addresses) in let r = d.head in omega arith);
  here = λ a f. latest_is (row_local addresses) l (address_count addresses) a (sym d.head ∙ sym e ∙ f);
  all = λ a f g o. absurd (latest_gap (row_local addresses) l (address_count addresses) a (let r = d.head in omega arith) g o);
  lost = λ f. absurd (true≢false (sym f));
  kept = λ f a g o p. absurd (latest_gap (row_local addresses) l (address_count addresses) a (let r = d.head in omega arith) o p);
}

module _ {lay : Lay} {z : Sizes} {insts addresses : List ℕ} {l : ℕ} {w₀ w : List ℕ} {b : Begun} {c : ℕ} (d : Beginning lay z insts addresses l w₀ w b c) where
  pub begin_found : (a : ℕ) → c ≡ suc a → get_or addresses (mention_width * a) 0 < z.insts
  begin_found a e = d.chain.found a (let q = d.c_le in omega arith)

  pub begin_more : {w' : List ℕ} {b' : Begun} (a i c' : ℕ) → c ≡ suc a → i ≡ get_or addresses (mention_width * a) 0 → Took lay z insts w w' i b b' → c' ≡ get_or w' (lay.nexts + a) 0
      → Beginning lay z insts addresses l w₀ w' b' c' × (c' < c)
  begin_more {w'} {b'} a i c' ea ei k ec = (
    record {
      tables = d.tables;
      chain = d.chain;
      grew = grew_then d.grew k.grew (λ j e. record { place = a; within = in-a; local = d.here a ea; inst = sym ei ∙ sym e.0; lea = ap (λ (x : ℕ). inst_lea insts x) e.0 ∙ e.1 });
      c_le = (let q = below in omega arith);
      here = λ x e. latest_is (row_local addresses) l a x (sym next ∙ e);
      all = λ x f g o p q. cut c x
          (λ y. still x g (d.all x y g o p (older x g q)))
          (λ y. same x a
          (λ u.
          let v : i ≡ get_or addresses (mention_width * x) 0 = ei ∙ ap (λ (t : ℕ). get_or addresses (mention_width * t) 0) (sym u) in
          let s = k.has (ap (λ (t : ℕ). inst_lea insts t) v ∙ p) (let r : def_at lay w i ≡ def_at lay w' (get_or addresses (mention_width * x) 0) = sym (grew_def k.grew i low) ∙ ap (def_at lay w') v in omega arith) in
          subst (λ (t : ℕ). Listed lay w' b'.count (def_at lay w' t)) v s)
          (λ u. absurd (latest_gap (row_local addresses) l a x (let r = next in omega arith) (omega arith) o)));
      lost = λ e. gone (or_cases b.lost _ (sym k.lost ∙ e));
      kept = λ e x f g o p. cut c x
          (λ y. let r = d.kept (left e) x y g o p in let s = grew_def k.grew (get_or addresses (mention_width * x) 0) (d.chain.found x g) in omega arith)
          (λ y. same x a
          (λ u. by_bool (eqb (def_at lay w' (get_or addresses (mention_width * x) 0)) 0)
          (λ r. absurd (true≢false (sym (here-lost x u p (eqb-true _ _ r)) ∙ e)))
          (λ r. nonzero (def_at lay w' (get_or addresses (mention_width * x) 0)) r))
          (λ u. absurd (latest_gap (row_local addresses) l a x (let r = next in omega arith) (omega arith) o)));
    },
    (let q = below in omega arith),
  )
    where
      in-a : a < address_count addresses
      in-a = (let q = d.c_le in omega arith)

      low : i < z.insts
      low = (let q = begin_found a ea in omega arith)

      next : c' ≡ latest (row_local addresses) l a
      next =
          ec
          ∙ k.grew.outside (lay.nexts + a) (inr (let q = d.tables.laid in omega arith)) (inl (let q = d.tables.laid in let r = d.chain.fits in omega arith))
          ∙ d.grew.outside (lay.nexts + a) (inr (let q = d.tables.laid in omega arith)) (inl (let q = d.tables.laid in let r = d.chain.fits in omega arith))
          ∙ d.chain.next a in-a (d.here a ea)

      below : c' ≤ a
      below = (let q = next in let r = latest_le (row_local addresses) l a in omega arith)

      nonzero : (x : ℕ) → eqb x 0 ≡ false → 0 < x
      nonzero zero e = absurd (true≢false (sym (eq-eqb 0 0 refl) ∙ e))
      nonzero (suc x) e = omega arith

      older : (x : ℕ) → x < address_count addresses → 0 < def_at lay w' (get_or addresses (mention_width * x) 0) → 0 < def_at lay w (get_or addresses (mention_width * x) 0)
      older x g q = (let r = grew_def k.grew (get_or addresses (mention_width * x) 0) (d.chain.found x g) in omega arith)

      still : (x : ℕ) → x < address_count addresses → Listed lay w b.count (def_at lay w (get_or addresses (mention_width * x) 0)) → Listed lay w' b'.count (def_at lay w' (get_or addresses (mention_width * x) 0))
      still x g s =
          let r = grew_listed k.grew (def_at lay w (get_or addresses (mention_width * x) 0)) d.grew.held.low s in
          rw (grew_def k.grew (get_or addresses (mention_width * x) 0) (d.chain.found x g)) r

      left : b'.lost ≡ false → b.lost ≡ false
      left e = by_bool b.lost (λ t. absurd (true≢false (sym (k.lost ∙ or_left b.lost _ t) ∙ e))) (λ t. t)

      here-lost : (x : ℕ) → x ≡ a → inst_lea insts (get_or addresses (mention_width * x) 0) ≡ 1 → def_at lay w' (get_or addresses (mention_width * x) 0) ≡ 0 → b'.lost ≡ true
      here-lost x u p r =
          let v : i ≡ get_or addresses (mention_width * x) 0 = ei ∙ ap (λ (t : ℕ). get_or addresses (mention_width * t) 0) (sym u) in
          let o : def_at lay w i ≡ 0 = sym (grew_def k.grew i low) ∙ ap (def_at lay w') v ∙ r in
          k.lost ∙ ap (λ (t : Bool). b.lost || (t && eqb (def_at lay w i) 0)) (eq-eqb (inst_lea insts i) 1 (ap (λ (t : ℕ). inst_lea insts t) v ∙ p))
          ∙ ap (λ (t : Bool). b.lost || t) (eq-eqb (def_at lay w i) 0 o) ∙ or-true b.lost

      gone : (b.lost ≡ true) ⊎ ((is_set (inst_lea insts i) && eqb (def_at lay w i) 0) ≡ true) → (x : ℕ) × Entry insts addresses l x × (def_at lay w' x ≡ 0)
      gone (inl e) =
          let (x, n, r) = d.lost e in
          (x, n, grew_def k.grew x (let q = d.chain.found n.place n.within in let s = n.inst in omega arith) ∙ r)
      gone (inr e) =
          let (f, g) = and_both (is_set (inst_lea insts i)) (eqb (def_at lay w i) 0) e in
          (i, record { place = a; within = in-a; local = d.here a ea; inst = sym ei; lea = eqb-true _ _ f }, grew_def k.grew i low ∙ eqb-true _ _ g)

  pub begin_done : c ≤ 0 → Began lay z insts addresses l w₀ w b
  begin_done e = record {
    grew = d.grew;
    all = λ i n h.
        let v = n.inst in
        subst (λ (t : ℕ). Listed lay w b.count (def_at lay w t)) v
        (d.all n.place (omega arith) n.within n.local (ap (λ (t : ℕ). inst_lea insts t) v ∙ n.lea) (rw v h));
    lost = d.lost;
    kept = λ f i n.
        let v = n.inst in
        let r = d.kept f n.place (omega arith) n.within n.local (ap (λ (t : ℕ). inst_lea insts t) v ∙ n.lea) in
        rw v at r;
  }
