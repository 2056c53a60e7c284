-- Loops that set bits of registers, and that append keys.
use Prim.Native.Nat.{ℕ, ◌+◌, ◌≤◌, ◌<◌}
use native.Mathlib.Omega.{arith}
use mathlib.Core.Path.{◌≡◌, sym, ap, ◌∙◌}
use mathlib.Core.Bool.{Bool, true, false, cond, ◌&&◌, ◌||◌, or-false, or_assoc}
use mathlib.Core.List.{List}
use lib.ListN.{length, get_or, set}
use lib.Dec.{eqb}
use Rattle.words.proofs.Points.{same, stored}
use Rattle.words.proofs.Bools.{or_cond}
use Rattle.bits.specs.Bits.{bit}
use Rattle.bits.specs.Inner.{PutBit}
use Rattle.graph.specs.Inner.Work.{Within}
use Rattle.graph.proofs.Within.{within_refl, within_set, within_trans, within_wider}
use Rattle.insts.proofs.DealtLaws.{any_none, any_next}
use Rattle.reach.specs.Inner.{key, Marked, Linked}
use Rattle.reach.proofs.UseLaws.{Some}
use Rattle.words.specs.Regions.{row_words}

pub put_within : {w₀ w : List ℕ} {row v b : ℕ} {t : Bool} → PutBit w₀ w row b t → b < v → Within row (row + row_words v) w₀ w
put_within p h = record {
  len = p.len;
  below = λ i l. p.rest i (λ e. absurd (omega arith));
  past = λ i l. p.rest i (λ e. absurd (omega arith));
}

-- of the first p indices those that pass t had the bit of their register set
pub record Marking (w₀ w : List ℕ) (row v : ℕ) (t : ℕ → Bool) (reg : ℕ → ℕ) (n p : ℕ) : Type 0 where
  pub p_le : p ≤ n
  pub room : row + row_words v ≤ length w₀
  pub kept : Within row (row + row_words v) w₀ w
  pub bits : (r : ℕ) → r < v → bit w row r ≡ (bit w₀ row r || Some p (λ k. t k && eqb (reg k) r))

pub mark_start : (w : List ℕ) (row v : ℕ) (t : ℕ → Bool) (reg : ℕ → ℕ) (n : ℕ) → row + row_words v ≤ length w → Marking w w row v t reg n 0
mark_start w row v t reg n h = record {
  p_le = omega arith;
  room = h;
  kept = within_refl row _ w;
  bits = λ r l. sym (ap (λ (b : Bool). bit w row r || b) (any_none (λ k. t k && eqb (reg k) r) (λ k. k)) ∙ or-false (bit w row r));
}

module _ {w₀ w : List ℕ} {row v : ℕ} {t : ℕ → Bool} {reg : ℕ → ℕ} {n p : ℕ} (d : Marking w₀ w row v t reg n p) where
  pub mark_skip : p < n → t p ≡ false → Marking w₀ w row v t reg n (p + 1)
  mark_skip h e = record {
    p_le = omega arith;
    room = d.room;
    kept = d.kept;
    bits = λ r l.
        d.bits r l
        ∙ ap (λ (b : Bool). bit w₀ row r || b)
        (sym (any_next (λ k. t k && eqb (reg k) r) (λ k. k) p
        ∙ ap (λ (b : Bool). Some p (λ k. t k && eqb (reg k) r) || (b && eqb (reg p) r)) e ∙ or-false _));
  }

  pub mark_put : {w' : List ℕ} {b : ℕ} → PutBit w w' row b true → p < n → t p ≡ true → b ≡ reg p → reg p < v → Marking w₀ w' row v t reg n (p + 1)
  mark_put {w'} {b} q h e z l = record {
    p_le = omega arith;
    room = d.room;
    kept = within_trans d.kept (put_within q (omega arith));
    bits = λ r m.
        q.bits r
        ∙ ap (λ (u : Bool). cond (eqb r b) true u) (d.bits r m)
        ∙ or_cond _ r b
        ∙ or_assoc (bit w₀ row r) (Some p (λ k. t k && eqb (reg k) r)) (eqb b r)
        ∙ ap (λ (u : Bool). bit w₀ row r || u)
        (ap (λ (x : ℕ). Some p (λ k. t k && eqb (reg k) r) || eqb x r) z
        ∙ sym (any_next (λ k. t k && eqb (reg k) r) (λ k. k) p ∙ ap (λ (b : Bool). Some p (λ k. t k && eqb (reg k) r) || (b && eqb (reg p) r)) e));
  }

  pub mark_done : n ≤ p → (f : ℕ → Bool) → ((r : ℕ) → r < v → Some n (λ k. t k && eqb (reg k) r) ≡ f r) → Marked w₀ w row v f
  mark_done h f g =
      let z : p ≡ n = let q = d.p_le in omega arith in
      record { kept = d.kept; bits = λ r l. d.bits r l ∙ ap (λ (x : ℕ). bit w₀ row r || Some x (λ k. t k && eqb (reg k) r)) z ∙ ap (λ (b : Bool). bit w₀ row r || b) (g r l) }

-- of the first p indices those that pass t had the key of their register appended
pub record Linking (w₀ w : List ℕ) (at j count : ℕ) (t : ℕ → Bool) (reg : ℕ → ℕ) (n k p : ℕ) : Type 0 where
  pub p_le : p ≤ n
  pub room : at + count + n ≤ length w₀
  pub kept : Within (at + count) (at + k) w₀ w
  pub more : count ≤ k
  pub few : k ≤ count + p
  pub only : (m : ℕ) → count ≤ m → m < k → (x : ℕ) × (x < p) × (t x ≡ true) × (get_or w (at + m) 0 ≡ key (reg x) j)
  pub has : (x : ℕ) → x < p → t x ≡ true → (m : ℕ) × (count ≤ m) × (m < k) × (get_or w (at + m) 0 ≡ key (reg x) j)

pub link_start : (w : List ℕ) (at j count : ℕ) (t : ℕ → Bool) (reg : ℕ → ℕ) (n : ℕ) → at + count + n ≤ length w → Linking w w at j count t reg n count 0
link_start w at j count t reg n h = record {
  p_le = omega arith;
  room = h;
  kept = within_refl _ _ w;
  more = omega arith;
  few = omega arith;
  only = λ m l g. absurd (omega arith);
  has = λ x l. absurd (omega arith);
}

module _ {w₀ w : List ℕ} {at j count : ℕ} {t : ℕ → Bool} {reg : ℕ → ℕ} {n k p : ℕ} (d : Linking w₀ w at j count t reg n k p) where
  pub link_skip : p < n → t p ≡ false → Linking w₀ w at j count t reg n k (p + 1)
  link_skip h e = record {
    p_le = omega arith;
    room = d.room;
    kept = d.kept;
    more = d.more;
    few = let q = d.few in omega arith;
    only = λ m l g. let (x, y, s, z) = d.only m l g in (x, omega arith, s, z);
    has = λ x l s. same x p (λ z. absurd (clash (t p) (rw z at s) e)) (λ z. d.has x (omega arith) s);
  }
    where
      clash : (b : Bool) → b ≡ true → b ≡ false → ⊥
      clash b x y = let z : ◌≡◌ {A = ℕ} 0 1 = cc in omega arith

  pub link_put : (i x : ℕ) → p < n → t p ≡ true → i ≡ at + k → x ≡ key (reg p) j → Linking w₀ (set w i x) at j count t reg n (k + 1) (p + 1)
  link_put i x h e z y = record {
    p_le = omega arith;
    room = d.room;
    kept = within_set (within_wider (at + count) (at + (k + 1)) (omega arith) (omega arith) d.kept) i x (let q = d.more in omega arith) (omega arith);
    more = let q = d.more in omega arith;
    few = let q = d.few in omega arith;
    only = λ m l g. stored (λ b. (x : ℕ) × (x < p + 1) × (t x ≡ true) × (b ≡ key (reg x) j)) w i x (at + m) fits
        (λ q. (p, omega arith, e, y))
        (λ q. let (x, a, s, b) = d.only m l (omega arith) in (x, omega arith, s, b));
    has = λ u l s. same u p
        (λ q. (k, d.more, omega arith, stored (λ b. b ≡ key (reg u) j) w i x (at + k) fits (λ _. y ∙ ap (λ (f : ℕ). key (reg f) j) (sym q)) (λ g. absurd (g (sym z)))))
        (λ q.
        let (m, a, b, f) = d.has u (omega arith) s in
        (m, a, omega arith, stored (λ b. b ≡ key (reg u) j) w i x (at + m) fits (λ g. absurd (omega arith)) (λ _. f)));
  }
    where
      fits : i < length w
      fits = let q = d.few in let l = d.kept.len in let r = d.room in omega arith

  pub link_done : (v : ℕ) (f : ℕ → Bool) → n ≤ p → ((x : ℕ) → x < n → t x ≡ true → (reg x < v) × (f (reg x) ≡ true))
      → ((q : ℕ) → q < v → f q ≡ true → (x : ℕ) × (x < n) × (t x ≡ true) × (reg x ≡ q)) → Linked w₀ w at v j n count k f
  link_done v f h to from = record {
    kept = d.kept;
    more = d.more;
    few = let q = d.few in let l = d.p_le in omega arith;
    only = λ m l g.
        let (x, a, s, z) = d.only m l g in
        let b = to x (let q = d.p_le in omega arith) s in
        (reg x, b.0, b.1, z);
    has = λ q l s.
        let (x, a, b, z) = from q l s in
        let (m, u, y, e) = d.has x (omega arith) b in
        (m, u, y, e ∙ ap (λ (r : ℕ). key r j) z);
  }
