-- Visiting the marked blocks, lowest first: each mark is taken away when its block has been visited, so that the next one is the first that is left.
use Prim.Native.Nat.{ℕ, zero, suc, ◌+◌, ◌*◌, ◌/◌, ◌%◌, ◌≤◌, ◌<◌, min}
use native.Mathlib.Omega.{arith}
use mathlib.Core.Path.{◌≡◌, refl, sym, ap, subst, ◌∙◌}
use mathlib.Core.Logic.{◌≢◌, inl, inr, ⊎_elim}
use mathlib.Core.Bool.{Bool, true, false, cond, true≢false}
use mathlib.Core.List.{List}
use lib.ListN.{length, get_or, set, length-set}
use borrow.Author.Tests.{eq-eqb, ne_eqb}
use Rattle.words.specs.Inner.{part}
use Rattle.words.proofs.Points.{cut, same, stored}
use Rattle.words.proofs.RegionLaws.{kept_part_list}
use Rattle.bits.specs.Bits.{bit_of}
use Rattle.bits.specs.Inner.{PutBit, FirstSet}
use Rattle.bits.proofs.DigitLaws.{bit_zero}
use Rattle.ranges.specs.declared.Range.{Range}
use Rattle.area_pieces.specs.declared.Local.{Local}
use Rattle.area_pieces.specs.Inner.{mark_bit, Sweepable, Swept, Taken}

-- lists by count, of which some in a row are the same
pub stays : (L : ℕ → List Range) (n a b : ℕ) → a ≤ b → a ≤ n → ((i : ℕ) → a ≤ i → i < b → i < n → L (suc i) ≡ L i) → L (min b n) ≡ L a
stays L n a zero h l e = let z : min 0 n ≡ a = omega arith in ap L z
stays L n a (suc b) h l e =
    cut (suc b) a
    (λ q. let z : min (suc b) n ≡ a = omega arith in ap L z)
    (λ q. cut n b
    (λ m. let z : min (suc b) n ≡ min b n = omega arith in ap L z ∙ stays L n a b (omega arith) l (λ i x y v. e i x (omega arith) v))
    (λ m. let z : min (suc b) n ≡ suc b = omega arith in let y : b ≡ min b n = omega arith in
    ap L z ∙ e b (omega arith) (omega arith) m ∙ ap L y ∙ stays L n a b (omega arith) l (λ i x v j. e i x (omega arith) j)))

-- one block's mark is gone
pub one_taken : {s : Local} {k : ℕ} {w₀ w : List ℕ} → k < s.wide * 64 → PutBit w₀ w s.mark k false → Taken s k (k + 1) w₀ w
one_taken {s} {k} {w₀} {w} h u = record {
  len = u.len;
  some = omega arith;
  within = omega arith;
  gone = λ c l q. let z : c ≡ k = omega arith in u.bits c ∙ ap (λ (t : Bool). cond t false (mark_bit s w₀ c)) (eq-eqb c k z);
  fewer = λ c l e. other c (omega arith) ∙ e;
  others = λ c l. other c (omega arith);
  rest = λ i q. u.rest i (λ e. ⊎_elim (λ l. absurd (omega (arith, l))) (λ l. absurd (omega (arith, l))) q);
}
  where
    other : (c : ℕ) → c ≢ k → mark_bit s w c ≡ mark_bit s w₀ c
    other c e = u.bits c ∙ ap (λ (t : Bool). cond t false (mark_bit s w₀ c)) (ne_eqb c k e)

pub next_above : (k : ℕ) → k < k + 1
next_above k = omega arith

-- none is gone
pub taken_none : (s : Local) (k : ℕ) (w : List ℕ) → k ≤ s.wide * 64 → Taken s k k w w
taken_none s k w h = record {
  len = refl;
  some = omega arith;
  within = h;
  gone = λ c l q. absurd (omega arith);
  fewer = λ c l e. e;
  others = λ c l. refl;
  rest = λ i q. refl;
}

-- and one more
pub taken_more : {s : Local} {k c : ℕ} {w₀ w₁ w₂ : List ℕ} → Taken s k c w₀ w₁ → c < s.wide * 64 → PutBit w₁ w₂ s.mark c false → Taken s k (c + 1) w₀ w₂
taken_more {s} {k} {c} {w₀} {w₁} {w₂} d h u =
    let v = one_taken {s = s} {k = c} {w₀ = w₁} {w = w₂} h u in
    let z = d.some in
    record {
      len = v.len ∙ d.len;
      some = omega arith;
      within = omega arith;
      gone = λ i l q. cut c i (λ m. v.gone i m q) (λ m. v.fewer i m (d.gone i l m));
      fewer = λ i l e. v.fewer i (omega arith) (d.fewer i l e);
      others = λ i l. v.others i l ∙ d.others i (omega arith);
      rest = λ i q. v.rest i q ∙ d.rest i q;
    }

pub taken_to : {s : Local} {k c e : ℕ} {w₀ w : List ℕ} → Taken s k c w₀ w → c ≡ e → Taken s k e w₀ w
taken_to {s} {k} {c} {e} {w₀} {w} d q = subst (λ (x : ℕ). Taken s k x w₀ w) q d

-- the marks of a word are gone
pub word_taken : {s : Local} {k e : ℕ} (w : List ℕ) → k < s.wide * 64 → s.mark + s.wide ≤ length w → e ≡ k / 64 * 64 + 64 → Taken s k e w (set w (s.mark + k / 64) 0)
word_taken {s} {k} {e} w h l q = record {
  len = length-set w (s.mark + k / 64) 0;
  some = omega arith;
  within = omega arith;
  gone = λ c i j. gone c (omega arith);
  fewer = λ c i z. same (c / 64) (k / 64) (λ v. gone c v) (λ v. other c v ∙ z);
  others = λ c i. other c (omega arith);
  rest = λ i v. stored (λ y. y ≡ get_or w i 0) w (s.mark + k / 64) 0 i (omega arith) (λ z. absurd (⊎_elim (λ j. omega (arith, j)) (λ j. omega (arith, j)) v)) (λ _. refl);
}
  where
    gone : (c : ℕ) → c / 64 ≡ k / 64 → mark_bit s (set w (s.mark + k / 64) 0) c ≡ false
    gone c v = stored (λ y. bit_of y (c % 64) ≡ false) w (s.mark + k / 64) 0 (s.mark + c / 64) (omega arith) (λ z. bit_zero (c % 64)) (λ z. absurd (z (omega arith)))

    other : (c : ℕ) → c / 64 ≢ k / 64 → mark_bit s (set w (s.mark + k / 64) 0) c ≡ mark_bit s w c
    other c v = stored (λ y. bit_of y (c % 64) ≡ mark_bit s w c) w (s.mark + k / 64) 0 (s.mark + c / 64) (omega arith) (λ z. absurd (v (omega arith))) (λ _. refl)

-- the marked blocks before k have been visited, with r pieces from `from` on
pub record Sweep (s : Local) (n from : ℕ) (w₀ w : List ℕ) (k r : ℕ) : Type 0 where
  pub asked : Sweepable s n from w₀
  pub len : length w ≡ length w₀
  pub within : k ≤ s.wide * 64
  pub r_le : (r ≤ k) × (r ≤ n)
  pub cleared : (c : ℕ) → c < k → mark_bit s w c ≡ false
  pub rest : (c : ℕ) → k ≤ c → c < s.wide * 64 → mark_bit s w c ≡ mark_bit s w₀ c
  pub set : k < s.wide * 64 → mark_bit s w k ≡ true
  pub before : (i : ℕ) → i < s.mark → get_or w i 0 ≡ get_or w₀ i 0
  pub between : (i : ℕ) → s.mark + s.wide ≤ i → i < from → get_or w i 0 ≡ get_or w₀ i 0
  pub after : (i : ℕ) → from + n ≤ i → get_or w i 0 ≡ get_or w₀ i 0

pub sweep_begin : {s : Local} {n from : ℕ} {w : List ℕ} → Sweepable s n from w → {k : ℕ} → FirstSet w s.mark s.wide 0 k → Sweep s n from w w k 0
sweep_begin a first = record {
  asked = a;
  len = refl;
  within = first.within;
  r_le = (omega arith, omega arith);
  cleared = λ c h. first.least c (omega arith) h;
  rest = λ c h l. refl;
  set = first.set;
  before = λ i _. refl;
  between = λ i _ _. refl;
  after = λ i _. refl;
}

module _ {s : Local} {n from : ℕ} {w₀ w : List ℕ} {k r : ℕ} (d : Sweep s n from w₀ w k r) where
  -- a marked block is one of the n
  pub sweep_in : k < s.wide * 64 → k < n
  sweep_in h = cut n k (λ q. absurd (true≢false (sym (d.set h) ∙ d.rest k (omega arith) h ∙ d.asked.past k q h))) (λ q. q)

  pub sweep_mark : k < s.wide * 64 → mark_bit s w₀ k ≡ true
  sweep_mark h = sym (d.rest k (omega arith) h) ∙ d.set h

  -- w₁: one piece more at most was put behind the others; w₂: the marks of the blocks up to e are gone
  module _ {w₁ w₂ : List ℕ} {r' k' e : ℕ} (h : k < s.wide * 64) (some : k < e) (len₁ : length w₁ ≡ length w) (before₁ : (i : ℕ) → i < from → get_or w₁ i 0 ≡ get_or w i 0)
      (after₁ : (i : ℕ) → from + r' ≤ i → get_or w₁ i 0 ≡ get_or w i 0) (most : r' ≤ r + 1) (u : Taken s k e w₁ w₂) (first : FirstSet w₂ s.mark s.wide (k / 64) k') where
    alike : (c : ℕ) → c < s.wide * 64 → mark_bit s w₁ c ≡ mark_bit s w c
    alike c l = let m = d.asked.mark_fits in ap (λ (y : ℕ). bit_of y (c % 64)) (before₁ (s.mark + c / 64) (omega arith))

    later : (c : ℕ) → e ≤ c → c < s.wide * 64 → mark_bit s w₂ c ≡ mark_bit s w c
    later c q l = u.others c q ∙ alike c l

    none : (c : ℕ) → c < e → mark_bit s w₂ c ≡ false
    none c l = let z = u.within in cut k c (λ q. u.gone c q l) (λ q. u.fewer c q (alike c (omega arith) ∙ d.cleared c q))

    pub sweep_next : e ≤ k'
    sweep_next = let z = u.within in cut e k' (λ q. q) (λ q. absurd (true≢false (sym (first.set (omega arith)) ∙ none k' q)))

    clear : (c : ℕ) → c < k' → mark_bit s w₂ c ≡ false
    clear c l = let z = u.some in cut e c (λ q. first.least c (omega arith) l) (λ q. none c q)

    -- no block between is marked
    pub sweep_skip : (i : ℕ) → e ≤ i → i < k' → mark_bit s w₀ i ≡ false
    sweep_skip i q l =
        let z = first.within in
        let y = u.some in
        sym (d.rest i (omega arith) (omega arith)) ∙ sym (later i q (omega arith)) ∙ clear i l

    -- the pieces are left
    pub sweep_pieces : part from r' w₂ ≡ part from r' w₁
    sweep_pieces =
        let a = d.asked in
        let l = d.len in
        let z = d.r_le in
        let y = sweep_in h in
        kept_part_list {w₀ = w₁} {w = w₂} {at = from} {n = r'} (record { same = λ i x v. u.rest i (inr (omega arith)) }) (omega arith) u.len

    pub sweep_more : Sweep s n from w₀ w₂ k' r'
    sweep_more =
        let m = d.asked.mark_fits in
        let z = d.r_le in
        let l = sweep_next in
        let y = sweep_in h in
        let x = some in
        record {
          asked = d.asked;
          len = u.len ∙ len₁ ∙ d.len;
          within = first.within;
          r_le = (omega arith, omega arith);
          cleared = clear;
          rest = λ c q i. later c (omega arith) i ∙ d.rest c (omega arith) i;
          set = first.set;
          before = λ i q. u.rest i (inl q) ∙ before₁ i (omega arith) ∙ d.before i q;
          between = λ i q v. u.rest i (inr q) ∙ before₁ i v ∙ d.between i q v;
          after = λ i q. u.rest i (inr (omega arith)) ∙ after₁ i (omega arith) ∙ d.after i q;
        }

  pub sweep_done : s.wide * 64 ≤ k → Swept s n from r w₀ w
  sweep_done h = record {
    len = d.len;
    count = d.r_le.1;
    unmarked = record { none = λ c q. d.cleared c (omega arith) };
    before = d.before;
    between = d.between;
    after = d.after;
  }

-- a call before it that only filled the marks
pub swept_after : {s : Local} {n from r : ℕ} {w₀ w₁ w : List ℕ} → s.mark + s.wide ≤ from → length w₁ ≡ length w₀ → ((i : ℕ) → i < s.mark → get_or w₁ i 0 ≡ get_or w₀ i 0)
    → ((i : ℕ) → s.mark + s.wide ≤ i → get_or w₁ i 0 ≡ get_or w₀ i 0) → Swept s n from r w₁ w → Swept s n from r w₀ w
swept_after h e before after v = record {
  len = v.len ∙ e;
  count = v.count;
  unmarked = v.unmarked;
  before = λ i q. v.before i q ∙ before i q;
  between = λ i q l. v.between i q l ∙ after i q;
  after = λ i q. v.after i q ∙ after i (omega arith);
}
