-- Laws of a local's bit in the rows of the places: one put, several puts as one, and what they come to.
use Prim.Native.Nat.{ℕ, ◌+◌, ◌*◌, ◌/◌, ◌%◌, ◌<◌}
use native.Mathlib.Omega.{arith}
use mathlib.Core.Path.{◌≡◌, refl, sym, ap, ◌∙◌, subst}
use mathlib.Core.Logic.{◌≢◌, ◌⊎◌, inl, inr, ⊎_elim}
use mathlib.Core.Bool.{Bool, true, false, cond, ◌&&◌, ◌||◌}
use mathlib.Core.List.{List}
use borrow.Author.Tests.{eq-eqb, ne_eqb}
use Rattle.words.proofs.Points.{cut, same}
use Rattle.words.proofs.RegionLaws.{row_before}
use Rattle.bits.specs.Bits.{bit, bit_of}
use Rattle.bits.specs.Inner.{PutBit}
use Rattle.graph.proofs.Within.{within_refl, within_trans}
use Rattle.area_rows.specs.declared.Column.{Column}
use Rattle.area_rows.specs.Inner.{marked, Fits, Marked, Put}

-- the word of the local's bit in the row of place k is one of the rows' words
pub word_in : (c : Column) (w : List ℕ) (k : ℕ) → Fits c w → k < c.n → c.base + k * c.words + c.bit / 64 < c.base + c.n * c.words
word_in c w k f h = omega (arith, f.bit_in, row_before k c.n c.words h)

pub put_none : (c : Column) (v : Bool) (w : List ℕ) → Put c v (λ k. ⊥) w w
put_none c v w = record { kept = within_refl _ _ w; put = λ k h s. absurd s; rest = λ k h. inr refl; others = λ k b h l d. refl }

module _ {c : Column} {v : Bool} where
  pub put_one : {w w' : List ℕ} {k : ℕ} → Fits c w → k < c.n → PutBit w w' (c.base + k * c.words) c.bit v → Put c v (λ j. j ≡ k) w w'
  put_one {w} {w'} {k} f h p = record {
    kept = record {
      len = p.len;
      below = λ i l. p.rest i (λ e. absurd (omega arith));
      past = λ i l. p.rest i (λ e. absurd (omega (arith, word_in c w k f h)));
    };
    put = λ j l e. subst (λ (i : ℕ). marked c w' i ≡ v) (sym e) (p.bits c.bit ∙ ap (λ (t : Bool). cond t v (marked c w k)) (eq-eqb c.bit c.bit refl));
    rest = λ j l. same j k (λ e. inl e) (λ d. inr (other j c.bit d f.bit_in));
    others = λ j b l m d. same j k
        (λ e. subst (λ (i : ℕ). bit w' (c.base + i * c.words) b ≡ bit w (c.base + i * c.words) b) (sym e) (p.bits b ∙ ap (λ (t : Bool). cond t v (bit w (c.base + k * c.words) b)) (ne_eqb b c.bit d)))
        (λ e. other j b e m);
  }
    where
      other : (j b : ℕ) → j ≢ k → b < c.words * 64 → bit w' (c.base + j * c.words) b ≡ bit w (c.base + j * c.words) b
      other j b d m = ap (λ (y : ℕ). bit_of y (b % 64)) (p.rest (c.base + j * c.words + b / 64) (λ e. d (apart e)))
        where
          apart : c.base + j * c.words + b / 64 ≡ c.base + k * c.words + c.bit / 64 → j ≡ k
          apart e = cut j k
              (λ l. cut k j (λ g. omega arith) (λ g. absurd (omega (arith, f.bit_in, row_before j k c.words g))))
              (λ g. absurd (omega (arith, f.bit_in, row_before k j c.words g)))

  pub put_then : {S T : ℕ → Type 0} {w₀ w₁ w₂ : List ℕ} → Put c v S w₀ w₁ → Put c v T w₁ w₂ → Put c v (λ k. S k ⊎ T k) w₀ w₂
  put_then {S} {T} {w₀} {w₁} {w₂} p q = record {
    kept = within_trans p.kept q.kept;
    put = λ k h s. ⊎_elim (λ a. ⊎_elim (λ t. q.put k h t) (λ e. e ∙ p.put k h a) (q.rest k h)) (λ t. q.put k h t) s;
    rest = λ k h. ⊎_elim (λ t. inl (inr t)) (λ e. ⊎_elim (λ s. inl (inl s)) (λ f. inr (e ∙ f)) (p.rest k h)) (q.rest k h);
    others = λ k b h l d. q.others k b h l d ∙ p.others k b h l d;
  }

  pub put_as : {S : ℕ → Type 0} (T : ℕ → Type 0) {w₀ w : List ℕ} → Put c v S w₀ w → ((k : ℕ) → k < c.n → S k → T k) → ((k : ℕ) → k < c.n → T k → S k) → Put c v T w₀ w
  put_as T p f g = record {
    kept = p.kept;
    put = λ k h t. p.put k h (g k h t);
    rest = λ k h. ⊎_elim (λ s. inl (f k h s)) (λ e. inr e) (p.rest k h);
    others = p.others;
  }

  pub put_fits : {S : ℕ → Type 0} {w₀ w : List ℕ} → Fits c w₀ → Put c v S w₀ w → Fits c w
  put_fits f p = record { bit_in = f.bit_in; rows_in = let e = p.kept.len in let r = f.rows_in in omega arith }

-- a set of places as a test: the bit is set where it holds, or unset where it does not
pub put_set : {c : Column} {S : ℕ → Type 0} {w₀ w : List ℕ} (t : ℕ → Bool) → Put c true S w₀ w
    → ((k : ℕ) → k < c.n → S k → t k ≡ true) → ((k : ℕ) → k < c.n → t k ≡ true → S k) → Marked c (λ k. t k || marked c w₀ k) w₀ w
put_set {c} {S} {w₀} {w} t p f g = record { kept = p.kept; column = λ k h. go k h (t k) refl; others = p.others }
  where
    go : (k : ℕ) → k < c.n → (u : Bool) → t k ≡ u → marked c w k ≡ (u || marked c w₀ k)
    go k h true e = p.put k h (g k h e)
    go k h false e = ⊎_elim (λ s. absurd (let x = f k h s in let z : ◌≡◌ {A = ℕ} 0 1 = cc in omega arith)) (λ q. q) (p.rest k h)

pub put_unset : {c : Column} {S : ℕ → Type 0} {w₀ w : List ℕ} (t : ℕ → Bool) → Put c false S w₀ w
    → ((k : ℕ) → k < c.n → S k → t k ≡ false) → ((k : ℕ) → k < c.n → t k ≡ false → S k) → Marked c (λ k. t k && marked c w₀ k) w₀ w
put_unset {c} {S} {w₀} {w} t p f g = record { kept = p.kept; column = λ k h. go k h (t k) refl; others = p.others }
  where
    go : (k : ℕ) → k < c.n → (u : Bool) → t k ≡ u → marked c w k ≡ (u && marked c w₀ k)
    go k h false e = p.put k h (g k h e)
    go k h true e = ⊎_elim (λ s. absurd (let x = f k h s in let z : ◌≡◌ {A = ℕ} 0 1 = cc in omega arith)) (λ q. q) (p.rest k h)
