-- Laws of a row that grows: what a step leaves of the other rows, and several steps as one.
use Prim.Native.Nat.{ℕ, ◌+◌, ◌*◌, ◌<◌}
use mathlib.Core.Path.{◌≡◌, sym, ◌∙◌}
use mathlib.Core.Logic.{◌≢◌, ◌⊎◌, inl, inr, ⊎_elim}
use mathlib.Core.Bool.{Bool, true, ◌||◌}
use mathlib.Core.List.{List}
use native.Mathlib.Omega.{arith}
use Rattle.bits.specs.Bits.{bit}
use Rattle.bits.specs.Inner.{Row, Aligned, apart}
use Rattle.bits.proofs.BitLaws.{bit_kept}
use Rattle.words.specs.Inner.{below, above}
use Rattle.words.proofs.Points.{cut}
use Rattle.words.proofs.RegionLaws.{row_before}
use Rattle.words.proofs.Bools.{or_right, or_left, or_cases}
use Rattle.graph.specs.Inner.Work.{Within}
use Rattle.graph.proofs.Within.{within_refl, within_trans, within_wider}
use Rattle.flow_rows.specs.declared.Flow.{Flow}
use Rattle.flow_rows.specs.Inner.{which, order, begins, ends, target, touched_bit, out_bit, Laid, Joins}

module _ {f : Flow} {w₀ w : List ℕ} (L : Laid f w₀) where
  -- what is read is apart from the answer's rows
  module _ (K : Within f.out (f.out + f.n * f.words) w₀ w) where
    pub which_kept : (v : ℕ) → v < f.n → which f w v ≡ which f w₀ v
    which_kept v h = K.below (f.base + v) (omega (arith, L.base_fits))

    pub order_kept : (i : ℕ) → i < f.n → order f w i ≡ order f w₀ i
    order_kept i h = K.below _ (omega (arith, L.base_fits))

    pub begins_kept : (u : ℕ) → u < f.n → begins f w u ≡ begins f w₀ u
    begins_kept u h = K.below (f.at + u) (omega (arith, L.base_fits, L.below))

    pub ends_kept : (u : ℕ) → u < f.n → ends f w u ≡ ends f w₀ u
    ends_kept u h = K.below (f.at + u + 1) (omega (arith, L.base_fits, L.below))

    pub target_kept : (u k : ℕ) → u < f.n → k < ends f w₀ u → target f w k ≡ target f w₀ k
    target_kept u k h l = K.below (f.at + f.n + 1 + k) (omega (arith, L.base_fits, L.rows_fit u h))

    pub touched_kept : (v b : ℕ) → v < f.n → b < f.words * 64 → touched_bit f w v b ≡ touched_bit f w₀ v b
    touched_kept v b h l = bit_kept {w₀ = w₀} {w = w} {base = f.touched + v * f.words} {n = f.words}
        (record { same = λ i p q. let r = row_before v f.n f.words h in ⊎_elim (λ a. K.below i (omega arith)) (λ a. K.past i (omega arith)) L.apart }) b l

    pub laid_kept : Laid f w
    laid_kept = record {
      rising = λ u h. omega (arith, L.rising u h, begins_kept u h, ends_kept u h);
      rows_fit = λ u h. omega (arith, L.rows_fit u h, ends_kept u h);
      below = L.below;
      nodes = λ u k h a b.
          let l : k < ends f w₀ u = omega (arith, ends_kept u h) in
          omega (arith, target_kept u k h l, L.nodes u k h (omega (arith, begins_kept u h)) l);
      listed = λ i h. omega (arith, order_kept i h, L.listed i h);
      base_fits = L.base_fits;
      out_fits = omega (arith, K.len, L.out_fits);
      touched_fits = omega (arith, K.len, L.touched_fits);
      apart = L.apart;
    }

  -- one row of the answer is in it
  pub row_wide : (x : ℕ) → x < f.n → Within (f.out + x * f.words) (f.out + x * f.words + f.words) w₀ w → Within f.out (f.out + f.n * f.words) w₀ w
  row_wide x h K = let r = row_before x f.n f.words h in within_wider f.out (f.out + f.n * f.words) (omega arith) (omega arith) K

  -- the other rows are as they were
  pub other_row : (x v b : ℕ) → v ≢ x → b < f.words * 64 → Within (f.out + x * f.words) (f.out + x * f.words + f.words) w₀ w → out_bit f w v b ≡ out_bit f w₀ v b
  other_row x v b ne h K = bit_kept {w₀ = w₀} {w = w} {base = f.out + v * f.words} {n = f.words}
      (record {
        same = λ i p q. cut v x
            (λ l. K.below i (omega (arith, row_before v x f.words (omega arith))))
            (λ l. K.past i (omega (arith, row_before x v f.words l)));
      }) b h

-- ---- several steps as one

module _ {f : Flow} {x : ℕ} where
  pub joins_none : (w : List ℕ) → Joins f x (λ b. ⊥) w w
  joins_none w = record { kept = within_refl _ _ w; old = λ b h o. o; new = λ b h s. absurd s; only = λ b h o. inl o }

  pub joins_then : {S S' : ℕ → Type 0} {w₀ w₁ w₂ : List ℕ} → Joins f x S w₀ w₁ → Joins f x S' w₁ w₂ → Joins f x (λ b. S b ⊎ S' b) w₀ w₂
  joins_then {S} {S'} {w₀} {w₁} {w₂} p q = record {
    kept = within_trans p.kept q.kept;
    old = λ b h o. q.old b h (p.old b h o);
    new = λ b h s. ⊎_elim (λ a. q.old b h (p.new b h a)) (λ a. q.new b h a) s;
    only = λ b h o. go b h (q.only b h o);
  }
    where
      next : (b : ℕ) → (out_bit f w₀ x b ≡ true) ⊎ S b → (out_bit f w₀ x b ≡ true) ⊎ (S b ⊎ S' b)
      next b (inl a) = inl a
      next b (inr a) = inr (inl a)

      go : (b : ℕ) → b < f.words * 64 → (out_bit f w₁ x b ≡ true) ⊎ S' b → (out_bit f w₀ x b ≡ true) ⊎ (S b ⊎ S' b)
      go b h (inl a) = next b (p.only b h a)
      go b h (inr a) = inr (inr a)

  pub joins_as : {S : ℕ → Type 0} (S' : ℕ → Type 0) {w₀ w : List ℕ} → Joins f x S w₀ w
      → ((b : ℕ) → b < f.words * 64 → S b → S' b) → ((b : ℕ) → b < f.words * 64 → S' b → S b) → Joins f x S' w₀ w
  joins_as {S} S' {w₀} {w} p to back = record {
    kept = p.kept;
    old = p.old;
    new = λ b h s. p.new b h (back b h s);
    only = λ b h o. go b h (p.only b h o);
  }
    where
      go : (b : ℕ) → b < f.words * 64 → (out_bit f w₀ x b ≡ true) ⊎ S b → (out_bit f w₀ x b ≡ true) ⊎ S' b
      go b h (inl a) = inl a
      go b h (inr a) = inr (to b h a)

  -- bits are put into the row
  pub joins_row : (s : ℕ → Bool) {w₀ w : List ℕ} → Row w₀ w (f.out + x * f.words) f.words (λ c. bit w₀ (f.out + x * f.words) c || s c) → Joins f x (λ b. s b ≡ true) w₀ w
  joins_row s {w₀} {w} r = record {
    kept = record { len = r.len; below = r.before; past = r.after };
    old = λ b h o. r.bits b h ∙ or_left _ _ o;
    new = λ b h e. r.bits b h ∙ or_right (out_bit f w₀ x b) _ e;
    only = λ b h o. or_cases (out_bit f w₀ x b) (s b) (sym (r.bits b h) ∙ o);
  }

-- a touched row and a row of the answer have no word in common
pub touched_aligned : (f : Flow) (w : List ℕ) (x v : ℕ) → Laid f w → x < f.n → v < f.n → Aligned (f.out + x * f.words) (f.touched + v * f.words) f.words
touched_aligned f w x v L h k =
    let a = row_before x f.n f.words h in
    let b = row_before v f.n f.words k in
    ⊎_elim (λ p. apart (above (omega arith))) (λ p. apart (below (omega arith))) L.apart
