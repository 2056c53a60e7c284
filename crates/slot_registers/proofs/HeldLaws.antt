-- Laws of the registers of slots: one assignment more, over words from a place on.
use Prim.Native.Nat.{ℕ, ◌+◌, ◌≤◌, ◌<◌}
use native.Mathlib.Omega.{arith}
use mathlib.Core.Path.{◌≡◌, refl, sym, ap, ◌∙◌}
use mathlib.Core.List.{List}
use lib.ListN.{length, get_or, set, length-set}
use lib.Seq.{get_or-set_other}
use Rattle.words.specs.Rows.{tabulate}
use Rattle.words.specs.Inner.{Region}
use Rattle.words.proofs.Points.{stored}
use Rattle.areas.specs.Slots.{Assigned, spilled}
use Rattle.spill_checks.proofs.AssignedLaws.{next_same, next_other}
use Rattle.slot_registers.specs.Inner.{held_word}

module _ (g : ℕ → Assigned) (at n : ℕ) where
  -- the words after some assignments
  pub record Holding (w₀ w : List ℕ) (i : ℕ) : Type 0 where
    pub fits : at + n ≤ length w₀
    pub words : Region w₀ w at n (λ s. held_word (spilled (tabulate i g) s))

  pub held_start : (w : List ℕ) → at + n ≤ length w → ((s : ℕ) → s < n → get_or w (at + s) 0 ≡ 0) → Holding w w 0
  unfolding spilled tabulate
  held_start w f z = record {
    fits = f;
    words = record { len = refl; inside = λ x i e h. ap (λ (k : ℕ). get_or w k 0) e ∙ z i h; before = λ i h. refl; after = λ i h. refl };
  }

  module _ {w₀ w : List ℕ} {i : ℕ} (d : Holding w₀ w i) where
    pub held_put : (s a v : ℕ) → (g i).slot ≡ s → s < n → a ≡ at + s → v ≡ (g i).register + 1 → Holding w₀ (set w a v) (i + 1)
    held_put s a v e h p q =
        let f = d.fits in let l = d.words.len in
        record {
          fits = d.fits;
          words = record {
            len = length-set w a v ∙ d.words.len;
            inside = λ x k y r. stored (λ z. z ≡ held_word (spilled (tabulate (i + 1) g) k)) w a v x (omega arith)
                (λ t. let u : s ≡ k = omega arith in q ∙ sym (ap held_word (next_same g i k (e ∙ u))))
                (λ t. d.words.inside x k y r ∙ sym (ap held_word (next_other g i k (λ u. t (let z : s ≡ k = sym e ∙ u in omega arith)))));
            before = λ k r. get_or-set_other w a k v 0 (λ z. absurd (omega arith)) ∙ d.words.before k r;
            after = λ k r. get_or-set_other w a k v 0 (λ z. absurd (omega arith)) ∙ d.words.after k r;
          };
        }

    pub held_skip : n ≤ (g i).slot → Holding w₀ w (i + 1)
    held_skip h = record {
      fits = d.fits;
      words = record {
        len = d.words.len;
        inside = λ x k y r. d.words.inside x k y r ∙ sym (ap held_word (next_other g i k (λ u. absurd (omega arith))));
        before = d.words.before;
        after = d.words.after;
      };
    }

    pub held_done : (m : ℕ) → i ≡ m → Region w₀ w at n (λ s. held_word (spilled (tabulate m g) s))
    held_done m e = rw (sym e) d.words

-- the words were cleared before
pub held_all : {f : ℕ → ℕ} {at n : ℕ} {w₀ w₁ w : List ℕ} → Region w₀ w₁ at n (λ s. 0) → Region w₁ w at n f → Region w₀ w at n f
held_all a b = record {
  len = b.len ∙ a.len;
  inside = b.inside;
  before = λ i h. b.before i h ∙ a.before i h;
  after = λ i h. b.after i h ∙ a.after i h;
}
