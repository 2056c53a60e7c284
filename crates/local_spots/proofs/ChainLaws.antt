-- Laws of the chains of touches and of ends: the heads are cleared, then both lists are linked.
use Prim.Native.Nat.{ℕ, ◌+◌, ◌≤◌, ◌<◌}
use native.Mathlib.Omega.{arith}
use mathlib.Core.Path.{◌≡◌, refl, ◌∙◌}
use mathlib.Core.Logic.{inl, inr}
use mathlib.Core.List.{List}
use lib.ListN.{get_or}
use Rattle.words.specs.Inner.{Region, touch_count, touch_local, stop_count, stop_local}
use Rattle.chains.specs.Inner.{Linked}
use Rattle.chains.proofs.ChainLaws.{chain_kept}
use Rattle.local_spots.specs.declared.Places.{Places}
use Rattle.local_spots.specs.Inner.{Laid, Chains, Chained}

-- both chains, where all of the heads and of what stands before has stayed
pub chains_kept : {p : Places} {touches ends : List ℕ} {w w' : List ℕ} → p.heads + p.locals + p.locals ≤ p.nexts
    → ((i : ℕ) → p.heads ≤ i → i < p.nexts + touch_count touches + stop_count ends → get_or w' i 0 ≡ get_or w i 0) → Chains p touches ends w → Chains p touches ends w'
chains_kept h s C = record {
  touches_chain = chain_kept C.touches_chain (λ i a b. s i a (omega arith)) (λ i a b. s i (omega arith) (omega arith));
  ends_chain = chain_kept C.ends_chain (λ i a b. s i (omega arith) (omega arith)) (λ i a b. s i (omega arith) (omega arith));
}

module _ (p : Places) (touches ends : List ℕ) {w₀ w₁ : List ℕ} (L : Laid p (touch_count touches) (stop_count ends) w₀) (Z : Region w₀ w₁ p.heads (p.locals + p.locals) (λ _. 0)) where
  pub touches_none : (l : ℕ) → l < p.locals → get_or w₁ (p.heads + l) 0 ≡ 0
  touches_none l h = Z.inside (p.heads + l) l refl (omega arith)

  module _ {w₂ : List ℕ} (A : Linked (λ i. touch_local touches i) (touch_count touches) p.locals p.heads p.nexts w₁ w₂) where
    pub ends_none : (l : ℕ) → l < p.locals → get_or w₂ (p.heads + p.locals + l) 0 ≡ 0
    ends_none l h =
        let q = L.heads_fit in
        A.outside (p.heads + p.locals + l) (inr (omega arith)) (inl (omega arith)) ∙ Z.inside (p.heads + p.locals + l) (p.locals + l) (omega arith) (omega arith)

    pub chained : {w₃ : List ℕ} → Linked (λ i. stop_local ends i) (stop_count ends) p.locals (p.heads + p.locals) (p.nexts + touch_count touches) w₂ w₃ → Chained p touches ends w₀ w₃
    chained B =
        let q = L.heads_fit in
        record {
          kept = record {
            len = B.len ∙ A.len ∙ Z.len;
            below = λ i h. B.outside i (inl (omega arith)) (inl (omega arith)) ∙ A.outside i (inl (omega arith)) (inl (omega arith)) ∙ Z.before i (omega arith);
            past = λ i h. B.outside i (inr (omega arith)) (inr (omega arith)) ∙ A.outside i (inr (omega arith)) (inr (omega arith)) ∙ Z.after i (omega arith);
          };
          chains = record {
            touches_chain = chain_kept A.chain (λ i a b. B.outside i (inl (omega arith)) (inl (omega arith))) (λ i a b. B.outside i (inr (omega arith)) (inl (omega arith)));
            ends_chain = B.chain;
          };
        }
