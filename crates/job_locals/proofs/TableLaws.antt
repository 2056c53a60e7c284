-- The tables that all walks read: the code prepared, then the chains of the ends.
use Prim.Native.Nat.{ℕ, ◌+◌}
use native.Mathlib.Omega.{arith}
use mathlib.Core.Path.{refl, ◌∙◌}
use mathlib.Core.Logic.{inl, inr}
use mathlib.Core.List.{List}
use Rattle.words.specs.Inner.{Region, mention_local}
use Rattle.words.specs.Widths.{operand_count, end_count}
use Rattle.graph.specs.Inner.Work.{Within}
use Rattle.insts.proofs.DealtLaws.{insts_length}
use Rattle.reach.specs.declared.Lay.{Lay}
use Rattle.reach.specs.Prepared.{code_of}
use Rattle.reach.specs.Inner.{Readied}
use Rattle.reach.proofs.ReadyLaws.{mentions_count}
use Rattle.follow.proofs.KeptLaws.{made_ready, prepared_kept, ready_kept}
use Rattle.follow.specs.Inner as following
use Rattle.chains.specs.Inner.{Linked}
use Rattle.job_spots.specs.declared.Places.{Places}
use Rattle.job_locals.specs.Inner.{sizes, TablesAsked, TablesIn}

module _ (insts operands crossings addresses ends : List ℕ) (v locals : ℕ) (lay : Lay) (p : Places) {w₀ w₁ : List ℕ} {n : ℕ} (T : TablesAsked insts operands addresses ends v locals lay p w₀)
    (R : Readied (code_of v insts operands crossings addresses ends) lay (operand_count operands) locals n w₀ w₁) where
  walks : following.Ready lay (sizes v insts locals n) insts addresses w₁
  walks = made_ready insts operands crossings addresses ends lay (sizes v insts locals n) (operand_count operands) R refl T.laid T.registers T.few_insts T.found

  module _ {w₂ w : List ℕ} (Z : Region w₁ w₂ p.heads locals (λ _. 0)) (L : Linked (λ i. mention_local ends i) (end_count ends) locals p.heads p.nexts w₂ w) where
    since : Within lay.queue (p.nexts + end_count ends) w₁ w
    since = record {
      len = L.len ∙ Z.len;
      below = λ i h. L.outside i (inl (omega (arith, T.queue_fit))) (inl (omega (arith, T.queue_fit, T.heads_fit))) ∙ Z.before i (omega (arith, T.queue_fit));
      past = λ i h. L.outside i (inr (omega (arith, T.heads_fit))) (inr h) ∙ Z.after i (omega (arith, T.heads_fit));
    }

    pub tables_in : TablesIn insts operands crossings addresses ends v locals lay p w₀ w n
    tables_in = record {
      kept = record {
        len = since.len ∙ R.kept.len;
        below = λ i h. since.below i (let l = T.laid in omega arith) ∙ R.kept.below i h;
        past = λ i h. since.past i h ∙ R.kept.past i (omega (arith, T.queue_fit, T.heads_fit));
      };
      walks = ready_kept walks since;
      stops = L.chain;
      prepared = prepared_kept walks.tables since (code_of v insts operands crossings addresses ends) refl (insts_length insts operands)
          (let m = mentions_count addresses in let l = T.laid in omega arith) R.prepared;
    }
