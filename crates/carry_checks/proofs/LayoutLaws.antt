-- The regions as they are laid are ready for a walk once prepared; the work space after an answer.
use Prim.Native.Nat.{ℕ, ◌+◌, ◌≤◌}
use native.Mathlib.Omega.{arith}
use mathlib.Core.Path.{◌≡◌, refl, sym, ap, ◌∙◌}
use mathlib.Core.List.{List, ◌++◌}
use lib.ListN.{length, drop, replicate, length-replicate}
use Rattle.words.specs.Regions.{cleared, row_words}
use Rattle.words.specs.Widths.{inst_count, operand_count, local_count, address_count}
use Rattle.words.proofs.RegionLaws.{drop_same}
use Rattle.graph.specs.Inner.Work.{Within}
use Rattle.reach.specs.declared.Lay.{Lay}
use Rattle.reach.specs.Inner.{Laid, Readied}
use Rattle.reach.specs.Prepared.{code_of}
use Rattle.follow.specs.Inner.{Ready}
use Rattle.follow.proofs.KeptLaws.{made_ready}
use Rattle.carry_checks.specs.Inner.{used_of, Checked}

pub laid_longer : {lay : Lay} {v i o l a n : ℕ} → Laid lay v i o l a n → (m : ℕ) → n ≤ m → Laid lay v i o l a m
laid_longer d m h = record {
  escapes_fits = d.escapes_fits;
  dead_fits = d.dead_fits;
  seen_fits = d.seen_fits;
  defs_fits = d.defs_fits;
  firsts_fits = d.firsts_fits;
  edges_fits = d.edges_fits;
  heads_fits = d.heads_fits;
  nexts_fits = d.nexts_fits;
  ended_fits = d.ended_fits;
  queue_fits = (let q = d.queue_fits in omega arith);
}

module _ (v : ℕ) (insts operands crossings locals addresses ends : List ℕ) (lay : Lay) (n : ℕ) {w₀ w₁ : List ℕ}
    (c : Checked v insts operands locals addresses ends (length w₀))
    (a : Laid lay v (inst_count insts) (operand_count operands) (local_count locals) (address_count addresses) (used_of (row_words v) (inst_count insts) (operand_count operands) (local_count locals) (address_count addresses)))
    (b : Readied (code_of v insts operands crossings addresses ends) lay (operand_count operands) (local_count locals) n w₀ w₁) where
  pub measure_ready : Ready lay (record { v = v; insts = inst_count insts; locals = local_count locals; edges = n }) insts addresses w₁
  measure_ready =
      made_ready insts operands crossings addresses ends lay (record { v = v; insts = inst_count insts; locals = local_count locals; edges = n }) (operand_count operands) b refl
      (laid_longer a (length w₀) c.room) c.registers c.few_insts c.found

-- the work space after an answer
pub cleared_all : (words used : ℕ) (w₀ w₁ : List ℕ) → used ≤ words → Within 0 used w₀ w₁ → cleared words w₁ ≡ replicate words 0 ++ drop (length {A = ℕ} (replicate words 0)) w₀
cleared_all words used w₀ w₁ h k =
    ap (λ (t : List ℕ). replicate words 0 ++ t) (drop_same words w₀ w₁ k.len (λ i g. k.past i (omega arith)))
    ∙ ap (λ (x : ℕ). replicate words 0 ++ drop x w₀) (sym (length-replicate words 0))
