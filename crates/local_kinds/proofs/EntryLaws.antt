-- The entry `reach`: the kinds one after another, and the ways out.
use Prim.Native.Nat.{ℕ, ◌+◌, ◌≤◌, ◌<◌}
use native.Mathlib.Omega.{arith}
use mathlib.Core.Path.{◌≡◌, refl, sym, ap, ◌∙◌}
use mathlib.Core.Bool.{Bool}
use mathlib.Core.List.{List, ◌++◌}
use lib.ListN.{length, set, drop, length-set}
use Rattle.refusals.specs.declared.Refusal.{Refusal}
use Rattle.words.specs.Regions.{cleared, row_words}
use Rattle.words.specs.Widths.{inst_count, operand_count, local_count, address_count}
use Rattle.words.proofs.RowLaws.{length_tabulate}
use Rattle.words.proofs.RegionLaws.{Done, done_start, done_more, done_all, region_front}
use Rattle.graph.specs.Inner.Work.{Within}
use Rattle.graph.proofs.Within.{within_refl, within_trans, within_wider}
use Rattle.carrying.specs.Carried.{kind_of}
use Rattle.insts.proofs.DealtLaws.{insts_length}
use Rattle.reach.specs.declared.Lay.{Lay}
use Rattle.reach.proofs.ReadyLaws.{mentions_count}
use Rattle.reach.specs.Inner.{Laid, Prepared, Readied}
use Rattle.reach.specs.Prepared.{code_of}
use Rattle.follow.specs.declared.Sizes.{Sizes}
use Rattle.follow.specs.declared.Followed.{Followed}
use Rattle.follow.specs.Inner.{FollowsAny, Ready}
use Rattle.follow.proofs.KeptLaws.{prepared_kept, ready_kept}
use Rattle.carry_checks.proofs.LayoutLaws.{cleared_all}
use Rattle.carry_checks.specs.Checks.{carry_space, carry_verdict}
use Rattle.local_kinds.specs.Entry.{kind_number, kinds_of, ReachTo}
use Rattle.local_kinds.specs.Inner.{Kinds, Measured}
use Rattle.carry_checks.specs.Inner.{used_of, Checked}
use Rattle.refusals.specs.Verdicts.{Bad, Fine}
use Rattle.std.specs.Prelude.{Ok, Err}

-- ---- the kinds of the first l locals

pub record Listing (insts addresses : List ℕ) (lay : Lay) (z : Sizes) (answer₀ answer w₀ w : List ℕ) (l : ℕ) : Type 0 where
  pub ready : Ready lay z insts addresses w₀
  pub room : z.locals ≤ length answer₀
  pub l_le : l ≤ z.locals
  pub kept : Within lay.queue (lay.queue + z.insts) w₀ w
  pub len : length answer ≡ length answer₀
  pub kinds : (operands crossings ends : List ℕ) → Prepared (code_of z.v insts operands crossings addresses ends) lay w₀ z.locals z.edges
      → Done answer₀ answer 0 z.locals (λ m. kind_number (kind_of (code_of z.v insts operands crossings addresses ends) m)) l

pub list_start : (insts addresses : List ℕ) (lay : Lay) (z : Sizes) (answer w : List ℕ) → Ready lay z insts addresses w → z.locals ≤ length answer
    → Listing insts addresses lay z answer answer w w 0
list_start insts addresses lay z answer w r h = record {
  ready = r;
  room = h;
  l_le = omega arith;
  kept = within_refl _ _ w;
  len = refl;
  kinds = λ operands crossings ends p. done_start answer 0 z.locals (λ m. kind_number (kind_of (code_of z.v insts operands crossings addresses ends) m)) (omega arith);
}

module _ {insts addresses : List ℕ} {lay : Lay} {z : Sizes} {answer₀ answer w₀ w : List ℕ} {l : ℕ} (d : Listing insts addresses lay z answer₀ answer w₀ w l) where
  pub list_ready : Ready lay z insts addresses w
  list_ready = ready_kept d.ready d.kept

  -- what following a local leaves, for any code
  any_kept : {w' : List ℕ} {f : Followed} {whole : Bool} (operands crossings ends : List ℕ) → l < z.locals → FollowsAny insts addresses lay z l whole w w' f
      → Prepared (code_of z.v insts operands crossings addresses ends) lay w₀ z.locals z.edges → f.kind ≡ kind_of (code_of z.v insts operands crossings addresses ends) l
  any_kept operands crossings ends h g p =
      (g.code operands crossings ends
      (prepared_kept d.ready.tables d.kept (code_of z.v insts operands crossings addresses ends) refl (insts_length insts operands ∙ sym (d.ready.chain l h).rows)
      (let q = mentions_count addresses in let c = (d.ready.chain l h).fits in omega arith) p)).kind

  pub list_more : {w' : List ℕ} {f : Followed} {whole : Bool} (x y : ℕ) → l < z.locals → FollowsAny insts addresses lay z l whole w w' f
      → x ≡ l → y ≡ kind_number f.kind → Listing insts addresses lay z answer₀ (set answer x y) w₀ w' (l + 1)
  list_more {w'} {f} x y h g ex ey = record {
    ready = d.ready;
    room = d.room;
    l_le = omega arith;
    kept = within_trans d.kept g.kept;
    len = simp length-set d.len;
    kinds = λ operands crossings ends p. done_more (d.kinds operands crossings ends p) x y h (omega arith) (ey ∙ ap kind_number (any_kept operands crossings ends h g p));
  }

  pub list_done : z.locals ≤ l → Kinds insts addresses lay z answer₀ answer w₀ w
  list_done h = record {
    kept = d.kept;
    len = d.len;
    kinds = λ operands crossings ends p. done_all (d.kinds operands crossings ends p) h;
  }

-- ---- measured

module _ (v : ℕ) (insts operands crossings locals addresses ends : List ℕ) (lay : Lay) (n : ℕ) {w₀ w₁ : List ℕ}
    (c : Checked v insts operands locals addresses ends (length w₀))
    (a : Laid lay v (inst_count insts) (operand_count operands) (local_count locals) (address_count addresses) (used_of (row_words v) (inst_count insts) (operand_count operands) (local_count locals) (address_count addresses)))
    (b : Readied (code_of v insts operands crossings addresses ends) lay (operand_count operands) (local_count locals) n w₀ w₁) where
  pub measured : {answer₀ answer w : List ℕ} → Kinds insts addresses lay (record { v = v; insts = inst_count insts; locals = local_count locals; edges = n }) answer₀ answer w₁ w
      → lay.queue + inst_count insts ≡ used_of (row_words v) (inst_count insts) (operand_count operands) (local_count locals) (address_count addresses)
      → Measured (code_of v insts operands crossings addresses ends) (local_count locals) (used_of (row_words v) (inst_count insts) (operand_count operands) (local_count locals) (address_count addresses)) answer₀ answer w₀ w
  measured k e = record {
    kept = within_trans (within_wider 0 _ (omega arith) (omega arith) b.kept) (within_wider 0 _ (omega arith) (omega arith) k.kept);
    kinds = k.kinds operands crossings ends b.prepared;
  }

-- ---- the two ways out

module _ (points v : ℕ) (blocks insts operands crossings locals addresses ends answer₀ work₀ : List ℕ) where
  pub reach_refused : (r : Refusal) (i : ℕ) → carry_verdict points v blocks insts operands crossings locals addresses ends (length answer₀) (local_count locals) (length work₀) ≡ Bad r i
      → ReachTo points v blocks insts operands crossings locals addresses ends answer₀ work₀ (Err (r, i)) answer₀ work₀
  reach_refused r i e = record { outcome = rw e; list = rw e; space = rw e }

  pub reach_given : {answer work₁ work : List ℕ} → carry_verdict points v blocks insts operands crossings locals addresses ends (length answer₀) (local_count locals) (length work₀) ≡ Fine
      → local_count locals ≤ length answer₀
      → Measured (code_of v insts operands crossings addresses ends) (local_count locals) (used_of (row_words v) (inst_count insts) (operand_count operands) (local_count locals) (address_count addresses)) answer₀ answer work₀ work₁
      → (words : ℕ) → words ≡ carry_space v blocks insts operands crossings locals addresses ends → work ≡ cleared words work₁
      → ReachTo points v blocks insts operands crossings locals addresses ends answer₀ work₀ (Ok (local_count locals)) answer work
  reach_given {answer} {work₁} {work} e h m words ew c = record {
    outcome = rw e;
    list = rw e (region_front m.kinds h ∙ ap (λ (x : ℕ). kinds_of (code_of v insts operands crossings addresses ends) (local_count locals) ++ drop x answer₀) (sym (length_tabulate (local_count locals) _)));
    space = rw e (c ∙ ap (λ (x : ℕ). cleared x work₁) ew
        ∙ cleared_all (carry_space v blocks insts operands crossings locals addresses ends) _ work₀ work₁ (omega arith) m.kept);
  }
