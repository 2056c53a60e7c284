-- The records of the thirteen groups: where they stand in the reader's list, and that the job and what is printed depend on them only.
use Prim.Native.Nat.{ℕ, ◌+◌, ◌-◌, ◌*◌, ◌≤◌, ◌<◌}
use native.Mathlib.Omega.{arith}
use native.Mathlib.Nat.{zero-add, mul-le-mul_left}
use mathlib.Core.Path.{◌≡◌, refl, sym, ap, ◌∙◌}
use mathlib.Core.Bool.{Bool}
use mathlib.Core.List.{List}
use lib.IntN.{ℤ}
use lib.ListN.{length, get_or, take, drop, replicate, length-replicate}
use lib.Dec.{leb, leb→le}
use Rattle.words.specs.Inner.{part}
use Rattle.words.proofs.RegionLaws.{get_d_part, lent_part}
use Rattle.areas.specs.Job.{Checked}
use Rattle.job.specs.Entry.{SharedAs}
use Rattle.job.proofs.CheckLaws.{granted}
use Rattle.text_grammar.specs.Groups.{group_at, base_at, group_count, allowed, row_numbers, head_group, block_group, edge_group, inst_group, operand_group, crossing_group, local_group, slot_group, address_group, end_group, piece_group, assigned_group, move_group}
use Rattle.text_grammar.proofs.TableLaws.{at}
use Rattle.job_space.specs.Rows.{rows_of}
use Rattle.planning.specs.Groups.{rows_for, terms_for, job, lent_for, SharedFor}
use Rattle.planning.specs.Inner.{numbers_at, Few}
use Rattle.planning.specs.Program.{printed_for}
use Rattle.refusals.specs.Verdicts.{Fine, Verdict}
use Rattle.refusals.specs.declared.Refused.{Refused}
use Rattle.wants.specs.declared.Tally.{Tally}
use Rattle.std.specs.Prelude.{Result}

-- ---- in the reader's list

pub head_at_lem : (rows counts : List ℕ) → Few counts → (i : ℕ) → i < 3 → get_or rows i 0 ≡ get_or (numbers_at rows counts head_group) i 0
head_at_lem rows counts F i h =
    let n = F.head in
    ap (λ (k : ℕ). get_or rows k 0) (sym (zero-add i)) ∙ sym (get_d_part 0 (3 * get_or counts head_group 0) rows i (omega arith))

inside_entry : ℕ → Bool
inside_entry k = leb (base_at k + (group_at k).width * allowed) row_numbers

-- where a group's records end
ends_in : (k n : ℕ) → k < group_count → n ≤ allowed → base_at k + (group_at k).width * n ≤ row_numbers
unfolding inside_entry
ends_in k n h l =
    let a = leb→le (base_at k + (group_at k).width * allowed) row_numbers (at group_count inside_entry tt k h) in
    let b : (group_at k).width * n ≤ (group_at k).width * allowed = mul-le-mul_left (group_at k).width l in
    omega arith

-- by the code's base, width and count
module _ (k : ℕ) {b w n m : ℕ} (be : b ≡ base_at k) (we : w ≡ (group_at k).width) (ne : n ≡ m) where
  pub records_in : k < group_count → n ≤ allowed → b + w * n ≤ row_numbers
  records_in h l = let a = ends_in k n h l in let e = ap (λ (x : ℕ). x * n) we in omega arith

  pub records_are : (rows : List ℕ) → take (b + w * n - b) (drop b rows) ≡ part (base_at k) ((group_at k).width * m) rows
  records_are rows =
      lent_part rows b (b + w * n) (w * n) refl
      ∙ ap (λ (x : ℕ). part x (w * n) rows) be
      ∙ ap (λ (x : ℕ). part (base_at k) (x * n) rows) we
      ∙ ap (λ (x : ℕ). part (base_at k) ((group_at k).width * x) rows) ne

-- the head's numbers
pub reads_in : (rows : List ℕ) (i : ℕ) → i < 3 → length rows ≡ row_numbers → i < length rows
reads_in rows i h e = omega arith

-- ---- by their numbers only

-- the job of lists that are the groups'
pub shared_for : (group : ℕ → List ℕ) {p v b : ℕ} {g1 g2 g3 g4 g5 g6 g7 g8 g9 g10 g11 g12 : List ℕ} {cells items areas work cells' items' areas' work' : List ℕ} {offsets offsets' : List ℤ} {r : (Result Tally Refused)}
    → p ≡ (rows_for group).points → v ≡ (rows_for group).v → b ≡ (terms_for group).budget
    → g1 ≡ group block_group → g2 ≡ group edge_group → g3 ≡ group inst_group → g4 ≡ group operand_group → g5 ≡ group crossing_group → g6 ≡ group local_group
    → g7 ≡ group slot_group → g8 ≡ group address_group → g9 ≡ group end_group → g10 ≡ group piece_group → g11 ≡ group assigned_group → g12 ≡ group move_group
    → SharedAs (rows_of p v g1 g2 g3 g4 g5 g6 g7 g8 g9 g10 g11 g12) (record { budget = b }) cells items areas offsets work r cells' items' areas' offsets' work'
    → SharedFor group cells items areas offsets work r cells' items' areas' offsets' work'
shared_for group a b c e1 e2 e3 e4 e5 e6 e7 e8 e9 e10 e11 e12 E =
    rw (sym a, sym b, sym c, sym e1, sym e2, sym e3, sym e4, sym e5, sym e6, sym e7, sym e8, sym e9, sym e10, sym e11, sym e12) E

-- where nothing is refused, the job is as the whole job asks
pub checked_for : (group : ℕ → List ℕ) (cells items areas offsets work : ℕ) → lent_for group cells items areas offsets work ≡ Fine → Checked (job group)
checked_for group cells items areas offsets work e =
    (granted (rows_for group) (terms_for group)
    cells items areas offsets (replicate work 0)
    (ap (lent_for group cells items areas offsets) (length-replicate {A = ℕ} work 0) ∙ e)).lent.passed.checked

pub same_printed : (g h : ℕ → List ℕ) (v : Verdict)
    → g head_group ≡ h head_group → g block_group ≡ h block_group → g edge_group ≡ h edge_group → g inst_group ≡ h inst_group → g operand_group ≡ h operand_group
    → g crossing_group ≡ h crossing_group → g local_group ≡ h local_group → g slot_group ≡ h slot_group → g address_group ≡ h address_group
    → g end_group ≡ h end_group → g piece_group ≡ h piece_group → g assigned_group ≡ h assigned_group → g move_group ≡ h move_group → printed_for g v ≡ printed_for h v
unfolding printed_for
same_printed g h v e0 e1 e2 e3 e4 e5 e6 e7 e8 e9 e10 e11 e12 = rw (e0, e1, e2, e3, e4, e5, e6, e7, e8, e9, e10, e11, e12) refl
