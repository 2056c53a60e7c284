-- The claim is not empty: over ★1's plan, which has both locals in one cell, a walk whose read is alike after its mate wrote, and one whose read is not;
-- and a job and a map with all in cell 0 for which the claim is false.
use Prim.Native.Nat.{ℕ, zero, suc, ◌<◌}
use native.Mathlib.Omega.{arith}
use mathlib.Core.Path.{◌≡◌, refl}
use mathlib.Core.Logic.{inl}
use mathlib.Core.Bool.{false}
use mathlib.Core.Option.{Option, some, none, some-injective}
use mathlib.Core.List.Memᴰ
use mathlib.Core.List.{List, [], ◌∷◌}
use lib.ListN.{get_elem?}
use lib.Dec.{lit<, lit≤}
use Rattle.refusals.specs.Verdicts.{first as first_of, in_order, scan}
use Rattle.words.specs.Rows.{tabulate}
use Rattle.ranges.specs.Points.{range}
use Rattle.ranges.specs.Merged.{insert, sort, join, merged, joined, meets, clashes}
use Rattle.graph.specs.Line.{blocks_of, jumps_of, place_in, used_before, bad_block}
use Rattle.graph.specs.Rounds.{fed, round}
use Rattle.carrying.specs.Lists.{any, keep, gather, below}
use Rattle.carrying.specs.Insts.{dealt, insts_of, each_address}
use Rattle.carrying.specs.Carried.{mentions_of, carried, kind_of, touches_of}
use Rattle.carrying.specs.Checks.{bad_inst}
use Rattle.areas.specs.Slots.{off_line}
use Rattle.areas.specs.Blocks.{holding}
use Rattle.areas.specs.Pieces.{join_each, line_pieces, plain_area}
use Rattle.areas.specs.Job.{Job, locals_of, Checked}
use Rattle.fitting.specs.Wants.{insert as insertItem, ordered}
use Rattle.fitting.specs.Plan.{lowest, fit}
use Rattle.soundness.specs.Walks.{plain, Step, next, read, write, at, mark, LegalStep, Legal, empties, private, shared, Alike}
use Rattle.soundness.specs.Demand.{access_of, frame_of, job_plan, sizes_in, AsPrivate}
use Rattle.soundness.proofs.Demand.{demand_3}
use Rattle.soundness.proofs.StarOne.{star_1_job, star_1_checked}

-- ---- ★1's plan

one_cell : ((job_plan star_1_job 1048576).cell 0 ≡ 0) × ((job_plan star_1_job 1048576).cell 1 ≡ 0)
unfolding insert sort join merged joined meets clashes fed round any keep gather below dealt each_address carried kind_of touches_of tabulate holding join_each line_pieces plain_area insertItem ordered lowest fit
one_cell = (refl, refl)

touched_at : (access_of star_1_job 0 ≡ plain (range 2 3 ∷ [])) × (access_of star_1_job 1 ≡ plain (range 6 7 ∷ []))
unfolding fed round any keep gather below dealt each_address carried kind_of touches_of tabulate
touched_at = (refl, refl)

-- local 0 is written at point 2, local 1 is written and read at point 6
abbrev alike_steps : List Step
alike_steps = next ∷ next ∷ write 0 0 ∷ next ∷ next ∷ next ∷ next ∷ write 1 0 ∷ read 1 0 ∷ []

alike_legal : (n : ℕ) → LegalStep (frame_of star_1_job) 0 alike_steps (get_elem? alike_steps n) n
unfolding at fed round any keep gather below dealt each_address carried kind_of touches_of tabulate
alike_legal zero = lit< tt
alike_legal (suc zero) = lit< tt
alike_legal (suc (suc zero)) = record { item = lit< tt; byte = lit< tt; there = (_, Memᴰ.head refl, lit≤ tt, lit≤ tt) }
alike_legal (suc (suc (suc zero))) = lit< tt
alike_legal (suc (suc (suc (suc zero)))) = lit< tt
alike_legal (suc (suc (suc (suc (suc zero))))) = lit< tt
alike_legal (suc (suc (suc (suc (suc (suc zero)))))) = lit< tt
alike_legal (suc (suc (suc (suc (suc (suc (suc zero))))))) = record { item = lit< tt; byte = lit< tt; there = (_, Memᴰ.head refl, lit≤ tt, lit≤ tt) }
alike_legal (suc (suc (suc (suc (suc (suc (suc (suc zero)))))))) = record { item = lit< tt; byte = lit< tt; there = (_, Memᴰ.head refl, lit≤ tt, lit≤ tt) }
alike_legal (suc (suc (suc (suc (suc (suc (suc (suc (suc n))))))))) = tt

pub alike_walk : Legal (frame_of star_1_job) 0 alike_steps
unfolding tabulate
alike_walk = record { begins = lit< tt; steps = alike_legal }

-- both marks are the write's place in the list
pub alike_marks : (private (frame_of star_1_job) 0 alike_steps 8 1 0 ≡ some 7) × (shared (frame_of star_1_job) 0 alike_steps (λ i. 0) 8 0 0 ≡ some 7)
unfolding mark
alike_marks = (refl, refl)

-- local 0 is written at point 2, and local 1 is read at point 6 before any write of it
abbrev unalike_steps : List Step
unalike_steps = next ∷ next ∷ write 0 0 ∷ next ∷ next ∷ next ∷ next ∷ read 1 0 ∷ []

unalike_legal : (n : ℕ) → LegalStep (frame_of star_1_job) 0 unalike_steps (get_elem? unalike_steps n) n
unfolding at fed round any keep gather below dealt each_address carried kind_of touches_of tabulate
unalike_legal zero = lit< tt
unalike_legal (suc zero) = lit< tt
unalike_legal (suc (suc zero)) = record { item = lit< tt; byte = lit< tt; there = (_, Memᴰ.head refl, lit≤ tt, lit≤ tt) }
unalike_legal (suc (suc (suc zero))) = lit< tt
unalike_legal (suc (suc (suc (suc zero)))) = lit< tt
unalike_legal (suc (suc (suc (suc (suc zero))))) = lit< tt
unalike_legal (suc (suc (suc (suc (suc (suc zero)))))) = lit< tt
unalike_legal (suc (suc (suc (suc (suc (suc (suc zero))))))) = record { item = lit< tt; byte = lit< tt; there = (_, Memᴰ.head refl, lit≤ tt, lit≤ tt) }
unalike_legal (suc (suc (suc (suc (suc (suc (suc (suc n)))))))) = tt

pub unalike_walk : Legal (frame_of star_1_job) 0 unalike_steps
unfolding tabulate
unalike_walk = record { begins = lit< tt; steps = unalike_legal }

pub unalike_marks : (private (frame_of star_1_job) 0 unalike_steps 7 1 0 ≡ none) × (shared (frame_of star_1_job) 0 unalike_steps (λ i. 0) 7 0 0 ≡ some 2)
unfolding mark fed round any keep gather below dealt each_address carried kind_of touches_of tabulate
unalike_marks = (refl, refl)

-- ---- all in cell 0: two locals at 2–6 and 4–8

abbrev pub clashing : Job
clashing = record {
  points = 20;
  blocks = blocks_of (0 ∷ 0 ∷ 19 ∷ []);
  jumps = jumps_of [];
  code = record {
    numbered = 0;
    insts = insts_of (1 ∷ 0 ∷ 2 ∷ 6 ∷ 0 ∷ 0 ∷ 256 ∷ 256 ∷ 0 ∷ 1 ∷ 0 ∷ 4 ∷ 8 ∷ 0 ∷ 0 ∷ 256 ∷ 256 ∷ 0 ∷ []) [];
    crossings = [];
    addresses = mentions_of (0 ∷ 0 ∷ 1 ∷ 1 ∷ []);
    ends = mentions_of [];
  };
  locals = locals_of (8 ∷ 8 ∷ 4 ∷ 4 ∷ []);
  slots = [];
  pieces = [];
  assigned = [];
  moves = [];
}

pub clashing_checked : Checked clashing
unfolding first_of in_order scan tabulate place_in used_before bad_block bad_inst off_line any dealt
clashing_checked = refl

abbrev clash_steps : List Step
clash_steps = next ∷ next ∷ next ∷ next ∷ write 0 0 ∷ write 1 0 ∷ read 0 0 ∷ []

clash_legal : (n : ℕ) → LegalStep (frame_of clashing) 0 clash_steps (get_elem? clash_steps n) n
unfolding at fed round any keep gather below dealt each_address carried kind_of touches_of tabulate
clash_legal zero = lit< tt
clash_legal (suc zero) = lit< tt
clash_legal (suc (suc zero)) = lit< tt
clash_legal (suc (suc (suc zero))) = lit< tt
clash_legal (suc (suc (suc (suc zero)))) = record { item = lit< tt; byte = lit< tt; there = (_, Memᴰ.head refl, lit≤ tt, lit≤ tt) }
clash_legal (suc (suc (suc (suc (suc zero))))) = record { item = lit< tt; byte = lit< tt; there = (_, Memᴰ.head refl, lit≤ tt, lit≤ tt) }
clash_legal (suc (suc (suc (suc (suc (suc zero)))))) = record { item = lit< tt; byte = lit< tt; there = (_, Memᴰ.head refl, lit≤ tt, lit≤ tt) }
clash_legal (suc (suc (suc (suc (suc (suc (suc n))))))) = tt

pub clash_walk : Legal (frame_of clashing) 0 clash_steps
unfolding tabulate
clash_walk = record { begins = lit< tt; steps = clash_legal }

pub all_in_cell_0_refused : Alike (frame_of clashing) 0 clash_steps (λ i. 0) → ⊥
unfolding mark
all_in_cell_0_refused A = apart ((A 6 0 0 refl).1 (inl (4, lit< tt, refl, quiet)))
  where
    quiet : (m : ℕ) → 4 < m → m < 6 → empties (frame_of clashing) 0 clash_steps 0 m ≡ false
    quiet m h k =
        let z : m ≡ 5 = omega arith in
        rw z

    apart : Path (Option ℕ) (some 4) (some 5) → ⊥
    apart e =
        let z : ◌≡◌ {A = ℕ} 4 5 = some-injective 4 5 e in
        omega arith

-- ---- the theorem on ★1's walks: the claim, the machine's, and the byte's place in its cell

pub alike_proved : AsPrivate star_1_job (job_plan star_1_job 1048576).cell (sizes_in (job_plan star_1_job 1048576)) 0 alike_steps
alike_proved = demand_3 star_1_job star_1_checked 1048576 0 alike_steps alike_walk

pub unalike_proved : AsPrivate star_1_job (job_plan star_1_job 1048576).cell (sizes_in (job_plan star_1_job 1048576)) 0 unalike_steps
unalike_proved = demand_3 star_1_job star_1_checked 1048576 0 unalike_steps unalike_walk
