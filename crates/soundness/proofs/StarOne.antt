-- ★1, of the definitions: the job that the lines make, its checks and its plan.
use mathlib.Core.Path.{◌≡◌, refl}
use mathlib.Core.Option.{some}
use mathlib.Core.List.{[], ◌∷◌}
use lib.IntN.{negsuc}
use Rattle.refusals.specs.Verdicts.{first, in_order, scan}
use Rattle.words.specs.Rows.{tabulate}
use Rattle.ranges.specs.Points.{range}
use Rattle.ranges.specs.Merged.{insert, sort, join, merged, joined, meets, clashes}
use Rattle.graph.specs.Line.{blocks_of, jumps_of, place_in, used_before, bad_block}
use Rattle.graph.specs.Rounds.{fed, round}
use Rattle.carrying.specs.Lists.{any, keep, gather, below}
use Rattle.carrying.specs.Insts.{dealt, insts_of, each_address}
use Rattle.carrying.specs.Carried.{mentions_of, carried, kind_of, touches_of}
use Rattle.carrying.specs.Checks.{bad_inst}
use Rattle.areas.specs.Slots.{off_line}
use Rattle.areas.specs.Blocks.{holding}
use Rattle.areas.specs.Pieces.{join_each, line_pieces, plain_area}
use Rattle.areas.specs.Job.{Job, locals_of, Checked, item_area}
use Rattle.fitting.specs.Wants.{insert as insertItem, ordered}
use Rattle.fitting.specs.Plan.{lowest, fit}
use Rattle.fitting.specs.Layout.{rooms_in, round_up, depth_before, depth_of, offsets_of}
use Rattle.fitting.specs.Queries.{count_in, local, shared, saved, answered}
use Rattle.soundness.specs.Demand.{wants_of, job_plan}

abbrev pub star_1_job : Job
star_1_job = record {
  points = 20;
  blocks = blocks_of (0 ∷ 0 ∷ 19 ∷ []);
  jumps = jumps_of [];
  code = record {
    numbered = 0;
    insts = insts_of (1 ∷ 0 ∷ 2 ∷ 3 ∷ 0 ∷ 0 ∷ 256 ∷ 256 ∷ 0 ∷ 1 ∷ 0 ∷ 6 ∷ 7 ∷ 0 ∷ 0 ∷ 256 ∷ 256 ∷ 0 ∷ []) [];
    crossings = [];
    addresses = mentions_of (0 ∷ 0 ∷ 1 ∷ 1 ∷ []);
    ends = mentions_of [];
  };
  locals = locals_of (8 ∷ 8 ∷ 4 ∷ 4 ∷ []);
  slots = [];
  pieces = [];
  assigned = [];
  moves = [];
}

pub star_1_checked : Checked star_1_job
unfolding first in_order scan tabulate place_in used_before bad_block bad_inst off_line any dealt
star_1_checked = refl

pub star_1_areas : (item_area star_1_job 0 ≡ some (range 2 3 ∷ [])) × (item_area star_1_job 1 ≡ some (range 6 7 ∷ []))
unfolding insert sort join merged joined fed round any keep gather below dealt each_address carried kind_of touches_of tabulate holding join_each line_pieces plain_area
star_1_areas = (refl, refl)

-- `C,0,8,8`, `L,0,0`, `L,1,0`, `G,0,2,3`, `G,1,6,7`, `T,1,1,1,8`; the cell lies at −8
pub record Star1 : Type 0 where
  pub cells : (job_plan star_1_job 1048576).cells ≡ (record { size = 8; align = 8; area = some (range 2 3 ∷ range 6 7 ∷ []) } ∷ [])
  pub locals : (local (answered (wants_of star_1_job) 2 (job_plan star_1_job 1048576)) 0 ≡ some 0) × (local (answered (wants_of star_1_job) 2 (job_plan star_1_job 1048576)) 1 ≡ some 0)
  pub areas : (shared (answered (wants_of star_1_job) 2 (job_plan star_1_job 1048576)) 0 ≡ some (range 2 3 ∷ []))
      × (shared (answered (wants_of star_1_job) 2 (job_plan star_1_job 1048576)) 1 ≡ some (range 6 7 ∷ []))
  pub counts : (saved (answered (wants_of star_1_job) 2 (job_plan star_1_job 1048576)) ≡ 1) × ((job_plan star_1_job 1048576).probes ≡ 1) × (depth_of (rooms_in (job_plan star_1_job 1048576)) ≡ 8)
  pub offsets : offsets_of (rooms_in (job_plan star_1_job 1048576)) ≡ negsuc 7 ∷ []

pub star_1 : Star1
unfolding insert sort join merged joined meets clashes fed round any keep gather below dealt each_address carried kind_of touches_of tabulate holding join_each line_pieces plain_area insertItem ordered lowest fit round_up depth_before count_in
star_1 = record { cells = refl; locals = (refl, refl); areas = (refl, refl); counts = (refl, refl, refl); offsets = refl }
