-- The corners of number 1, by computation: each limit of the job's other records at it and one past, by how many numbers are lent; a row cut short is no count.
use Prim.Native.Nat.{◌*◌}
use mathlib.Core.Path.{◌≡◌, refl}
use Rattle.refusals.specs.declared.Refusal.TheVariants.{Count}
use Rattle.refusals.specs.Verdicts.{first, Bad, Fine}
use Rattle.job_checks.specs.Job.{other_counts}

-- "edges 16,384; slots 2,048; live pieces, assignments, moves and the area list 65,536 each"
pub limits : (other_counts (2 * 16384) 2048 (3 * 65536) (2 * 65536) (4 * 65536) (2 * 65536) ≡ Fine) × (other_counts (2 * 16385) 0 0 0 0 0 ≡ Bad Count 0) × (other_counts 0 2049 0 0 0 0 ≡ Bad Count 0)
    × (other_counts 0 0 (3 * 65537) 0 0 0 ≡ Bad Count 0) × (other_counts 0 0 0 (2 * 65537) 0 0 ≡ Bad Count 0) × (other_counts 0 0 0 0 (4 * 65537) 0 ≡ Bad Count 0) × (other_counts 0 0 0 0 0 (2 * 65537) ≡ Bad Count 0)
unfolding first other_counts
limits = (refl, refl, refl, refl, refl, refl, refl)

pub whole : (other_counts 3 0 0 0 0 0 ≡ Bad Count 0) × (other_counts 0 0 4 0 0 0 ≡ Bad Count 0) × (other_counts 0 0 0 3 0 0 ≡ Bad Count 0) × (other_counts 0 0 0 0 6 0 ≡ Bad Count 0) × (other_counts 0 0 0 0 0 3 ≡ Bad Count 0) × (other_counts 2 1 3 2 4 2 ≡ Fine)
unfolding first other_counts
whole = (refl, refl, refl, refl, refl, refl)
