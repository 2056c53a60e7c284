-- By paths, of the exported job: where `slots_share` answers with no refusal's code, the rows that it wrote tell every item's area.
use Prim.Native.Nat.{ℕ, ◌^◌, ◌<◌}
use mathlib.Core.Path.{refl}
use mathlib.Core.List.{List}
use lib.IntN.{ℤ}
use Rattle.area_points.specs.Parts.{AreasTold}
use Rattle.job.proofs.Paths.{shared_by_paths}
use Rattle.job_codes.specs.Job.{JobCoded}
use Rattle.export_laws.proofs.Demand.{shared}
use Rattle.job_space.specs.Rows.{Rows}
use Rattle.fitting.specs.declared.Terms.{Terms}
use Rattle.job_checks.specs.Job.{job_of}

module _ {R : Rows} {t : Terms} {cells items areas counts work cells' items' areas' counts' work' : List ℕ} {offsets offsets' : List ℤ} {r : ℕ}
    (E : JobCoded R t cells items areas offsets counts work r cells' items' areas' offsets' counts' work') (h : r < 2 ^ 32) where
  pub export_by_paths : AreasTold (job_of R) 4 1 items' areas'
  export_by_paths = shared_by_paths (shared E h _ _ _ refl)
