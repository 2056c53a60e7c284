-- `job_spots::ends` meets its contract: the ends are put there, then sorted.
use Rattle.job_spots.proofs.SpotLaws.{sorted}
use Rattle.job_spots.proofs.ends.Goals as goal

pub returns : goal.returns
returns c = sorted _ _ _ _ c.of_ends-n.ensures c.requires.room c.sort_part.ensures
