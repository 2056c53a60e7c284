-- `job_spots::touches` meets its contract: the registers' pieces, then the entries' points.
use Rattle.job_spots.proofs.SpotLaws.{still_linked, both}
use Rattle.job_spots.proofs.touches.Goals as goal

pub of_entries-requires : goal.of_entries-requires
of_entries-requires c =
    still_linked _ _ _ _ _ _ _ _ _ c.requires.linked.0 c.requires.linked.1 c.of_registers-n.ensures

pub returns : goal.returns
returns c =
    both _ _ _ _ _ _ _ _ _ c.requires.linked.0 c.requires.linked.1 c.of_registers-n.ensures c.of_entries.ensures
