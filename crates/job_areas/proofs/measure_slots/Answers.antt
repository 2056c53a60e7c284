-- `measure_slots` meets its contract: the slots' regions fit, and their areas are measured.
use Rattle.job_areas.proofs.SolveLaws.{slots_done}
use Rattle.job_areas.proofs.measure_slots.Goals as goal

pub returns : goal.returns
returns c =
    let a = c.args in
    slots_done a.points a.blocks.now a.insts.now a.pieces.now a.assigned.now a.moves.now a.z a.r a.total c.requires
    c.slots-p.ensures c.slots.ensures
