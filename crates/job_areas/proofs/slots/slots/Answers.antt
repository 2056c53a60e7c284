-- `slots` meets its contract: registers, places and moves, then the areas.
use Rattle.job_areas.proofs.SlotLaws.{slots_ready, slots_in}
use Rattle.job_areas.proofs.slots.slots.Goals as goal

pub measure_slots-requires : goal.measure_slots-requires
measure_slots-requires c =
    let a = c.args in record {
      ready = slots_ready a.points a.blocks.now a.insts.now a.moves.now a.pieces.now a.assigned.now a.p a.keys a.held a.o a.first a.total c.requires
          c.held.ensures
          c.table.ensures c.chains.ensures;
      pieces_bound = c.requires.few;
    }

pub returns : goal.returns
returns c =
    let a = c.args in
    slots_in a.points a.blocks.now a.insts.now a.moves.now a.pieces.now a.assigned.now a.p a.keys a.held a.o a.first a.total c.requires
    c.held.ensures
    c.table.ensures c.chains.ensures
    c.measure_slots.ensures
