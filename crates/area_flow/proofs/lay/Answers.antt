-- `area_flow::lay` meets its contract.
use Rattle.area_flow.proofs.lay.Goals as goal

pub returns-in-Predecessors : goal.returns-in-Predecessors
returns-in-Predecessors c = rw c.in-Predecessors.is c.predecessors.ensures

pub returns-in-Successors : goal.returns-in-Successors
returns-in-Successors c = rw c.in-Successors.is c.successors.ensures
