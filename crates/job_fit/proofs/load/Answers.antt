-- `load` meets its contract: the locals, then the slots.
use native.Mathlib.Omega.{arith}
use Rattle.job_fit.proofs.FitLaws.{both_loaded}
use Rattle.job_fit.proofs.load.Goals as goal

pub returns : goal.returns
returns c =
    both_loaded c.args.locals.now c.args.slots.now c.load_locals.ensures c.load_slots.ensures (omega arith)
