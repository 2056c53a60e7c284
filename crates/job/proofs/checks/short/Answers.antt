-- `short` meets its contract: one law for each way out.
use native.Mathlib.Omega.{arith}
use Rattle.job.proofs.CheckLaws.{short_work, short_cells, short_items, short_offsets, enough}
use Rattle.job.proofs.checks.short.Goals as goal

pub returns-then-work-needed : goal.returns-then-work-needed
returns-then-work-needed c =
    short_work c.args.z c.args.cells c.args.items c.args.offsets c.args.work (omega (arith, c.needed.ensures))

pub returns-then-cells-z : goal.returns-then-cells-z
returns-then-cells-z c =
    short_cells c.args.z c.args.cells c.args.items c.args.offsets c.args.work (omega (arith, c.needed.ensures)) (omega arith)

pub returns-then-items-z : goal.returns-then-items-z
returns-then-items-z c =
    short_items c.args.z c.args.cells c.args.items c.args.offsets c.args.work (omega (arith, c.needed.ensures)) (omega arith) (omega arith)

pub returns-then-offsets-z : goal.returns-then-offsets-z
returns-then-offsets-z c =
    short_offsets c.args.z c.args.cells c.args.items c.args.offsets c.args.work (omega (arith, c.needed.ensures)) (omega arith) (omega arith) (omega arith)

pub returns : goal.returns
returns c =
    enough c.args.z c.args.cells c.args.items c.args.offsets c.args.work (omega (arith, c.needed.ensures)) (omega arith) (omega arith) (omega arith)
