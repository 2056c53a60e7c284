-- `short` meets its contract: one law for each way out.
use native.Mathlib.Omega.{arith}
use Rattle.item_areas.proofs.CheckLaws.{short_work, short_items, enough}
use Rattle.item_areas.proofs.checks.short.Goals as goal

pub returns-then-work-needed : goal.returns-then-work-needed
returns-then-work-needed c =
    short_work c.args.z c.args.items c.args.work (omega (arith, c.needed.ensures))

pub returns-then-items-z : goal.returns-then-items-z
returns-then-items-z c =
    short_items c.args.z c.args.items c.args.work (omega (arith, c.needed.ensures)) (omega arith)

pub returns : goal.returns
returns c =
    enough c.args.z c.args.items c.args.work (omega (arith, c.needed.ensures)) (omega arith)
