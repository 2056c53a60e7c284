-- `rows` meets its contract: the rows, and behind them a row of zeros.
use native.Mathlib.Omega.{arith}
use Rattle.lent_areas.proofs.rows.Goals as goal

pub area_rows-requires : goal.area_rows-requires
area_rows-requires c = record { sound = c.requires.sound; quiet = c.requires.quiet.0 }

pub fill-requires : goal.fill-requires
fill-requires c = omega (arith, c.requires.quiet.1, c.area_rows.ensures.kept.len)

pub returns : goal.returns
returns c = record { mid = _; area = c.area_rows.ensures; zero = c.fill.ensures }
