use Rattle.drawing.proofs.AxisLaws.{bar_made}
use Rattle.std.proofs.Common.{rules}
use Rattle.drawing.proofs.bar_of.Goals as goal

pub returns : goal.returns
returns c = bar_made c.place-x.ensures c.place-stop.ensures (search rules)
