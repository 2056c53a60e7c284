-- `part_outside` meets its contract: an absent part is not read.
use Rattle.query_checks.proofs.CheckLaws.{out_absent, out_present}
use Rattle.query_checks.proofs.part_outside.Goals as goal

pub returns-then-present-eq0 : goal.returns-then-present-eq0
returns-then-present-eq0 c = let a = c.args in out_absent a.ranges a.present a.first a.count c.if-present-eq0.true

pub returns : goal.returns
returns c = let a = c.args in out_present a.ranges a.present a.first a.count c.if-present-eq0.false
