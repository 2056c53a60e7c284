-- `number` meets its contract: `-` is taken for what it stands for.
use mathlib.Core.Path.{sym}
use Rattle.text_lines.proofs.PutLaws.{meant_dash, meant_number}
use Rattle.text_lines.proofs.job_rows.number.Goals as goal

pub returns-then-f-eq-DASH : goal.returns-then-f-eq-DASH
returns-then-f-eq-DASH c = sym (meant_dash c.args.d c.args.f c.if-f-eq-DASH.true)

pub returns : goal.returns
returns c = sym (meant_number c.args.d c.args.f c.if-f-eq-DASH.false)
