-- `crowded` meets its contract.
use mathlib.Core.Path.{sym, ap}
use lib.Dec.{leb}
use mathlib.Core.Bool.{Bool, ◌||◌}
use Rattle.text_lines.proofs.job_rows.crowded.Goals as goal

pub returns : goal.returns
returns c = sym (ap (λ (b : Bool). b || leb c.args.room c.args.n) c.if-r.false)
