-- `accepted` meets its contract.
use mathlib.Core.Path.{sym, ap, ◌∙◌}
use lib.Dec.{ltb}
use mathlib.Core.Bool.{Bool, ◌&&◌, not}
use Rattle.text_grammar.specs.Groups.{group_count, may_follow}
use Rattle.text_lines.proofs.job_rows.accepted.Goals as goal

pub returns : goal.returns
returns c =
    c.follows.ensures ∙ sym (ap (λ (b : Bool). not b && (ltb c.args.k group_count && may_follow c.args.r.place c.args.k)) c.if-r.false)
