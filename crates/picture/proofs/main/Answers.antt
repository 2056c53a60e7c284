-- `main`: a text that the reader accepts has few records of each group.
use Rattle.planning.proofs.AnswerLaws.{few_of}
use Rattle.picture.proofs.main.Goals as goal

pub plan-requires : goal.plan-requires
plan-requires c =
    let r = c.in_ok-v.ensures.read in
    (r.rows_length, r.counts_length, few_of r.text _ _ c.in-Ok.is r.finished)
