-- `job_marks::mark_one` meets its contract: the local is fetched, and marked if it is plain or ending.
use Rattle.carrying.specs.declared.Kind.TheVariants.{Plain, Ending}
use Rattle.job_marks.proofs.MarkLaws.{plain_followed, ending_followed, standing, unmarked, marked}
use Rattle.job_marks.proofs.mark_one.Goals as goal

pub mark_spots-requires : goal.mark_spots-requires
mark_spots-requires c =
    standing c.requires.0 c.requires.1 c.fetch-f.ensures (plain_followed c.in-Plain.is)

pub mark_spots-requires-in-Ending : goal.mark_spots-requires-in-Ending
mark_spots-requires-in-Ending c =
    standing c.requires.0 c.requires.1 c.fetch-f.ensures (ending_followed c.in-Ending.is)

pub returns-in-Unfollowed : goal.returns-in-Unfollowed
returns-in-Unfollowed c =
    unmarked c.requires.0 c.requires.1 c.fetch-f.ensures c.in-Unfollowed.is

pub returns-in-Plain : goal.returns-in-Plain
returns-in-Plain c =
    marked c.requires.0 c.requires.1 c.fetch-f.ensures Plain c.in-Plain.is (plain_followed c.in-Plain.is)
    c.mark_spots.ensures.within c.mark_spots.ensures.marking

pub returns-in-Ending : goal.returns-in-Ending
returns-in-Ending c =
    marked c.requires.0 c.requires.1 c.fetch-f.ensures Ending c.in-Ending.is (ending_followed c.in-Ending.is)
    c.mark_spots-in-Ending.ensures.within c.mark_spots-in-Ending.ensures.marking
