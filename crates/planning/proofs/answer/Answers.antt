-- `answer` meets its contract: the list has room.
use Rattle.planning.proofs.AnswerLaws.{bytes_known}
use Rattle.planning.proofs.TextLaws.{told_stands}
use Rattle.planning.proofs.answer.Goals as goal

pub returns : goal.returns
returns c = told_stands c.requires.1 c.tell.ensures (bytes_known _ c.unwrap_or.ensures)
