-- `joined` meets its contract: what was answered is told, and only the end changes.
use Rattle.range_forms.proofs.LastLaws.{end_changes}
use Rattle.range_forms.proofs.joined.Goals as goal

pub returns : goal.returns
returns c = record {
  answer = c.taken_up.ensures;
  in_last = end_changes _ _ _ c.end_after-last.ensures;
}
