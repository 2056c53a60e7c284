-- `print_text` meets its contract: the text is read into lists of the reader's lengths.
use mathlib.Core.Path.{refl}
use lib.Dec.{lit≤}
use Rattle.text_lines.proofs.WholeLaws.{read_finished}
use Rattle.planning.proofs.TextLaws.{text_read}
use Rattle.planning.proofs.print_text.Goals as goal

pub tell-requires : goal.tell-requires
tell-requires c =
    text_read refl refl c.read_text-v.auto.rows c.read_text-v.auto.counts c.read_text-v.ensures

pub returns : goal.returns
returns c =
    let a = c.args in
    c.tell.ensures a.text.now (read_finished (lit≤ tt) (lit≤ tt) c.read_text-v.ensures)
