-- `read_text` meets its contract: refused by the text or by its lists, or handed out.
use mathlib.Core.Path.{sym, ap, ◌∙◌}
use Rattle.refusals.specs.Verdicts.{first}
use Rattle.text_lines.proofs.WholeLaws.{read_refused, text_taken, rows_roomy, counts_roomy, copyable, read_fine, and_first}
use Rattle.text_lines.proofs.text.read_text.Goals as goal
use Rattle.refusals.proofs.Laws.{handed_on}

pub returns-in_err-and : goal.returns-in_err-and
returns-in_err-and c =
    rw (handed_on c.from_residual.ensures.1)
    (let a = c.args in
    read_refused a.text.now a.rows.now a.counts.now c.read_all-v.ensures (c.and.ensures ∙ and_first _ _ ∙ ap (first _) c.room-s.ensures) _ _ c.in_err-and.was)

pub copy_all-requires : goal.copy_all-requires
copy_all-requires c =
    let a = c.args in
    copyable a.text.now
    (text_taken a.text.now a.rows.now a.counts.now c.read_all-v.ensures (c.and.ensures ∙ and_first _ _ ∙ ap (first _) c.room-s.ensures) c.in_ok-and.was)
    (c.read_all-v.ensures.records
    (text_taken a.text.now a.rows.now a.counts.now c.read_all-v.ensures (c.and.ensures ∙ and_first _ _ ∙ ap (first _) c.room-s.ensures) c.in_ok-and.was))
    c.read_all-v.auto.rows c.read_all-v.auto.counts
    (rows_roomy a.text.now a.rows.now a.counts.now c.read_all-v.ensures (c.and.ensures ∙ and_first _ _ ∙ ap (first _) c.room-s.ensures) c.in_ok-and.was)
    (counts_roomy a.text.now a.rows.now a.counts.now c.read_all-v.ensures (c.and.ensures ∙ and_first _ _ ∙ ap (first _) c.room-s.ensures) c.in_ok-and.was)

pub returns : goal.returns
returns c =
    let a = c.args in
    rw (sym c.in_ok-and.was)
    (read_fine a.text.now
    (text_taken a.text.now a.rows.now a.counts.now c.read_all-v.ensures (c.and.ensures ∙ and_first _ _ ∙ ap (first _) c.room-s.ensures) c.in_ok-and.was)
    (c.read_all-v.ensures.records
    (text_taken a.text.now a.rows.now a.counts.now c.read_all-v.ensures (c.and.ensures ∙ and_first _ _ ∙ ap (first _) c.room-s.ensures) c.in_ok-and.was))
    c.in_ok-and.was
    (rows_roomy a.text.now a.rows.now a.counts.now c.read_all-v.ensures (c.and.ensures ∙ and_first _ _ ∙ ap (first _) c.room-s.ensures) c.in_ok-and.was)
    (counts_roomy a.text.now a.rows.now a.counts.now c.read_all-v.ensures (c.and.ensures ∙ and_first _ _ ∙ ap (first _) c.room-s.ensures) c.in_ok-and.was)
    c.copy_all.ensures)
