-- `take_line` meets its contract: a malformed line, one without room, and one that is stored.
use Prim.Native.Nat.{◌+◌}
use mathlib.Core.Path.{refl, sym, ◌∙◌}
use mathlib.Core.Bool.{false}
use Rattle.text_lines.proofs.ReaderLaws.{line_malformed, line_known, line_full, line_ready, line_stored}
use Rattle.text_lines.proofs.job_rows.take_line.Goals as goal

pub returns-then-not-accepted : goal.returns-then-not-accepted
returns-then-not-accepted c =
    let a = c.args in
    line_malformed c.requires.2 a.line.now c.read_line-k.ensures.answer (sym c.accepted.ensures ∙ c.if-not-accepted.true) c.malformed.ensures

pub entry_of-e-requires : goal.entry_of-e-requires
entry_of-e-requires c =
    let a = c.args in
    (line_known c.requires.2 a.line.now c.read_line-k.ensures.answer (sym c.accepted.ensures ∙ c.if-not-accepted.false))

pub returns-then-crowded : goal.returns-then-crowded
returns-then-crowded c =
    let a = c.args in
    line_full c.requires.2 a.line.now c.read_line-k.ensures.answer (sym c.accepted.ensures ∙ c.if-not-accepted.false) _ c.entry_of-e.ensures.room _ refl
    refl c.entry_of-e.ensures.place (sym c.crowded.ensures ∙ c.if-crowded.true) refl

pub store-requires : goal.store-requires
store-requires c =
    let a = c.args in
    line_ready c.requires.2 a.line.now c.read_line-k.ensures.answer (sym c.accepted.ensures ∙ c.if-not-accepted.false) _ c.entry_of-e.ensures.room
    (sym c.crowded.ensures ∙ c.if-crowded.false) _ a.fields.now
    (c.read_line-k.ensures.fields (line_known c.requires.2 a.line.now c.read_line-k.ensures.answer (sym c.accepted.ensures ∙ c.if-not-accepted.false)))

pub shape_of-rows : goal.shape_of-rows
shape_of-rows c =
    let a = c.args in
    (line_stored c.requires.2 a.line.now c.read_line-k.ensures.answer (sym c.accepted.ensures ∙ c.if-not-accepted.false) _ c.entry_of-e.ensures.room
    (sym c.crowded.ensures ∙ c.if-crowded.false) _ a.fields.now
    (c.read_line-k.ensures.fields (line_known c.requires.2 a.line.now c.read_line-k.ensures.answer (sym c.accepted.ensures ∙ c.if-not-accepted.false))) c.store.ensures
    (record { lines = a.r.lines + 1; place = c.entry_of-e.result.place; bad = false; at = 0; full = false }) refl refl c.entry_of-e.ensures.place refl).rows_kept

pub shape_of-counts : goal.shape_of-counts
shape_of-counts c =
    let a = c.args in
    (line_stored c.requires.2 a.line.now c.read_line-k.ensures.answer (sym c.accepted.ensures ∙ c.if-not-accepted.false) _ c.entry_of-e.ensures.room
    (sym c.crowded.ensures ∙ c.if-crowded.false) _ a.fields.now
    (c.read_line-k.ensures.fields (line_known c.requires.2 a.line.now c.read_line-k.ensures.answer (sym c.accepted.ensures ∙ c.if-not-accepted.false))) c.store.ensures
    (record { lines = a.r.lines + 1; place = c.entry_of-e.result.place; bad = false; at = 0; full = false }) refl refl c.entry_of-e.ensures.place refl).counts_kept

pub returns : goal.returns
returns c =
    let a = c.args in
    (line_stored c.requires.2 a.line.now c.read_line-k.ensures.answer (sym c.accepted.ensures ∙ c.if-not-accepted.false) _ c.entry_of-e.ensures.room
    (sym c.crowded.ensures ∙ c.if-crowded.false) _ a.fields.now
    (c.read_line-k.ensures.fields (line_known c.requires.2 a.line.now c.read_line-k.ensures.answer (sym c.accepted.ensures ∙ c.if-not-accepted.false))) c.store.ensures
    _ refl refl c.entry_of-e.ensures.place refl)
