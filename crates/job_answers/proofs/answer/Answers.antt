-- `answer` meets its contract: refused, or fitted and written, unless the layout is refused.
use native.Mathlib.Omega.{arith}
use mathlib.Core.Path.{refl, sym, ◌∙◌}
use Rattle.job_fit.specs.Inner.{count_of, plan_for}
use Rattle.job_answers.proofs.TableLaws.{refused_list, ready, listable, cells_in, cells_few, refused_list_layout, answered_list}
use Rattle.words.specs.Widths.{range_count}
use Rattle.job_answers.proofs.answer.Goals as goal
use Rattle.refusals.proofs.Laws.{handed_on}

pub returns-then-room-total : goal.returns-then-room-total
returns-then-room-total c =
    let a = c.args in (
      record { len = refl; below = λ i h. refl; past = λ i h. refl },
      λ A D. refused_list A (plan_for a.locals.now a.slots.now A a.terms.budget)
          (count_of a.locals.now a.slots.now) (range_count a.areas.now) a.total a.work.now D (omega arith) _ _ _ _,
    )

pub fitted-f-requires : goal.fitted-f-requires
fitted-f-requires c = ready c.requires (omega arith)

pub refusal-requires : goal.refusal-requires
refusal-requires c =
    let a = c.args in
    cells_in a.locals.now a.slots.now a.terms.budget a.total a.end a.cells.now a.items.now a.areas.now a.offsets.now _ _ _ c.requires c.if-room-total.false c.fitted-f.ensures

pub returns-in_err-refusal : goal.returns-in_err-refusal
returns-in_err-refusal c =
    rw (handed_on c.from_residual.ensures.1)
    (let a = c.args in
    let f = c.fitted-f in (
      f.ensures.kept,
      λ A D. refused_list_layout a.locals.now a.slots.now a.terms.budget a.total a.end a.cells.now a.items.now a.areas.now a.offsets.now _ _ _ c.requires c.if-room-total.false f.ensures A D _ _
          (sym c.in_err-refusal.was ∙ c.refusal.ensures),
    ))

pub write-requires : goal.write-requires
write-requires c =
    let a = c.args in
    listable a.locals.now a.slots.now a.terms.budget a.total a.end a.cells.now a.items.now a.areas.now a.offsets.now _ _ _ c.requires c.if-room-total.false c.fitted-f.ensures

pub write-depth-requires : goal.write-depth-requires
write-depth-requires c =
    let a = c.args in
    let f = c.fitted-f in (
      cells_in a.locals.now a.slots.now a.terms.budget a.total a.end a.cells.now a.items.now a.areas.now a.offsets.now _ _ _ c.requires c.if-room-total.false f.ensures,
      cells_few a.locals.now a.slots.now a.terms.budget a.total a.end a.cells.now a.items.now a.areas.now a.offsets.now _ _ _ c.requires c.if-room-total.false f.ensures,
      sym c.refusal.ensures ∙ c.in_ok-refusal.was,
    )

pub returns : goal.returns
returns c =
    let a = c.args in
    let f = c.fitted-f in (
      f.ensures.kept,
      λ A D. answered_list a.locals.now a.slots.now a.terms.budget a.total a.end a.cells.now a.items.now a.areas.now a.offsets.now _ _ _ c.requires c.if-room-total.false f.ensures A D c.write.ensures
          (sym c.in_ok-refusal.was ∙ c.refusal.ensures)
          c.write-depth.ensures.0 c.write-depth.ensures.1,
    )
