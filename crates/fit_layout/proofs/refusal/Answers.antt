-- `refusal` meets its contract: 12 of any cell, then 13.
use native.Mathlib.Omega.{arith}
use mathlib.Core.Path.{sym, ◌∙◌}
use Rattle.fitting.proofs.LayoutLaws.{aligns_positive}
use Rattle.fit_layout.specs.Inner.{rooms_at}
use Rattle.fit_layout.proofs.WordLaws.{rooms_long, layout_bad, layout_depths}
use Rattle.fit_layout.proofs.refusal.Goals as goal
use Rattle.refusals.proofs.Laws.{handed_on}

pub returns-in_err-aligns : goal.returns-in_err-aligns
returns-in_err-aligns c =
    rw (handed_on c.from_residual.ensures.1)
    (let a = c.args in
    layout_bad a.w.now a.from a.cells _ _ (sym c.aligns.ensures ∙ c.in_err-aligns.was))

pub depths-requires : goal.depths-requires
depths-requires c =
    let w = c.args.w.now in (
      c.requires,
      λ i h. aligns_positive (rooms_at w c.args.from c.args.cells) (sym c.aligns.ensures ∙ c.in_ok-aligns.was) i (omega (arith, rooms_long w c.args.from c.args.cells)),
    )

pub returns : goal.returns
returns c =
    let a = c.args in
    layout_depths a.w.now a.from a.cells (sym c.aligns.ensures ∙ c.in_ok-aligns.was) c.depths.ensures
