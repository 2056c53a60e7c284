-- `list` meets its contract: refused, or three lists and the depth.
use native.Mathlib.Omega.{arith}
use mathlib.Core.Path.{sym, ◌∙◌}
use Rattle.wants.proofs.EntryLaws.{refused_layout, listed}
use Rattle.wants.proofs.list.Goals as goal
use Rattle.refusals.proofs.Laws.{handed_on}

pub returns-in_err-refusal : goal.returns-in_err-refusal
returns-in_err-refusal c =
    rw (handed_on c.from_residual.ensures.1)
    (let a = c.args in
    λ p M. refused_layout a.wants.now a.areas.now M a.cells.now a.items.now a.offsets.now _ _ (sym c.in_err-refusal.was ∙ c.refusal.ensures))

pub write-depth-requires : goal.write-depth-requires
write-depth-requires c = (
  omega (arith, c.requires.space, c.requires.used_few),
  omega (arith, c.requires.used_few, c.requires.in_offsets),
  sym c.refusal.ensures ∙ c.in_ok-refusal.was,
)

pub returns : goal.returns
returns c =
    let a = c.args in
    λ p M. listed a.wants.now a.areas.now M a.cells.now a.items.now a.offsets.now (sym c.in_ok-refusal.was ∙ c.refusal.ensures)
    c.write_cells.ensures c.write_items.ensures c.write-depth.ensures.0 c.write-depth.ensures.1
