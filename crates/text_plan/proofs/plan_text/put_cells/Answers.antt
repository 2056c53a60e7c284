-- `put_cells` meets its contract: a line more is written each turn.
use native.Mathlib.Omega.{arith}
use Prim.Native.Nat.{ℕ, ◌*◌}
use mathlib.Core.Path.{sym, ap}
use lib.ListN.{get_or}
use lib.Dec.{lit≤}
use mathlib.Core.List.{[], ◌∷◌}
use native.Mathlib.Nat.{add-zero}
use Rattle.text_plan.proofs.LineLaws.{lines_start, lines_near, lines_more, lines_all, line_length}
use Rattle.text_plan.specs.Printed.{cell_line}
use Rattle.text_plan.proofs.PutLaws.{puts_as, puts_length}
use Rattle.text_plan.specs.Lines.{line_text}
use Rattle.words.specs.Widths.{cell_width, cell_align}
use Rattle.text_plan.proofs.plan_text.put_cells.Goals as goal

pub loop-i-init : goal.loop-i-init
loop-i-init c = lines_start (cell_line c.args.cells.now) 128 _ _ _ (λ j. line_length 67 _ (lit≤ tt))

pub put_line-next-requires : goal.put_line-next-requires
put_line-next-requires c =
    (let l = lines_near c.loop-i.invariant in let h = c.requires.0 in let g = c.requires.1 in omega arith, lit≤ tt)

pub loop-i-preserved : goal.loop-i-preserved
loop-i-preserved c =
    let a = c.args in
    lines_more c.loop-i.invariant (omega arith)
    (puts_as (ap (λ (k : ℕ). line_text 67 (c.loop-i.i ∷ get_or a.cells.now k 0 ∷ cell_align a.cells.now c.loop-i.i ∷ [])) (sym (add-zero (cell_width * c.loop-i.i))))
    c.put_line-next.ensures)

pub shape_of-out : goal.shape_of-out
shape_of-out c = puts_length c.loop-i.invariant.puts

pub returns : goal.returns
returns c = lines_all c.loop-i.invariant (omega arith)
