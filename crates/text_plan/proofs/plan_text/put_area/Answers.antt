-- `put_area` meets its contract: a line more is written each turn.
use native.Mathlib.Omega.{arith}
use Prim.Native.Nat.{ℕ, ◌+◌, ◌*◌}
use mathlib.Core.Path.{sym, ap}
use lib.ListN.{get_or}
use lib.Dec.{lit≤}
use mathlib.Core.List.{[], ◌∷◌}
use native.Mathlib.Nat.{add-zero}
use Rattle.text_plan.proofs.LineLaws.{lines_start, lines_near, lines_more, lines_all, line_length}
use Rattle.text_plan.specs.Inner.{row_line}
use Rattle.text_plan.proofs.PutLaws.{puts_as, puts_length}
use Rattle.text_plan.specs.Lines.{line_text}
use Rattle.words.specs.Widths.{range_width}
use Rattle.text_plan.proofs.plan_text.put_area.Goals as goal

pub loop-j-init : goal.loop-j-init
loop-j-init c =
    lines_start (λ j. row_line c.args.areas.now c.args.local (c.args.start + j)) 128 _ _ _ (λ j. line_length 71 _ (lit≤ tt))

pub put_line-next-requires : goal.put_line-next-requires
put_line-next-requires c =
    (let l = lines_near c.loop-j.invariant in let h = c.requires.0 in let g = c.requires.1 in let f = c.requires.2 in omega arith, lit≤ tt)

pub loop-j-preserved : goal.loop-j-preserved
loop-j-preserved c =
    let a = c.args in
    lines_more c.loop-j.invariant (omega arith)
    (puts_as
    (ap (λ (k : ℕ). line_text 71 (a.local ∷ get_or a.areas.now k 0 ∷ get_or a.areas.now ((range_width * (a.start + c.loop-j.j)) + 1) 0 ∷ []))
    (sym (add-zero (range_width * (a.start + c.loop-j.j))))) c.put_line-next.ensures)

pub shape_of-out : goal.shape_of-out
shape_of-out c = puts_length c.loop-j.invariant.puts

pub returns : goal.returns
returns c = lines_all c.loop-j.invariant (omega arith)
