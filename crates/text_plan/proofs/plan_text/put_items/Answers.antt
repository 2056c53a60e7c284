-- `put_items` meets its contract: a line more is written each turn.
use native.Mathlib.Omega.{arith}
use Prim.Native.Nat.{ℕ, ◌+◌, ◌*◌}
use mathlib.Core.Path.{sym, ap}
use lib.ListN.{get_or}
use lib.Dec.{lit≤}
use mathlib.Core.List.{[], ◌∷◌}
use native.Mathlib.Nat.{add-zero}
use Rattle.text_plan.proofs.LineLaws.{lines_start, lines_near, lines_more, lines_all, line_length}
use Rattle.text_plan.specs.Printed.{item_line}
use Rattle.text_plan.proofs.PutLaws.{puts_as, puts_length}
use Rattle.text_plan.specs.Lines.{line_text}
use Rattle.words.specs.Widths.{item_width}
use Rattle.text_plan.proofs.plan_text.put_items.Goals as goal

pub loop-i-init : goal.loop-i-init
loop-i-init c =
    lines_start (item_line c.args.letter c.args.items.now c.args.base) 128 _ _ _ (λ j. line_length c.args.letter _ (lit≤ tt))

pub put_line-next-requires : goal.put_line-next-requires
put_line-next-requires c =
    (let l = lines_near c.loop-i.invariant in let h = c.requires.0 in let g = c.requires.1 in omega arith, lit≤ tt)

pub loop-i-preserved : goal.loop-i-preserved
loop-i-preserved c =
    let a = c.args in
    lines_more c.loop-i.invariant (omega arith)
    (puts_as (ap (λ (k : ℕ). line_text a.letter (c.loop-i.i ∷ get_or a.items.now k 0 ∷ [])) (sym (add-zero (item_width * (a.base + c.loop-i.i))))) c.put_line-next.ensures)

pub shape_of-out : goal.shape_of-out
shape_of-out c = puts_length c.loop-i.invariant.puts

pub returns : goal.returns
returns c = lines_all c.loop-i.invariant (omega arith)
