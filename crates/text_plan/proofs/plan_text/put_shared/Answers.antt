-- `put_shared` meets its contract: the lines of a local more are written each turn.
use native.Mathlib.Omega.{arith}
use lib.Dec.{lit≤}
use mathlib.Core.List.{[]}
use Rattle.text_plan.proofs.LineLaws.{line_length, rows_start, rows_on, rows_all, part_length}
use Rattle.text_plan.proofs.PutLaws.{puts_length, puts_none}
use Rattle.text_plan.proofs.ShareLaws.{share_inside, share_part, share_absent, share_given}
use Rattle.text_plan.proofs.plan_text.put_shared.Goals as goal
use Rattle.text_plan.proofs.plan_text.put_shared.Goals.{in-Some, in_default}
use Rattle.std.specs.Prelude.{Ok}
use mathlib.Core.Path.{refl, ap, ◌∙◌}

pub loop-i-init : goal.loop-i-init
loop-i-init c = rows_start _ _ _ _ _

pub unwrap-found-requires : goal.unwrap-found-requires
unwrap-found-requires c = let a = c.args in share_given a.cells.now a.items.now a.areas.now a.locals c.loop-i.i c.requires.3 c.shared.ensures _ refl

pub put_area-next-requires : goal.put_area-next-requires
put_area-next-requires c =
    let a = c.args in (
      let n = c.loop-i.invariant.near in let b = c.requires.0 in let d = c.requires.1 in omega arith,
      c.requires.2,
      share_inside a.cells.now a.items.now a.areas.now a.locals c.loop-i.i c.requires.3 c.shared.ensures _ _ c.in-Some.ensures,
    )

pub loop-i-preserved : goal.loop-i-preserved
loop-i-preserved c =
    let a = c.args in
    let p = c.requires in
    elim c.match-found.branch [
      | in-Some w ↦ rw (w.out-is, w.next-is)
          (rows_on c.loop-i.invariant (omega arith) _ (share_part a.cells.now a.items.now a.areas.now a.locals c.loop-i.i p.3 c.shared.ensures _ _ (c.unwrap-found.ensures ∙ ap Ok w.in-Some.is))
          (part_length _ (λ j. line_length 71 _ (lit≤ tt)) _
          (let k = share_inside a.cells.now a.items.now a.areas.now a.locals c.loop-i.i p.3 c.shared.ensures _ _ (c.unwrap-found.ensures ∙ ap Ok w.in-Some.is) in let b = p.2 in omega arith))
          w.put_area-next.ensures)
      | in_default w ↦ rw (w.out-is, w.next-is)
          (rows_on c.loop-i.invariant (omega arith) []
          (share_absent a.cells.now a.items.now a.areas.now a.locals c.loop-i.i p.3 c.shared.ensures (c.unwrap-found.ensures ∙ ap Ok w.in_default.is)) (omega arith)
          (puts_none _ _))
    ]

pub shape_of-out : goal.shape_of-out
shape_of-out c = puts_length c.loop-i.invariant.puts

pub returns : goal.returns
returns c = (rows_all c.loop-i.invariant (omega arith), (let a = c.loop-i.invariant.near in let b = c.loop-i.invariant.i_le in let d = c.requires.1 in omega arith))
