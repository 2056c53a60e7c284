-- From the records in the reader's lists to the text of their plan.
use Prim.Native.Nat.{ℕ, ◌≤◌}
use native.Mathlib.Omega.{arith}
use mathlib.Core.Path.{◌≡◌}
use lib.ListN.{length}
use borrow.Author.Tests.{ltb-false}
use Rattle.refusals.specs.declared.Refusal.TheVariants.{List as ListWord}
use Rattle.refusals.specs.Verdicts.{first, Fine, Verdict}
use Rattle.refusals.proofs.Laws.{first_left, first_right, check_told}
use Rattle.words.specs.Rows.{tabulate}
use Rattle.words.proofs.RowLaws.{length_tabulate}
use Rattle.areas.specs.Job.{Job, item_count, item_area, ranges_of, items_verdict}
use Rattle.fitting.specs.Wants.{order_of}
use Rattle.fitting.specs.Plan.{Plan}
use Rattle.fitting.specs.Layout.{rooms_in, layout_verdict}
use Rattle.fitting.proofs.PlanLaws.{facts}
use Rattle.fitting.proofs.OrderLaws.{length_ordered}
use Rattle.fitting.proofs.PutLaws.{plan_few}
use Rattle.soundness.specs.Demand.{want_of, wants_of, job_plan}
use Rattle.soundness.proofs.Demand.{job_order}
use Rattle.job_answers.specs.Answers.{answer_verdict}
use Rattle.planning.proofs.PrintLaws.{Printable}

-- ---- the plan of a job within the program's limits is printed

-- where nothing is refused, 9 is not
pub list_fine : (J : Job) (p : Plan) (v : Verdict) → first v (answer_verdict (item_count J) (item_area J) 64 p) ≡ Fine → items_verdict J 64 ≡ Fine
list_fine J p v e = first_left (items_verdict J 64) (layout_verdict (rooms_in p)) (first_right v (answer_verdict (item_count J) (item_area J) 64 p) e)

pub job_printable : (J : Job) (budget : ℕ) → length J.locals ≤ 64 → length J.slots ≤ 64 → items_verdict J 64 ≡ Fine
    → Printable (item_count J) (length J.locals) (item_area J) (job_plan J budget)
job_printable J budget l s e =
    let order = order_of (wants_of J) in
    let a = plan_few (wants_of J) budget order in
    let b = length_ordered (wants_of J) (length (wants_of J)) in
    let c = length_tabulate (item_count J) (want_of J) in
    record {
      known = (facts (wants_of J) budget (item_count J) order (job_order J)).known;
      few = omega arith;
      locals_in = omega arith;
      few_locals = l;
      few_slots = omega arith;
      ranges = ltb-false 64 (ranges_of (tabulate (item_count J) (item_area J))) (check_told ListWord _ e);
    }
