-- A job as demand 3 takes it: its items to a walk, its wants and its plan.
use Rattle.std.specs.Prelude.{ℕ, ◌-◌, ◌<◌, ◌≡◌, ◌⊎◌, cond, List, length, get_or, ltb}
use Rattle.std.proofs.Math.Option.{some}
use Rattle.std.proofs.Math.ListN.{get_elem?}
use Rattle.words.specs.Rows.{tabulate}
use Rattle.ranges.specs.declared.Range.{Range}
use Rattle.carrying.specs.declared.Kind.{Kind}
use Rattle.carrying.specs.declared.Kind.TheVariants.{Unfollowed, Plain, Ending}
use Rattle.carrying.specs.Carried.{kind_of, ends_of}
use Rattle.areas.specs.Job.{Job, Local, graph_of, touches_in, item_count, item_area}
use Rattle.fitting.specs.Wants.{Want, order_of}
use Rattle.fitting.specs.Plan.{Plan, cell_at, plan_of}
use Rattle.soundness.specs.Walks.{Access, unfollowed, plain, ending, slot, Frame, Step, read, write, Alike}
use Rattle.soundness.specs.Machine.{RunsAlike}

-- what an item is to a walk: locals first, then slots
abbrev pub access_by : Kind → List Range → List ℕ → Access
access_by Unfollowed ts es = unfollowed
access_by Plain ts es = plain ts
access_by Ending ts es = ending ts es

abbrev pub access_of : Job → ℕ → Access
access_of J i = cond (ltb i (length J.locals)) (access_by (kind_of J.code i) (touches_in J i) (ends_of J.code i)) slot

abbrev pub local_at : Job → ℕ → Local
local_at J i = get_or J.locals i (record { size = 0; align = 0 })

abbrev pub width_at : Job → ℕ → ℕ
width_at J i = get_or J.slots (i - length J.locals) 0

-- "items: locals, then slots (size and alignment = width)"
abbrev pub want_of : Job → ℕ → Want
want_of J i = record {
  size = cond (ltb i (length J.locals)) (local_at J i).size (width_at J i);
  align = cond (ltb i (length J.locals)) (local_at J i).align (width_at J i);
  area = item_area J i;
}

abbrev pub wants_of : Job → List Want
wants_of J = tabulate (item_count J) (want_of J)

-- the job as a walk sees it
abbrev pub frame_of : Job → Frame
frame_of J = record { graph = graph_of J; items = item_count J; access = access_of J; size = λ i. (want_of J i).size; area = item_area J }

-- the plan that a job gets, and the sizes of a plan's cells
abbrev pub job_plan : Job → ℕ → Plan
job_plan J budget = plan_of (wants_of J) budget (order_of (wants_of J))

abbrev pub sizes_in : Plan → ℕ → ℕ
sizes_in p c = (cell_at p.cells c).size

-- demand 3 of a walk through cells with these sizes: the claim about the list, the same of the machine, and that the byte taken lies below its cell's size
pub record AsPrivate (J : Job) (cell size : ℕ → ℕ) (first : ℕ) (w : List Step) : Type 0 where
  pub alike : Alike (frame_of J) first w cell
  pub runs : RunsAlike (frame_of J) cell first w
  pub below : (n i b : ℕ) → (get_elem? w n ≡ some (read i b)) ⊎ (get_elem? w n ≡ some (write i b)) → b < size (cell i)
