-- Demand 3, for every job whose records pass the checks, every budget and every walk.
use Prim.Native.Nat.{ℕ, ◌-◌, ◌≤◌, ◌<◌}
use native.Mathlib.Omega.{arith}
use mathlib.Core.Path.{◌≡◌, refl, ap, sym, ◌∙◌}
use mathlib.Core.Logic.{◌⊎◌, inl, inr}
use mathlib.Core.Bool.{Bool, true, false, cond}
use mathlib.Core.Option.{some, some-injective}
use mathlib.Core.List.{List}
use lib.ListN.{length, get_elem?}
use lib.Dec.{ltb}
use Rattle.words.proofs.RowLaws.{length_tabulate, get_d_tabulate}
use Rattle.carrying.specs.declared.Kind.{Kind}
use Rattle.carrying.specs.declared.Kind.TheVariants.{Unfollowed, Plain, Ending}
use Rattle.carrying.specs.Carried.{kind_of, ends_of}
use Rattle.areas.specs.Job.{Job, Checked, graph_of, touches_in, area_by, slot_area_in, item_count}
use Rattle.areas.proofs.JobLaws.{job_line, job_edges, touches_in_lem}
use Rattle.areas.proofs.PlainLaws.{plain_exact}
use Rattle.areas.proofs.EndLaws.{end_exact}
use Rattle.fitting.specs.Wants.{Want, want_at, order_of, Names}
use Rattle.fitting.specs.Plan.{Plan, cell_at, plan_of}
use Rattle.fitting.proofs.OrderLaws.{ordered_names}
use Rattle.fitting.proofs.PlanLaws.{Facts, facts}
use Rattle.soundness.specs.Walks.{slot, Frame, Step, read, write, Uses, Legal, Alike}
use Rattle.soundness.specs.Inner.{Separate}
use Rattle.soundness.specs.Machine.{RunsAlike}
use Rattle.soundness.specs.Demand.{access_by, want_of, wants_of, frame_of, job_plan, sizes_in, AsPrivate}
use Rattle.soundness.proofs.Holding.{Covers, Covering, reads_alike}
use Rattle.soundness.proofs.MachineLaws.{runs_alike}

module _ (J : Job) where
  want_is : (i : ℕ) → i < item_count J → want_at (wants_of J) i ≡ want_of J i
  want_is i h = get_d_tabulate (item_count J) (want_of J) i _ h

  -- the order that a job's items are taken in names each once
  pub job_order : Names (item_count J) (order_of (wants_of J))
  job_order = rw (length_tabulate (item_count J) (want_of J)) (ordered_names (wants_of J) (item_count J))

  -- a plan over any order keeps the items of a cell apart, and its cells are large enough
  module _ (budget : ℕ) (order : List ℕ) (N : Names (item_count J) order) where
    abbrev plan : Plan
    plan = plan_of (wants_of J) budget order

    plan_facts : Facts (wants_of J) budget (item_count J) plan
    plan_facts = facts (wants_of J) budget (item_count J) order N

    pub separate : Separate (frame_of J) plan.cell
    separate i j h k d e =
        let c = plan_facts.clear i j h k d e in
        record {
          one = c.one;
          two = c.two;
          one_is = ap (λ (w : Want). w.area) (sym (want_is i h)) ∙ c.one_is;
          two_is = ap (λ (w : Want). w.area) (sym (want_is j k)) ∙ c.two_is;
          no_common = c.no_common;
        }

    roomy : (i : ℕ) → i < item_count J → (frame_of J).size i ≤ (cell_at plan.cells (plan.cell i)).size
    roomy i h =
        let z : (want_at (wants_of J) i).size ≡ (want_of J i).size = ap (λ (w : Want). w.size) (want_is i h) in
        let s = plan_facts.sized i h in
        rw (← z) s

  module _ (C : Checked J) (some_block : 0 < length J.blocks) where
    -- the areas of a job cover what paths give
    covering : Covering (frame_of J)
    covering i h = go (ltb i (length J.locals))
      where
        by_kind : (k : Kind) → Covers (graph_of J) (access_by k (touches_in J i) (ends_of J.code i)) (area_by (graph_of J) k (touches_in J i) (ends_of J.code i))
        by_kind Unfollowed = refl
        by_kind Plain = (
          touches_in_lem J C some_block i,
          λ rs e x p.
              let y = (plain_exact (graph_of J) (job_line J C some_block) (job_edges J C some_block) (touches_in J i) (touches_in_lem J C some_block i) x).1 p in
              rw (some-injective _ rs e) at y,
        )
        by_kind Ending = λ rs e x p.
            let y = (end_exact (graph_of J) (job_line J C some_block) (job_edges J C some_block) (touches_in J i) (ends_of J.code i) x).1 p in
            rw (some-injective _ rs e) at y

        go : (t : Bool) → Covers (graph_of J) (cond t (access_by (kind_of J.code i) (touches_in J i) (ends_of J.code i)) slot)
            (cond t (area_by (graph_of J) (kind_of J.code i) (touches_in J i) (ends_of J.code i)) (slot_area_in J (i - length J.locals)))
        go true = by_kind (kind_of J.code i)
        go false = tt

pub uses : (F : Frame) (first : ℕ) (w : List Step) → Legal F first w → (n i b : ℕ)
    → (get_elem? w n ≡ some (read i b)) ⊎ (get_elem? w n ≡ some (write i b)) → Uses F first w i b n
uses F first w L n i b (inl e) = rw e at (L.steps n)
uses F first w L n i b (inr e) = rw e at (L.steps n)

-- through any cells that keep their items apart: a map from another tool, cells of regions, capped cells
pub any_cells : (J : Job) → Checked J → (cell : ℕ → ℕ) → Separate (frame_of J) cell
    → (first : ℕ) (w : List Step) → Legal (frame_of J) first w → Alike (frame_of J) first w cell × RunsAlike (frame_of J) cell first w
any_cells J C cell D first w L = (claim, runs_alike (frame_of J) cell first w claim)
  where
    some_block : 0 < length J.blocks
    some_block =
        let b = L.begins in
        omega arith

    claim : Alike (frame_of J) first w cell
    claim = reads_alike (frame_of J) cell (job_line J C some_block) (job_edges J C some_block) (covering J C some_block) D first w L

-- through the plan of any order that names each item once
pub any_order : (J : Job) → Checked J → (budget : ℕ) (order : List ℕ) → Names (item_count J) order
    → (first : ℕ) (w : List Step) → Legal (frame_of J) first w → AsPrivate J (plan_of (wants_of J) budget order).cell (sizes_in (plan_of (wants_of J) budget order)) first w
any_order J C budget order N first w L = record {
  alike = (any_cells J C _ (separate J budget order N) first w L).0;
  runs = (any_cells J C _ (separate J budget order N) first w L).1;
  below = λ n i b e.
      let u = uses (frame_of J) first w L n i b e in
      let r = roomy J budget order N i u.item in
      let s = u.byte in
      omega arith;
}

-- Demand 3
pub demand_3 : (J : Job) → Checked J → (budget first : ℕ) (w : List Step) → Legal (frame_of J) first w → AsPrivate J (job_plan J budget).cell (sizes_in (job_plan J budget)) first w
demand_3 J C budget first w L = any_order J C budget (order_of (wants_of J)) (job_order J) first w L
