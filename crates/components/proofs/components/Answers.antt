-- `components::components` meets its contract: a refusal, or the numbers and a cleared work space.
use native.Mathlib.Omega.{arith}
use mathlib.Core.Path.{sym, ◌∙◌, ap}
use lib.ListN.{length, length-append, length-replicate, length-drop}
use Rattle.components.proofs.Entries.{refused_is, known, small, given_is}
use Rattle.components.proofs.components.Goals as goal
use Rattle.refusals.proofs.Laws.{handed_on}

pub returns-in_err-refusal : goal.returns-in_err-refusal
returns-in_err-refusal c =
    rw (handed_on c.from_residual.ensures.1)
    (refused_is c.args.blocks.now c.args.edges.now c.args.points c.args.which.now c.args.work.now _ _
    (sym c.refusal.ensures ∙ c.in_err-refusal.was))

pub solve-count-requires : goal.solve-count-requires
solve-count-requires c =
    let k = known c.args.blocks.now c.args.edges.now c.args.points (length c.args.which.now) (length c.args.work.now)
    (sym c.refusal.ensures ∙ c.in_ok-refusal.was) in
    record { sound = (k.graph.sound, k.graph.edges_fine); edges_in_bounds = k.work_fits }

pub overflow_add-e : goal.overflow_add-e
overflow_add-e c =
    let k = known c.args.blocks.now c.args.edges.now c.args.points (length c.args.which.now) (length c.args.work.now)
    (sym c.refusal.ensures ∙ c.in_ok-refusal.was) in
    omega (arith, k.work_fits, k.graph.counts.few, k.graph.counts.some)

pub overflow_add-n : goal.overflow_add-n
overflow_add-n c =
    let k = known c.args.blocks.now c.args.edges.now c.args.points (length c.args.which.now) (length c.args.work.now)
    (sym c.refusal.ensures ∙ c.in_ok-refusal.was) in
    omega (arith, k.work_fits, k.graph.counts.few, k.graph.counts.some)

pub overflow_add-n-2 : goal.overflow_add-n-2
overflow_add-n-2 c =
    let k = known c.args.blocks.now c.args.edges.now c.args.points (length c.args.which.now) (length c.args.work.now)
    (sym c.refusal.ensures ∙ c.in_ok-refusal.was) in
    omega (arith, k.work_fits, k.graph.counts.few, k.graph.counts.some)

pub overflow_add-e-2 : goal.overflow_add-e-2
overflow_add-e-2 c =
    let k = known c.args.blocks.now c.args.edges.now c.args.points (length c.args.which.now) (length c.args.work.now)
    (sym c.refusal.ensures ∙ c.in_ok-refusal.was) in
    omega (arith, k.work_fits, k.graph.counts.few, k.graph.counts.some)

pub narrow-requires : goal.narrow-requires
narrow-requires c =
    let k = known c.args.blocks.now c.args.edges.now c.args.points (length c.args.which.now) (length c.args.work.now)
    (sym c.refusal.ensures ∙ c.in_ok-refusal.was) in
    (omega (arith, k.answer_fits), omega (arith, k.work_fits, k.graph.counts.some, c.solve-count.ensures.kept.len), small c.solve-count.ensures k.graph.counts.few)

pub overflow_add-n-3 : goal.overflow_add-n-3
overflow_add-n-3 c =
    let k = known c.args.blocks.now c.args.edges.now c.args.points (length c.args.which.now) (length c.args.work.now) (sym
    c.refusal.ensures
    ∙ c.in_ok-refusal.was) in
    omega (arith, k.work_fits, k.graph.counts.few, k.graph.counts.some)

pub overflow_mul-n : goal.overflow_mul-n
overflow_mul-n c =
    let k = known c.args.blocks.now c.args.edges.now c.args.points (length c.args.which.now) (length c.args.work.now) (sym
    c.refusal.ensures
    ∙ c.in_ok-refusal.was) in
    omega (arith, k.work_fits, k.graph.counts.few, k.graph.counts.some)

pub clear-requires : goal.clear-requires
clear-requires c =
    let k = known c.args.blocks.now c.args.edges.now c.args.points (length c.args.which.now) (length c.args.work.now) (sym
    c.refusal.ensures
    ∙ c.in_ok-refusal.was) in
    omega (arith, k.work_fits, c.solve-count.ensures.kept.len)

pub shape_of-which : goal.shape_of-which
shape_of-which c = c.narrow.ensures.len

pub shape_of-work : goal.shape_of-work
shape_of-work c =
    ap length c.clear.ensures ∙ simp (length-append, length-replicate, length-drop) (let k = known c.args.blocks.now c.args.edges.now c.args.points
    (length c.args.which.now) (length c.args.work.now) (sym
    c.refusal.ensures
    ∙ c.in_ok-refusal.was) in
    omega (arith, k.work_fits, c.solve-count.ensures.kept.len))

pub returns : goal.returns
returns c =
    given_is c.args.blocks.now c.args.edges.now c.args.points _ _ _ _ _ _ _ (sym
    c.refusal.ensures
    ∙ c.in_ok-refusal.was)
    c.solve-count.ensures c.narrow.ensures
    c.clear.ensures
