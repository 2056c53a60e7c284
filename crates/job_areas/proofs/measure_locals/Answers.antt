-- `measure_locals` meets its contract: where there are locals, their regions fit and their areas are measured.
use native.Mathlib.Omega.{arith}
use Rattle.job_space.specs.Rows.{Rows}
use Rattle.job_space.specs.Inner.{rows_at}
use Rattle.job_space.specs.Space.{Small}
use Rattle.job_layout.proofs.FitLaws.{free_small, base_small, columns_small, to_small}
use Rattle.job_areas.proofs.LocalLaws.{small_for, none_for, asked_for, done_for}
use Rattle.job_areas.proofs.measure_locals.Goals as goal
use Rattle.job_areas.proofs.measure_locals.Goals.{Start}

-- the rows that were lent
abbrev lent_rows : Start → Rows
lent_rows c = let a = c.args in rows_at a.points a.v a.blocks a.edges a.insts a.operands a.crossings a.locals a.slots a.addresses a.ends a.pieces a.assigned a.moves

small_here : (c : Start) → Small c.args.z
small_here c = small_for (lent_rows c) c.args.areas c.args.r c.requires.lent c.args.z c.requires.sizes c.requires.placed

pub returns-then-z-eq0 : goal.returns-then-z-eq0
returns-then-z-eq0 c =
    let rows = lent_rows (goal.at.returns-then-z-eq0 c).Start in
    none_for rows c.args.areas c.args.r c.requires.lent c.args.z c.requires.sizes c.requires.placed (omega (arith, c.if-z-eq0.true))

pub carrying-lay-requires : goal.carrying-lay-requires
carrying-lay-requires c =
    let small = small_here (goal.at.carrying-lay-requires c).Start in
    (small, free_small small c.requires.placed)

pub grid-g-requires : goal.grid-g-requires
grid-g-requires c =
    let small = small_here (goal.at.grid-g-requires c).Start in
    (small, base_small small c.requires.placed)

pub mark-mark-requires : goal.mark-mark-requires
mark-mark-requires c =
    let small = small_here (goal.at.mark-mark-requires c).Start in
    (to_small small c.grid-g.ensures (base_small small c.requires.placed), columns_small small c.grid-g.ensures)

pub locals-requires : goal.locals-requires
locals-requires c =
    let rows = lent_rows (goal.at.locals-requires c).Start in
    asked_for rows c.args.areas c.args.r c.requires.lent c.args.z c.requires.sizes c.requires.placed _ _ (omega (arith, c.if-z-eq0.false)) c.requires.order
    c.carrying-lay.ensures c.grid-g.ensures c.mark-mark.ensures

pub returns : goal.returns
returns c =
    let rows = lent_rows (goal.at.returns c).Start in
    done_for rows c.args.areas c.args.r c.requires.lent c.args.z c.requires.sizes c.requires.placed _ _ (omega (arith, c.if-z-eq0.false)) c.requires.order
    c.carrying-lay.ensures c.grid-g.ensures c.mark-mark.ensures c.locals.ensures
