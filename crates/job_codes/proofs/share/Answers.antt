-- `share` meets its contract: with room for the counts, and without.
use native.Mathlib.Omega.{arith}
use Rattle.job_space.specs.Rows.{Rows}
use Rattle.job_space.specs.Inner.{rows_at}
use Rattle.job_codes.proofs.JobLaws.{job_coded, job_short}
use Rattle.job_codes.proofs.share.Goals as goal

pub returns-then-counts-lt3 : goal.returns-then-counts-lt3
returns-then-counts-lt3 c =
    let rows : Rows = let a = c.args in rows_at a.head.points a.head.v a.blocks a.edges a.insts a.operands a.crossings a.locals
    a.slots a.addresses a.ends a.pieces a.assigned a.moves in
    let a = c.args in
    job_short (rows) a.head.terms a.cells.now a.items.now a.areas.now a.offsets.now a.counts.now a.work.now (omega arith) c.short.ensures

pub plan-requires : goal.plan-requires
plan-requires c = omega arith

pub returns : goal.returns
returns c =
    let rows : Rows = let a = c.args in rows_at a.head.points a.head.v a.blocks a.edges a.insts a.operands a.crossings a.locals
    a.slots a.addresses a.ends a.pieces a.assigned a.moves in
    let a = c.args in
    job_coded rows a.head.terms a.cells.now a.items.now a.areas.now a.offsets.now a.counts.now a.work.now (omega (arith, c.if-counts-lt3.false)) c.share.ensures c.plan.ensures
