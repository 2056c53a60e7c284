-- `measure_next` meets its contract: the local is fetched, and has no area or is measured.
use mathlib.Core.Path.{sym, ◌∙◌}
use Rattle.job_measure.proofs.StepLaws.{next_none, measurable, listable, next_some}
use Rattle.job_measure.proofs.measure_next.Goals as goal

pub returns-then-unfollowed : goal.returns-then-unfollowed
returns-then-unfollowed c =
    let a = c.args in
    next_none a.blocks.now a.insts.now a.addresses.now a.ends.now a.pieces.now a.lay a.p a.z a.g a.mark a.o a.l a.total c.requires.ready
    c.requires.l_lt_locals.0 c.requires.l_lt_locals.1 c.fetch-f.ensures (sym c.unfollowed.ensures ∙ c.if-unfollowed.true)

pub measure_one-requires : goal.measure_one-requires
measure_one-requires c =
    let a = c.args in
    let u = sym c.unfollowed.ensures ∙ c.if-unfollowed.false in
    rw c.number.ensures (
      c.requires.ready.sound,
      measurable a.blocks.now a.insts.now a.addresses.now a.ends.now a.pieces.now a.lay a.p a.z a.g
          a.mark a.o a.l a.total c.requires.ready c.requires.l_lt_locals.0 c.requires.l_lt_locals.1 c.fetch-f.ensures u,
      listable a.blocks.now a.insts.now a.addresses.now a.ends.now
          a.pieces.now a.lay a.p a.z a.g a.mark a.o a.l a.total c.requires.ready c.requires.l_lt_locals.0 c.requires.l_lt_locals.1 c.fetch-f.ensures u,
    )

pub returns : goal.returns
returns c =
    let a = c.args in
    let u = sym c.unfollowed.ensures
    ∙ c.if-unfollowed.false in
    next_some a.blocks.now a.insts.now a.addresses.now a.ends.now a.pieces.now a.lay a.p a.z a.g a.mark a.o a.l a.total c.requires.ready
    c.requires.l_lt_locals.0 c.requires.l_lt_locals.1 c.fetch-f.ensures u
    (rw c.number.ensures at c.measure_one.ensures)
