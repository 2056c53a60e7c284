-- `measure_next` meets its contract: an unfollowed local has no area, another is fetched and measured.
use native.Mathlib.Omega.{arith}
use Rattle.area_measure.proofs.LocalLaws.{next_none, next_measurable, next_listable, next_done}
use Rattle.area_measure.proofs.locals.measure_next.Goals as goal

pub returns-then-kind-eq0 : goal.returns-then-kind-eq0
returns-then-kind-eq0 c =
    let a = c.args in
    next_none a.blocks.now a.kinds.now a.touches.now a.ends.now a.p a.g a.mark a.o a.l a.total c.requires.sound.1 c.requires.l_in_bounds.0 (omega arith)

pub measure_one-requires : goal.measure_one-requires
measure_one-requires c =
    let a = c.args in (
      c.requires.sound.0,
      next_measurable a.blocks.now a.kinds.now a.touches.now a.ends.now a.p a.g a.mark a.o a.l a.total c.requires.sound.1 c.requires.l_in_bounds.0
          (omega arith) c.requires.l_in_bounds.1 c.fetch-t.ensures,
      next_listable a.blocks.now a.kinds.now a.touches.now a.ends.now a.p a.g a.mark a.o a.l
          a.total c.requires.sound.1 c.requires.l_in_bounds.0 (omega arith) c.requires.l_in_bounds.1 c.fetch-t.ensures,
    )

pub returns : goal.returns
returns c =
    let a = c.args in
    next_done a.blocks.now a.kinds.now a.touches.now a.ends.now a.p a.g a.mark a.o a.l a.total c.requires.sound.1 c.requires.l_in_bounds.0 (omega (arith, c.if-kind-eq0))
    c.requires.l_in_bounds.1 c.fetch-t.ensures c.measure_one.ensures
