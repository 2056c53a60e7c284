-- `write` meets its contract: an offset a cell, and the last depth.
use native.Mathlib.Omega.{arith}
use Rattle.fitting.proofs.LayoutLaws.{layout_positive}
use Rattle.fit_layout.specs.Inner.{rooms_at}
use Rattle.fit_layout.proofs.WordLaws.{rooms_long, word_positive, write_start, next_small, stored, write_more, write_done}
use Rattle.fit_layout.proofs.write.Goals as goal

pub loop-c-init : goal.loop-c-init
loop-c-init c = write_start _ _ _ _ (omega arith)

pub deeper-next-requires : goal.deeper-next-requires
deeper-next-requires c =
    let a = c.args in
    let l = c.loop-c in
    let p = layout_positive (rooms_at a.w.now a.from a.cells) c.requires.2 l.c (omega (arith, rooms_long a.w.now a.from a.cells)) in
    (l.invariant.small, word_positive a.w.now a.from a.cells l.c (omega arith) p)

pub offset-o-requires : goal.offset-o-requires
offset-o-requires c =
    next_small _ _ _ c.loop-c.invariant c.requires.2 (omega arith) c.deeper-next.ensures

pub loop-c-preserved : goal.loop-c-preserved
loop-c-preserved c =
    write_more _ _ _ c.loop-c.invariant c.requires.2 (omega arith) c.deeper-next.ensures (stored _ _ c.offset-o.ensures (next_small _ _ _ c.loop-c.invariant c.requires.2 (omega arith) c.deeper-next.ensures))

pub returns : goal.returns
returns c = write_done _ _ _ c.loop-c.invariant (omega arith)
