-- `joins` meets its contract: the lists passed allow the area, so the rest decides.
use Rattle.fit_tables.specs.Inner.{ranges_of, area_at, next_at}
use Rattle.fit_tables.proofs.ChainLaws.{walk_no, walk_yes, walk_end}
use Rattle.fit_tables.proofs.ListLaws.{listed_proper}
use native.Mathlib.Omega.{arith}
use Prim.Native.Nat.{◌-◌}
use mathlib.Core.Path.{refl, sym, ◌∙◌}
use Rattle.fit_cells.proofs.probing.joins.Goals as goal

pub loop-m-init : goal.loop-m-init
loop-m-init c = (omega arith, refl)

pub free-requires : goal.free-requires
free-requires c =
    ((λ h. listed_proper (omega (arith, c.requires.0.low)) (c.requires.0.lists (c.loop-m.m - 1) (omega arith) h)), c.requires.0.top_le, c.requires.1, c.requires.2)

pub returns-then-not-free : goal.returns-then-not-free
returns-then-not-free c =
    let g = c.args in
    let m = c.loop-m.m in
    let next = next_at g.w.now g.t in
    let area = area_at g.w.now g.t in
    let rs = ranges_of g.w.now g.a in
    sym (c.loop-m.invariant.1 ∙ walk_no next area rs m (m - 1) (omega arith) (λ q h. c.requires.0.falls q (omega arith)) (sym c.free.ensures ∙ c.if-not-free.true))

pub loop-m-preserved : goal.loop-m-preserved
loop-m-preserved c =
    let g = c.args in
    let m = c.loop-m.m in
    let next = next_at g.w.now g.t in
    let area = area_at g.w.now g.t in
    let rs = ranges_of g.w.now g.a in
    (omega (arith, c.requires.0.falls (m - 1) (omega arith)), c.loop-m.invariant.1 ∙ walk_yes next area rs m (m - 1) (omega arith) (λ q h. c.requires.0.falls q (omega arith)) (sym c.free.ensures ∙ c.if-not-free.false))

pub returns : goal.returns
returns c =
    let g = c.args in
    let m = c.loop-m.m in
    let next = next_at g.w.now g.t in
    let area = area_at g.w.now g.t in
    let rs = ranges_of g.w.now g.a in
    sym (c.loop-m.invariant.1 ∙ walk_end next area rs m (omega arith))
