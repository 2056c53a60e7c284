-- `free` meets its contract: the clash test of two parts of the work space.
use Rattle.fit_tables.proofs.CodeLaws.{part_apart, absent, tested}
use Rattle.fit_tables.specs.Inner.{ranges_of, first_of, count_of}
use native.Mathlib.Omega.{arith}
use Prim.Native.Nat.{◌+◌}
use mathlib.Core.Path.{refl}
use Rattle.fit_cells.proofs.probing.free.Goals as goal

pub returns-then-x-lt1 : goal.returns-then-x-lt1
returns-then-x-lt1 c = let g = c.args in absent g.w.now g.t.at g.x (ranges_of g.w.now g.a) (omega arith)

pub clash-requires : goal.clash-requires
clash-requires c =
    let g = c.args in
    let first = g.t.at + first_of g.x in
    let count = count_of g.x in
    (part_apart g.w.now first (first + count) count refl (c.requires.0 (omega arith)).neat, part_apart g.w.now g.a.from (g.a.from + g.a.count) g.a.count refl c.requires.3)

pub returns : goal.returns
returns c =
    let g = c.args in
    let first = g.t.at + first_of g.x in
    let count = count_of g.x in
    tested g.w.now g.t.at g.x g.a.from g.a.count first (first + count) (g.a.from + g.a.count) _ (omega arith) refl refl refl c.clash.ensures
