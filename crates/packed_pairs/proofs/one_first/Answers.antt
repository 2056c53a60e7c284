-- `one_first` meets its contract: one law for each way out.
use mathlib.Core.Path.{refl}
use native.Mathlib.Omega.{arith}
use Rattle.ranges.proofs.FormLaws.{part_view}
use Rattle.ranges.proofs.UnionLaws.{first_over, first_ended, first_word}
use Rattle.packed_pairs.proofs.one_first.Goals as goal

pub returns-then-j-m : goal.returns-then-j-m
returns-then-j-m c =
    let a = c.args in
    first_over (part_view a.w.now a.one a.n c.requires.0) (part_view a.w.now a.two a.m c.requires.1) a.i a.j (omega arith)

pub returns-then-i-n : goal.returns-then-i-n
returns-then-i-n c =
    let a = c.args in
    first_ended (part_view a.w.now a.one a.n c.requires.0) (part_view a.w.now a.two a.m c.requires.1) a.i a.j (omega arith) (omega arith)

pub returns : goal.returns
returns c =
    let a = c.args in
    first_word (part_view a.w.now a.one a.n c.requires.0) (part_view a.w.now a.two a.m c.requires.1) a.i a.j (omega arith) (omega arith) _ _ refl refl refl refl
