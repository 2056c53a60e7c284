-- `at` of columns meets its contract: both columns have a number there.
use mathlib.Core.Path.{sym}
use native.Mathlib.Omega.{arith}
use Rattle.ranges.proofs.FormLaws.{columns_length, columns_at}
use Rattle.clashing.proofs.ColumnsListed.at.Goals as goal

pub offset_bounds-self-i : goal.offset_bounds-self-i
offset_bounds-self-i c = let a = c.args.self.now in omega (arith, columns_length a.start.now a.end.now a.even)

pub bounds-self-i : goal.bounds-self-i
bounds-self-i c = let a = c.args.self.now in omega (arith, columns_length a.start.now a.end.now a.even)

pub offset_bounds-self-i-2 : goal.offset_bounds-self-i-2
offset_bounds-self-i-2 c = let a = c.args.self.now in omega (arith, columns_length a.start.now a.end.now a.even)

pub bounds-self-i-2 : goal.bounds-self-i-2
bounds-self-i-2 c = let a = c.args.self.now in let e = a.even in omega (arith, columns_length a.start.now a.end.now a.even)

pub returns : goal.returns
returns c = let a = c.args.self.now in sym (columns_at a.start.now a.end.now c.args.i a.even)
