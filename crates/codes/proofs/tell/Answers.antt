-- `codes::tell` meets its contract.
use native.Mathlib.Omega.{arith}
use lib.ListN.{length-set}
use Rattle.codes.proofs.CodeLaws.{told_all}
use Rattle.codes.proofs.tell.Goals as goal

pub bounds-counts-0 : goal.bounds-counts-0
bounds-counts-0 c = omega arith

pub bounds-counts-1 : goal.bounds-counts-1
bounds-counts-1 c = simp length-set (omega arith)

pub bounds-counts-2 : goal.bounds-counts-2
bounds-counts-2 c = simp length-set (omega arith)

pub returns : goal.returns
returns c = told_all _ _ _ c.args.counts.now (omega arith)
