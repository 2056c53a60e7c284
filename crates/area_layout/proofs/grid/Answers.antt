-- `grid` meets its contract: each region begins where the one before ends.
use native.Mathlib.Omega.{arith}
use mathlib.Core.Path.{refl}
use Rattle.words.proofs.FitLaws.{rows_few}
use Rattle.area_layout.proofs.grid.Goals as goal

pub overflow_add-words : goal.overflow_add-words
overflow_add-words c = let s = c.requires.0 in omega (arith, s.few_blocks, s.few_edges, s.few_locals, rows_few s.few_blocks s.few_locals)

pub overflow_mul-size : goal.overflow_mul-size
overflow_mul-size c = let s = c.requires.0 in omega (arith, s.few_blocks, s.few_edges, s.few_locals, rows_few s.few_blocks s.few_locals)

pub overflow_add-tarjan : goal.overflow_add-tarjan
overflow_add-tarjan c = let s = c.requires.0 in omega (arith, s.few_blocks, s.few_edges, s.few_locals, rows_few s.few_blocks s.few_locals)

pub overflow_add-tarjan-2 : goal.overflow_add-tarjan-2
overflow_add-tarjan-2 c = let s = c.requires.0 in omega (arith, s.few_blocks, s.few_edges, s.few_locals, rows_few s.few_blocks s.few_locals)

pub overflow_add-tarjan-3 : goal.overflow_add-tarjan-3
overflow_add-tarjan-3 c = let s = c.requires.0 in omega (arith, s.few_blocks, s.few_edges, s.few_locals, rows_few s.few_blocks s.few_locals)

pub overflow_add-tarjan-4 : goal.overflow_add-tarjan-4
overflow_add-tarjan-4 c = let s = c.requires.0 in omega (arith, s.few_blocks, s.few_edges, s.few_locals, rows_few s.few_blocks s.few_locals)

pub overflow_add-tarjan-5 : goal.overflow_add-tarjan-5
overflow_add-tarjan-5 c = let s = c.requires.0 in omega (arith, s.few_blocks, s.few_edges, s.few_locals, rows_few s.few_blocks s.few_locals)

pub overflow_mul-touched : goal.overflow_mul-touched
overflow_mul-touched c = let s = c.requires.0 in omega (arith, s.few_blocks, s.few_edges, s.few_locals, rows_few s.few_blocks s.few_locals)

pub overflow_add-touched : goal.overflow_add-touched
overflow_add-touched c = let s = c.requires.0 in omega (arith, s.few_blocks, s.few_edges, s.few_locals, rows_few s.few_blocks s.few_locals)

pub overflow_add-leaves : goal.overflow_add-leaves
overflow_add-leaves c = let s = c.requires.0 in omega (arith, s.few_blocks, s.few_edges, s.few_locals, rows_few s.few_blocks s.few_locals)

pub overflow_add-passes : goal.overflow_add-passes
overflow_add-passes c = let s = c.requires.0 in omega (arith, s.few_blocks, s.few_edges, s.few_locals, rows_few s.few_blocks s.few_locals)

pub overflow_add-written : goal.overflow_add-written
overflow_add-written c = let s = c.requires.0 in omega (arith, s.few_blocks, s.few_edges, s.few_locals, rows_few s.few_blocks s.few_locals)

pub overflow_add-read : goal.overflow_add-read
overflow_add-read c = let s = c.requires.0 in omega (arith, s.few_blocks, s.few_edges, s.few_locals, rows_few s.few_blocks s.few_locals)

pub overflow_add-wait : goal.overflow_add-wait
overflow_add-wait c = let s = c.requires.0 in omega (arith, s.few_blocks, s.few_edges, s.few_locals, rows_few s.few_blocks s.few_locals)

pub overflow_add-result : goal.overflow_add-result
overflow_add-result c = let s = c.requires.0 in omega (arith, s.few_blocks, s.few_edges, s.few_locals, rows_few s.few_blocks s.few_locals)

pub overflow_add-result-2 : goal.overflow_add-result-2
overflow_add-result-2 c = let s = c.requires.0 in omega (arith, s.few_blocks, s.few_edges, s.few_locals, rows_few s.few_blocks s.few_locals)

pub overflow_add-result-3 : goal.overflow_add-result-3
overflow_add-result-3 c = let s = c.requires.0 in omega (arith, s.few_blocks, s.few_edges, s.few_locals, rows_few s.few_blocks s.few_locals)

pub overflow_add-result-4 : goal.overflow_add-result-4
overflow_add-result-4 c = let s = c.requires.0 in omega (arith, s.few_blocks, s.few_edges, s.few_locals, rows_few s.few_blocks s.few_locals)

pub returns : goal.returns
returns c = record {
  words_are = refl;
  locals_are = refl;
  width_is = refl;
  base_is = refl;
  tarjan_at = refl;
  touched_at = refl;
  leaves_at = refl;
  passes_at = refl;
  written_at = refl;
  read_at = refl;
  wait_at = refl;
  to_at = refl;
}
