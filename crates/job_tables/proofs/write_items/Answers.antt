-- `write_items` meets its contract: a row more is written each turn.
use native.Mathlib.Omega.{arith}
use Prim.Native.Nat.{◌+◌}
use mathlib.Core.Path.{refl}
use lib.ListN.{get_or}
use Rattle.words.proofs.FlatLaws.{flat_start, flat_done, four_more}
use Rattle.job_tables.specs.Inner.{row_of}
use Rattle.job_tables.proofs.write_items.Goals as goal

pub loop-i-init : goal.loop-i-init
loop-i-init c = let a = c.args in (omega arith, flat_start 4 a.n (λ j. row_of (get_or a.w.now (a.cells + j) 0) (get_or a.w.now (a.from + j) 0)) a.out.now (λ j h. refl) (omega arith))

pub loop-i-preserved : goal.loop-i-preserved
loop-i-preserved c =
    let a = c.args in (
      omega arith,
      rw c.put_item.ensures (four_more a.n (λ j. row_of (get_or a.w.now (a.cells + j) 0) (get_or a.w.now (a.from + j) 0)) _ _ c.loop-i.i
          (omega arith) (λ j h. refl) c.loop-i.invariant.1 _ _ _ _ refl),
    )

pub returns : goal.returns
returns c = let a = c.args in flat_done 4 a.n (λ j. row_of (get_or a.w.now (a.cells + j) 0) (get_or a.w.now (a.from + j) 0)) _ _ _ (λ j h. refl) c.loop-i.invariant.1 (omega arith)
