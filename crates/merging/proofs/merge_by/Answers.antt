-- `merge_by` meets its contract: packed, merged, and unpacked.
use Prim.Native.Nat.{ℕ, ◌/◌, ◌%◌, ◌^◌}
use native.Mathlib.Omega.{arith}
use lib.ListN.{length-replicate}
use Rattle.std.proofs.Common.{rules, of_calls}
use Rattle.std.proofs.lemmas.Fn.{always_returns_same}
use Rattle.merging.proofs.MergingLaws.{merged_columns}
use Rattle.merging.proofs.merge_by.Goals as goal

pub returns : goal.returns
returns g c =
    let a = c.args in
    merged_columns a.start.now a.end.now a.out_start.now a.out_end.now _ _ _ _ _ _ c.requires.0 (λ i. (c.type_inv.end i).fits) c.requires.1 c.requires.2 (omega (arith, length-replicate {A = ℕ} g.row.K 0)) c.pack_columns.ensures c.merge-k.auto.w c.merge-k.ensures
    (c.unpack.ensures (λ x. x / 2 ^ 32) (always_returns_same _ _ _ (λ x r f k. search (rules, of_calls))))
    (c.unpack-2.ensures (λ x. x % 2 ^ 32) (always_returns_same _ _ _ (λ x r f k. search (rules, of_calls))))
