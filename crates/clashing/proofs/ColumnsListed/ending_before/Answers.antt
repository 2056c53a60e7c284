-- `ending_before` of columns meets its contract: the ends from a place on, of which those before a point are in front.
use mathlib.Core.Path.{sym, ap, ◌∙◌}
use native.Mathlib.Omega.{arith}
use Prim.Native.Nat.{ℕ, ◌+◌, ◌-◌}
use lib.ListN.{length}
use lib.Dec.{ltb}
use Rattle.std.proofs.Common.{rules}
use Rattle.std.proofs.lemmas.List.Sorted.{IsPartitionPoint-from_clause}
use Rattle.words.proofs.RegionLaws.{length_part, get_d_part}
use Rattle.ranges.specs.Forms.{columns}
use Rattle.ranges.proofs.FormLaws.{columns_length, column_view_ends, end_view}
use Rattle.clashing.proofs.ListedLaws.{ends_counted}
use Rattle.clashing.proofs.ColumnsListed.ending_before.Goals as goal

pub offset_bounds-self-from : goal.offset_bounds-self-from
offset_bounds-self-from c = let a = c.args.self.now in let e = a.even in omega (arith, columns_length a.start.now a.end.now a.even)

pub slice_bounds-gallop-count : goal.slice_bounds-gallop-count
slice_bounds-gallop-count c = let a = c.args.self.now in let e = a.even in omega (arith, columns_length a.start.now a.end.now a.even)

pub slice_bounds-gallop-start : goal.slice_bounds-gallop-start
slice_bounds-gallop-start c = let a = c.args.self.now in let e = a.even in omega (arith, columns_length a.start.now a.end.now a.even)

pub returns : goal.returns
returns c =
    let a = c.args.self.now in
    let e = a.even in
    let long = columns_length a.start.now a.end.now a.even in
    let n = length a.end.now - c.args.from in
    ends_counted (λ x. ltb x c.args.point) 0 _ (columns a.start.now a.end.now) c.args.from c.args.point _ c.requires.1
    (omega (arith, length_part c.args.from n a.end.now (omega arith)))
    (λ i l. ap (λ (x : ℕ). ltb x c.args.point) (get_d_part c.args.from n a.end.now i (omega arith) ∙ sym (end_view (column_view_ends a.start.now a.end.now a.even) (c.args.from + i) (omega arith))))
    c.gallop.ensures.bound
    (λ h. IsPartitionPoint-from_clause (λ x. ltb x c.args.point) _ _ c.gallop.ensures.partitioned h (λ b r q k. search rules))
