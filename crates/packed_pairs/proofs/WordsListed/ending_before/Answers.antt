-- `ending_before` of words meets its contract: the words from a place on, of which those that end before a point are in front.
use mathlib.Core.Path.{sym, ap, ◌∙◌}
use native.Mathlib.Omega.{arith}
use Prim.Native.Nat.{ℕ, ◌+◌, ◌-◌, ◌%◌, ◌^◌}
use lib.ListN.{length}
use lib.Dec.{ltb}
use Rattle.std.proofs.Common.{rules}
use Rattle.std.proofs.lemmas.List.Sorted.{IsPartitionPoint-from_clause}
use Rattle.words.proofs.RegionLaws.{length_part, get_d_part}
use Rattle.ranges.specs.Inner.{unpacked}
use Rattle.ranges.proofs.FormLaws.{unpacked_length, word_view, end_view}
use Rattle.clashing.proofs.ListedLaws.{ends_counted}
use Rattle.packed_pairs.proofs.WordsListed.ending_before.Goals as goal

pub offset_bounds-self-from : goal.offset_bounds-self-from
offset_bounds-self-from c = omega (arith, unpacked_length c.args.self.now.words.now)

pub slice_bounds-gallop-count : goal.slice_bounds-gallop-count
slice_bounds-gallop-count c = omega (arith, unpacked_length c.args.self.now.words.now)

pub slice_bounds-gallop-start : goal.slice_bounds-gallop-start
slice_bounds-gallop-start c = omega (arith, unpacked_length c.args.self.now.words.now)

pub returns : goal.returns
returns c =
    let w = c.args.self.now.words.now in
    let long = unpacked_length w in
    let n = length w - c.args.from in
    ends_counted (λ x. ltb (x % 2 ^ 32) c.args.point) 0 _ (unpacked w) c.args.from c.args.point _ c.requires.1
    (omega (arith, length_part c.args.from n w (omega arith)))
    (λ i l. ap (λ (x : ℕ). ltb (x % 2 ^ 32) c.args.point) (get_d_part c.args.from n w i (omega arith)) ∙ ap (λ (x : ℕ). ltb x c.args.point) (sym (end_view (word_view w) (c.args.from + i) (omega arith))))
    c.gallop.ensures.bound
    (λ h. IsPartitionPoint-from_clause (λ x. ltb (x % 2 ^ 32) c.args.point) _ _ c.gallop.ensures.partitioned h (λ b r q k. search rules))
