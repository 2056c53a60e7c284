-- `words::search::below` meets its contract: the library's partition point of the part.
use mathlib.Core.List.{List}
use mathlib.Core.Path.{ap, refl, ◌∙◌}
use Prim.Native.Nat.{ℕ, ◌+◌}
use lib.ListN.{get_or, length}
use lib.Dec.{ltb}
use Rattle.std.proofs.Common.{rules}
use Rattle.std.proofs.lemmas.List.Sorted.{IsPartitionPoint-from_clause}
use Rattle.words.proofs.SearchLaws.{splits_point, front_lt}
use Rattle.words.proofs.RegionLaws.{lent_part, length_part, get_d_part}
use Rattle.words.proofs.search.below.Goals as goal

pub returns : goal.returns
returns c =
    splits_point (λ x. ltb x c.args.point) 0 _ _ c.args.n _
    (ap length (lent_part c.args.w.now c.args.base (c.args.base + c.args.n) c.args.n refl) ∙ length_part _ _ _ c.requires.0)
    (λ i l. ap (λ (q : List ℕ). ltb (get_or q i 0) c.args.point) (lent_part c.args.w.now c.args.base (c.args.base + c.args.n) c.args.n refl) ∙ ap (λ (x : ℕ). ltb x c.args.point) (get_d_part _ _ _ i l))
    (front_lt (λ i. get_or c.args.w.now (c.args.base + i) 0) _ _ c.requires.1) c.partition_point.ensures.bound
    (λ h. IsPartitionPoint-from_clause (λ x. ltb x c.args.point) _ _ c.partition_point.ensures.partitioned h (λ a r q k. search rules))
