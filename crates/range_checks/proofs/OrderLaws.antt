-- "Lowest number wins" of the range entries: which refusal each of their checks gives, 1, 7, then 10.
use Prim.Native.Nat.{ℕ, ◌+◌}
use mathlib.Core.Path.{refl}
use mathlib.Core.Bool.{Bool, true, false, ◌||◌}
use mathlib.Core.List.{List, [], ◌∷◌}
use lib.ListN.{length}
use lib.Dec.{ltb}
use Rattle.refusals.specs.declared.Refusal.TheVariants.{Count, Space, Want}
use Rattle.refusals.specs.Verdicts.{number_of, check, counted_on, Verdict}
use Rattle.refusals.specs.Orders.{Gives, Ordered}
use Rattle.refusals.proofs.Orders.{check_gives, first_gives, counted_gives, scan_gives}
use Rattle.ranges.specs.declared.Range.{Range}
use Rattle.ranges.specs.Lent.{wrong_at, list_verdict}
use Rattle.ranges.specs.Forms.{columns}
use Rattle.range_checks.specs.Verdicts.{uneven, bad_list, pair_verdict, merged_checks, joined_checks, union_checks, clashes_checks}

list_gives : (o : Bool) (rs : List Range) → Gives Want (list_verdict o rs)
unfolding list_verdict
list_gives o rs = scan_gives Want (wrong_at o rs) (length rs)

pub pair_gives : (o : Bool) (rs ss : List Range) → Gives Want (pair_verdict o rs ss)
unfolding pair_verdict
pair_gives o rs ss = first_gives Want (list_verdict o rs) (counted_on (length rs) (list_verdict o ss)) (list_gives o rs) (counted_gives Want (length rs) (list_verdict o ss) (list_gives o ss))

entry_ordered : (c t : Bool) (v : Verdict) → Gives Want v → Ordered number_of (Count ∷ Space ∷ Want ∷ []) (check Count c ∷ check Space t ∷ v ∷ [])
entry_ordered c t v g = record { gives = (check_gives Count c, (check_gives Space t, (g, tt))); rises = refl }

pub merged_ordered : (ss es : List ℕ) (n m : ℕ) → Ordered number_of (Count ∷ Space ∷ Want ∷ []) (merged_checks ss es n m)
merged_ordered ss es n m = entry_ordered (bad_list ss es || uneven n m) (ltb n (length ss)) (list_verdict false (columns ss es)) (list_gives false (columns ss es))

pub joined_ordered : (ss es : List ℕ) (r : Range) (n m : ℕ) → Ordered number_of (Count ∷ Space ∷ Want ∷ []) (joined_checks ss es r n m)
joined_ordered ss es r n m = entry_ordered (bad_list ss es || uneven n m) (ltb n (length ss + 1)) (pair_verdict false (columns ss es) (r ∷ [])) (pair_gives false (columns ss es) (r ∷ []))

pub union_ordered : (ss es ts fs : List ℕ) (n m : ℕ) → Ordered number_of (Count ∷ Space ∷ Want ∷ []) (union_checks ss es ts fs n m)
union_ordered ss es ts fs n m =
    entry_ordered (bad_list ss es || (bad_list ts fs || uneven n m)) (ltb n (length ss + length ts)) (pair_verdict true (columns ss es) (columns ts fs)) (pair_gives true (columns ss es) (columns ts fs))

-- a count and two lists, in columns or as structs
pub pair_ordered : (count : Bool) (rs ss : List Range) → Ordered number_of (Count ∷ Want ∷ []) (check Count count ∷ pair_verdict true rs ss ∷ [])
pair_ordered count rs ss = record { gives = (check_gives Count count, (pair_gives true rs ss, tt)); rises = refl }

pub clashes_ordered : (ss es ts fs : List ℕ) → Ordered number_of (Count ∷ Want ∷ []) (clashes_checks ss es ts fs)
clashes_ordered ss es ts fs = pair_ordered (bad_list ss es || bad_list ts fs) (columns ss es) (columns ts fs)
