-- Ranges in two columns: the index of each refusal fits its 32 bits, and so does each count.
use Prim.Native.Nat.{ℕ, suc, ◌+◌, ◌≤◌, max}
use native.Mathlib.Omega.{arith}
use mathlib.Core.Path.{◌≡◌}
use mathlib.Core.Bool.{Bool, true, false, cond, ◌||◌}
use mathlib.Core.List.{List, [], ◌∷◌, ◌++◌}
use lib.ListN.{length, length-append}
use lib.Dec.{leb, ltb, eqb}
use Rattle.refusals.specs.declared.Refusal.TheVariants.{Count, Space}
use Rattle.refusals.specs.Verdicts.{in_order, check, Fine, Verdict}
use Rattle.refusals.proofs.Laws.{check_told, first_left}
use Rattle.words.proofs.Bools.{or_neither}
use Rattle.ranges.specs.declared.Range.{Range}
use Rattle.ranges.specs.Points.{range}
use Rattle.ranges.specs.Merged.{not_after, insert, sort, join, join_all, merged, joined, union}
use Rattle.ranges.specs.Lent.{list_verdict}
use Rattle.ranges.specs.Forms.{columns}
use Rattle.ranges.proofs.FormLaws.{columns_length}
use Rattle.range_checks.specs.Verdicts.{uneven, bad_list, pair_verdict, merged_verdict, joined_verdict, union_verdict, clashes_verdict}
use Rattle.range_checks.proofs.VerdictLaws.{even_list, small_list}
use Rattle.codes.specs.Inner.{index_of, Fits}
use Rattle.codes.proofs.IndexLaws.{check_fits, scan_within, counted_fits, first_fits}
use Rattle.answer_bounds.proofs.Steps.{no_more, order_fit, next_fits, few_fits}

-- ---- indexes

list_fits : (o : Bool) (rs : List Range) → length rs ≤ 65536 → Fits (list_verdict o rs)
unfolding list_verdict
list_fits o rs h = few_fits _ _ _ h

list_within : (o : Bool) (rs : List Range) → index_of (list_verdict o rs) ≤ length rs
unfolding list_verdict
list_within o rs = scan_within _ _ _

pair_fits : (o : Bool) (rs ss : List Range) → length rs ≤ 65536 → length ss ≤ 65536 → Fits (pair_verdict o rs ss)
unfolding pair_verdict
pair_fits o rs ss h l = first_fits _ _ (list_fits o rs h) (λ _. counted_fits (length rs) (list_verdict o ss) (omega (arith, list_within o ss)))

-- a list that is no bad one
few : (ss es : List ℕ) → bad_list ss es ≡ false → length (columns ss es) ≤ 65536
few ss es e = let a = columns_length ss es (even_list ss es e) in let b = small_list ss es e in omega arith

entry_fits : (count space : Bool) (v : Verdict) → (count ≡ false → Fits v) → Fits (in_order (check Count count ∷ check Space space ∷ v ∷ []))
entry_fits count space v h =
    order_fit
    (next_fits (check_fits Count count) (λ e. next_fits (check_fits Space space) (λ _. next_fits (h (check_told Count count e)) (λ _. no_more))))

module _ (ss es : List ℕ) where
  pub merged_fits : (n m : ℕ) → Fits (merged_verdict ss es n m)
  merged_fits n m = entry_fits (bad_list ss es || uneven n m) (ltb n (length ss)) (list_verdict false (columns ss es)) (λ e. list_fits false (columns ss es) (few ss es (or_neither (bad_list ss es) (uneven n m) e).0))

  pub joined_fits : (r : Range) (n m : ℕ) → Fits (joined_verdict ss es r n m)
  joined_fits r n m = entry_fits (bad_list ss es || uneven n m) (ltb n (length ss + 1)) (pair_verdict false (columns ss es) (r ∷ [])) (λ e. pair_fits false (columns ss es) (r ∷ []) (few ss es (or_neither (bad_list ss es) (uneven n m) e).0) (omega arith))

  module _ (ts fs : List ℕ) where
    pub union_fits : (n m : ℕ) → Fits (union_verdict ss es ts fs n m)
    union_fits n m =
        entry_fits (bad_list ss es || (bad_list ts fs || uneven n m)) (ltb n (length ss + length ts)) (pair_verdict true (columns ss es) (columns ts fs))
        (λ e. let (a, b) = or_neither (bad_list ss es) (bad_list ts fs || uneven n m) e in pair_fits true (columns ss es) (columns ts fs) (few ss es a) (few ts fs (or_neither (bad_list ts fs) (uneven n m) b).0))

    pub clashes_fits : Fits (clashes_verdict ss es ts fs)
    clashes_fits =
        order_fit
        (next_fits (check_fits Count (bad_list ss es || bad_list ts fs))
        (λ e. let (a, b) = or_neither (bad_list ss es) (bad_list ts fs) (check_told Count (bad_list ss es || bad_list ts fs) e) in
        next_fits (pair_fits true (columns ss es) (columns ts fs) (few ss es a) (few ts fs b)) (λ _. no_more)))

-- ---- counts

insert_length : (r : Range) (rs : List Range) → length (insert r rs) ≡ suc (length rs)
unfolding insert
insert_length r [] = omega arith
insert_length r (s ∷ rs) = go (not_after r s) (insert_length r rs)
  where
    go : (t : Bool) → length (insert r rs) ≡ suc (length rs) → length (cond t (r ∷ s ∷ rs) (s ∷ insert r rs)) ≡ suc (suc (length rs))
    go true h = omega arith
    go false h = omega arith

sort_length : (rs : List Range) → length (sort rs) ≡ length rs
unfolding sort
sort_length [] = omega arith
sort_length (r ∷ rs) = let a = insert_length r (sort rs) in let b = sort_length rs in omega arith

join_few : (a : Range) (rs : List Range) → length (join a rs) ≤ suc (length rs)
unfolding join
join_few a [] = omega arith
join_few a (r ∷ rs) = go (leb r.start (a.end + 1)) (join_few (range a.start (max a.end r.end)) rs) (join_few r rs)
  where
    go : (t : Bool) → length (join (range a.start (max a.end r.end)) rs) ≤ suc (length rs) → length (join r rs) ≤ suc (length rs)
        → length (cond t (join (range a.start (max a.end r.end)) rs) (a ∷ join r rs)) ≤ suc (suc (length rs))
    go true h l = omega arith
    go false h l = omega arith

all_few : (rs : List Range) → length (join_all rs) ≤ length rs
all_few [] = omega arith
all_few (r ∷ rs) = join_few r rs

merged_few : (rs : List Range) → length (merged rs) ≤ length rs
unfolding merged
merged_few rs = let a = all_few (sort rs) in let b = sort_length rs in omega arith

joined_few : (rs : List Range) (r : Range) → length (joined rs r) ≤ suc (length rs)
unfolding joined
joined_few [] r = omega arith
joined_few (s ∷ []) r = go (eqb r.start (s.end + 1))
  where
    go : (t : Bool) → length (cond t (range s.start r.end ∷ []) (s ∷ r ∷ [])) ≤ 2
    go true = omega arith
    go false = omega arith
joined_few (s ∷ t ∷ rs) r = let a = joined_few (t ∷ rs) r in omega arith

fine_counts : (count space : Bool) (v : Verdict) → in_order (check Count count ∷ check Space space ∷ v ∷ []) ≡ Fine → count ≡ false
unfolding in_order
fine_counts count space v e = check_told Count count (first_left (check Count count) _ e)

module _ (ss es : List ℕ) where
  pub merged_count : (n m : ℕ) → merged_verdict ss es n m ≡ Fine → length (merged (columns ss es)) ≤ 65536
  merged_count n m e =
      let a = few ss es (or_neither (bad_list ss es) (uneven n m) (fine_counts (bad_list ss es || uneven n m) (ltb n (length ss)) (list_verdict false (columns ss es)) e)).0 in
      let b = merged_few (columns ss es) in
      omega arith

  pub joined_count : (r : Range) (n m : ℕ) → joined_verdict ss es r n m ≡ Fine → length (joined (columns ss es) r) ≤ 65537
  joined_count r n m e =
      let a = few ss es (or_neither (bad_list ss es) (uneven n m) (fine_counts (bad_list ss es || uneven n m) (ltb n (length ss + 1)) (pair_verdict false (columns ss es) (r ∷ [])) e)).0 in
      let b = joined_few (columns ss es) r in
      omega arith

  pub union_count : (ts fs : List ℕ) (n m : ℕ) → union_verdict ss es ts fs n m ≡ Fine → length (union (columns ss es) (columns ts fs)) ≤ 131072
  union_count ts fs n m e =
      let (a, b) = or_neither (bad_list ss es) (bad_list ts fs || uneven n m) (fine_counts (bad_list ss es || (bad_list ts fs || uneven n m)) (ltb n (length ss + length ts)) (pair_verdict true (columns ss es) (columns ts fs)) e) in
      let c = few ss es a in
      let d = few ts fs (or_neither (bad_list ts fs) (uneven n m) b).0 in
      let f = merged_few (columns ss es ++ columns ts fs) in
      let g = length-append (columns ss es) (columns ts fs) in
      omega arith
