-- The range entries: what a verdict that is fine says of the lists, and what an answer or a refusal leaves.
use Rattle.std.specs.Prelude.{Err, Ok}
use mathlib.Core.Path.{◌≡◌, refl, sym, ap, ◌∙◌}
use mathlib.Core.Logic.{◌↔◌}
use mathlib.Core.Bool.{Bool, true, false, ◌||◌}
use mathlib.Core.List.{List, [], ◌∷◌, ◌++◌, map}
use Prim.Native.Nat.{ℕ, ◌+◌, ◌≤◌}
use native.Mathlib.Omega.{arith}
use lib.ListN.{length, take, length-map}
use lib.Seq.{take-append_seam}
use lib.Dec.{ltb}
use borrow.Author.Tests.{ltb-false, eqb-true, not-false}
use Rattle.words.proofs.Bools.{or_neither}
use Rattle.refusals.specs.declared.Refusal.{Refusal}
use Rattle.refusals.specs.declared.Refusal.TheVariants.{Count, Space}
use Rattle.refusals.specs.Verdicts.{in_order, check, counted_on, Bad, Fine, Verdict}
use Rattle.refusals.specs.Outcomes.{given, unless, after, answered}
use Rattle.refusals.proofs.Laws.{first_left, first_right, check_told}
use Rattle.ranges.specs.declared.Range.{Range}
use Rattle.ranges.specs.Points.{Upright, Apart, Same}
use Rattle.ranges.specs.Merged.{merged}
use Rattle.ranges.specs.Forms.{columns, starts, ends}
use Rattle.ranges.specs.Lent.{list_verdict}
use Rattle.range_checks.specs.Verdicts.{uneven, bad_list, pair_verdict, merged_verdict, joined_verdict, union_verdict, clashes_verdict}
use Rattle.range_entries.specs.Entries.{size, merged_of, Listed}
use Rattle.ranges.specs.Inner.{Listing}
use Rattle.ranges.proofs.LentLaws.{fine_upright, fine_apart}
use Rattle.ranges.proofs.GapLaws.{merged_same}
use Rattle.ranges.proofs.FormLaws.{columns_again}
use Rattle.range_checks.proofs.VerdictLaws.{even_list, small_list}
use Rattle.ranges.proofs.ListingLaws.{listing_length}
use Rattle.columns.proofs.ColumnLaws.{starts_are, ends_are}

-- ---- a fine verdict

-- what each check says: with an answer list, and without
record Told (c t : Bool) (v : Verdict) : Type 0 where
  count : c ≡ false
  space : t ≡ false
  lists : v ≡ Fine

told : (c t : Bool) (v : Verdict) → in_order (check Count c ∷ check Space t ∷ v ∷ []) ≡ Fine → Told c t v
unfolding in_order
told c t v e =
    let rest = first_right (check Count c) _ e in
    record { count = check_told Count c (first_left _ _ e); space = check_told Space t (first_left _ _ rest); lists = first_left v _ (first_right (check Space t) _ rest) }

test_told : (c : Bool) (v : Verdict) → in_order (check Count c ∷ v ∷ []) ≡ Fine → (c ≡ false) × (v ≡ Fine)
unfolding in_order
test_told c v e = (check_told Count c (first_left _ _ e), first_left v _ (first_right (check Count c) _ e))

counted_fine : (n : ℕ) (v : Verdict) → counted_on n v ≡ Fine → v ≡ Fine
counted_fine n Fine e = refl
counted_fine n (Err x) e = absurd (let z : ◌≡◌ {A = ℕ} 0 1 = cc in omega arith)

pub pair_apart_one : (rs ss : List Range) → pair_verdict true rs ss ≡ Fine → Apart rs
unfolding pair_verdict
pair_apart_one rs ss e = fine_apart rs (first_left _ _ e)

pub pair_apart_two : (rs ss : List Range) → pair_verdict true rs ss ≡ Fine → Apart ss
unfolding pair_verdict
pair_apart_two rs ss e = fine_apart ss (counted_fine (length rs) _ (first_right _ _ e))

even_fine : (n m : ℕ) → uneven n m ≡ false → n ≡ m
even_fine n m e = eqb-true n m (not-false _ e)

-- what the entries' checks leave
pub record Columns (ss es : List ℕ) (need : ℕ) (n m : ℕ) : Type 0 where
  pub even : length ss ≡ length es
  pub small : length ss ≤ 65536
  pub answer : n ≡ m
  pub room : need ≤ n

pub merged_fine : (ss es : List ℕ) (n m : ℕ) → merged_verdict ss es n m ≡ Fine → Columns ss es (length ss) n m
merged_fine ss es n m e =
    let t = told (bad_list ss es || uneven n m) (ltb n (length ss)) (list_verdict false (columns ss es)) e in
    let c = or_neither (bad_list ss es) (uneven n m) t.count in
    record { even = even_list ss es c.0; small = small_list ss es c.0; answer = even_fine n m c.1; room = ltb-false n (length ss) t.space }

pub joined_fine : (ss es : List ℕ) (r : Range) (n m : ℕ) → joined_verdict ss es r n m ≡ Fine → Columns ss es (length ss + 1) n m
joined_fine ss es r n m e =
    let t = told (bad_list ss es || uneven n m) (ltb n (length ss + 1)) (pair_verdict false (columns ss es) (r ∷ [])) e in
    let c = or_neither (bad_list ss es) (uneven n m) t.count in
    record { even = even_list ss es c.0; small = small_list ss es c.0; answer = even_fine n m c.1; room = ltb-false n (length ss + 1) t.space }

pub record Pair (ss es ts fs : List ℕ) : Type 0 where
  pub even : length ss ≡ length es
  pub even_two : length ts ≡ length fs
  pub one : Apart (columns ss es)
  pub two : Apart (columns ts fs)

pair_fine : (ss es ts fs : List ℕ) → bad_list ss es ≡ false → bad_list ts fs ≡ false → pair_verdict true (columns ss es) (columns ts fs) ≡ Fine → Pair ss es ts fs
pair_fine ss es ts fs a b e =
    record { even = even_list ss es a; even_two = even_list ts fs b; one = pair_apart_one (columns ss es) (columns ts fs) e; two = pair_apart_two (columns ss es) (columns ts fs) e }

pub union_fine : (ss es ts fs : List ℕ) (n m : ℕ) → union_verdict ss es ts fs n m ≡ Fine → Columns ss es (length ss + length ts) n m × Pair ss es ts fs
union_fine ss es ts fs n m e =
    let t = told (bad_list ss es || (bad_list ts fs || uneven n m)) (ltb n (length ss + length ts)) (pair_verdict true (columns ss es) (columns ts fs)) e in
    let c = or_neither (bad_list ss es) (bad_list ts fs || uneven n m) t.count in
    let d = or_neither (bad_list ts fs) (uneven n m) c.1 in (
      record { even = even_list ss es c.0; small = small_list ss es c.0; answer = even_fine n m d.1; room = ltb-false n (length ss + length ts) t.space },
      pair_fine ss es ts fs c.0 d.0 t.lists,
    )

pub clashes_fine : (ss es ts fs : List ℕ) → clashes_verdict ss es ts fs ≡ Fine → Pair ss es ts fs
clashes_fine ss es ts fs e =
    let t = test_told (bad_list ss es || bad_list ts fs) (pair_verdict true (columns ss es) (columns ts fs)) e in
    let c = or_neither (bad_list ss es) (bad_list ts fs) t.0 in
    pair_fine ss es ts fs c.0 c.1 t.1

-- ---- what the answer lists hold

pub listed : (v : Verdict) (rs : List Range) (os oe os' oe' : List ℕ) (k : ℕ) → v ≡ Fine → length os ≡ length oe → length os' ≡ length oe'
    → Listing (columns os oe) (columns os' oe') k rs → Listed (unless v rs) os oe (Ok k) os' oe'
listed v rs os oe os' oe' k e h h' w =
    rw e (record { answer = ap given (sym (listing_length w)); in_starts = starts_are os oe os' oe' h h' w; in_ends = ends_are os oe os' oe' h h' w })

pub unlisted : (v : Verdict) (rs : List Range) (os oe : List ℕ) (r : Refusal) (i : ℕ) → v ≡ Bad r i → Listed (unless v rs) os oe (Err (r, i)) os oe
unlisted v rs os oe r i e = rw e (record { answer = refl; in_starts = refl; in_ends = refl })

pub clash_told : (v : Verdict) (b c : Bool) → v ≡ Fine → b ≡ c → answered (Ok b) ≡ unless v c
clash_told v b c e h = rw (e, h)

pub clash_refused : (v : Verdict) (c : Bool) (r : Refusal) (i : ℕ) → v ≡ Bad r i → answered (Err (r, i)) ≡ unless v c
clash_refused v c r i e = rw e

-- ---- two calls of `merged`

given_fine : (v : Verdict) (rs : List Range) (n : ℕ) → given n ≡ size (unless v rs) → v ≡ Fine
given_fine Fine rs n e = refl
given_fine (Err x) rs n e = absurd (let z : ◌≡◌ {A = ℕ} 0 1 = cc in omega arith)

module _ (ss es : List ℕ) {os oe os' oe' : List ℕ} {n : ℕ} (M : Listed (merged_of ss es (length os) (length oe)) os oe (Ok n) os' oe') where
  abbrev all : List Range
  all = merged (columns ss es)

  fine : merged_verdict ss es (length os) (length oe) ≡ Fine
  fine = given_fine (merged_verdict ss es (length os) (length oe)) all n M.answer

  many : n ≡ length all
  many = let e : given n ≡ given (length all) = M.answer ∙ ap (λ (v : Verdict). size (unless v all)) fine in cc

  -- no range that was lent is reversed
  lent_upright : Upright (columns ss es)
  lent_upright = fine_upright false (columns ss es) (told (bad_list ss es || uneven (length os) (length oe)) (ltb (length os) (length ss)) (list_verdict false (columns ss es)) fine).lists

  front : (f : Range → ℕ) (old new : List ℕ) → new ≡ map f all ++ old → take n new ≡ map f all
  front f old new e = ap (take n) e ∙ ap (λ (k : ℕ). take k (map f all ++ old)) (many ∙ sym (length-map all f)) ∙ take-append_seam (map f all) old

  -- the first n entries of the two columns are the merged list
  pub merged_wrote : columns (take n os') (take n oe') ≡ all
  merged_wrote =
      ap (λ (l : List ℕ). columns l (take n oe')) (front (λ r. r.start) _ os' (M.in_starts ∙ ap (λ (v : Verdict). after (unless v all) starts os) fine))
      ∙ ap (columns (starts all)) (front (λ r. r.end) _ oe' (M.in_ends ∙ ap (λ (v : Verdict). after (unless v all) ends oe) fine)) ∙ columns_again all

-- document 02, (b): what two calls wrote is the same list exactly when the lists that were lent cover the same points
pub merged_answers : (ss es ts fs : List ℕ) {os oe os' oe' ps qs ps' qs' : List ℕ} {n m : ℕ} → Listed (merged_of ss es (length os) (length oe)) os oe (Ok n) os' oe'
    → Listed (merged_of ts fs (length ps) (length qs)) ps qs (Ok m) ps' qs'
    → (columns (take n os') (take n oe') ≡ columns (take m ps') (take m qs')) ↔ Same (columns ss es) (columns ts fs)
merged_answers ss es ts fs M N =
    let s = merged_same (columns ss es) (columns ts fs) (lent_upright ss es M) (lent_upright ts fs N) in
    (λ e. s.0 (sym (merged_wrote ss es M) ∙ e ∙ merged_wrote ts fs N), λ e. merged_wrote ss es M ∙ s.1 e ∙ sym (merged_wrote ts fs N))
