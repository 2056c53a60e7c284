-- The answer lists' rows, by the words of the areas and of the items.
use Prim.Native.Nat.{ℕ, ◌+◌, ◌-◌, ◌*◌, ◌/◌, ◌%◌, ◌^◌, ◌≤◌, ◌<◌}
use native.Mathlib.Omega.{arith}
use mathlib.Core.Path.{◌≡◌, refl, sym, ap, ◌∙◌}
use mathlib.Core.Bool.{false}
use mathlib.Core.Option.{Option, some, none}
use mathlib.Core.List.{List, [], ◌∷◌, ◌++◌, map}
use lib.ListN.{length, get_or, drop}
use lib.Dec.{eqb}
use borrow.Author.Tests.{lt-ltb, le-ltb, ne_eqb}
use Rattle.refusals.specs.declared.Refusal.TheVariants.{List as ListWord}
use Rattle.refusals.specs.Verdicts.{check, Bad, Fine, Verdict, Answer}
use Rattle.refusals.specs.Outcomes.{given, unless, after}
use Rattle.words.specs.Rows.{tabulate, flat}
use Rattle.words.specs.Widths.{part_width, range_width}
use Rattle.words.proofs.RowLaws.{tabulate_eq}
use Rattle.words.proofs.FlatLaws.{flat_length}
use Rattle.ranges.specs.declared.Range.{Range}
use Rattle.carrying.specs.Lists.{gather}
use Rattle.areas.specs.Job.{ranges_in, ranges_of, areas_verdict}
use Rattle.ranges.specs.Points.{listed}
use Rattle.area_measure.specs.Inner.Locals.{word_of, ListedBy}
use Rattle.answer_rows.specs.Inner.{rows_in, row_of, rows_of}
use Rattle.area_tables.specs.Tables.{area_rows}
use Rattle.area_tables.specs.Inner.{listing}
use Rattle.area_tables.proofs.RowLaws.{ranges_below, rows_areas, rows_long}
use Rattle.item_lists.specs.Lists.{item_row, item_rows, AnsweredBy}
use Rattle.std.specs.Prelude.{Ok, Err}

-- an item's row, by its word
pub word_row : (x first : ℕ) (a : Option (List Range)) → x ≡ word_of first a → ranges_in a < 2 ^ 32 → row_of x ≡ item_row first a
word_row x first none e h = rw (e)
word_row x first (some rs) e h =
    let p : (x - 1) / 2 ^ 32 ≡ first = omega arith in
    let q : (x - 1) % 2 ^ 32 ≡ length rs = omega arith in
    let z : eqb x 0 ≡ false = ne_eqb x 0 (λ y. absurd (omega arith)) in
    rw (z, p, q) refl

pub row_long : (first : ℕ) (a : Option (List Range)) → length (item_row first a) ≡ 3
row_long first none = refl
row_long first (some rs) = refl

module _ (A : ℕ → Option (List Range)) (count room n : ℕ) (w : List ℕ) (D : ListedBy word_of (listing room room) A count n w) where
  pub list_full : room < n → areas_verdict count A room ≡ Bad ListWord 0
  list_full h = ap (check ListWord) (lt-ltb room (ranges_of (tabulate count A)) (omega (arith, D.total_is)))

  pub refused_list : room < n → (areas items : List ℕ) → AnsweredBy (areas_verdict count A room) count A areas items (Err (ListWord, 0)) areas items
  refused_list h areas items = rw (list_full h) (record { answer = refl; in_areas = refl; in_items = refl })

  module _ (fits : n ≤ room) (few : room ≤ 65536) (in_work : room + count ≤ length w) where
    pub list_fine : areas_verdict count A room ≡ Fine
    list_fine = ap (check ListWord) (le-ltb room (ranges_of (tabulate count A)) (omega (arith, D.total_is)))

    areas_are : rows_in w 0 n 0 ≡ area_rows count A
    areas_are = rows_areas count A w n (omega arith) (D.areas fits)

    areas_long : length (area_rows count A) ≡ range_width * n
    areas_long = ap length (sym areas_are) ∙ rows_long w 0 n 0

    items_are : rows_of w room count ≡ item_rows count A
    items_are = ap flat (tabulate_eq count (λ i. row_of (get_or w (room + i) 0)) (λ i. item_row (ranges_of (tabulate i A)) (A i))
        (λ i h. word_row (get_or w (room + i) 0) (ranges_of (tabulate i A)) (A i) (D.items i h) (omega (arith, ranges_below A i count h, D.total_is))))

    items_long : length (item_rows count A) ≡ part_width * count
    items_long = flat_length 3 count (λ i. item_row (ranges_of (tabulate i A)) (A i)) (λ i h. row_long (ranges_of (tabulate i A)) (A i))

    pub given_list : (areas items areas' items' : List ℕ) → areas' ≡ rows_in w 0 n 0 ++ drop (range_width * n) areas → items' ≡ rows_of w room count ++ drop (part_width * count) items
        → AnsweredBy (areas_verdict count A room) count A areas items (Ok n) areas' items'
    given_list areas items areas' items' a b = rw list_fine (record {
      answer = ap (λ (k : ℕ). given k) D.total_is;
      in_areas = a ∙ ap (λ (l : List ℕ). l ++ drop (range_width * n) areas) areas_are ∙ ap (λ (k : ℕ). area_rows count A ++ drop k areas) (sym areas_long);
      in_items = b ∙ ap (λ (l : List ℕ). l ++ drop (part_width * count) items) items_are ∙ ap (λ (k : ℕ). item_rows count A ++ drop k items) (sym items_long);
    })

-- ---- areas that are the same

module _ (n : ℕ) (A B : ℕ → Option (List Range)) (same : (i : ℕ) → i < n → A i ≡ B i) where
  ranges_same : ranges_of (tabulate n A) ≡ ranges_of (tabulate n B)
  ranges_same = ap ranges_of (tabulate_eq n A B same)

  areas_same : area_rows n A ≡ area_rows n B
  areas_same = ap (λ (l : List (Option (List Range))). flat (map (λ (r : Range). r.start ∷ r.end ∷ []) (gather listed l))) (tabulate_eq n A B same)

  items_same : item_rows n A ≡ item_rows n B
  items_same = ap flat (tabulate_eq n (λ i. item_row (ranges_of (tabulate i A)) (A i)) (λ i. item_row (ranges_of (tabulate i B)) (B i))
      (λ i h. ap (λ (k : ℕ). item_row k (A i)) (ap ranges_of (tabulate_eq i A B (λ j q. same j (omega arith)))) ∙ ap (item_row (ranges_of (tabulate i B))) (same i h)))

  pub answered_same : {v : Verdict} {areas items : List ℕ} {r : Answer} {areas' items' : List ℕ} → AnsweredBy v n A areas items r areas' items' → AnsweredBy v n B areas items r areas' items'
  answered_same {v} {areas} {items} D = record {
    answer = D.answer ∙ ap (unless v) ranges_same;
    in_areas = D.in_areas ∙ ap (λ (k : ℕ). after (unless v k) (λ _. area_rows n A) areas) ranges_same ∙ ap (λ (l : List ℕ). after (unless v (ranges_of (tabulate n B))) (λ _. l) areas) areas_same;
    in_items = D.in_items ∙ ap (λ (k : ℕ). after (unless v k) (λ _. item_rows n A) items) ranges_same ∙ ap (λ (l : List ℕ). after (unless v (ranges_of (tabulate n B))) (λ _. l) items) items_same;
  }
