-- Areas that stand one behind another are, by their items' words, the areas that fitting reads.
use Prim.Native.Nat.{ℕ, ◌+◌, ◌-◌, ◌*◌, ◌^◌, ◌≤◌, ◌<◌}
use native.Mathlib.Omega.{arith}
use mathlib.Core.Path.{◌≡◌, refl, sym, ap, subst, ◌∙◌}
use mathlib.Core.Option.{Option, some, none, some-injective}
use mathlib.Core.List.{List, [], ◌∷◌, ◌++◌}
use lib.ListN.{length, get_or, take, drop, length-append}
use Rattle.words.specs.Rows.{tabulate}
use Rattle.words.specs.Inner.{part}
use Rattle.words.proofs.RowLaws.{tabulate_add}
use Rattle.words.proofs.RegionLaws.{length_part, kept_part_list}
use Rattle.ranges.specs.declared.Range.{Range}
use Rattle.ranges.specs.Points.{Apart, listed}
use Rattle.ranges.specs.Inner.{unpacked}
use Rattle.ranges.proofs.FormLaws.{unpacked_length}
use Rattle.carrying.specs.Lists.{gather}
use Rattle.areas.specs.Job.{ranges_in, ranges_of}
use Rattle.area_pieces.proofs.AreaLaws.{unpacked_both}
use Rattle.area_pieces.proofs.HullLaws.{gather_append}
use Rattle.area_measure.specs.Inner.Locals.{word_of, ListedBy}
use Rattle.area_measure.proofs.ListLaws.{ranges_append, ranges_more, gather_more}
use Rattle.fit_tables.specs.Inner.{first_of, count_of, ranges_at, area_in, Proper}
use Rattle.fit_tables.proofs.TableLaws.{area_none, area_some}
use Rattle.area_tables.specs.Inner.{listing}
use Rattle.area_tables.proofs.RowLaws.{gathered_long, listed_long}

-- ---- lists

module _ {A : Type 0} where
  -- equal lists whose first parts are equally long have the same parts
  parts_left : (a b c d : List A) → length a ≡ length c → a ++ b ≡ c ++ d → a ≡ c
  parts_left a b c d l e = sym (front a b) ∙ ap (take (length a)) e ∙ ap (λ (n : ℕ). take n (c ++ d)) l ∙ front c d
    where
      front : (x y : List A) → take (length x) (x ++ y) ≡ x
      front [] y = refl
      front (z ∷ x) y = ap (λ (k : List A). z ∷ k) (front x y)

  parts_right : (a b c d : List A) → length a ≡ length c → a ++ b ≡ c ++ d → b ≡ d
  parts_right a b c d l e = sym (rest a b) ∙ ap (drop (length a)) e ∙ ap (λ (n : ℕ). drop n (c ++ d)) l ∙ rest c d
    where
      rest : (x y : List A) → drop (length x) (x ++ y) ≡ y
      rest [] y = refl
      rest (z ∷ x) y = rest x y

module _ (A : ℕ → Option (List Range)) (count i : ℕ) (h : i < count) where
  abbrev later : ℕ → Option (List Range)
  later j = A (i + 1 + j)

  split : count ≡ i + 1 + (count - (i + 1))
  split = omega arith

  -- the ranges before item i's, its own, and those behind
  gather_split : gather listed (tabulate count A) ≡ (gather listed (tabulate i A) ++ listed (A i)) ++ gather listed (tabulate (count - (i + 1)) later)
  gather_split =
      ap (λ (n : ℕ). gather listed (tabulate n A)) split ∙ ap (gather listed) (tabulate_add (i + 1) (count - (i + 1)) A)
      ∙ gather_append listed (tabulate (i + 1) A) (tabulate (count - (i + 1)) later)
      ∙ ap (λ (l : List Range). l ++ gather listed (tabulate (count - (i + 1)) later)) (gather_more A i)

  ranges_split : ranges_of (tabulate count A) ≡ ranges_of (tabulate i A) + ranges_in (A i) + ranges_of (tabulate (count - (i + 1)) later)
  ranges_split =
      ap (λ (n : ℕ). ranges_of (tabulate n A)) split ∙ ap ranges_of (tabulate_add (i + 1) (count - (i + 1)) A)
      ∙ ranges_append (tabulate (i + 1) A) (tabulate (count - (i + 1)) later)
      ∙ ap (λ (n : ℕ). n + ranges_of (tabulate (count - (i + 1)) later)) (ranges_more A i)

-- an item's word, less 1
word_first : (first own x : ℕ) → x ≡ first * 2 ^ 32 + own + 1 → own < 2 ^ 32 → first_of x ≡ first
word_first first own x e h = omega arith

word_count : (first own x : ℕ) → x ≡ first * 2 ^ 32 + own + 1 → own < 2 ^ 32 → count_of x ≡ own
word_count first own x e h = omega arith

-- ---- item i's area

module _ {A : ℕ → Option (List Range)} {count total room : ℕ} {w : List ℕ} (D : ListedBy word_of (listing room room) A count total w) (fits : total ≤ room) (in_work : room ≤ length w) (short : room ≤ 65536) where
  module _ (i : ℕ) (h : i < count) where
    abbrev first : ℕ
    first = ranges_of (tabulate i A)

    abbrev own : ℕ
    own = ranges_in (A i)

    below : first + own ≤ total
    below = let e = ranges_split A count i h in omega (arith, D.total_is)

    own_ranges : unpacked (part (0 + first) own w) ≡ listed (A i)
    own_ranges =
        let k : total ≡ first + own + (total - (first + own)) = omega (arith, below) in
        let a = sym (ap (λ (n : ℕ). unpacked (part 0 n w)) k ∙ unpacked_both w 0 (first + own) (total - (first + own))) ∙ D.areas fits ∙ gather_split A count i h in
        let l : length (unpacked (part 0 (first + own) w)) ≡ first + own = unpacked_length (part 0 (first + own) w) ∙ length_part 0 (first + own) w (omega (arith, below)) in
        let m : length (unpacked (part 0 first w)) ≡ first = unpacked_length (part 0 first w) ∙ length_part 0 first w (omega (arith, below)) in
        let g = gathered_long (tabulate i A) in
        let j : length (gather listed (tabulate i A) ++ listed (A i)) ≡ first + own = length-append (gather listed (tabulate i A)) (listed (A i)) ∙ omega (arith, listed_long (A i)) in
        let b = parts_left (unpacked (part 0 (first + own) w)) (unpacked (part (0 + (first + own)) (total - (first + own)) w)) (gather listed (tabulate i A) ++ listed (A i)) (gather listed (tabulate (count - (i + 1)) (later A count i h))) (l ∙ sym j) a in
        parts_right (unpacked (part 0 first w)) (unpacked (part (0 + first) own w)) (gather listed (tabulate i A)) (listed (A i)) (m ∙ sym g) (sym (unpacked_both w 0 first own) ∙ b)

    area_of_lem : (a : Option (List Range)) → A i ≡ a → area_in w 0 (get_or w (room + i) 0) ≡ a
    area_of_lem none e = area_none w 0 (get_or w (room + i) 0) (D.items i h ∙ ap (word_of first) e)
    area_of_lem (some rs) e =
        let z : get_or w (room + i) 0 ≡ first * 2 ^ 32 + length rs + 1 = D.items i h ∙ ap (word_of first) e in
        let o : own ≡ length rs = ap ranges_in e in
        let p : first_of (get_or w (room + i) 0) ≡ first = word_first first (length rs) (get_or w (room + i) 0) z (omega (arith, below)) in
        let q : count_of (get_or w (room + i) 0) ≡ own = word_count first (length rs) (get_or w (room + i) 0) z (omega (arith, below)) ∙ sym o in
        area_some w 0 (get_or w (room + i) 0) (omega arith)
        ∙ ap (λ (k : ℕ). some (unpacked (part (0 + k) (count_of (get_or w (room + i) 0)) w))) p ∙ ap (λ (k : ℕ). some (unpacked (part (0 + first) k w))) q
        ∙ ap some (own_ranges ∙ ap listed e)

    -- fitting reads item i's area
    pub area_is : area_in w 0 (get_or w (room + i) 0) ≡ A i
    area_is = area_of_lem (A i) refl

    pub proper_is : ((rs : List Range) → A i ≡ some rs → Apart rs) → 0 < get_or w (room + i) 0 → Proper w 0 room (get_or w (room + i) 0)
    proper_is apart q = go (A i) refl
      where
        go : (a : Option (List Range)) → A i ≡ a → Proper w 0 room (get_or w (room + i) 0)
        go none e = absurd (omega (arith, D.items i h ∙ ap (word_of first) e))
        go (some rs) e =
            let z : get_or w (room + i) 0 ≡ first * 2 ^ 32 + length rs + 1 = D.items i h ∙ ap (word_of first) e in
            let o : own ≡ length rs = ap ranges_in e in
            let f : some (ranges_at w 0 (get_or w (room + i) 0)) ≡ some rs = sym (area_some w 0 (get_or w (room + i) 0) q) ∙ area_is ∙ e in
            let k : first_of (get_or w (room + i) 0) ≡ first = word_first first (length rs) (get_or w (room + i) 0) z (omega (arith, below)) in
            let m : count_of (get_or w (room + i) 0) ≡ length rs = word_count first (length rs) (get_or w (room + i) 0) z (omega (arith, below)) in
            record { inside = omega (arith, below); neat = subst Apart (sym (some-injective _ rs f)) (apart rs e) }

-- areas stand still where nothing has changed below the items' words
pub listed_kept : {A : ℕ → Option (List Range)} {count total room : ℕ} {w₀ : List ℕ} → ListedBy word_of (listing room room) A count total w₀ → total ≤ room → room + count ≤ length w₀
    → (w : List ℕ) → length w ≡ length w₀ → ((x : ℕ) → x < room + count → get_or w x 0 ≡ get_or w₀ x 0) → ListedBy word_of (listing room room) A count total w
listed_kept {A} {count} {total} {room} {w₀} D fits inside w len same = record {
  total_is = D.total_is;
  areas = λ q. ap unpacked (kept_part_list {w₀ = w₀} {w = w} {at = 0} {n = total} (record { same = λ x a b. same x (omega arith) }) (omega arith) len) ∙ D.areas fits;
  items = λ i h. same (room + i) (omega arith) ∙ D.items i h;
}
