-- The loaded tables hold the wants that were lent.
use mir.Syntax.{w64}
use mir.Val.{Fits}
use Prim.Native.Nat.{ℕ, ◌+◌, ◌*◌, ◌^◌, ◌≤◌, ◌<◌}
use native.Mathlib.Omega.{arith}
use native.Mathlib.Decide.{ℕ_discrete}
use mathlib.Core.Path.{◌≡◌, ap, sym, ◌∙◌}
use mathlib.Core.Bool.{Bool, false, cond}
use mathlib.Core.Option.{some, none}
use mathlib.Core.List.{List}
use lib.ListN.{length, get_or, take, drop}
use lib.Seq.{ext_get_or}
use borrow.Author.Tests.{eq-eqb, ne_eqb}
use Rattle.words.specs.Inner.{part, want_size, want_align}
use Rattle.words.specs.Widths.{cell_width, range_width, range_count, range_end, want_width, want_count, want_present, want_first, want_ranges}
use Rattle.words.proofs.RegionLaws.{length_part, get_d_part}
use Rattle.words.proofs.RowLaws.{tabulate_eq}
use Rattle.ranges.specs.Points.{range, range_at, Apart}
use Rattle.ranges.specs.Inner.{unpack, unpacked}
use Rattle.ranges.specs.Forms.{areas_of}
use Rattle.ranges.proofs.FormLaws.{unpacked_length, unpacked_at, unpack_pack}
use Rattle.fitting.specs.Queries.{part_of}
use Rattle.fit_tables.specs.Inner.{size_of, align_of, first_of, count_of, ranges_at, area_in, want_in, wants_in, Proper, Lent, item_word_at, Loaded}
use Rattle.wants.specs.Inner.{tables_for}
use Rattle.fit_tables.proofs.TableLaws.{area_none, area_some}
use Rattle.wants.specs.Entry.{wants_of}
use Rattle.want_checks.specs.Checks.{bad_want}
use Rattle.fit_tables.proofs.WantLaws.{word_none, word_some, area_word}
use Rattle.range_walk.proofs.PartLaws.{part_length, part_at, part_fine, areas_length}

-- a part that is in the area list begins no later than its end
pub first_small : (wants areas : List ℕ) → range_count areas ≤ 65536 → ((i : ℕ) → i < want_count wants → bad_want (areas_of areas) wants i ≡ false)
    → (i : ℕ) → i < want_count wants → 0 < want_present wants i → want_first wants i ≤ 65536
first_small wants areas short fine i h q =
    let a = part_fine (areas_of areas) (want_present wants i) (want_first wants i) (want_ranges wants i) (fine i h) (λ e. omega arith) in
    omega (arith, a.0, areas_length areas)

-- ---- what they hold

module _ {w₀ w wants areas : List ℕ} (L : Loaded w₀ w wants areas (want_count wants) (range_count areas))
    (small : (x : ℕ) → get_or areas x 0 < 2 ^ 32) (narrow : (x : ℕ) → get_or wants x 0 < 2 ^ 32)
    (few : want_count wants ≤ 4096) (short : range_count areas ≤ 65536) (room : range_count areas + 7 * want_count wants ≤ length w₀)
    (fine : (i : ℕ) → i < want_count wants → bad_want (areas_of areas) wants i ≡ false) where
  range_is : (i : ℕ) → i < range_count areas → unpack (get_or w i 0) ≡ range (get_or areas (range_width * i) 0) (range_end areas i)
  range_is i h =
      ap unpack (L.area i h ∙ sym (area_word areas i)) ∙ unpack_pack (get_or areas (range_width * i) 0) (range_end areas i) (small (range_width * i + 1))

  ranges_are : (first count : ℕ) → first + count ≤ range_count areas → unpacked (part first count w) ≡ take count (drop first (areas_of areas))
  ranges_are first count h =
      ext_get_or (range 0 0) (unpacked (part first count w)) (take count (drop first (areas_of areas))) (len ∙ sym (part_length areas first count h)) at
    where
      len : length (unpacked (part first count w)) ≡ count
      len = unpacked_length (part first count w) ∙ length_part first count w (omega (arith, L.len))

      at : (i : ℕ) → i < length (unpacked (part first count w)) → range_at (unpacked (part first count w)) i ≡ range_at (take count (drop first (areas_of areas))) i
      at i q =
          let l : i < count = rw len at q in
          unpacked_at (part first count w) i ∙ ap unpack (get_d_part first count w i l) ∙ range_is (first + i) (omega arith) ∙ sym (part_at areas first count h i l)

  module _ (i : ℕ) (h : i < want_count wants) where
    present_part : (want_present wants i ≡ 0 → ⊥) → (want_first wants i + want_ranges wants i ≤ range_count areas) × Apart (take (want_ranges wants i) (drop (want_first wants i) (areas_of areas)))
    present_part d =
        let (a, b) = part_fine (areas_of areas) (want_present wants i) (want_first wants i) (want_ranges wants i) (fine i h) d in
        (rw (areas_length areas) at a, b)

    first_is : (want_present wants i ≡ 0 → ⊥) → first_of (item_word_at wants i) ≡ want_first wants i
    first_is d =
        let e = word_some (want_present wants i) (want_first wants i) (want_ranges wants i) d in
        let k = narrow (want_width * i + 4) in
        ap first_of e ∙ omega arith

    count_is : (want_present wants i ≡ 0 → ⊥) → count_of (item_word_at wants i) ≡ want_ranges wants i
    count_is d =
        let e = word_some (want_present wants i) (want_first wants i) (want_ranges wants i) d in
        let k = narrow (want_width * i + 4) in
        ap count_of e ∙ omega arith

    ranges_is : (want_present wants i ≡ 0 → ⊥) → ranges_at w 0 (item_word_at wants i) ≡ take (want_ranges wants i) (drop (want_first wants i) (areas_of areas))
    ranges_is d =
        let z : 0 + first_of (item_word_at wants i) ≡ want_first wants i = omega (arith, first_is d) in
        ap (λ (k : ℕ). unpacked (part k (count_of (item_word_at wants i)) w)) z ∙ ap (λ (k : ℕ). unpacked (part (want_first wants i) k w)) (count_is d)
        ∙ ranges_are (want_first wants i) (want_ranges wants i) (present_part d).0

    area_is : area_in w 0 (get_or w (range_count areas + i) 0) ≡ part_of (areas_of areas) (want_present wants i) (want_first wants i) (want_ranges wants i)
    area_is = ap (area_in w 0) (L.item i h) ∙ go (ℕ_discrete (want_present wants i) 0)
      where
        go : Dec (want_present wants i ≡ 0) → area_in w 0 (item_word_at wants i) ≡ part_of (areas_of areas) (want_present wants i) (want_first wants i) (want_ranges wants i)
        go (yes e) =
            area_none w 0 (item_word_at wants i) (word_none (want_present wants i) (want_first wants i) (want_ranges wants i) e)
            ∙ sym (ap (λ (t : Bool). cond t none (some (take (want_ranges wants i) (drop (want_first wants i) (areas_of areas))))) (eq-eqb (want_present wants i) 0 e))
        go (no d) =
            area_some w 0 (item_word_at wants i) (omega (arith, word_some (want_present wants i) (want_first wants i) (want_ranges wants i) d)) ∙ ap some (ranges_is d)
            ∙ sym (ap (λ (t : Bool). cond t none (some (take (want_ranges wants i) (drop (want_first wants i) (areas_of areas))))) (ne_eqb (want_present wants i) 0 d))

    proper_is : 0 < item_word_at wants i → Proper w 0 (range_count areas) (item_word_at wants i)
    proper_is q = go (ℕ_discrete (want_present wants i) 0)
      where
        go : Dec (want_present wants i ≡ 0) → Proper w 0 (range_count areas) (item_word_at wants i)
        go (yes e) = absurd (omega (arith, word_none (want_present wants i) (want_first wants i) (want_ranges wants i) e))
        go (no d) = record { inside = omega (arith, first_is d, count_is d, (present_part d).0); neat = rw (ranges_is d) (present_part d).1 }

    size_is : size_of (get_or w (range_count areas + want_count wants + i) 0) ≡ want_size wants i
    size_is = ap size_of (L.want i h) ∙ omega (arith, narrow (want_width * i + 1))

    align_is : align_of (get_or w (range_count areas + want_count wants + i) 0) ≡ want_align wants i
    align_is = ap align_of (L.want i h) ∙ omega (arith, narrow (want_width * i + 1))

    want_same : want_in w (tables_for wants areas) i ≡ record { size = want_size wants i; align = want_align wants i; area = part_of (areas_of areas) (want_present wants i) (want_first wants i) (want_ranges wants i) }
    want_same =
        let a = size_is in
        let b = align_is in
        let c = area_is in
        cc

  pub lent : Lent w (tables_for wants areas)
  lent = record {
    few = few;
    room = omega (arith, L.len);
    proper = λ i h q. rw (L.item i h) (proper_is i h (rw (L.item i h) at q));
  }

  pub wants_are : wants_in w (tables_for wants areas) ≡ wants_of (areas_of areas) wants
  wants_are = tabulate_eq (want_count wants) (want_in w (tables_for wants areas))
      (λ i. record { size = want_size wants i; align = want_align wants i; area = part_of (areas_of areas) (want_present wants i) (want_first wants i) (want_ranges wants i) }) want_same

-- ---- what the entry computes fits, each bound as the code asks for it
pub record Regions (n ranges : ℕ) : Type 0 where
  pub five : Fits w64 (5 * n)
  pub cells : Fits w64 (ranges + 5 * n)
  pub six : Fits w64 (6 * n)
  pub items : Fits w64 (ranges + 6 * n)
  pub all : Fits w64 (n + ranges)
  pub end : Fits w64 (8 * (n + ranges))

pub regions : (n ranges : ℕ) → n ≤ 4096 → ranges ≤ 65536 → Regions n ranges
regions n ranges h k = record { five = omega arith; cells = omega arith; six = omega arith; items = omega arith; all = omega arith; end = omega arith }

pub in_cells : (k n m : ℕ) → k ≤ n → cell_width * n ≤ m → cell_width * k ≤ m
in_cells k n m h r = omega arith

pub in_tables : (k n ranges m₀ m₁ m₂ : ℕ) → k ≤ n → 8 * (n + ranges) ≤ m₀ → m₁ ≡ m₀ → m₂ ≡ m₁ → ranges + 5 * n + k ≤ m₂
in_tables k n ranges m₀ m₁ m₂ h r e f = omega arith
