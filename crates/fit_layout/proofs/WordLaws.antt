-- The layout by the cells' words: what each loop has after c cells.
use Prim.Native.Nat.{ℕ, zero, suc, ◌+◌, ◌-◌, ◌*◌, ◌/◌, ◌^◌, ◌≤◌, ◌<◌}
use native.Mathlib.Omega.{arith}
use native.Mathlib.Nat.{div-mul-le_self}
use native.Mathlib.Numerals.{add-one}
use mathlib.Core.Path.{◌≡◌, refl, sym, ap, subst, ◌∙◌}
use mathlib.Core.Bool.{Bool, true, false, not}
use mathlib.Core.List.{List, ◌++◌}
use mir.Syntax.{w32}
use mir.Val.{of_z, to_z}
use mir.ValLaws.{to_z-of_z}
use lib.IntN.{ℤ, pos, ◌-ℤ◌, +ℤ_idl}
use lib.Signed.{mag}
use lib.ListN.{length, get_or, take, drop, set, length-set}
use lib.Seq.{paste, paste-zero, paste-suc, take-length}
use lib.Dec.{eqb, ltb}
use lib.Pow.{pow_mono}
use borrow.Author.Tests.{eq-eqb, eqb-true, lt-ltb, le-ltb}
use Rattle.refusals.specs.declared.Refusal.TheVariants.{Align, Depth}
use Rattle.refusals.specs.declared.Refusal.{Refusal}
use Rattle.refusals.specs.Verdicts.{in_order, scan, Bad, Fine, Verdict}
use Rattle.refusals.proofs.Laws.{first_fine, first_bad, check_last, scan_none, scan_miss, scan_hit, scan_end}
use Rattle.words.proofs.Bools.{both_ways}
use Rattle.words.proofs.Points.{cut}
use Rattle.words.proofs.RowLaws.{length_tabulate, get_d_tabulate}
use Rattle.bits.specs.Inner.{Lowest}
use Rattle.bits.proofs.DigitLaws.{bit_power, lowest_once}
use Rattle.fitting.specs.Queries.{Room}
use Rattle.fitting.specs.Layout.{room_by, round_up, deeper, depth_before, depth_at, depth_of, offset_of, offsets_of, is_power, among_powers, align_verdict, depth_verdict, layout_verdict}
use Rattle.fitting.proofs.PowerLaws.{power_told, power_tells}
use Rattle.fitting.proofs.LayoutLaws.{depth_none, depth_more, layout_small}
use Rattle.fit_tables.specs.Inner.{size_of, align_of}
use Rattle.fit_layout.specs.Inner.{rooms_at}

-- ---- a power of two

pub power_none : (a : ℕ) → a < 1 → false ≡ is_power a
unfolding among_powers
power_none zero h = refl
power_none (suc a) h = absurd (omega arith)

power_lowest : (k : ℕ) → k < 64 → Lowest (2 ^ k) k
power_lowest k h = record { within = h; set = bit_power k k ∙ eq-eqb k k refl; least = λ j l. bit_power k j ∙ below j l }
  where
    below : (j : ℕ) → j < k → eqb j k ≡ false
    below j l = go (eqb j k) refl
      where
        go : (b : Bool) → eqb j k ≡ b → eqb j k ≡ false
        go true e = absurd (omega (arith, eqb-true j k e))
        go false e = e

-- a number is one exactly when it is its lowest set bit
pub power_is : (a k : ℕ) → a < 2 ^ 64 → Lowest a k → eqb (2 ^ k) a ≡ is_power a
power_is a k h l =
    both_ways (eqb (2 ^ k) a) (is_power a)
    (λ e. power_tells a (k, sym (eqb-true (2 ^ k) a e)))
    (λ e. let (j, q) = power_told a e in
    let same : k ≡ j = lowest_once l (subst (λ (x : ℕ). Lowest x j) (sym q) (power_lowest j (short j (rw q at h)))) in
    eq-eqb (2 ^ k) a (ap (λ (i : ℕ). 2 ^ i) same ∙ sym q))
  where
    short : (j : ℕ) → 2 ^ j < 2 ^ 64 → j < 64
    short j p = cut 64 j (λ g. absurd (let z : 2 ^ 64 ≤ 2 ^ j = pow_mono g in omega arith)) (λ g. g)

-- ---- the cells by their words

module _ (w : List ℕ) (from cells : ℕ) where
  abbrev rooms : List Room
  rooms = rooms_at w from cells

  abbrev word : ℕ → ℕ
  word c = get_or w (from + c) 0

  pub rooms_long : length rooms ≡ cells
  rooms_long = length_tabulate cells _

  pub room_at : (c : ℕ) → c < cells → room_by rooms c ≡ record { size = size_of (word c); align = align_of (word c) }
  room_at c h = get_d_tabulate cells _ c (record { size = 0; align = 0 }) h

  pub depth_at_lem : (c : ℕ) → c < cells → round_up (depth_before rooms c + size_of (word c)) (align_of (word c)) ≡ depth_at rooms c
  depth_at_lem c h = ap (deeper (depth_before rooms c)) (sym (room_at c h))

  -- ---- 12

  abbrev crooked : ℕ → Bool
  crooked c = not (is_power (room_by rooms c).align)

  crooked_at : (c : ℕ) {t : Bool} → c < cells → t ≡ is_power (align_of (word c)) → crooked c ≡ not t
  crooked_at c h e = ap (λ (r : Room). not (is_power r.align)) (room_at c h) ∙ sym (ap not e)

  pub record Aligned (c : ℕ) : Type 0 where
    pub c_le : c ≤ cells
    pub fine : scan Align crooked c ≡ Fine

  pub aligned_start : Aligned 0
  aligned_start = record { c_le = omega arith; fine = scan_none Align crooked }

  module _ {c : ℕ} (A : Aligned c) where
    pub aligned_more : c < cells → true ≡ is_power (align_of (word c)) → Aligned (c + 1)
    aligned_more h e = record { c_le = omega arith; fine = scan_miss Align crooked c A.fine (crooked_at c h e) }

    pub aligned_bad : c < cells → false ≡ is_power (align_of (word c)) → Bad Align c ≡ align_verdict rooms
    aligned_bad h e = sym (scan_hit Align crooked c (length rooms) A.fine (crooked_at c h e) (omega (arith, rooms_long)))

    pub aligned_done : cells ≤ c → Fine ≡ align_verdict rooms
    aligned_done h = sym (scan_end Align crooked c (length rooms) A.fine (omega (arith, rooms_long, A.c_le)) (omega (arith, rooms_long)))

  -- ---- 13

  abbrev sunk : ℕ → Bool
  sunk c = ltb 2147483647 (depth_at rooms c)

  pub record Deep (c depth : ℕ) : Type 0 where
    pub c_le : c ≤ cells
    pub is : depth ≡ depth_before rooms c
    pub small : depth ≤ 2147483647
    pub fine : scan Depth sunk c ≡ Fine

  pub deep_start : Deep 0 0
  deep_start = record { c_le = omega arith; is = sym (depth_none rooms); small = omega arith; fine = scan_none Depth sunk }

  module _ {c depth next : ℕ} (D : Deep c depth) (h : c < cells) (e : next ≡ round_up (depth + size_of (word c)) (align_of (word c))) where
    next_is : next ≡ depth_at rooms c
    next_is = e ∙ ap (λ (d : ℕ). round_up (d + size_of (word c)) (align_of (word c))) D.is ∙ depth_at_lem c h

    pub deep_more : next ≤ 2147483647 → Deep (c + 1) next
    deep_more l = record {
      c_le = omega arith;
      is = next_is ∙ sym (depth_more rooms c);
      small = l;
      fine = scan_miss Depth sunk c D.fine (le-ltb 2147483647 (depth_at rooms c) (omega (arith, next_is)));
    }

    pub deep_bad : 2147483647 < next → Bad Depth c ≡ depth_verdict rooms
    deep_bad l = sym (scan_hit Depth sunk c (length rooms) D.fine (lt-ltb 2147483647 (depth_at rooms c) (omega (arith, next_is))) (omega (arith, rooms_long)))

  pub deep_done : {c depth : ℕ} → Deep c depth → cells ≤ c → Fine ≡ depth_verdict rooms
  deep_done {c} D h = sym (scan_end Depth sunk c (length rooms) D.fine (omega (arith, rooms_long, D.c_le)) (omega (arith, rooms_long)))

  -- ---- both, 12 first

  pub layout_bad : (r : Refusal) (i : ℕ) → align_verdict rooms ≡ Bad r i → Bad r i ≡ layout_verdict rooms
  unfolding layout_verdict in_order
  layout_bad r i e = sym (first_bad (align_verdict rooms) _ r i e)

  pub layout_depths : {v : Verdict} → align_verdict rooms ≡ Fine → v ≡ depth_verdict rooms → v ≡ layout_verdict rooms
  unfolding layout_verdict in_order
  layout_depths e q = q ∙ sym (first_fine (align_verdict rooms) _ e ∙ check_last (depth_verdict rooms))

  -- an alignment that is over 0 is so in its word
  pub word_positive : (c : ℕ) → c < cells → 0 < (room_by rooms c).align → 0 < align_of (word c)
  word_positive c h p = subst (λ (r : Room). 0 < r.align) (room_at c h) p

  -- ---- the offsets

  pub record Writing (offsets₀ offsets : List ℤ) (c depth : ℕ) : Type 0 where
    pub c_le : c ≤ cells
    pub room : cells ≤ length offsets₀
    pub is : depth ≡ depth_before rooms c
    pub small : depth ≤ 2147483647
    pub written : offsets ≡ paste offsets₀ 0 (offsets_of rooms) c
    pub len : length offsets ≡ length offsets₀

  pub write_start : (offsets : List ℤ) → cells ≤ length offsets → Writing offsets offsets 0 0
  write_start offsets h = record { c_le = omega arith; room = h; is = sym (depth_none rooms); small = omega arith; written = paste-zero offsets 0 (offsets_of rooms); len = refl }

  module _ {offsets₀ offsets : List ℤ} {c depth next : ℕ} (W : Writing offsets₀ offsets c depth) (fine : layout_verdict rooms ≡ Fine) (h : c < cells)
      (e : next ≡ round_up (depth + size_of (word c)) (align_of (word c))) where
    at_is : next ≡ depth_at rooms c
    at_is = e ∙ ap (λ (d : ℕ). round_up (d + size_of (word c)) (align_of (word c))) W.is ∙ depth_at_lem c h

    pub next_small : next ≤ 2147483647
    next_small = omega (arith, at_is, layout_small rooms fine c (omega (arith, rooms_long)))

    pub write_more : {o : ℤ} → o ≡ offset_of next → Writing offsets₀ (set offsets c o) (c + 1) next
    write_more {o} q = record {
      c_le = omega arith;
      room = W.room;
      is = at_is ∙ sym (depth_more rooms c);
      small = next_small;
      written =
          let k : c < length rooms = omega (arith, rooms_long) in
          let z : 0 + c ≡ c = omega arith in
          let v : o ≡ get_or (offsets_of rooms) c (pos 0) = q ∙ ap offset_of at_is ∙ sym (get_d_tabulate (length rooms) (λ n. offset_of (depth_at rooms n)) c (pos 0) k) in
          ap (λ (l : List ℤ). set l c o) W.written ∙ ap (set (paste offsets₀ 0 (offsets_of rooms) c) c) v
          ∙ ap (λ (x : ℕ). set (paste offsets₀ 0 (offsets_of rooms) c) x (get_or (offsets_of rooms) c (pos 0))) (sym z)
          ∙ paste-suc offsets₀ 0 (offsets_of rooms) c (pos 0) (omega (arith, W.room)) (omega (arith, length_tabulate (length rooms) (λ n. offset_of (depth_at rooms n))))
          ∙ ap (paste offsets₀ 0 (offsets_of rooms)) (sym (add-one c));
      len = simp length-set W.len;
    }

  pub write_done : {offsets₀ offsets : List ℤ} {c depth : ℕ} → Writing offsets₀ offsets c depth → cells ≤ c → (depth ≡ depth_of rooms) × (offsets ≡ offsets_of rooms ++ drop cells offsets₀)
  write_done {offsets₀} {offsets} {c} {depth} W h =
      let e : c ≡ cells = omega (arith, W.c_le) in
      let l : length (offsets_of rooms) ≡ cells = length_tabulate (length rooms) _ ∙ rooms_long in
      let z : 0 + cells ≡ cells = omega arith in (
        W.is ∙ ap (depth_before rooms) (e ∙ sym rooms_long),
        W.written ∙ ap (paste offsets₀ 0 (offsets_of rooms)) e
            ∙ ap (λ (k : ℕ). take k (offsets_of rooms) ++ drop (0 + cells) offsets₀) (sym l)
            ∙ ap (λ (s : List ℤ). s ++ drop (0 + cells) offsets₀) (take-length (offsets_of rooms)) ∙ ap (λ (k : ℕ). offsets_of rooms ++ drop k offsets₀) z,
      )

-- ---- what is computed

-- a sum rounded up fits where the sum with the alignment does
pub rounded_fits : (x a : ℕ) → x < 2 ^ 64 → x / a * a < 2 ^ 64
rounded_fits x a h = omega (arith, div-mul-le_self x a)

pub rounded_is : (d a : ℕ) → (d + (a - 1)) / a * a ≡ round_up d a
unfolding round_up
rounded_is d a = refl

-- minus a depth, by the bits that the machine has
depth_plain : (d : ℕ) → d ≤ 2147483647 → to_z w32 d ≡ pos d
depth_plain d h = to_z-of_z w32 (pos d) (record { sfits = omega arith })

minus_small : (d : ℕ) → d ≤ 2147483647 → mag (offset_of d) < 2 ^ 31
minus_small zero h = omega arith
minus_small (suc d) h = omega arith

minus_plain : (d : ℕ) → d ≤ 2147483647 → to_z w32 0 -ℤ to_z w32 d ≡ offset_of d
minus_plain d h = ap (λ (z : ℤ). to_z w32 0 -ℤ z) (depth_plain d h) ∙ +ℤ_idl (offset_of d)

pub minus_fits : (d : ℕ) → d ≤ 2147483647 → mag (to_z w32 0 -ℤ to_z w32 d) < 2 ^ 31
minus_fits d h = rw (minus_plain d h) (minus_small d h)

-- a number that is stored and read back
pub stored : (d : ℕ) (o : ℤ) → o ≡ offset_of d → d ≤ 2147483647 → to_z w32 (of_z w32 o) ≡ offset_of d
stored d o e h = ap (λ (z : ℤ). to_z w32 (of_z w32 z)) e ∙ to_z-of_z w32 (offset_of d) (record { sfits = minus_small d h })

pub minus_is : (d : ℕ) → d ≤ 2147483647 → to_z w32 (of_z w32 (to_z w32 0 -ℤ to_z w32 d)) ≡ offset_of d
minus_is d h = stored d (to_z w32 0 -ℤ to_z w32 d) (minus_plain d h) h
