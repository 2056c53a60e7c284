-- The layout: over "the depth before a cell", whatever that is, then over a list of cells.
use Prim.Native.Nat.{ℕ, zero, suc, ◌+◌, ◌-◌, ◌*◌, ◌/◌, ◌≤◌, ◌<◌}
use native.Mathlib.Omega.{arith}
use native.Mathlib.Nat.{div-add-mod', zero-mul}
use native.Mathlib.Numerals.{add-one}
use mathlib.Core.Path.{◌≡◌, refl, sym, ap, ◌∙◌}
use mathlib.Core.Bool.{Bool, true, false, cond}
use mathlib.Core.List.{List, [], ◌∷◌}
use lib.IntN.{ℤ, pos, negsuc, neg_ℤ, ◌+ℤ◌, ◌*ℤ◌}
use lib.Signed.{◌≤ℤ◌, ◌<ℤ◌, le_z, <ℤ-≤ℤ_trans, <ℤ_irrefl}
use lib.ListN.{length}
use lib.Dec.{T, ltb, le→leb}
use borrow.Author.Tests.{lt-ltb, ltb-false, not-false}
use Rattle.refusals.specs.declared.Refusal.TheVariants.{Align, Depth}
use Rattle.refusals.specs.Verdicts.{in_order, Fine}
use Rattle.refusals.specs.Orders.{Giving}
use Rattle.refusals.proofs.Laws.{first_left, first_right, check_last, scan_fine}
use Rattle.refusals.proofs.Orders.{scan_gives}
use Rattle.words.proofs.Points.{cut}
use Rattle.fitting.specs.Queries.{Room}
use Rattle.fitting.specs.Layout.{room_by, deeper, depth_before, depth_at, depth_of, offset_of, is_power, align_verdict, depth_verdict, layout_checks, layout_verdict, Multiple, LaidOut}
use Rattle.fitting.proofs.PowerLaws.{power_positive, round_multiple, round_over}

-- ---- minus a depth

-- −d + s is at most −e where e + s is at most d
pub minus_below : (d s e : ℕ) → e + s ≤ d → (neg_ℤ (pos d) +ℤ pos s) ≤ℤ neg_ℤ (pos e)
minus_below zero s zero h = record { le = le→leb (0 + s) 0 (omega arith) }
minus_below zero s (suc e) h = absurd (omega arith)
minus_below (suc d) s zero h = record { le = go (ltb s (suc d)) refl }
  where
    go : (b : Bool) → ltb s (suc d) ≡ b → T (le_z (cond b (negsuc (suc d - suc s)) (pos (s - suc d))) (pos zero))
    go true q = tt
    go false q = le→leb (s - suc d) 0 (omega arith)
minus_below (suc d) s (suc e) h = record { le = go (ltb s (suc d)) (lt-ltb s (suc d) (omega arith)) }
  where
    go : (b : Bool) → b ≡ true → T (le_z (cond b (negsuc (suc d - suc s)) (pos (s - suc d))) (negsuc e))
    go true q = le→leb e (suc d - suc s) (omega arith)
    go false q = absurd (let z : ◌≡◌ {A = ℕ} 0 1 = cc in omega arith)

pub minus_falls : (d e : ℕ) → e ≤ d → neg_ℤ (pos d) ≤ℤ neg_ℤ (pos e)
minus_falls zero zero h = record { le = tt }
minus_falls zero (suc e) h = absurd (omega arith)
minus_falls (suc d) zero h = record { le = tt }
minus_falls (suc d) (suc e) h = record { le = le→leb e d (omega arith) }

minus_times : (q a : ℕ) → neg_ℤ (pos (q * a)) ≡ neg_ℤ (pos q) *ℤ pos a
minus_times zero a = ap (λ (k : ℕ). neg_ℤ (pos k)) (zero-mul a) ∙ ap pos (sym (zero-mul a))
minus_times (suc q) a = refl

-- ---- one cell, by the depth before it

-- its offset is a multiple of its alignment
pub offset_aligned : (before : ℕ) (c : Room) → Multiple c.align (offset_of (deeper before c))
offset_aligned before c =
    let q = div-add-mod' (deeper before c) c.align in
    let e : deeper before c ≡ deeper before c / c.align * c.align = omega (arith, round_multiple (before + c.size) c.align) in
    (neg_ℤ (pos (deeper before c / c.align)), ap offset_of e ∙ minus_times (deeper before c / c.align) c.align)

-- its bytes are below the depth before it
pub deeper_over : (before : ℕ) (c : Room) → 0 < c.align → before + c.size ≤ deeper before c
deeper_over before c h = round_over (before + c.size) c.align h

-- and so below those of a cell whose depth is no more than that
pub bytes_apart : (before depth : ℕ) (c : Room) → 0 < c.align → depth ≤ before → (offset_of (deeper before c) +ℤ pos c.size) ≤ℤ offset_of depth
bytes_apart before depth c h l = minus_below (deeper before c) c.size depth (omega (arith, deeper_over before c h))

-- ---- a list of cells

module _ (cs : List Room) where
  pub depth_none : depth_before cs 0 ≡ 0
  unfolding depth_before
  depth_none = refl

  pub depth_more : (n : ℕ) → depth_before cs (n + 1) ≡ depth_at cs n
  unfolding depth_before
  depth_more n = ap (depth_before cs) (add-one n)

  depth_next : (n : ℕ) → depth_before cs (suc n) ≡ depth_at cs n
  unfolding depth_before
  depth_next n = refl

  module _ (positive : (n : ℕ) → n < length cs → 0 < (room_by cs n).align) where
    -- depths never fall
    pub depths_rise : (n m : ℕ) → n ≤ m → m ≤ length cs → depth_before cs n ≤ depth_before cs m
    depths_rise n zero h l = let e : n ≡ 0 = omega arith in rw e (omega arith)
    depths_rise n (suc m) h l =
        cut n m
        (λ k. omega (arith, depths_rise n m k (omega arith), depth_next m, deeper_over (depth_before cs m) (room_by cs m) (positive m (omega arith))))
        (λ k. let e : n ≡ suc m = omega arith in rw e (omega arith))

    depth_behind : (n m : ℕ) → n < m → m ≤ length cs → depth_at cs n ≤ depth_before cs m
    depth_behind n m h l = omega (arith, depths_rise (suc n) m h l, depth_next n)

    pub laid_out : LaidOut (length cs) (λ n. (room_by cs n).size) (λ n. (room_by cs n).align) (λ n. offset_of (depth_at cs n)) (depth_of cs)
    laid_out = record {
      aligned = λ n h. offset_aligned (depth_before cs n) (room_by cs n);
      apart = λ n m h l. bytes_apart (depth_before cs m) (depth_at cs n) (room_by cs m) (positive m l) (depth_behind n m h (omega arith));
      below = λ n h. bytes_apart (depth_before cs n) 0 (room_by cs n) (positive n h) (omega arith);
      within = λ n h. minus_falls (depth_of cs) (depth_at cs n) (depth_behind n (length cs) h (omega arith));
    }

  -- ---- where nothing is refused

  layout_aligns : layout_verdict cs ≡ Fine → align_verdict cs ≡ Fine
  unfolding layout_verdict in_order
  layout_aligns e = first_left (align_verdict cs) (in_order (depth_verdict cs ∷ [])) e

  layout_depths : layout_verdict cs ≡ Fine → depth_verdict cs ≡ Fine
  unfolding layout_verdict in_order
  layout_depths e = sym (check_last (depth_verdict cs)) ∙ first_right (align_verdict cs) (in_order (depth_verdict cs ∷ [])) e

  pub aligns_positive : align_verdict cs ≡ Fine → (n : ℕ) → n < length cs → 0 < (room_by cs n).align
  aligns_positive e n h = power_positive (room_by cs n).align (not-false (is_power (room_by cs n).align) (scan_fine Align _ (length cs) e n h))

  pub layout_positive : layout_verdict cs ≡ Fine → (n : ℕ) → n < length cs → 0 < (room_by cs n).align
  layout_positive e = aligns_positive (layout_aligns e)

  pub layout_small : layout_verdict cs ≡ Fine → (n : ℕ) → n < length cs → depth_at cs n ≤ 2147483647
  layout_small e n h = ltb-false 2147483647 (depth_at cs n) (scan_fine Depth _ (length cs) (layout_depths e) n h)

  pub layout_gives : Giving (Align ∷ Depth ∷ []) (layout_checks cs)
  layout_gives = (scan_gives Align _ (length cs), (scan_gives Depth _ (length cs), tt))

-- ---- by numbers that are the same

pub laid_as : {count depth : ℕ} {size align size' align' : ℕ → ℕ} {offset offset' : ℕ → ℤ} → LaidOut count size align offset depth
    → ((n : ℕ) → n < count → size' n ≡ size n) → ((n : ℕ) → n < count → align' n ≡ align n) → ((n : ℕ) → n < count → offset' n ≡ offset n) → LaidOut count size' align' offset' depth
laid_as L s a o = record {
  aligned = λ n h. rw (a n h, o n h) (L.aligned n h);
  apart = λ n m h k. rw (s m k, o m k, o n (omega arith)) (L.apart n m h k);
  below = λ n h. rw (s n h, o n h) (L.below n h);
  within = λ n h. rw (o n h) (L.within n h);
}

-- ---- no byte is in two cells

pub once : {count depth : ℕ} {size align : ℕ → ℕ} {offset : ℕ → ℤ} → LaidOut count size align offset depth → (b : ℤ) (n m : ℕ) → n < m → m < count
    → offset n ≤ℤ b → b <ℤ (offset m +ℤ pos (size m)) → ⊥
once {size = size} {offset = offset} L b n m h k l u = go (<ℤ-≤ℤ_trans u (L.apart n m h k))
  where
    go : b <ℤ offset n → ⊥
    go t = <ℤ_irrefl (<ℤ-≤ℤ_trans t l)
