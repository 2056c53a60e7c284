-- An item's row of sample points: a bit is set only where its area has the point.
use Prim.Native.Nat.{ℕ, zero, suc, ◌+◌, ◌*◌, ◌/◌, ◌%◌, ◌^◌, ◌≤◌, ◌<◌}
use native.Mathlib.Omega.{arith}
use mathlib.Core.Path.{◌≡◌, refl, ap, sym, ◌∙◌}
use mathlib.Core.Logic.{◌⊎◌, inl, inr, ⊎_elim}
use mathlib.Core.Bool.{Bool, true, false, cond, false≢true}
use mathlib.Core.List.{List, [], ◌∷◌, Memᴰ}
use lib.ListN.{length, get_or, set, length-set}
use lib.Seq.{get_or-set_other}
use borrow.Author.Tests.{ne_eqb}
use Rattle.words.specs.Inner.{part, Kept, Region}
use Rattle.words.proofs.RegionLaws.{get_d_part, length_part, kept_part_list}
use native.Mathlib.Nat.{mul-le-mul_right, add-mul}
use Rattle.words.proofs.Points.{same as same_or}
use Rattle.bits.specs.Bits.{bit_of, bit}
use Rattle.bits.specs.Inner.{PutBit}
use Rattle.bits.proofs.DigitLaws.{bit_zero}
use Rattle.ranges.specs.declared.Range.{Range}
use Rattle.ranges.specs.Points.{Point}
use Rattle.ranges.specs.Inner.{unpack, unpacked}
use Rattle.fit_tables.specs.Inner.{behind, first_of, count_of, Lent, order_at, item_at, MarkedTo, Pointed, Drawn}
use Rattle.fit_tables.specs.declared.Tables.{Tables}

-- ---- a row's bits set, one by one

module _ {w₀ : List ℕ} {row width step : ℕ} {a : List Range} where
  pub pointed_start : 0 < width → Pointed w₀ w₀ row width step a 0
  pointed_start h = record { len = refl; rest = λ x o. refl; sound = λ t l b. inl b; within = h }

  -- s and t are points of one range, or the bit was set before
  pub pointed_more : {w v : List ℕ} {r t e next : ℕ} → Pointed w₀ w row width step a r → MarkedTo w v row t step e next → t < width * 64
      → ((p : ℕ) → t * step ≤ p → p ≤ e → Point a p) → Pointed w₀ v row width step a (t / 64)
  pointed_more {w} {v} {r} {t} {e} P B h f = record {
    len = B.len ∙ P.len;
    rest = λ x o. B.rest x (λ q. ⊎_elim (λ l. omega arith) (λ l. omega arith) o) ∙ P.rest x o;
    sound = λ s l b. ⊎_elim (λ q. P.sound s l q) (λ q. inr (f (s * step) (mul-le-mul_right step q.0) q.1)) (B.sound s b);
    within = omega arith;
  }

-- ---- one bit, or a whole word of bits

module _ {w₀ : List ℕ} {row t step e : ℕ} where
  pub marked_bit : {w : List ℕ} → PutBit w₀ w row t true → t * step ≤ e → MarkedTo w₀ w row t step e (t + 1)
  marked_bit {w} B h = record {
    len = B.len;
    rest = B.rest;
    sound = λ s b. same_or s t (λ q. inr (omega arith, rw q h)) (λ d. inl (sym (B.bits s ∙ ap (λ (q : Bool). cond q true (bit w₀ row s)) (ne_eqb s t d)) ∙ b));
    past = omega arith;
    near = omega arith;
  }

  pub marked_word : (x : ℕ) → row + t / 64 < length w₀ → t % 64 ≡ 0 → t * step + 63 * step ≤ e → MarkedTo w₀ (set w₀ (row + t / 64) x) row t step e (t + 64)
  marked_word x h z l = record {
    len = length-set w₀ (row + t / 64) x;
    rest = λ y d. get_or-set_other w₀ (row + t / 64) y x 0 d;
    sound = λ s b. same_or (s / 64) (t / 64)
        (λ q. let k : s ≤ t + 63 = omega arith in inr (omega arith, below_end s k))
        (λ d. inl (ap (λ (y : ℕ). bit_of y (s % 64)) (sym (get_or-set_other w₀ (row + t / 64) (row + s / 64) x 0 (λ q. d (omega arith)))) ∙ b));
    past = omega arith;
    near = omega arith;
  }
    where
      below_end : (s : ℕ) → s ≤ t + 63 → s * step ≤ e
      below_end s k =
          let m : s * step ≤ (t + 63) * step = mul-le-mul_right step k in
          let q : (t + 63) * step ≡ t * step + 63 * step = add-mul t 63 step in
          omega arith

-- a sample point between the ends of a range is one of the list's points
mem_unpacked : (l : List ℕ) (k : ℕ) → k < length l → Memᴰ (unpack (get_or l k 0)) (unpacked l)
mem_unpacked [] k h = absurd (omega arith)
mem_unpacked (x ∷ l) zero h = Memᴰ.head refl
mem_unpacked (x ∷ l) (suc k) h = Memᴰ.tail (mem_unpacked l k (omega arith))

pub point_at : (w : List ℕ) (from count i p : ℕ) → from + count ≤ length w → i < count → get_or w (from + i) 0 / 2 ^ 32 ≤ p → p ≤ get_or w (from + i) 0 % 2 ^ 32
    → Point (unpacked (part from count w)) p
point_at w from count i p h l a b =
    let e = get_d_part from count w i l in
    (unpack (get_or (part from count w) i 0), mem_unpacked (part from count w) i (rw (length_part from count w h) l), rw e a, rw e b)

-- where points are set, the ranges are as they were
pub pointed_range : {w₀ w : List ℕ} {row width step r : ℕ} {a : List Range} → Pointed w₀ w row width step a r → (x : ℕ) → x < row → get_or w x 0 ≡ get_or w₀ x 0
pointed_range P x h = P.rest x (inl h)

pub product_fits : (t width step : ℕ) → t < width * 64 → width ≤ 8 → step ≤ 2 ^ 32 → t * step < 2 ^ 64
product_fits t width step h k l =
    let a : t * step ≤ 512 * step = mul-le-mul_right step (omega arith) in
    omega arith

pub product_small : (t width step : ℕ) → t < width * 64 → width ≤ 8 → step ≤ 2 ^ 32 → t * step ≤ 2 ^ 62
product_small t width step h k l =
    let a : t * step ≤ 512 * step = mul-le-mul_right step (omega arith) in
    omega arith

-- ---- an item's row

module _ (w : List ℕ) (t : Tables) (k row width step : ℕ) where
  pub drawn_none : (get_or w (t.items + order_at w t k) 0 < 1) ⊎ (width < 1) → Drawn w w t k row width step (record { at = 0; word = 0 })
  drawn_none o = record {
    len = refl;
    rest = λ x h. refl;
    sound = λ h s l b. absurd (⊎_elim (λ q. omega arith) (λ q. omega arith) o);
    own = λ h. absurd (omega arith);
    fits = omega arith;
  }

  module _ (L : Lent w t) (in_order : order_at w t k < t.n) (low : behind t ≤ row) (high : row + width ≤ length w) (there : 0 < get_or w (t.items + order_at w t k) 0)
      {v u : List ℕ} {r : ℕ} (F : Region w v row width (λ _. 0))
      (P : Pointed v u row width step (unpacked (part (t.at + first_of (get_or w (t.items + order_at w t k) 0)) (count_of (get_or w (t.items + order_at w t k) 0)) v)) r) where
    pub ranges_end : t.at + (first_of (get_or w (t.items + order_at w t k) 0) + count_of (get_or w (t.items + order_at w t k) 0)) ≤ t.items
    ranges_end = (L.proper (order_at w t k) in_order there).inside

    item_is : unpacked (part (t.at + first_of (get_or w (t.items + order_at w t k) 0)) (count_of (get_or w (t.items + order_at w t k) 0)) v) ≡ item_at w t k
    item_is =
        let kept : Kept w v (t.at + first_of (get_or w (t.items + order_at w t k) 0)) (count_of (get_or w (t.items + order_at w t k) 0)) = record { same = λ y l q. F.before y (omega (arith, ranges_end)) } in
        ap unpacked (kept_part_list kept (omega (arith, ranges_end)) F.len)

    clear : (s : ℕ) → s < width * 64 → bit v row s ≡ false
    clear s h = ap (λ (y : ℕ). bit_of y (s % 64)) (F.inside (row + s / 64) (s / 64) refl (omega arith)) ∙ bit_zero (s % 64)

    pub drawn_points : (m : ℕ) → m < width → Drawn w u t k row width step (record { at = m; word = get_or u (row + m) 0 })
    drawn_points m in_row = record {
      len = P.len ∙ F.len;
      rest = λ x o. P.rest x o ∙ ⊎_elim (λ h. F.before x h) (λ h. F.after x h) o;
      sound = λ h s l b. ⊎_elim (λ q. absurd (false≢true (sym (clear s l) ∙ q))) (λ q. rw item_is at q) (P.sound s l b);
      own = λ h. (in_row, refl, there);
      fits = omega arith;
    }
