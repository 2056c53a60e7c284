-- What the steps compute fits and stands in the work space, each bound as the code asks for it.
use Prim.Native.Nat.{ℕ, ◌+◌, ◌*◌, ◌^◌, ◌≤◌, ◌<◌}
use mathlib.Core.Path.{◌≡◌, ap}
use mathlib.Core.List.{List}
use mir.Syntax.{w64}
use mir.Val.{Fits}
use native.Mathlib.Omega.{arith}
use lib.ListN.{length, get_or}
use Rattle.words.proofs.FitLaws.{small, bytes}
use Rattle.words.proofs.RegionLaws.{row_before}
use Rattle.flow_rows.specs.declared.Flow.{Flow}
use Rattle.flow_rows.specs.Inner.{Laid, order_from, order}

-- place p of the order, which stands from o on, is read
pub record OrderAt (o n p : ℕ) : Type 0 where
  pub fits : Fits w64 (o + p)
  pub in_bytes : Fits w64 ((o + p) * 8)
  pub inside : o + p < n
  pub next : Fits w64 (p + 1)

-- the component of v is read
pub record WhichAt (f : Flow) (n v : ℕ) : Type 0 where
  pub fits : Fits w64 (f.base + v)
  pub in_bytes : Fits w64 ((f.base + v) * 8)
  pub inside : f.base + v < n

-- the rows of v
pub record RowAt (f : Flow) (n v : ℕ) : Type 0 where
  pub rows : Fits w64 (v * f.words)
  pub out : Fits w64 (f.out + v * f.words)
  pub touched : Fits w64 (f.touched + v * f.words)
  pub out_in : f.out + v * f.words + f.words ≤ n
  pub touched_in : f.touched + v * f.words + f.words ≤ n

module _ {f : Flow} {w : List ℕ} (L : Laid f w) (r : length w * 8 < 2 ^ 63) where
  all : order_from f + f.n ≤ length w
  all = omega (arith, L.base_fits, L.out_fits)

  -- where the order begins
  pub orders : Fits w64 (5 * f.n) × Fits w64 (f.base + 5 * f.n)
  orders = let a = all in (small _ (length w) (omega arith) r, small _ (length w) (omega arith) r)

  pub order_at_lem : {o : ℕ} → o ≡ order_from f → (p : ℕ) → p < f.n → OrderAt o (length w) p
  order_at_lem {o} e p h = let a : o + p < length w = omega (arith, all) in record {
    fits = small _ (length w) (omega arith) r;
    in_bytes = bytes _ (length w) (omega arith) r;
    inside = a;
    next = small _ (length w) (omega arith) r;
  }

  pub which_at : (v : ℕ) → v < f.n → WhichAt f (length w) v
  which_at v h = let a : f.base + v < length w = omega (arith, all) in record {
    fits = small _ (length w) (omega arith) r;
    in_bytes = bytes _ (length w) (omega arith) r;
    inside = a;
  }

  pub row_at : (v : ℕ) → v < f.n → RowAt f (length w) v
  row_at v h =
      let k = row_before v f.n f.words h in
      let o : f.out + v * f.words + f.words ≤ length w = omega (arith, L.out_fits) in
      let t : f.touched + v * f.words + f.words ≤ length w = omega (arith, L.touched_fits) in
      record {
        rows = small _ (length w) (omega arith) r;
        out = small _ (length w) (omega arith) r;
        touched = small _ (length w) (omega arith) r;
        out_in = o;
        touched_in = t;
      }

-- what stands at p in the order, which stands from o on
pub here : (f : Flow) (w : List ℕ) {o : ℕ} → o ≡ order_from f → (p : ℕ) → get_or w (o + p) 0 ≡ order f w p
here f w e p = ap (λ (y : ℕ). get_or w (y + p) 0) e

pub node : {f : Flow} {w : List ℕ} {o p : ℕ} → Laid f w → o ≡ order_from f → p < f.n → get_or w (o + p) 0 < f.n
node {f} {w} {o} {p} L e h = omega (arith, here f w e p, L.listed p h)

pub five : (base n : ℕ) → base + 5 * n ≡ base + n + n + n + n + n
five base n = omega arith
