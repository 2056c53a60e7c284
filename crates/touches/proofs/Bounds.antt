-- What is computed at a row of the chain fits and stands in the lists, each bound as the code asks for it.
use Prim.Native.Nat.{ℕ, ◌+◌, ◌-◌, ◌*◌, ◌^◌, ◌≤◌, ◌<◌}
use mathlib.Core.Path.{refl}
use mathlib.Core.Logic.{◌≢◌}
use mathlib.Core.List.{List}
use mir.Syntax.{w64}
use mir.Val.{Fits}
use native.Mathlib.Omega.{arith}
use lib.ListN.{length, get_or}
use Rattle.words.specs.Widths.{inst_width, mention_width}
use Rattle.words.specs.Inner.{mention_count}
use Rattle.words.proofs.FitLaws.{Word, word}
use Rattle.words.proofs.RowLaws.{rows_within}
use Rattle.touches.specs.Inner.{Linked}
use Rattle.touches.proofs.EntryLaws.{Walking, turn}

-- number a of n is read
pub record Number (a n : ℕ) : Type 0 where
  pub fits : Fits w64 a
  pub in_bytes : Fits w64 (a * 4)
  pub inside : a < n

number : (a n : ℕ) → a < n → n * 4 < 2 ^ 63 → Number a n
number a n h r = record { fits = omega arith; in_bytes = omega arith; inside = h }

-- where the chain begins
pub head_at_lem : {insts rows : List ℕ} {heads nexts l to : ℕ} {w : List ℕ} → Linked insts rows heads nexts l to w → length w * 8 < 2 ^ 63 → Word (heads + l) (length w)
head_at_lem {w = w} L r = word _ (length w) (omega (arith, L.head_fits, L.room)) r

-- at row a, which names instruction x: the numbers of both are read, the row before it in the chain, and what it gives is put at m
pub record AtRow (insts rows work nexts to m a x : ℕ) : Type 0 where
  pub row : Number (mention_width * a) rows
  pub cast : Fits w64 x
  pub first : Number (inst_width * x) insts
  pub early : Number (inst_width * x + 2) insts
  pub late : Number (inst_width * x + 3) insts
  pub link : Word (nexts + a) work
  pub put : Word (to + m) work
  pub more : Fits w64 (m + 1)

at_row : (insts rows work nexts to m a x n : ℕ) → mention_width * a + 2 ≤ rows → inst_width * x + 9 ≤ insts → a < n → m < n → nexts + n ≤ to → to + n ≤ work
    → insts * 4 < 2 ^ 63 → rows * 4 < 2 ^ 63 → work * 8 < 2 ^ 63 → AtRow insts rows work nexts to m a x
at_row insts rows work nexts to m a x n h i j k l o p q r = record {
  row = number _ rows (omega arith) q;
  cast = omega arith;
  first = number _ insts (omega arith) p;
  early = number _ insts (omega arith) p;
  late = number _ insts (omega arith) p;
  link = word _ work (omega arith) r;
  put = word _ work (omega arith) r;
  more = omega arith;
}

pub bounds : {insts rows : List ℕ} {g : ℕ → List ℕ} {l heads nexts to : ℕ} {w₀ w : List ℕ} {m next : ℕ} → Walking insts rows g l heads nexts to w₀ w m next → next ≢ 0
    → (length insts * 4 < 2 ^ 63) × (length rows * 4 < 2 ^ 63) × (length w₀ * 8 < 2 ^ 63) → AtRow (length insts) (length rows) (length w) nexts to m (next - 1) (get_or rows (mention_width * (next - 1)) 0)
bounds {insts} {rows} {g} {l} {heads} {nexts} {to} {w₀} {w} {m} {next} W d r =
    let t = turn insts rows g l W (next - 1) d refl in
    let e = W.kept.len in
    at_row (length insts) (length rows) (length w) nexts to m (next - 1) (get_or rows (mention_width * (next - 1)) 0) (mention_count rows)
    (omega (arith, t.low, rows_within mention_width rows)) (omega (arith, t.inst, rows_within inst_width insts)) t.low (omega (arith, W.few, t.after)) W.linked.nexts_fit
    (omega (arith, W.linked.room)) r.0 r.1 (omega (arith, r.2))
