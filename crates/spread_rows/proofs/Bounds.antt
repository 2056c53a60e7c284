-- What the steps compute fits and stands in the work space, each bound as the code asks for it.
use Prim.Native.Nat.{ℕ, ◌+◌, ◌*◌, ◌/◌, ◌^◌, ◌≤◌, ◌<◌}
use mathlib.Core.Path.{◌≡◌, sym, subst}
use mathlib.Core.Bool.{Bool}
use mathlib.Core.List.{List}
use mir.Syntax.{w64}
use mir.Val.{Fits}
use native.Mathlib.Omega.{arith}
use lib.ListN.{length}
use Rattle.words.proofs.FitLaws.{Word, word, small, as_long}
use Rattle.words.proofs.RegionLaws.{row_before}
use Rattle.spread_rows.specs.declared.Layout.{Layout}
use Rattle.spread_rows.specs.Inner.{Laid, ends, target, rank_of}
use Rattle.spread_rows.proofs.Pushes.{Passed, Pushing, push_laid, push_rank, target_lt}
use Rattle.spread_rows.proofs.Turns.{Beginning, Spreading, spread_laid}

-- the word of rank r in the row of what waits
pub rank_word : (wait n words r m : ℕ) → r < n → wait + (n / 64 + 1) + n * words ≤ m → wait + r / 64 < m
rank_word wait n words r m h f = omega arith

-- the rows of a place
pub record RowsOf (s : Layout) (u n : ℕ) : Type 0 where
  pub rows : Fits w64 (u * s.words)
  pub out : Fits w64 (s.wait + (s.n / 64 + 1) + u * s.words)
  pub pass : Fits w64 (s.passes + u * s.words)
  pub leave : Fits w64 (s.leaves + u * s.words)
  pub out_in : s.wait + (s.n / 64 + 1) + u * s.words + s.words ≤ n
  pub pass_in : s.passes + u * s.words + s.words ≤ n
  pub leave_in : s.leaves + u * s.words + s.words ≤ n

-- before the first edge of u
pub record Before (s : Layout) (u n : ℕ) : Type 0 where
  pub to : Fits w64 (s.at + s.n)
  pub to_one : Fits w64 (s.at + s.n + 1)
  pub waits : Fits w64 (s.n / 64 + 1)
  pub out : Fits w64 (s.wait + (s.n / 64 + 1))
  pub begin : Word (s.at + u) n
  pub end : Word (s.at + u + 1) n

-- at edge k
pub record AtEdge (s : Layout) (k n : ℕ) : Type 0 where
  pub to : Word (s.at + s.n + 1 + k) n
  pub next : Fits w64 (k + 1)

module _ {s : Layout} {w : List ℕ} (L : Laid s w) (r : length w * 8 < 2 ^ 63) where
  pub rows_of : (u : ℕ) → u < s.n → RowsOf s u (length w)
  rows_of u h =
      let a = row_before u s.n s.words h in
      let m = length w in
      let o = L.out_fits in
      let out : s.wait + (s.n / 64 + 1) + u * s.words + s.words ≤ m = omega arith in
      let pass : s.passes + u * s.words + s.words ≤ m = omega (arith, L.passes_fit) in
      let leave : s.leaves + u * s.words + s.words ≤ m = omega (arith, L.leaves_fit) in
      record {
        rows = small _ m (omega arith) r;
        out = small _ m (omega arith) r;
        pass = small _ m (omega arith) r;
        leave = small _ m (omega arith) r;
        out_in = out;
        pass_in = pass;
        leave_in = leave;
      }

  pub before_edges : (u : ℕ) → u < s.n → Before s u (length w)
  before_edges u h =
      let m = length w in
      let o : s.wait + (s.n / 64 + 1) ≤ m = omega (arith, L.out_fits) in
      let b : s.at + s.n + 1 ≤ s.wait = L.below in
      record {
        to = small _ m (omega arith) r;
        to_one = small _ m (omega arith) r;
        waits = small _ m (omega arith) r;
        out = small _ m o r;
        begin = word _ m (omega arith) r;
        end = word _ m (omega arith) r;
      }

module _ {s : Layout} {u : ℕ} {w₀ w : List ℕ} {k : ℕ} (t : Pushing s u w₀ w k) (h : k < ends s w₀ u) (r : length w₀ * 8 < 2 ^ 63) where
  room : length w * 8 < 2 ^ 63
  room = subst (λ (n : ℕ). n * 8 < 2 ^ 63) (sym t.kept.len) r

  pub target_rows : RowsOf s (target s w k) (length w)
  target_rows = rows_of (push_laid t h) room (target s w k) (target_lt t h)

  pub own_rows : RowsOf s u (length w)
  own_rows = rows_of (push_laid t h) room u t.u_lt

  pub at_edge : AtEdge s k (length w)
  at_edge =
      let m = length w in
      let a : s.at + s.n + 1 + k < m = omega (arith, t.laid.rows_fit u t.u_lt, (push_laid t h).out_fits) in
      record { to = word _ m a room; next = small _ m (omega arith) room }

  -- the ranks are in it, and the rank of a place can wait
  module _ {w₁ : List ℕ} {g : Bool} (G : Passed s u (target s w k) w w₁ g) where
    pub ranks_in : (s.rank + s.n ≤ length w₁) × (length w₁ * 8 < 2 ^ 63)
    ranks_in = (omega (arith, (push_laid t h).rank_fits, (push_laid t h).out_fits, G.row.len), as_long _ (length w) G.row.len room)

    pub wait_at : (x : ℕ) → x < s.n → s.wait + rank_of s w₁ x / 64 < length w₁
    wait_at x l = rank_word s.wait s.n s.words _ (length w₁) (push_rank t h G x l) (omega (arith, G.row.len, (push_laid t h).out_fits))

-- ---- begin and spread

pub record Filled (n wait words m : ℕ) : Type 0 where
  pub waits : Fits w64 (n / 64 + 1)
  pub rows : Fits w64 (n * words)
  pub all : Fits w64 (n / 64 + 1 + n * words)
  pub inside : wait + (n / 64 + 1 + n * words) ≤ m

pub filled : (n wait words m : ℕ) → wait + (n / 64 + 1) + n * words ≤ m → m * 8 < 2 ^ 63 → Filled n wait words m
filled n wait words m h r = record { waits = small _ m (omega arith) r; rows = small _ m (omega arith) r; all = small _ m (omega arith) r; inside = omega arith }

-- rank r is put into the row of what waits
pub begin_word : {n wait words : ℕ} {w₀ w : List ℕ} {r : ℕ} → Beginning n wait words w₀ w r → r < n → wait + r / 64 < length w
begin_word {n} {wait} {words} {w₀} {w} {r} t h = rank_word wait n words r (length w) h (omega (arith, t.fits, t.kept.len))

pub next : (r n : ℕ) → r < n → n ≤ 4096 → Fits w64 (r + 1)
next r n h f = omega arith

-- the row of what waits is looked through
pub waits_in : (wait n words m : ℕ) → wait + (n / 64 + 1) + n * words ≤ m → n ≤ 4096 → (wait + (n / 64 + 1) ≤ m) × (0 ≤ n / 64 + 1) × ((n / 64 + 1) * 64 < 2 ^ 64)
waits_in wait n words m h f = (omega arith, omega arith, omega arith)

module _ {s : Layout} {w₀ w : List ℕ} (t : Spreading s w₀ w) where
  pub spread_word : (r : ℕ) → r < s.n → s.wait + r / 64 < length w
  spread_word r h = rank_word s.wait s.n s.words r (length w) h (spread_laid t).out_fits

  pub order_at_lem : (r : ℕ) → r < s.n → (m : ℕ) → m ≡ length w → m * 8 < 2 ^ 63 → Word (s.order + r) m
  order_at_lem r h m e b = word _ m (omega (arith, (spread_laid t).order_fits, (spread_laid t).out_fits)) b

  pub waits_again : (m : ℕ) → m ≡ length w → (s.wait + (s.n / 64 + 1) ≤ m) × (0 ≤ s.n / 64 + 1) × ((s.n / 64 + 1) * 64 < 2 ^ 64)
  waits_again m e = waits_in s.wait s.n s.words m (omega (arith, (spread_laid t).out_fits)) t.laid.few
