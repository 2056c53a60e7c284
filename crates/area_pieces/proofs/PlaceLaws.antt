-- The words that a local's pieces are read from and written to, each bound as the code asks for it.
use Prim.Native.Nat.{ℕ, ◌+◌, ◌-◌, ◌*◌, ◌/◌, ◌^◌, ◌≤◌, ◌<◌}
use mathlib.Core.Path.{◌≡◌}
use mathlib.Core.List.{List}
use mir.Syntax.{w64}
use mir.Val.{Fits}
use native.Mathlib.Omega.{arith}
use lib.ListN.{length}
use Rattle.words.proofs.FitLaws.{Word, word, small}
use Rattle.words.proofs.RegionLaws.{row_before}
use Rattle.area_pieces.specs.declared.Local.{Local}
use Rattle.area_pieces.specs.Inner.{Free, Flowing, Spannable}
use Rattle.words.specs.Widths.{block_width}

pub one_lt : 1 < 3
one_lt = omega arith

pub two_lt : 2 < 3
two_lt = omega arith

-- one field of a block's row
pub record Field (k f n : ℕ) : Type 0 where
  pub row : Fits w64 (block_width * k)
  pub at : Fits w64 (block_width * k + f)
  pub in_bytes : Fits w64 ((block_width * k + f) * 4)
  pub inside : block_width * k + f < n

pub field : (k f n : ℕ) → k < n / 3 → f < 3 → n * 4 < 2 ^ 63 → Field k f n
field k f n h l r = record { row = omega arith; at = omega arith; in_bytes = omega arith; inside = omega arith }

-- the blocks between two
pub record Inside (first last n : ℕ) : Type 0 where
  pub more : Fits w64 (first + 1)
  pub some : 1 ≤ last
  pub from : first + 1 < n
  pub to : last - 1 < n

pub inside : (first last n : ℕ) → first + 1 < last → last < n / 3 → n * 4 < 2 ^ 63 → Inside first last (n / 3)
inside first last n h l r = record { more = omega arith; some = omega arith; from = omega arith; to = omega arith }

-- the blocks from k up to e
pub record Blocks (k e n : ℕ) : Type 0 where
  pub more : Fits w64 (k + 1)
  pub some : 1 ≤ e
  pub from : k < n
  pub to : e - 1 < n

pub blocks : (k e n : ℕ) → k < e → e ≤ n / 3 → n * 4 < 2 ^ 63 → Blocks k e (n / 3)
blocks k e n h l r = record { more = omega arith; some = omega arith; from = omega arith; to = omega arith }

-- what is read for the piece of block k
pub record AtBlock (s : Local) (k m : ℕ) : Type 0 where
  pub own : s.row + k / 64 < m
  pub span : Word (s.span + k) (m)
  pub rows : Fits w64 (k * s.words)
  pub written : Fits w64 (s.written + k * s.words)
  pub written_in : s.written + k * s.words + s.local / 64 < m
  pub read : Fits w64 (s.read + k * s.words)
  pub read_in : s.read + k * s.words + s.local / 64 < m

pub at_block : {s : Local} (n k m : ℕ) → k < n → k < s.wide * 64 → s.row + s.wide ≤ m → s.span + k < m → Flowing s n → s.mark ≤ m
    → m * 8 < 2 ^ 63 → AtBlock s k m
at_block {s} n k m h l o p f i r =
    let a = row_before k n s.words h in
    let b = f.written_fits in
    let c = f.read_fits in
    let d = f.bit_in in
    record {
      own = omega arith;
      span = word _ (m) p r;
      rows = small _ (m) (omega arith) r;
      written = small _ (m) (omega arith) r;
      written_in = omega arith;
      read = small _ (m) (omega arith) r;
      read_in = omega arith;
    }

-- the span of block k and its mark
pub record AtSpan (s : Local) (k : ℕ) (w : List ℕ) : Type 0 where
  pub span : Word (s.span + k) (length w)
  pub mark : s.mark + k / 64 < length w

pub at_span : {s : Local} {k : ℕ} {w : List ℕ} → Spannable s k w → length w * 8 < 2 ^ 63 → AtSpan s k w
at_span {w = w} p r =
    let a = p.marked_in in
    let b = p.span_in in
    let c = p.mark_fits in
    let d = p.fits in
    record { span = word _ (length w) (omega arith) r; mark = omega arith }

-- with a word free behind the m pieces
module _ {s : Local} {n : ℕ} (m : ℕ) {w₀ : List ℕ} (f : Free s n (m + 1) w₀) where
  pub spannable : (k : ℕ) (w : List ℕ) → k < n → length w ≡ length w₀ → Spannable s k w
  spannable k w h e =
      let a = f.wide in
      let b = f.span_fits in
      let c = f.fits in
      record { marked_in = omega arith; span_in = omega arith; mark_fits = f.mark_fits; fits = omega arith }

  pub behind : length w₀ * 8 < 2 ^ 63 → Word (s.to + m) (length w₀)
  behind r = let c = f.fits in word _ (length w₀) (omega arith) r

  pub one_more : length w₀ * 8 < 2 ^ 63 → Fits w64 (m + 1)
  one_more r = let c = f.fits in small _ (length w₀) (omega arith) r

  pub next_block : (k : ℕ) → k < n → length w₀ * 8 < 2 ^ 63 → Fits w64 (k + 1)
  next_block k h r = let b = f.span_fits in let c = f.fits in small _ (length w₀) (omega arith) r
