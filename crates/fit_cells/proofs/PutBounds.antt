-- What one item's step computes fits and stands in the work space, each bound as the code asks for it.
use Prim.Native.Nat.{ℕ, ◌+◌, ◌*◌, ◌^◌, ◌≤◌, ◌<◌, min}
use mathlib.Core.Path.{◌≡◌}
use mathlib.Core.List.{List}
use mir.Syntax.{w64}
use mir.Val.{Fits}
use native.Mathlib.Omega.{arith}
use lib.ListN.{length, get_or}
use Rattle.words.proofs.FitLaws.{Word, word, small}
use Rattle.fit_tables.specs.Inner.{order_at, Ready, first_of, count_of, Proper, want_table, order_table, head_table, cell_table, behind}
use Rattle.fit_tables.specs.declared.Tables.{Tables}
use Rattle.fit_tables.specs.declared.Progress.{Progress}

-- of item i at place k of the order
pub record AtItem (t : Tables) (k i cells m : ℕ) : Type 0 where
  pub twice : Fits w64 (2 * t.n)
  pub orders : Fits w64 (order_table t)
  pub place : Word (order_table t + k) m
  pub area : Word (t.items + i) m
  pub words : Fits w64 (want_table t)
  pub size : Word (want_table t + i) m
  pub opens : (behind t ≤ m) × (k < t.n) × (i < t.n) × (cells < t.n)
  pub more : Fits w64 (cells + 1)

-- of cell c
pub record AtCell (t : Tables) (m c : ℕ) : Type 0 where
  pub thrice : Fits w64 (3 * t.n)
  pub heads : Fits w64 (head_table t)
  pub head : Word (head_table t + c) m
  pub five : Fits w64 (5 * t.n)
  pub sizes : Fits w64 (cell_table t)
  pub size : Word (cell_table t + c) m

module _ {w : List ℕ} {t : Tables} {k : ℕ} {s : Progress} (R : Ready w t k s) where
  room : behind t ≤ length w
  room = omega (arith, R.linked.low, R.linked.top_le)

  -- the item's list of ranges
  pub item_proper : 0 < get_or w (t.items + order_at w t k) 0 → Proper w t.at t.items (get_or w (t.items + order_at w t k) 0)
  item_proper h = R.linked.lent.proper (order_at w t k) (R.known k R.k_lt) h

  pub item_inside : 0 < get_or w (t.items + order_at w t k) 0
      → t.at + (first_of (get_or w (t.items + order_at w t k) 0) + count_of (get_or w (t.items + order_at w t k) 0)) ≤ length w
  item_inside h = omega (arith, (item_proper h).inside, room)

  -- a cell that was looked at, or a new one
  pub met : (most c : ℕ) → most ≡ min s.cells s.left → c ≤ most → c < t.n
  met most c e h = omega (arith, R.cells_le, R.k_lt)

  pub entering : {c : ℕ} → c < t.n → (behind t ≤ length w) × (k < t.n) × (order_at w t k < t.n) × (c < t.n)
  entering h = (room, R.k_lt, R.known k R.k_lt, h)

module _ {w : List ℕ} {t : Tables} {k : ℕ} {s : Progress} (R : Ready w t k s) (r : length w * 8 < 2 ^ 63) where
  pub at_item : AtItem t k (order_at w t k) s.cells (length w)
  at_item =
      let a = room R in
      let h = R.k_lt in
      let l = R.cells_le in
      let i = R.known k h in
      let m = length w in
      record {
        twice = small _ m (omega arith) r;
        orders = small _ m (omega arith) r;
        place = word _ m (omega arith) r;
        area = word _ m (omega arith) r;
        words = small _ m (omega arith) r;
        size = word _ m (omega arith) r;
        opens = (a, h, i, omega arith);
        more = small _ m (omega arith) r;
      }

  pub at_cell : (c : ℕ) → c < t.n → AtCell t (length w) c
  at_cell c h =
      let a = room R in
      let m = length w in
      record {
        thrice = small _ m (omega arith) r;
        heads = small _ m (omega arith) r;
        head = word _ m (omega arith) r;
        five = small _ m (omega arith) r;
        sizes = small _ m (omega arith) r;
        size = word _ m (omega arith) r;
      }
