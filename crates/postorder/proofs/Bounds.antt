-- What the walk computes fits and stands in the work space, each bound as the code asks for it.
use Prim.Native.Nat.{ℕ, ◌+◌, ◌-◌, ◌*◌, ◌^◌, ◌≤◌, ◌<◌}
use mathlib.Core.Path.{◌≡◌}
use mathlib.Core.List.{List}
use mir.Syntax.{w64}
use mir.Val.{Fits}
use native.Mathlib.Omega.{arith}
use lib.ListN.{length, get_or}
use Rattle.words.proofs.FitLaws.{Word, word, small}
use Rattle.postorder.specs.Inner.{ends, Walkable, Ready}
use Rattle.postorder.proofs.Turns.{top_of, next_of, leads_to, Top, top, v_ok}
use Rattle.postorder.proofs.Roots.{Roots}

-- at any turn
pub record Turning (n at base : ℕ) (w : List ℕ) (depth : ℕ) : Type 0 where
  pub rank : Fits w64 (base + n)
  pub stack : Fits w64 (base + n + n)
  pub next : Fits w64 (base + n + n + n)
  pub held : Word (base + n + n + (depth - 1)) (length w)
  pub looked : Word (base + n + n + n + top_of n base w depth) (length w)
  pub begin : Fits w64 (at + top_of n base w depth)
  pub end : Word (at + top_of n base w depth + 1) (length w)
  pub ranked : Word (base + n + top_of n base w depth) (length w)

-- at an edge
pub record AtEdge (n at base : ℕ) (w : List ℕ) (depth : ℕ) : Type 0 where
  pub rows : Fits w64 (at + n)
  pub to : Word (at + n + next_of n base w (top_of n base w depth)) (length w)
  pub more : Fits w64 (next_of n base w (top_of n base w depth) + 1)
  pub seen : Word (base + n + n + n + leads_to n at base w depth) (length w)

module _ {n at base : ℕ} {w : List ℕ} {depth left : ℕ} (pos : 0 < depth) (Y : Ready n at base w depth left) (r : length w * 8 < 2 ^ 63) where
  T : Top n at base w depth left
  T = top n at base w depth left pos Y

  pub turning : Turning n at base w depth
  turning =
      let a = T.room in
      let s = T.starts in
      let d = T.deep in
      let u = T.u_lt in
      let m = length w in
      record {
        rank = small _ m (omega arith) r;
        stack = small _ m (omega arith) r;
        next = small _ m (omega arith) r;
        held = word _ m (omega arith) r;
        looked = word _ m (omega arith) r;
        begin = small _ m (omega arith) r;
        end = word _ m (omega arith) r;
        ranked = word _ m (omega arith) r;
      }

  pub edge : next_of n base w (top_of n base w depth) ≤ ends w at (top_of n base w depth) → AtEdge n at base w depth
  edge h =
      let a = T.room in
      let e = T.end_le in
      let u = T.u_lt in
      let v = v_ok n at base w depth left pos h Y in
      let m = length w in
      record {
        rows = small _ m (omega arith) r;
        to = word _ m (omega arith) r;
        more = small _ m (omega arith) r;
        seen = word _ m (omega arith) r;
      }

  pub deeper : depth < n → Fits w64 (depth + 1)
  deeper h = small _ (length w) (omega (arith, T.room)) r

-- what is taken off the stack stands in the order: each of the two counts is below n
pub record Few (n base depth left : ℕ) (w : List ℕ) : Type 0 where
  pub top : depth - 1 < n
  pub last : left - 1 < n
  pub room : base + n ≤ length w
  pub fits : length w * 8 < 2 ^ 63

pub few : {n at base : ℕ} {w : List ℕ} {depth left : ℕ} → 0 < depth → Ready n at base w depth left → length w * 8 < 2 ^ 63 → Few n base depth left w
few {n} {at} {base} {w} {depth} {left} pos y r =
    let t = top n at base w depth left pos y in
    let a = t.room in
    let b = t.deep in
    let c = t.left_pos in
    let d = t.left_le in
    record { top = omega arith; last = omega arith; room = omega arith; fits = r }

-- where a place is put on the stack
pub record AtPush (n at base : ℕ) (w : List ℕ) (v depth : ℕ) : Type 0 where
  pub rank : Fits w64 (base + n)
  pub stack : Fits w64 (base + n + n)
  pub next : Fits w64 (base + n + n + n)
  pub first : Word (at + v) (length w)
  pub more : Fits w64 (get_or w (at + v) 0 + 1)
  pub held : Word (base + n + n + depth) (length w)
  pub looked : Word (base + n + n + n + v) (length w)

pub at_push : (n at base : ℕ) (w : List ℕ) (v depth : ℕ) → v < n → depth < n → at + n < base → base + n + n + n + n ≤ length w → get_or w (at + v) 0 ≤ base → length w * 8 < 2 ^ 63
    → AtPush n at base w v depth
at_push n at base w v depth a b c d e r = let m = length w in record {
  rank = small _ m (omega arith) r;
  stack = small _ m (omega arith) r;
  next = small _ m (omega arith) r;
  first = word _ m (omega arith) r;
  more = small _ m (omega arith) r;
  held = word _ m (omega arith) r;
  looked = word _ m (omega arith) r;
}

-- where all walks begin
pub record AtStart (n base : ℕ) : Type 0 where
  pub rank : Fits w64 (base + n)
  pub stack : Fits w64 (base + n + n)
  pub next : Fits w64 (base + n + n + n)

pub start : {n at base : ℕ} {w : List ℕ} → Walkable n at base w → length w * 8 < 2 ^ 63 → AtStart n base
start {w = w} y r = let a = y.room in let m = length w in record { rank = small _ m (omega arith) r; stack = small _ m (omega arith) r; next = small _ m (omega arith) r }

-- at a root
pub record AtRoot (n next root : ℕ) (w : List ℕ) : Type 0 where
  pub seen : Word (next + root) (length w)
  pub more : Fits w64 (root + 1)
  pub less : n - (root + 1) < n - root

pub at_root : {n at base : ℕ} {w₁ w : List ℕ} {left root : ℕ} (next m : ℕ) → Roots n at base w₁ w left root → next ≡ base + n + n + n → length w₁ ≡ m → m * 8 < 2 ^ 63 → root < n → AtRoot n next root w
at_root {w = w} next m q e o r h =
    let a = q.ready.held.room in
    let k = q.kept.len in
    record { seen = word _ (length w) (omega arith) (omega arith); more = small _ (length w) (omega arith) (omega arith); less = omega arith }
