-- What the walk computes fits and stands in the work space, each bound as the code asks for it.
use Prim.Native.Nat.{ℕ, ◌+◌, ◌-◌, ◌*◌, ◌^◌, ◌≤◌, ◌<◌}
use mathlib.Core.Path.{◌≡◌}
use mathlib.Core.List.{List}
use mir.Syntax.{w64}
use mir.Val.{Fits}
use native.Mathlib.Omega.{arith}
use lib.ListN.{length, get_or}
use Rattle.words.proofs.FitLaws.{Word, word, small}
use Rattle.tarjan.specs.Inner.Space.{Pl, Nd, Ready, Looking, Leaving, Closes, Closed}
use Rattle.tarjan.specs.Inner.Components.{Walkable}
use Rattle.tarjan.proofs.Laws.{top, v_ok, room_for, under, closes}
use Rattle.tarjan.proofs.Lists.{close_node}
use Rattle.tarjan.proofs.Roots.{Roots}

pub le_refl : (m : ℕ) → m ≤ m
le_refl m = omega arith

pub step_le : (i s : ℕ) → i < s → i + 1 ≤ s
step_le i s h = omega arith

pub both_le : (i s : ℕ) → i ≤ s → s ≤ i → i ≡ s
both_le i s h k = omega arith

-- a frame's low stands n places on
pub low_at : (base n f : ℕ) → base + n + n + f + n ≡ base + n + n + n + f
low_at base n f = omega arith

-- at any turn
pub record Turning (n at base : ℕ) (w : List ℕ) (d : ℕ) : Type 0 where
  pub stk : Fits w64 (base + n)
  pub fr : Fits w64 (base + n + n)
  pub lw : Fits w64 (base + n + n + n)
  pub nxt : Fits w64 (base + n + n + n + n)
  pub frame : Word (base + n + n + (d - 1)) (length w)
  pub low : Fits w64 (base + n + n + (d - 1) + n)
  pub held : Word (base + n + Pl n base w d) (length w)
  pub next : Word (base + n + n + n + n + Nd n base w d) (length w)
  pub begin : Fits w64 (at + Nd n base w d)
  pub end : Word (at + Nd n base w d + 1) (length w)

pub turning : {n at to base : ℕ} {w : List ℕ} {s d c e : ℕ} → 0 < d → Ready n at to base w s d c e → length w * 8 < 2 ^ 63 → Turning n at base w d
turning {n} {at} {to} {base} {w} {s} {d} {c} {e} pos y r =
    let t = top n at to base w s d c e pos y in
    let a = t.room in
    let p = t.p_lt in
    let u = t.u_lt in
    let f = t.fits in
    let l = t.starts in
    let k = t.deep in
    let m = length w in
    record {
      stk = small _ m (omega arith) r;
      fr = small _ m (omega arith) r;
      lw = small _ m (omega arith) r;
      nxt = small _ m (omega arith) r;
      frame = word _ m (omega arith) r;
      low = small _ m (omega arith) r;
      held = word _ m (omega arith) r;
      next = word _ m (omega arith) r;
      begin = small _ m (omega arith) r;
      end = word _ m (omega arith) r;
    }

-- at an edge, k
pub record AtEdge (n to base : ℕ) (w : List ℕ) (k low next : ℕ) : Type 0 where
  pub target : Word (to + k) (length w)
  pub node : get_or w (to + k) 0 < n
  pub num : Word (base + get_or w (to + k) 0) (length w)
  pub more : Fits w64 (k + 1)
  pub low_in : low < length w
  pub next_at_lem : Word next (length w)
  pub tables : base + n + n + n + n ≤ length w

-- at an edge to a node that was not seen
pub record AtNew (n s d : ℕ) : Type 0 where
  pub held : s < n
  pub frames : d < n
  pub more_held : Fits w64 (s + 1)
  pub more_frames : Fits w64 (d + 1)

module _ {n to base : ℕ} {w : List ℕ} {s d c e k low next : ℕ} (l : Looking n to base w s d c e k low next) (r : length w * 8 < 2 ^ 63) where
  pub edge : AtEdge n to base w k low next
  edge =
      let t = top n l.at to base w s d c e l.some l.ready in
      let a = t.room in
      let b = t.end_le in
      let f = t.fits in
      let g = t.deep in
      let u = t.u_lt in
      let o = l.more in
      let i = l.some in
      let q = l.k_is in
      let x = l.low_is in
      let y = l.next_is in
      let v : get_or w (to + k) 0 < n = rw q (v_ok n l.at to base w s d c e i o l.ready) in
      let m = length w in
      record {
        target = word _ m (omega arith) r;
        node = v;
        num = word _ m (omega arith) r;
        more = small _ m (omega arith) r;
        low_in = omega arith;
        next_at_lem = word _ m (omega arith) r;
        tables = omega arith;
      }

  pub fresh : get_or w (base + get_or w (to + k) 0) 0 ≡ 0 → AtNew n s d
  fresh h =
      let t = top n l.at to base w s d c e l.some l.ready in
      let a = t.room in
      let g = t.deep in
      let q = l.k_is in
      let b : s < n = room_for n l.at to base w s d c e l.some l.more l.ready (rw q at h) in
      let m = length w in
      record {
        held = b;
        frames = omega arith;
        more_held = small _ m (omega arith) r;
        more_frames = small _ m (omega arith) r;
      }

-- where a frame is left
pub record AtEnd (n base : ℕ) (w : List ℕ) (s c e p low : ℕ) : Type 0 where
  pub low_at : Word low (length w)
  pub shut : Fits w64 (n + 1)
  pub pieces : Fits w64 (c + 1)
  pub above : p ≤ s
  pub closed : Fits w64 (e + (s - p))

-- the next component's number
pub record Few (n s c : ℕ) : Type 0 where
  pub held : s ≤ n
  pub pieces : c ≤ n
  pub all : Fits w64 (n + 1 + n)

module _ {n base : ℕ} {w : List ℕ} {s d c e p low : ℕ} (l : Leaving n base w s d c e p low) (r : length w * 8 < 2 ^ 63) where
  pub end : AtEnd n base w s c e p low
  end =
      let t = top n l.at l.to base w s d c e l.some l.ready in
      let a = t.room in
      let f = t.fits in
      let g = t.e_fits in
      let h = t.deep in
      let i = l.some in
      let j = t.starts in
      let k = t.p_lt in
      let q = l.p_is in
      let x = l.low_is in
      let m = length w in
      record {
        low_at = word _ m (omega arith) r;
        shut = small _ m (omega arith) r;
        pieces = small _ m (omega arith) r;
        above = omega arith;
        closed = small _ m (omega arith) r;
      }

  pub few : Few n s c
  few =
      let t = top n l.at l.to base w s d c e l.some l.ready in
      let a = t.room in
      let f = t.fits in
      let g = t.deep in
      let i = l.some in
      record { held = omega arith; pieces = omega arith; all = small _ (length w) (omega arith) r }

  -- the frame below
  pub below : get_or w low 0 < p → 1 ≤ low
  below h = let i = l.some in omega (arith, l.low_is, under-it h)
    where
      under-it : get_or w low 0 < p → 0 < d - 1
      under-it h = under n l.at l.to base w s d c e l.some l.done l.ready (rw l.p_is at (rw l.low_is at h))

  pub below_low : low - 1 < length w
  below_low = omega (arith, end.low_at.inside)

  pub to_close : Closes n base w p s e
  to_close = rw l.p_is (closes n l.at l.to base w s d c e l.some l.done l.ready)

-- where all walks begin
pub record AtStart (n at : ℕ) : Type 0 where
  pub ends : Fits w64 (at + n)
  pub to : Fits w64 (at + n + 1)

pub start : {n at base : ℕ} {w : List ℕ} → Walkable n at base w → length w * 8 < 2 ^ 63 → AtStart n at
start {w = w} y r =
    let a = y.below in
    let b = y.room in
    record { ends = small _ (length w) (omega arith) r; to = small _ (length w) (omega arith) r }

-- at a root
pub record AtRoot (n base : ℕ) (w : List ℕ) (root : ℕ) : Type 0 where
  pub num : Word (base + root) (length w)
  pub more : Fits w64 (root + 1)
  pub less : n - (root + 1) < n - root

pub at_root : {n at to base : ℕ} {w₀ w : List ℕ} {c e root : ℕ} (m : ℕ) → Roots n at to base w₀ w c e root → length w₀ ≡ m → m * 8 < 2 ^ 63 → root < n → AtRoot n base w root
at_root {w = w} m q o r h =
    let a = q.ready.held.reads.room in
    let k = q.kept.len in
    record { num = word _ (length w) (omega arith) (omega arith); more = small _ (length w) (omega arith) (omega arith); less = omega arith }

-- where a node is taken up
pub record AtPush (n base v s d m : ℕ) : Type 0 where
  pub stk : Fits w64 (base + n)
  pub fr : Fits w64 (base + n + n)
  pub lw : Fits w64 (base + n + n + n)
  pub more : Fits w64 (s + 1)
  pub num : Word (base + v) m
  pub held : Word (base + n + s) m
  pub frame : Word (base + n + n + d) m
  pub low : Word (base + n + n + n + d) m

pub at_push : (n base v s d m : ℕ) → v < n → s < n → d < n → base + n + n + n + n ≤ m → m * 8 < 2 ^ 63 → AtPush n base v s d m
at_push n base v s d m a b c e r = record {
  stk = small _ m (omega arith) r;
  fr = small _ m (omega arith) r;
  lw = small _ m (omega arith) r;
  more = small _ m (omega arith) r;
  num = word _ m (omega arith) r;
  held = word _ m (omega arith) r;
  frame = word _ m (omega arith) r;
  low = word _ m (omega arith) r;
}

-- where nodes are closed: the regions, and what is closed from the order's end on
pub record AtClose (n base e : ℕ) : Type 0 where
  pub stk : Fits w64 (base + n)
  pub fr : Fits w64 (base + n + n)
  pub lw : Fits w64 (base + n + n + n)
  pub nxt : Fits w64 (base + n + n + n + n)
  pub ord : Fits w64 (base + n + n + n + n + n)
  pub end : Fits w64 (base + n + n + n + n + n + e)

pub at_close : {n base : ℕ} {w : List ℕ} {p s e : ℕ} → Closes n base w p s e → length w * 8 < 2 ^ 63 → AtClose n base e
at_close {w = w} a r =
    let b = a.room in
    let c = a.e_le in
    let m = length w in
    record {
      stk = small _ m (omega arith) r;
      fr = small _ m (omega arith) r;
      lw = small _ m (omega arith) r;
      nxt = small _ m (omega arith) r;
      ord = small _ m (omega arith) r;
      end = small _ m (omega arith) r;
    }

-- the node at place i of the stack
pub record AtHeld (n base : ℕ) (w : List ℕ) (p s e i : ℕ) : Type 0 where
  pub held : Word (base + n + i) (length w)
  pub num : Word (base + get_or w (base + n + i) 0) (length w)
  pub put : Word (base + n + n + n + n + n + e + (i - p)) (length w)
  pub more : Fits w64 (i + 1)
  pub less : s - (i + 1) < s - i
  pub above : p ≤ i + 1

pub at_held : {n base : ℕ} {w w' : List ℕ} {p s e x i : ℕ} → Closes n base w p s e → Closed n base w p x e i w' → p ≤ i → i < s → length w * 8 < 2 ^ 63 → AtHeld n base w' p s e i
at_held {n} {base} {w} {w'} {p} {s} {e} {x} {i} a c l h r =
    let b = a.room in
    let d = a.s_le in
    let f = a.e_le in
    let g = c.kept.len in
    let q = close_node a h c in
    let k = a.node i h in
    let m = length w' in
    record {
      held = word _ m (omega arith) (omega arith);
      num = word _ m (omega arith) (omega arith);
      put = word _ m (omega arith) (omega arith);
      more = small _ m (omega arith) (omega arith);
      less = omega arith;
      above = omega arith;
    }
