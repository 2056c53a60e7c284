-- The ways out of a turn's two parts.
use Prim.Native.Nat.{ℕ, ◌+◌, ◌-◌, ◌≤◌, ◌<◌, min}
use mathlib.Core.Path.{◌≡◌, refl}
use mathlib.Core.List.{List}
use native.Mathlib.Omega.{arith}
use lib.ListN.{get_or, set}
use Rattle.tarjan.specs.Inner.Space.{push_list, Closed, Pl, Looking, Looked, Leaving, Left}
use Rattle.tarjan.proofs.Laws.{turn_new, turn_held, turn_shut, under, turn_left, turn_closed}

-- an edge is looked at: its target was not seen, is held, or is closed
module _ {n to base : ℕ} {w : List ℕ} {s d c e k low next : ℕ} (l : Looking n to base w s d c e k low next) where
  pub looked_new : get_or w (base + get_or w (to + k) 0) 0 ≡ 0
      → Looked n to base w s d c e (push_list n base (get_or w (to + k) 0) s d (set w next (k + 1))) (s + 1) (d + 1) c e
  looked_new h at y o = rw l.next_is (rw l.k_is (turn_new n at to base w s d c e l.some o y (rw l.k_is at h)))

  pub looked_held : (get_or w (base + get_or w (to + k) 0) 0 ≡ 0 → ⊥) → get_or w (base + get_or w (to + k) 0) 0 ≤ n
      → Looked n to base w s d c e (set (set w next (k + 1)) low (min (get_or (set w next (k + 1)) low 0) (get_or w (base + get_or w (to + k) 0) 0 - 1))) s d c e
  looked_held h g at y o = rw l.low_is (rw l.next_is (rw l.k_is
      (turn_held n at to base w s d c e l.some o y _ refl (rw l.k_is at h) (rw l.k_is at g))))

  pub looked_shut : n < get_or w (base + get_or w (to + k) 0) 0 → Looked n to base w s d c e (set w next (k + 1)) s d c e
  looked_shut h at y o = rw l.next_is (rw l.k_is (turn_shut n at to base w s d c e l.some o y (rw l.k_is at h)))

-- a frame is left: its node stays held, or its component is closed
module _ {n base : ℕ} {w : List ℕ} {s d c e p low : ℕ} (l : Leaving n base w s d c e p low) where
  pub left_held : get_or w low 0 < p → Left n base w s d c e (set w (low - 1) (min (get_or w (low - 1) 0) (get_or w low 0))) s (d - 1) c e
  left_held h at to y o =
      let g : get_or w (base + n + n + n + (d - 1)) 0 < Pl n base w d = rw l.p_is at (rw l.low_is at h) in
      let q : low - 1 ≡ base + n + n + n + (d - 1 - 1) = omega (arith, l.low_is, under n at to base w s d c e l.some o y g) in
      rw q (rw l.low_is (turn_left n at to base w s d c e l.some o y _ refl g))

  pub left_closed : {w' : List ℕ} → p ≤ get_or w low 0 → Closed n base w p (n + 1 + c) e s w' → Left n base w s d c e w' p (d - 1) (c + 1) (e + (s - p))
  left_closed {w'} h C at to y o = rw l.p_is (turn_closed n at to base w s d c e l.some o y _ refl (rw l.low_is at (rw l.p_is at h)) w' (rw l.p_is at C))
