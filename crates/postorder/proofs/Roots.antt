-- The walk from one root, and the walks from all.
use Prim.Native.Nat.{ℕ, ◌+◌, ◌≤◌, ◌<◌}
use mathlib.Core.Path.{◌≡◌, refl, sym, ap, subst}
use mathlib.Core.List.{List}
use native.Mathlib.Omega.{arith}
use lib.ListN.{get_or}
use Rattle.words.proofs.Points.{same}
use Rattle.words.specs.Inner.{Region}
use Rattle.graph.specs.Paths.{Edge, Between}
use Rattle.graph.specs.Inner.Work.{Within, EdgeRows}
use Rattle.graph.proofs.Within.{within_refl, within_trans, within_wider, region_within}
use Rattle.postorder.specs.Inner.{Walkable, Ordered, view, Held, Ready, Still, push_list, Turned, Walked}
use Rattle.postorder.proofs.Steps.{Pushed, push_walks, start_walks, last_settling, last_ranks}
use Rattle.postorder.proofs.Lists.{push_is, push_kept, held_from, held_on}

-- what a walk has done since
pub record Going (n at base : ℕ) (w : List ℕ) (depth left : ℕ) (w' : List ℕ) (depth' left' : ℕ) : Type 0 where
  pub kept : Within base (base + n + n + n + n) w w'
  pub still : Still n base w w'
  pub held : (es : List Edge) → Held es n at base w depth left → Held es n at base w' depth' left'

pub going_start : (n at base : ℕ) (w : List ℕ) (depth left : ℕ) → Going n at base w depth left w depth left
going_start n at base w depth left = record { kept = within_refl _ _ w; still = λ v h o. o; held = λ es H. H }

pub going_more : {n at base : ℕ} {w : List ℕ} {depth left : ℕ} {w' : List ℕ} {depth' left' : ℕ} {w'' : List ℕ} {depth'' left'' : ℕ}
    → Going n at base w depth left w' depth' left' → Turned n at base w' depth' left' w'' depth'' left'' → Going n at base w depth left w'' depth'' left''
going_more g t = record {
  kept = within_trans g.kept t.kept;
  still = λ v h o. t.still v h (g.still v h o);
  held = λ es H. t.held es (g.held es H);
}

pub ready_more : {n at base : ℕ} {w : List ℕ} {depth left : ℕ} {w' : List ℕ} {depth' left' : ℕ} → Ready n at base w depth left → Turned n at base w depth left w' depth' left' → Ready n at base w' depth' left'
ready_more y t = record { edges = y.edges; held = t.held y.edges y.held }

-- ---- one root

module _ (n at base root : ℕ) (w : List ℕ) (left : ℕ) (Y : Ready n at base w 0 left) (l : root < n) (new : get_or w (base + n + n + n + root) 0 ≡ 0) where
  starts : at + n < base
  starts = Y.held.starts

  pub root_first : get_or w (at + root) 0 ≤ base
  root_first = let H = Y.held in omega (arith, H.fits root l, H.rows.rising root l)

  root_kept : Within base (base + n + n + n + n) w (push_list n at base root 0 w)
  root_kept = push_kept n at base w 0 left starts Y.held.room root l (omega arith)

  root_pushed : Pushed w n at (view n base w 0 left) root (view n base (push_list n at base root 0 w) 1 left)
  root_pushed = push_is n at base w 0 left starts Y.held.room root l (omega arith)

  root_held : (es : List Edge) → Held es n at base w 0 left → Held es n at base (push_list n at base root 0 w) 1 left
  root_held es H = held_on H root_kept (push_walks H.between H.rows H.walks root_pushed l new (λ i h. absurd (omega arith)))

  pub root_ready : Ready n at base (push_list n at base root 0 w) 1 left
  root_ready = record { edges = Y.edges; held = root_held Y.edges Y.held }

  pub walk_done : (w' : List ℕ) (depth left' : ℕ) → Going n at base (push_list n at base root 0 w) 1 left w' depth left' → depth ≡ 0 → Walked n at base root w left w' left'
  walk_done w' depth left' g stop = record {
    kept = within_trans root_kept g.kept;
    still = λ v h o. g.still v h (omega (arith, root_pushed.next v h (λ e. absurd (omega (arith, ap (λ (y : ℕ). get_or w (base + n + n + n + y) 0) e)))));
    root_seen = g.still root l (omega (arith, root_pushed.first));
    held = λ es H. subst (λ (y : ℕ). Held es n at base w' y left') stop (g.held es (root_held es H));
  }

-- ---- all roots

-- nothing was seen in w₁, and every place below root is seen in w
pub record Roots (n at base : ℕ) (w₁ w : List ℕ) (left root : ℕ) : Type 0 where
  pub root_le : root ≤ n
  pub ready : Ready n at base w 0 left
  pub kept : Within base (base + n + n + n + n) w₁ w
  pub seen : (v : ℕ) → v < root → 0 < get_or w (base + n + n + n + v) 0
  pub held : (es : List Edge) → Held es n at base w₁ 0 n → Held es n at base w 0 left

module _ {n at base : ℕ} {w₀ w₁ : List ℕ} (G : Walkable n at base w₀) (F : Region w₀ w₁ (base + n + n + n) n (λ _. 0)) where
  begun_kept : Within base (base + n + n + n + n) w₀ w₁
  begun_kept = within_wider base _ (omega arith) (omega arith) (region_within F)

  begun : (es : List Edge) → Between n es → EdgeRows es n at w₀ → Held es n at base w₁ 0 n
  begun es B R = held_from B R (omega (arith, G.below)) (λ j h. omega (arith, G.rows.ends j h, G.below)) G.room begun_kept
      (start_walks es w₀ n at (view n base w₁ 0 n) refl refl (λ v h. F.inside (base + n + n + n + v) v refl h))

  pub roots_start : Roots n at base w₁ w₁ n 0
  roots_start = record {
    root_le = omega arith;
    ready = record { edges = G.edges; held = begun G.edges G.between G.rows };
    kept = within_refl _ _ w₁;
    seen = λ v h. absurd (omega arith);
    held = λ es H. H;
  }

  pub roots_done : {w : List ℕ} {left root : ℕ} → Roots n at base w₁ w left root → n ≤ root → Ordered n at base w₀ w
  roots_done {w} Q all =
      let seen_all : (v : ℕ) → v < n → 0 < get_or w (base + n + n + n + v) 0 = λ v h. Q.seen v (omega arith) in
      record {
        kept = within_trans begun_kept Q.kept;
        settling = λ es B R. last_settling (Q.held es (begun es B R)).walks refl seen_all;
        ranks = last_ranks Q.ready.held.walks refl seen_all;
      }

module _ {n at base : ℕ} {w₁ w : List ℕ} {left root : ℕ} (Q : Roots n at base w₁ w left root) (l : root < n) where
  pub roots_walk : {w' : List ℕ} {left' : ℕ} → Walked n at base root w left w' left' → Roots n at base w₁ w' left' (root + 1)
  roots_walk {w'} k = record {
    root_le = omega arith;
    ready = record { edges = Q.ready.edges; held = k.held Q.ready.edges Q.ready.held };
    kept = within_trans Q.kept k.kept;
    seen = λ v h. same v root
        (λ e. subst (λ (y : ℕ). 0 < get_or w' (base + n + n + n + y) 0) (sym e) k.root_seen)
        (λ e. k.still v (omega arith) (Q.seen v (omega arith)));
    held = λ es H. k.held es (Q.held es H);
  }

  pub roots_skip : (get_or w (base + n + n + n + root) 0 ≡ 0 → ⊥) → Roots n at base w₁ w left (root + 1)
  roots_skip old = record {
    root_le = omega arith;
    ready = Q.ready;
    kept = Q.kept;
    seen = λ v h. same v root
        (λ e. subst (λ (y : ℕ). 0 < get_or w (base + n + n + n + y) 0) (sym e) (omega arith))
        (λ e. Q.seen v (omega arith));
    held = Q.held;
  }
