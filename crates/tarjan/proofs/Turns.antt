-- The five ways of a turn, at the level of states.
-- Assumes nothing.
use mathlib.Core.Path.{◌≡◌, refl, sym, ap, ◌∙◌, subst}
use Prim.Native.Nat.{ℕ, suc, ◌≤◌, ◌<◌}
use native.Mathlib.Omega.{arith}
use Rattle.words.proofs.Points.{same}
use Rattle.tarjan.specs.Inner.Graph.{Graph, Sound, Edge, Reach, step}
use Rattle.tarjan.specs.Inner.Walk.{State, Fwd, Inv, Walks}
use Rattle.tarjan.specs.Inner.Moves.{pushed, advanced, lowered, retired, closed}
use Rattle.tarjan.proofs.Tools.{upd_at, upd_off}
use Rattle.tarjan.proofs.Steps.{edge_node, bound_lt, to_top, push_inv, push_order, advance_inv, lower_inv, lower_fwd}
use Rattle.tarjan.proofs.Leaves.{retire_inv, close_inv, close_order}

-- a node that nothing is held above
pub root_walks : {G : Graph} {z : State} → Sound G → Walks G z → (v : ℕ) → v < G.n → z.num v ≡ 0 → z.s ≡ 0 → Walks G (pushed z v)
root_walks {G} {z} S W v l new none = record {
  inv = push_inv G z v S W.inv l new (λ p h. absurd (omega arith));
  order = push_order G z v S W.inv l new (λ p h. absurd (omega arith)) W.order;
}

module _ {G : Graph} {z : State} (S : Sound G) (W : Walks G z) (f : ℕ) (top : z.d ≡ suc f) where
  abbrev I : Inv G z
  I = W.inv

  pub p_lt : z.fr f < z.s
  p_lt = I.framed f (omega arith)

  pub u_lt : z.stk (z.fr f) < G.n
  u_lt = I.node (z.fr f) p_lt

  module _ (more : z.nxt (z.stk (z.fr f)) < G.end (z.stk (z.fr f))) where
    edge : Edge G (z.stk (z.fr f)) (G.tgt (z.nxt (z.stk (z.fr f))))
    edge = record { k = z.nxt (z.stk (z.fr f)); from = I.begun (z.stk (z.fr f)) u_lt; to = more; is = refl }

    pub v_lt : G.tgt (z.nxt (z.stk (z.fr f))) < G.n
    v_lt = edge_node S u_lt edge

    pub take_new : z.num (G.tgt (z.nxt (z.stk (z.fr f)))) ≡ 0
        → Walks G (advanced (pushed z (G.tgt (z.nxt (z.stk (z.fr f))))) (z.stk (z.fr f)))
    take_new new =
        let v : ℕ = G.tgt (z.nxt (z.stk (z.fr f))) in
        let reach : (p : ℕ) → p < z.s → Reach G (z.stk p) v = λ p h. step (to_top S I f top p h) edge in
        let J : Inv G (pushed z v) = push_inv G z v S I v_lt new reach in
        let pl = p_lt in
        let same-u : (pushed z v).stk (z.fr f) ≡ z.stk (z.fr f) = upd_off z.stk z.s v (z.fr f) (λ q. absurd (omega arith)) in
        let num-v : (pushed z v).num v ≡ suc z.s = upd_at z.num v (suc z.s) v refl in
        let num-v' : (pushed z v).num (G.tgt (z.nxt ((pushed z v).stk (z.fr f)))) ≡ suc z.s = rw same-u num-v in
        record {
          inv = subst (λ (t : ℕ). Inv G (advanced (pushed z v) t)) same-u
              (advance_inv G (pushed z v) (z.fr f) S J (omega arith) (rw same-u more)
              (omega arith)
              (λ q e l b B _. let r : q ≡ z.s = omega arith in omega (arith, bound_lt S J B)));
          order = push_order G z v S I v_lt new reach W.order;
        }

    pub take_held : (q : ℕ) → z.num (G.tgt (z.nxt (z.stk (z.fr f)))) ≡ suc q → q < G.n
        → Walks G (advanced (lowered z f q) (z.stk (z.fr f)))
    take_held q is l =
        let r = I.place (G.tgt (z.nxt (z.stk (z.fr f)))) q v_lt is l in
        let E : Edge G (z.stk (z.fr f)) (z.stk q) = rw r.1 edge in
        let J : Inv G (lowered z f q) = lower_inv G z f q S I top r.0 E in
        record {
          inv = advance_inv G (lowered z f q) (z.fr f) S J p_lt more (omega arith)
              (λ t e h. let o : t ≡ q = omega arith in subst (λ (y : ℕ). Fwd (lowered z f q).fr (lowered z f q).lw (lowered z f q).d (z.fr f) y) (sym o) (lower_fwd G z f q S I top r.0 E (z.fr f)));
          order = W.order;
        }

    pub take_shut : G.n < z.num (G.tgt (z.nxt (z.stk (z.fr f)))) → Walks G (advanced z (z.stk (z.fr f)))
    take_shut h = record {
      inv = advance_inv G z (z.fr f) S I p_lt more (omega arith) (λ q e l. absurd (omega arith));
      order = W.order;
    }

  module _ (done : G.end (z.stk (z.fr f)) ≤ z.nxt (z.stk (z.fr f))) where
    -- there is a frame below
    pub lower_frame : z.lw f < z.fr f → 0 < f
    lower_frame h = same f 0
        (λ e. absurd (omega (arith, ap z.fr e, I.bottom (omega arith))))
        (λ e. omega arith)

    pub leave_held : (g : ℕ) → f ≡ suc g → z.lw f < z.fr f → Walks G (retired z g)
    leave_held g is h = record {
      inv = retire_inv G z g S I (top ∙ ap suc is) (rw is at h) (rw is at done);
      order = W.order;
    }

    pub leave_closed : z.fr f ≤ z.lw f → Walks G (closed G.n z f)
    leave_closed h = record {
      inv = close_inv G z f S I top h done;
      order = close_order G z f S I top h done W.order;
    }
