-- The walk from one root, and the walks from all.
-- Assumes nothing.
use mathlib.Core.Path.{◌≡◌, refl, sym, ◌∙◌, subst}
use mathlib.Core.List.{List}
use Prim.Native.Nat.{ℕ, ◌+◌, ◌≤◌, ◌<◌}
use native.Mathlib.Omega.{arith}
use lib.ListN.{length, get_or}
use Rattle.words.proofs.Points.{same}
use Rattle.tarjan.specs.Inner.Graph.{Sound}
use Rattle.tarjan.specs.Inner.Moves.{view, Agree, pushed}
use Rattle.tarjan.specs.Inner.Space.{Rows, graph, rows_of, Held, Ready, Kept, Still, push_list, Turned, Walked, Given, Pieced, Begun, Numbered}
use Rattle.tarjan.proofs.Tools.{upd_case, upd_at, seen_le}
use Rattle.tarjan.proofs.Whole.{start_walks, last_pieces, last_listed, shut_all}
use Rattle.tarjan.proofs.Lists.{kept_refl, kept_trans}
use Rattle.tarjan.proofs.Laws.{agree_push, kept_push, held_agree}
use Rattle.tarjan.proofs.Turns.{root_walks}

-- what a walk has done since
pub record Going (n at to base : ℕ) (w : List ℕ) (s d c e : ℕ) (w' : List ℕ) (s' d' c' e' : ℕ) : Type 0 where
  pub kept : Kept n base w w'
  pub still : Still n base w w'
  pub held : (R : Rows) → Held R n at to base w s d c e → Held R n at to base w' s' d' c' e'

-- ---- one root
module _ (n at to base root : ℕ) (w : List ℕ) (c e : ℕ) (Y : Ready n at to base w 0 0 c e) (l : root < n) (new : get_or w (base + root) 0 ≡ 0) where
  room : base + n + n + n + n + n + n ≤ length w
  room = Y.held.reads.room

  e_le : e ≤ n
  e_le = omega (arith, Y.held.walks.order.total, seen_le n (λ i. get_or w (base + i) 0))

  root_agree : Agree n (pushed (view n base w 0 0 c e) root) (view n base (push_list n base root 0 0 w) 1 1 c e)
  root_agree = agree_push n base w 0 0 c e room e_le root l (omega arith) (omega arith)

  root_kept : Kept n base w (push_list n base root 0 0 w)
  root_kept = kept_push n base w 0 0 c e room e_le w (kept_refl n base w) root l (omega arith) (omega arith)

  root_held : (R : Rows) → Held R n at to base w 0 0 c e → Held R n at to base (push_list n base root 0 0 w) 1 1 c e
  root_held R H = held_agree (pushed (view n base w 0 0 c e) root) H.reads root_kept (root_walks H.reads.sound H.walks root l new refl) root_agree

  pub root_ready : Ready n at to base (push_list n base root 0 0 w) 1 1 c e
  root_ready = record { rows = Y.rows; held = root_held Y.rows Y.held }

  root_still : Still n base w (push_list n base root 0 0 w)
  root_still v h o = rw (root_agree.num v h) (upd_case (λ a. 0 < a) (λ i. get_or w (base + i) 0) root 1 v (λ _. omega arith) (λ _. o))

  root_num : 0 < get_or (push_list n base root 0 0 w) (base + root) 0
  root_num = rw (root_agree.num root l) (rw (upd_at (λ i. get_or w (base + i) 0) root 1 root refl) (omega arith))

  -- what a walk has done since
  pub walk_done : (w' : List ℕ) (s d c' e' : ℕ) → Going n at to base (push_list n base root 0 0 w) 1 1 c e w' s d c' e' → d ≡ 0 → Walked n at to base root w c e w' c' e'
  walk_done w' s d c' e' g stop = record {
    kept = kept_trans root_kept g.kept;
    still = λ v h o. g.still v h (root_still v h o);
    root_seen = g.still root l root_num;
    held = λ R H.
        let F : Held R n at to base w' s d c' e' = g.held R (root_held R H) in
        let none : s ≡ 0 = F.walks.inv.first stop in
        subst (λ (y : ℕ). Held R n at to base w' 0 y c' e') stop (subst (λ (x : ℕ). Held R n at to base w' x d c' e') none F);
  }

pub going_start : (n at to base : ℕ) (w : List ℕ) (s d c e : ℕ) → Going n at to base w s d c e w s d c e
going_start n at to base w s d c e = record { kept = kept_refl n base w; still = λ v h o. o; held = λ R H. H }

pub going_more : {n at to base : ℕ} {w : List ℕ} {s d c e : ℕ} {w' : List ℕ} {s' d' c' e' : ℕ} {w'' : List ℕ} {s'' d'' c'' e'' : ℕ}
    → Going n at to base w s d c e w' s' d' c' e' → Turned n at to base w' s' d' c' e' w'' s'' d'' c'' e'' → Going n at to base w s d c e w'' s'' d'' c'' e''
going_more g t = record {
  kept = kept_trans g.kept t.kept;
  still = λ v h o. t.still v h (g.still v h o);
  held = λ R H. t.held R (g.held R H);
}

pub ready_more : {n at to base : ℕ} {w : List ℕ} {s d c e : ℕ} {w' : List ℕ} {s' d' c' e' : ℕ}
    → Ready n at to base w s d c e → Turned n at to base w s d c e w' s' d' c' e' → Ready n at to base w' s' d' c' e'
ready_more y t = record { rows = y.rows; held = t.held y.rows y.held }

-- ---- all roots
pub record Roots (n at to base : ℕ) (w w' : List ℕ) (c e root : ℕ) : Type 0 where
  pub root_le : root ≤ n
  pub kept : Kept n base w w'
  pub seen : (v : ℕ) → v < root → 0 < get_or w' (base + v) 0
  pub ready : Ready n at to base w' 0 0 c e
  pub held : (R : Rows) → Held R n at to base w 0 0 0 0 → Held R n at to base w' 0 0 c e

-- nothing was looked at
pub begin_held : (n at to base : ℕ) (w w' : List ℕ) → Given n at to base w → Begun n at base w n w' → Held (rows_of at to w) n at to base w' 0 0 0 0
begin_held n at to base w w' G B =
    let K = B.kept in
    let st = G.starts in
    let sound : Sound (graph n (rows_of at to w)) = record { rows = G.ascending; nodes = G.nodes } in
    record {
      reads = record {
        sound = sound;
        starts = G.starts;
        ends = G.ends;
        beg_is = λ u h. K.below (at + u) (omega arith);
        end_is = λ u h. K.below (at + u + 1) (omega arith);
        tgt_is = λ u k h a b. K.below (to + k) (omega (arith, G.ends u h));
        room = omega (arith, K.len, G.room);
      };
      walks = start_walks (graph n (rows_of at to w)) (view n base w' 0 0 0 0) sound refl refl refl refl B.num B.nxt;
    }

pub roots_start : (n at to base : ℕ) (w w' : List ℕ) → Given n at to base w → Begun n at base w n w' → Roots n at to base w' w' 0 0 0
roots_start n at to base w w' G B = record {
  root_le = omega arith;
  kept = kept_refl n base w';
  seen = λ v h. absurd (omega arith);
  ready = record { rows = rows_of at to w; held = begin_held n at to base w w' G B };
  held = λ R H. H;
}

module _ {n at to base : ℕ} {w w' : List ℕ} {c e root : ℕ} (Q : Roots n at to base w w' c e root) (l : root < n) where
  pub roots_walk : {w'' : List ℕ} {c' e' : ℕ} → Walked n at to base root w' c e w'' c' e' → Roots n at to base w w'' c' e' (root + 1)
  roots_walk {w''} k = record {
    root_le = omega arith;
    kept = kept_trans Q.kept k.kept;
    seen = λ v h. same v root
        (λ q. rw q k.root_seen)
        (λ q. k.still v (omega arith) (Q.seen v (omega arith)));
    ready = record { rows = Q.ready.rows; held = k.held Q.ready.rows Q.ready.held };
    held = λ R H. k.held R (Q.held R H);
  }

  pub roots_skip : (get_or w' (base + root) 0 ≡ 0 → ⊥) → Roots n at to base w w' c e (root + 1)
  roots_skip ne = record {
    root_le = omega arith;
    kept = Q.kept;
    seen = λ v h. same v root (λ q. rw q (omega arith)) (λ q. Q.seen v (omega arith));
    ready = Q.ready;
    held = Q.held;
  }

module _ {n at to base : ℕ} {w w' : List ℕ} {c e root : ℕ} (Q : Roots n at to base w w' c e root) (all : n ≤ root) where
  pub roots_shut : (v : ℕ) → v < n → n < get_or w' (base + v) 0
  roots_shut v h =
      let H = Q.ready.held in
      shut_all H.reads.sound H.walks refl (λ v h. Q.seen v (omega arith)) v h

  pub roots_room : base + n + n ≤ length w'
  roots_room = omega (arith, Q.ready.held.reads.room)

  pub roots_found : (w₀ w'' : List ℕ) → Given n at to base w₀ → Begun n at base w₀ n w → Numbered n base w' n w'' → Pieced n at to base w₀ w'' c
  roots_found w₀ w'' G B N =
      let H = Q.held (rows_of at to w₀) (begin_held n at to base w₀ w G B) in
      let L = last_listed H.reads.sound H.walks refl (λ v h. Q.seen v (omega arith)) (λ v. get_or w'' (base + v) 0) N.num in
      let same-ord : (i : ℕ) → get_or w'' (base + n + n + n + n + n + i) 0 ≡ get_or w' (base + n + n + n + n + n + i) 0 = λ i. N.rest (base + n + n + n + n + n + i) (omega arith) in
      record {
        kept = kept_trans B.kept (kept_trans Q.kept N.kept);
        pieces = last_pieces H.reads.sound H.walks refl (λ v h. Q.seen v (omega arith)) (λ v. get_or w'' (base + v) 0) N.num;
        listed = record {
          listed = λ i h. rw (same-ord i) (L.listed i h);
          sorted = λ i j h k. rw (same-ord i, same-ord j) (L.sorted i j h k);
          every = λ v h. let r = L.every v h in (r.0, r.1, same-ord r.0 ∙ r.2);
          once = λ i j h k q. L.once i j h k (sym (same-ord i) ∙ q ∙ same-ord j);
        };
      }
