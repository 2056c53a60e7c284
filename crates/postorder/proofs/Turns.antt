-- The turn in the work space: its three ways out.
use Prim.Native.Nat.{ℕ, ◌+◌, ◌-◌, ◌≤◌, ◌<◌}
use mathlib.Core.Path.{◌≡◌, sym, ap, ◌∙◌, subst}
use mathlib.Core.List.{List}
use native.Mathlib.Omega.{arith}
use lib.ListN.{length, get_or, set}
use Rattle.words.proofs.Points.{same}
use Rattle.graph.specs.Paths.{Edge, Link, Route, one, more}
use Rattle.graph.specs.Inner.Work.{Within}
use Rattle.graph.proofs.Within.{within_trans}
use Rattle.postorder.specs.Inner.{ends, target, view, Held, Ready, push_list, Turned}
use Rattle.postorder.proofs.Steps.{Pushed, depth_le, depth_lt, push_walks, look_walks, leave_walks}
use Rattle.postorder.proofs.Lists.{push_is, look_is, leave_is, push_kept, look_kept, leave_kept, held_on, push_falls, look_falls, leave_falls}

-- the place on top of the stack, one more than where its next edge stands, and where that leads
abbrev pub top_of : ℕ → ℕ → List ℕ → ℕ → ℕ
top_of n base w depth = get_or w (base + n + n + (depth - 1)) 0

abbrev pub next_of : ℕ → ℕ → List ℕ → ℕ → ℕ
next_of n base w v = get_or w (base + n + n + n + v) 0

abbrev pub leads_to : ℕ → ℕ → ℕ → List ℕ → ℕ → ℕ
leads_to n at base w depth = get_or w (at + n + next_of n base w (top_of n base w depth)) 0

-- what is in range at a turn
pub record Top (n at base : ℕ) (w : List ℕ) (depth left : ℕ) : Type 0 where
  pub room : base + n + n + n + n ≤ length w
  pub starts : at + n < base
  pub deep : depth ≤ n
  pub left_pos : 0 < left
  pub left_le : left ≤ n
  pub u_lt : top_of n base w depth < n
  pub next_pos : 0 < next_of n base w (top_of n base w depth)
  pub next_le : at + n + next_of n base w (top_of n base w depth) ≤ base
  pub end_le : at + n + 1 + ends w at (top_of n base w depth) ≤ base

module _ (n at base : ℕ) (w : List ℕ) (depth left : ℕ) (pos : 0 < depth) where
  top_lt : depth - 1 < depth
  top_lt = omega arith

  top_in : {es : List Edge} → Held es n at base w depth left → Top n at base w depth left
  top_in H =
      let W = H.walks in
      let u = W.node (depth - 1) top_lt in
      let d = depth_le H.between H.rows W in
      record {
        room = H.room;
        starts = H.starts;
        deep = omega arith;
        left_pos = omega (arith, W.left_le);
        left_le = W.left_le;
        u_lt = u;
        next_pos = W.on (depth - 1) top_lt;
        next_le = omega (arith, H.fits (top_of n base w depth) u, W.high (top_of n base w depth) u);
        end_le = H.fits (top_of n base w depth) u;
      }

  pub top : Ready n at base w depth left → Top n at base w depth left
  top Y = top_in Y.held

  -- ---- an edge
  module _ (some : next_of n base w (top_of n base w depth) ≤ ends w at (top_of n base w depth)) where
    target_is : {es : List Edge} → Held es n at base w depth left → target w n at (next_of n base w (top_of n base w depth) - 1) ≡ leads_to n at base w depth
    target_is H = let p = (top_in H).next_pos in ap (λ (i : ℕ). get_or w i 0) (omega arith)

    link : {es : List Edge} → Held es n at base w depth left → Link es (top_of n base w depth) (leads_to n at base w depth)
    link {es} H =
        let t = top_in H in
        subst (λ (y : ℕ). Link es (top_of n base w depth) y) (target_is H)
        (H.rows.only (top_of n base w depth) (next_of n base w (top_of n base w depth) - 1) t.u_lt (omega (arith, H.walks.low (top_of n base w depth) t.u_lt t.next_pos)) (omega arith))

    v_in : {es : List Edge} → Held es n at base w depth left → leads_to n at base w depth < n
    v_in H = H.between.to _ (link H)

    pub v_ok : Ready n at base w depth left → leads_to n at base w depth < n
    v_ok Y = v_in Y.held

    pub first_ok : Ready n at base w depth left → get_or w (at + leads_to n at base w depth) 0 ≤ base
    first_ok Y = let H = Y.held in omega (arith, H.fits (leads_to n at base w depth) (v_in H), H.rows.rising (leads_to n at base w depth) (v_in H))

    pub room_for : Ready n at base w depth left → next_of n base w (leads_to n at base w depth) ≡ 0 → depth < n
    room_for Y new = let H = Y.held in depth_lt H.between H.rows H.walks (leads_to n at base w depth) (v_in H) new

    -- the place on top looked at an edge to a place that was seen
    module _ (Y : Ready n at base w depth left) where
      T : Top n at base w depth left
      T = top Y

      pub turn_seen : (x : ℕ) → x ≡ next_of n base w (top_of n base w depth) + 1 → (next_of n base w (leads_to n at base w depth) ≡ 0 → ⊥)
          → Turned n at base w depth left (set w (base + n + n + n + top_of n base w depth) x) depth left
      turn_seen x is old =
          let t = T in
          let K = look_kept n at base w depth left t.starts t.room (top_of n base w depth) x t.u_lt in
          let P = look_is n at base w depth left t.starts t.room (top_of n base w depth) x t.u_lt t.deep is in
          record {
            kept = K;
            still = λ v h o. same v (top_of n base w depth) (λ e. subst (λ (y : ℕ). 0 < next_of n base (set w (base + n + n + n + top_of n base w depth) x) y) (sym e) (omega (arith, P.looked))) (λ e. omega (arith, P.next v h e));
            falls = omega (arith, look_falls n at base t.starts K t.u_lt P some);
            held = λ es H. held_on H K
                (look_walks H.between H.rows H.walks P t.u_lt (next_of n base w (top_of n base w depth) - 1) (omega arith) (omega arith)
                (subst (λ (y : ℕ). 0 < next_of n base w y) (sym (target_is H)) (omega arith)));
          }

      -- to a place that was not
      module _ (new : next_of n base w (leads_to n at base w depth) ≡ 0) where
        abbrev w₁ : List ℕ
        w₁ = push_list n at base (leads_to n at base w depth) depth w

        K₁ : Within base (base + n + n + n + n) w w₁
        K₁ = let t = T in push_kept n at base w depth left t.starts t.room (leads_to n at base w depth) (v_ok Y) (room_for Y new)

        P₁ : Pushed w n at (view n base w depth left) (leads_to n at base w depth) (view n base w₁ (depth + 1) left)
        P₁ = let t = T in push_is n at base w depth left t.starts t.room (leads_to n at base w depth) (v_ok Y) (room_for Y new)

        room₁ : base + n + n + n + n ≤ length w₁
        room₁ = let t = T in omega (arith, K₁.len)

        -- the place on top was seen, so it is not the new one
        next₁ : next_of n base w₁ (top_of n base w depth) ≡ next_of n base w (top_of n base w depth)
        next₁ = let t = T in P₁.next (top_of n base w depth) t.u_lt (λ e. absurd (omega (arith, ap (λ (y : ℕ). next_of n base w y) e)))

        reach : {es : List Edge} → Held es n at base w depth left → (i : ℕ) → i < depth → Route es (get_or w (base + n + n + i) 0) (leads_to n at base w depth)
        reach {es} H i h = same i (depth - 1)
            (λ e. subst (λ (y : ℕ). Route es (get_or w (base + n + n + y) 0) (leads_to n at base w depth)) (sym e) (one (link H)))
            (λ e. more (H.walks.path i (depth - 1) (omega arith) top_lt) (link H))

        pub turn_new : (x : ℕ) → x ≡ next_of n base w (top_of n base w depth) + 1
            → Turned n at base w depth left (set w₁ (base + n + n + n + top_of n base w depth) x) (depth + 1) left
        turn_new x is =
            let t = T in
            let K₂ = look_kept n at base w₁ (depth + 1) left t.starts room₁ (top_of n base w depth) x t.u_lt in
            let P₂ = look_is n at base w₁ (depth + 1) left t.starts room₁ (top_of n base w depth) x t.u_lt (omega (arith, room_for Y new)) (is ∙ ap (λ (y : ℕ). y + 1) (sym next₁)) in
            let same_end : ends w₁ at (top_of n base w depth) ≡ ends w at (top_of n base w depth) = K₁.below (at + top_of n base w depth + 1) (omega arith) in
            record {
              kept = within_trans K₁ K₂;
              still = λ v h o.
                  let o₁ : 0 < next_of n base w₁ v = omega (arith, P₁.next v h (λ e. absurd (omega (arith, ap (λ (y : ℕ). next_of n base w y) e)))) in
                  same v (top_of n base w depth)
                  (λ e. subst (λ (y : ℕ). 0 < next_of n base (set w₁ (base + n + n + n + top_of n base w depth) x) y) (sym e) (omega (arith, P₂.looked)))
                  (λ e. omega (arith, P₂.next v h e));
              falls = omega (arith, push_falls n at base t.starts K₁ (v_ok Y) P₁ new, look_falls n at base t.starts K₂ t.u_lt P₂ (omega (arith, next₁)));
              held = λ es H. held_on H (within_trans K₁ K₂)
                  (look_walks H.between H.rows (push_walks H.between H.rows H.walks P₁ (v_ok Y) new (reach H)) P₂ t.u_lt
                  (next_of n base w (top_of n base w depth) - 1) (omega (arith, next₁)) (omega arith)
                  (subst (λ (y : ℕ). 0 < next_of n base w₁ y) (sym (target_is H)) (omega (arith, P₁.first))));
            }

  -- ---- no edge is left
  pub turn_left : (u last : ℕ) → u ≡ top_of n base w depth → last ≡ left - 1 → ends w at (top_of n base w depth) < next_of n base w (top_of n base w depth) → Ready n at base w depth left
      → Turned n at base w depth left (set (set w (base + last) u) (base + n + u) last) (depth - 1) last
  turn_left u last is-u is_last none Y =
      let t = top Y in
      let K = leave_kept n at base w depth left t.starts t.room last u (omega arith) (omega arith) in
      let P = leave_is n at base w depth left t.starts t.room (depth - 1) last u (omega arith) (omega arith) t.deep t.left_le is-u (omega arith) in
      record {
        kept = K;
        still = λ v h o. omega (arith, P.next v h);
        falls = omega (arith, leave_falls n at base t.starts K P);
        held = λ es H. held_on H K (leave_walks H.between H.rows H.walks P (subst (λ (y : ℕ). ends w at y < next_of n base w y) (sym is-u) none));
      }
