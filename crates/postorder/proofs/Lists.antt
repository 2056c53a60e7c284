-- The steps in the work space: what the stores leave, and the looks that are still to come.
use Prim.Native.Nat.{ℕ, zero, suc, ◌+◌, ◌≤◌, ◌<◌}
use mathlib.Core.Path.{◌≡◌, refl, sym, ◌∙◌, subst}
use mathlib.Core.List.{List}
use native.Mathlib.Omega.{arith}
use lib.ListN.{length, get_or, set, length-set}
use lib.Seq.{get_or-set_same, get_or-set_other}
use Rattle.words.proofs.Points.{same}
use Rattle.graph.specs.Paths.{Edge, Between}
use Rattle.graph.specs.Inner.Work.{Within, EdgeRows}
use Rattle.graph.proofs.Within.{within_refl, within_set, rows_kept}
use Rattle.tarjan.specs.Inner.Moves.{left as sumLeft}
use Rattle.postorder.specs.Inner.{State, ends, Walks, view, Held, to_come, push_list}
use Rattle.postorder.proofs.Steps.{Pushed, Looked, Left}

-- ---- what the stores leave

module _ (n at base : ℕ) (w : List ℕ) (depth left : ℕ) (starts : at + n < base) (room : base + n + n + n + n ≤ length w) where
  pub push_is : (v : ℕ) → v < n → depth < n → Pushed w n at (view n base w depth left) v (view n base (push_list n at base v depth w) (depth + 1) left)
  push_is v l m =
      let a : ℕ = base + n + n + depth in
      let b : ℕ = base + n + n + n + v in
      let w₁ : List ℕ = set w a v in
      record {
        depth = refl;
        left = refl;
        order = λ j h. get_or-set_other w₁ b (base + j) _ 0 (λ e. absurd (omega arith)) ∙ get_or-set_other w a (base + j) v 0 (λ e. absurd (omega arith));
        rank = λ j h. get_or-set_other w₁ b (base + n + j) _ 0 (λ e. absurd (omega arith)) ∙ get_or-set_other w a (base + n + j) v 0 (λ e. absurd (omega arith));
        stack = λ j h. get_or-set_other w₁ b (base + n + n + j) _ 0 (λ e. absurd (omega arith)) ∙ get_or-set_other w a (base + n + n + j) v 0 (λ e. absurd (omega arith));
        top = get_or-set_other w₁ b a _ 0 (λ e. absurd (omega arith)) ∙ get_or-set_same w a v 0 (omega arith);
        next = λ j h ne. get_or-set_other w₁ b (base + n + n + n + j) _ 0 (λ e. ne (omega arith)) ∙ get_or-set_other w a (base + n + n + n + j) v 0 (λ e. absurd (omega arith));
        first = get_or-set_same w₁ b _ 0 (simp length-set (omega arith));
      }

  pub look_is : (u x : ℕ) → u < n → depth ≤ n → x ≡ get_or w (base + n + n + n + u) 0 + 1
      → Looked n (view n base w depth left) u (view n base (set w (base + n + n + n + u) x) depth left)
  look_is u x l m e =
      let b : ℕ = base + n + n + n + u in
      record {
        depth = refl;
        left = refl;
        order = λ j h. get_or-set_other w b (base + j) x 0 (λ e. absurd (omega arith));
        rank = λ j h. get_or-set_other w b (base + n + j) x 0 (λ e. absurd (omega arith));
        stack = λ j h. get_or-set_other w b (base + n + n + j) x 0 (λ e. absurd (omega arith));
        next = λ j h ne. get_or-set_other w b (base + n + n + n + j) x 0 (λ e. ne (omega arith));
        looked = get_or-set_same w b x 0 (omega arith) ∙ e;
      }

  pub leave_is : (top last u : ℕ) → depth ≡ top + 1 → left ≡ last + 1 → depth ≤ n → left ≤ n → u ≡ get_or w (base + n + n + top) 0 → u < n
      → Left n (view n base w depth left) u (view n base (set (set w (base + last) u) (base + n + u) last) top last)
  leave_is top last u ed el m k is l =
      let a : ℕ = base + last in
      let b : ℕ = base + n + u in
      let w₁ : List ℕ = set w a u in
      record {
        depth = ed;
        left = el;
        top = sym is;
        order = λ j h ne. get_or-set_other w₁ b (base + j) last 0 (λ e. absurd (omega arith)) ∙ get_or-set_other w a (base + j) u 0 (λ e. ne (omega arith));
        first = get_or-set_other w₁ b a last 0 (λ e. absurd (omega arith)) ∙ get_or-set_same w a u 0 (omega arith);
        rank = λ j h ne. get_or-set_other w₁ b (base + n + j) last 0 (λ e. ne (omega arith)) ∙ get_or-set_other w a (base + n + j) u 0 (λ e. absurd (omega arith));
        ranked = get_or-set_same w₁ b last 0 (simp length-set (omega arith));
        stack = λ j h. get_or-set_other w₁ b (base + n + n + j) last 0 (λ e. absurd (omega arith)) ∙ get_or-set_other w a (base + n + n + j) u 0 (λ e. absurd (omega arith));
        next = λ j h. get_or-set_other w₁ b (base + n + n + n + j) last 0 (λ e. absurd (omega arith)) ∙ get_or-set_other w a (base + n + n + n + j) u 0 (λ e. absurd (omega arith));
      }

  pub push_kept : (v : ℕ) → v < n → depth < n → Within base (base + n + n + n + n) w (push_list n at base v depth w)
  push_kept v l m = within_set (within_set (within_refl _ _ w) (base + n + n + depth) v (omega arith) (omega arith)) (base + n + n + n + v) _ (omega arith) (omega arith)

  pub look_kept : (u x : ℕ) → u < n → Within base (base + n + n + n + n) w (set w (base + n + n + n + u) x)
  look_kept u x l = within_set (within_refl _ _ w) (base + n + n + n + u) x (omega arith) (omega arith)

  pub leave_kept : (last u : ℕ) → last < n → u < n → Within base (base + n + n + n + n) w (set (set w (base + last) u) (base + n + u) last)
  leave_kept last u m l = within_set (within_set (within_refl _ _ w) (base + last) u (omega arith) (omega arith)) (base + n + u) last (omega arith) (omega arith)

-- ---- the walk, in a list with the same numbers below base

module _ {es : List Edge} {n at base : ℕ} {w w' : List ℕ} (starts : at + n < base) (fits : (j : ℕ) → j < n → at + n + 1 + ends w at j ≤ base) (f : (i : ℕ) → i < base → get_or w' i 0 ≡ get_or w i 0) where
  walks_kept : {z : State} → Walks es w n at z → Walks es w' n at z
  walks_kept {z} W = record {
    left_le = W.left_le;
    total = W.total;
    node = W.node;
    on = W.on;
    distinct = W.distinct;
    path = W.path;
    low = λ v h o. omega (arith, f (at + v) (omega arith), W.low v h o);
    high = λ v h. omega (arith, f (at + v + 1) (omega arith), W.high v h);
    known = λ i k h a b.
        let u = W.node i h in
        subst (λ (y : ℕ). 0 < z.next y) (sym (f (at + n + 1 + k) (omega (arith, W.high (z.stack i) u, fits (z.stack i) u))))
        (W.known i k h (omega (arith, f (at + z.stack i) (omega arith))) b);
    held = W.held;
    listed = W.listed;
    done = W.done;
    rank_of_lem = W.rank_of_lem;
    free = W.free;
    settled = W.settled;
  }

-- the walk is as far as the stores say
pub held_from : {es : List Edge} {n at base : ℕ} {w w' : List ℕ} {depth left : ℕ} → Between n es → EdgeRows es n at w → at + n < base → ((j : ℕ) → j < n → at + n + 1 + ends w at j ≤ base)
    → base + n + n + n + n ≤ length w → Within base (base + n + n + n + n) w w' → Walks es w n at (view n base w' depth left) → Held es n at base w' depth left
held_from {at = at} B R starts fits room K W = record {
  between = B;
  rows = rows_kept B starts fits K.below R;
  starts = starts;
  fits = λ j h. omega (arith, fits j h, K.below (at + j + 1) (omega arith));
  room = omega (arith, K.len);
  walks = walks_kept starts fits K.below W;
}

pub held_on : {es : List Edge} {n at base : ℕ} {w w' : List ℕ} {depth left depth' left' : ℕ} → Held es n at base w depth left → Within base (base + n + n + n + n) w w'
    → Walks es w n at (view n base w' depth' left') → Held es n at base w' depth' left'
held_on H K W = held_from H.between H.rows H.starts H.fits H.room K W

-- ---- the looks that are still to come

left_le : (m : ℕ) (f f' g g' : ℕ → ℕ) → ((v : ℕ) → v < m → f' v ≡ f v) → ((v : ℕ) → v < m → g v ≤ g' v) → sumLeft m f' g' ≤ sumLeft m f g
unfolding sumLeft
left_le zero f f' g g' a b = omega arith
left_le (suc m) f f' g g' a b = omega (arith, a m (omega arith), b m (omega arith), left_le m f f' g g' (λ v l. a v (omega arith)) (λ v l. b v (omega arith)))

left_lt : (m : ℕ) (f f' g g' : ℕ → ℕ) (u : ℕ) → u < m → ((v : ℕ) → v < m → f' v ≡ f v) → ((v : ℕ) → v < m → g v ≤ g' v) → g u < f u → g u < g' u → sumLeft m f' g' < sumLeft m f g
unfolding sumLeft
left_lt zero f f' g g' u l a b h k = absurd (omega arith)
left_lt (suc m) f f' g g' u l a b h k = same u m
    (λ q. let h' : g m < f m = rw q at h in
    let k' : g m < g' m = rw q at k in
    omega (arith, a m (omega arith), left_le m f f' g g' (λ v o. a v (omega arith)) (λ v o. b v (omega arith))))
    (λ q. omega (arith, a m (omega arith), b m (omega arith), left_lt m f f' g g' u (omega arith) (λ v o. a v (omega arith)) (λ v o. b v (omega arith)) h k))

module _ (n at base : ℕ) {w w' : List ℕ} (starts : at + n < base) (K : Within base (base + n + n + n + n) w w') where
  ends_kept : (v : ℕ) → v < n → ends w' at v + 1 ≡ ends w at v + 1
  ends_kept v h = omega (arith, K.below (at + v + 1) (omega arith))

  pub push_falls : {depth left depth' left' : ℕ} {v : ℕ} → v < n → Pushed w n at (view n base w depth left) v (view n base w' depth' left') → get_or w (base + n + n + n + v) 0 ≡ 0
      → to_come n at base w' < to_come n at base w
  push_falls {v = v} l P new = left_lt n _ _ _ _ v l ends_kept
      (λ j h. same j v (λ e. subst (λ (y : ℕ). get_or w (base + n + n + n + y) 0 ≤ get_or w' (base + n + n + n + y) 0) (sym e) (omega arith)) (λ e. omega (arith, P.next j h e)))
      (omega arith) (omega (arith, P.first))

  pub look_falls : {depth left depth' left' : ℕ} {u : ℕ} → u < n → Looked n (view n base w depth left) u (view n base w' depth' left') → get_or w (base + n + n + n + u) 0 ≤ ends w at u
      → to_come n at base w' < to_come n at base w
  look_falls {u = u} l P more = left_lt n _ _ _ _ u l ends_kept
      (λ j h. same j u (λ e. subst (λ (y : ℕ). get_or w (base + n + n + n + y) 0 ≤ get_or w' (base + n + n + n + y) 0) (sym e) (omega (arith, P.looked))) (λ e. omega (arith, P.next j h e)))
      (omega arith) (omega (arith, P.looked))

  pub leave_falls : {depth left depth' left' : ℕ} {u : ℕ} → Left n (view n base w depth left) u (view n base w' depth' left') → to_come n at base w' ≤ to_come n at base w
  leave_falls P = left_le n _ _ _ _ ends_kept (λ j h. omega (arith, P.next j h))
