-- The loops over the regions: begin, close, number.
-- Assumes nothing.
use mathlib.Core.Path.{◌≡◌, refl, sym, ap, ◌∙◌}
use mathlib.Core.Logic.{◌≢◌}
use mathlib.Core.List.{List}
use Prim.Native.Nat.{ℕ, suc, ◌+◌, ◌-◌, ◌≤◌, ◌<◌}
use native.Mathlib.Omega.{arith}
use lib.ListN.{length, get_or, set, length-set}
use lib.Seq.{get_or-set_other}
use Rattle.words.proofs.Points.{stored}
use Rattle.tarjan.specs.Inner.Moves.{shut_at, pasted}
use Rattle.tarjan.specs.Inner.Space.{Kept, Begun, Numbered, Closes, Closed}
use Rattle.tarjan.proofs.Tools.{shut_case, pasted_old, pasted_new}

-- after two
pub stored2 : (p : ℕ → Type 0) (l : List ℕ) (a x b y j : ℕ) → a < length l → b < length l → (j ≡ b → p y) → (j ≡ a → p x) → (j ≢ a → j ≢ b → p (get_or l j 0))
    → p (get_or (set (set l a x) b y) j 0)
stored2 p l a x b y j h k f g o = stored p (set l a x) b y j (rw length-set k) f (λ e. stored p l a x j h g (λ r. o r e))

pub kept_refl : (n base : ℕ) (w : List ℕ) → Kept n base w w
kept_refl n base w = record { len = refl; below = λ _ _. refl; past = λ _ _. refl }

pub kept_trans : {n base : ℕ} {w w' w'' : List ℕ} → Kept n base w w' → Kept n base w' w'' → Kept n base w w''
kept_trans a b = record { len = b.len ∙ a.len; below = λ j h. b.below j h ∙ a.below j h; past = λ j h. b.past j h ∙ a.past j h }

-- a store in the regions
pub kept_set : {n base : ℕ} {w w' : List ℕ} → Kept n base w w' → (i x : ℕ) → base ≤ i → i < base + n + n + n + n + n + n → Kept n base w (set w' i x)
kept_set {w' = w'} K i x h k = record {
  len = simp length-set K.len;
  below = λ j l. get_or-set_other w' i j x 0 (λ e. absurd (omega arith)) ∙ K.below j l;
  past = λ j l. get_or-set_other w' i j x 0 (λ e. absurd (omega arith)) ∙ K.past j l;
}

-- ---- begin
pub begin_start : (n at base : ℕ) (w : List ℕ) → Begun n at base w 0 w
begin_start n at base w = record { kept = kept_refl n base w; num = λ v h. absurd (omega arith); nxt = λ v h. absurd (omega arith) }

pub begin_more : (n at base : ℕ) (w w' : List ℕ) (v : ℕ) → base + n + n + n + n + n + n ≤ length w → at + n < base → v < n → Begun n at base w v w'
    → Begun n at base w (v + 1) (set (set w' (base + v) 0) (base + n + n + n + n + v) (get_or (set w' (base + v) 0) (at + v) 0))
begin_more n at base w w' v room below l B =
    let len = B.kept.len in
    let y : ℕ = get_or (set w' (base + v) 0) (at + v) 0 in
    let y_is : y ≡ get_or w (at + v) 0 = get_or-set_other w' (base + v) (at + v) 0 0 (λ e. absurd (omega arith)) ∙ B.kept.below (at + v) (omega arith) in
    record {
      kept = kept_set (kept_set B.kept (base + v) 0 (omega arith) (omega arith)) (base + n + n + n + n + v) y (omega arith) (omega arith);
      num = λ t h. stored2 (λ a. a ≡ 0) w' (base + v) 0 (base + n + n + n + n + v) y (base + t) (omega arith) (omega arith)
          (λ e. absurd (omega arith)) (λ _. refl) (λ e _. B.num t (omega arith));
      nxt = λ t h. stored2 (λ a. a ≡ get_or w (at + t) 0) w' (base + v) 0 (base + n + n + n + n + v) y (base + n + n + n + n + t) (omega arith) (omega arith)
          (λ e. let q : v ≡ t = omega arith in y_is ∙ ap (λ (i : ℕ). get_or w (at + i) 0) q)
          (λ e. absurd (omega arith)) (λ _ e. B.nxt t (omega arith));
    }

-- ---- number
pub number_start : (n base : ℕ) (w : List ℕ) → Numbered n base w 0 w
number_start n base w = record { kept = kept_refl n base w; num = λ v h. absurd (omega arith); rest = λ j h. refl }

pub number_more : (n base : ℕ) (w w' : List ℕ) (v x : ℕ) → base + n + n ≤ length w → v < n → Numbered n base w v w' → x ≡ get_or w' (base + v) 0 - (n + 1)
    → Numbered n base w (v + 1) (set w' (base + v) x)
number_more n base w w' v x room l B q =
    let len = B.kept.len in
    let at-v = B.rest (base + v) (omega arith) in
    record {
      kept = kept_set B.kept (base + v) x (omega arith) (omega arith);
      num = λ t h. stored (λ a. a ≡ get_or w (base + t) 0 - suc n) w' (base + v) x (base + t) (omega arith)
          (λ e. rw e (omega (arith, at-v, q))) (λ e. B.num t (omega arith));
      rest = λ j h. get_or-set_other w' (base + v) j x 0 (λ e. absurd (omega arith)) ∙ B.rest j (omega arith);
    }

-- ---- close
shut_step : (i p x : ℕ) (f : ℕ → ℕ) (j : ℕ) → f j ≢ suc i → shut_at i p x f j ≡ shut_at (i + 1) p x f j
shut_step i p x f j ne = shut_case (λ a. a ≡ shut_at (i + 1) p x f j) i p x f j
    (λ a b. sym (shut_case (λ y. y ≡ x) (i + 1) p x f j (λ _ _. refl) (λ o. absurd (omega arith)) (λ o. absurd (omega arith))))
    (λ a. sym (shut_case (λ y. y ≡ f j) (i + 1) p x f j (λ o _. absurd (omega arith)) (λ _. refl) (λ _. refl)))
    (λ a. sym (shut_case (λ y. y ≡ f j) (i + 1) p x f j (λ o m. absurd (omega arith)) (λ _. refl) (λ _. refl)))

shut_none : (p x : ℕ) (f : ℕ → ℕ) (j : ℕ) → shut_at p p x f j ≡ f j
shut_none p x f j = shut_case (λ y. y ≡ f j) p p x f j (λ a b. absurd (omega arith)) (λ _. refl) (λ _. refl)

pub close_start : (n base : ℕ) (w : List ℕ) (p x e : ℕ) → Closed n base w p x e p w
close_start n base w p x e = record {
  kept = kept_refl n base w;
  num = λ j h. sym (shut_none p x (λ t. get_or w (base + t) 0) j);
  mid = λ j h k. refl;
  ord = λ j h. sym (pasted_old _ e _ p j (omega arith));
}

pub close_node : {n base : ℕ} {w w' : List ℕ} {p s e x i : ℕ} → Closes n base w p s e → i < s → Closed n base w p x e i w' → get_or w' (base + n + i) 0 ≡ get_or w (base + n + i) 0
close_node {n} {base} {i = i} A k C = C.mid (base + n + i) (omega arith) (omega (arith, A.s_le))

pub close_more : {n base : ℕ} {w w' : List ℕ} {p s e x i : ℕ} → Closes n base w p s e → p ≤ i → i < s → Closed n base w p x e i w'
    → Closed n base w p x e (i + 1) (set (set w' (base + get_or w' (base + n + i) 0) x) (base + n + n + n + n + n + e + (i - p)) (get_or w' (base + n + i) 0))
close_more {n} {base} {w} {w'} {p} {s} {e} {x} {i} A h k C =
    let q = close_node A k C in
    let v : ℕ = get_or w' (base + n + i) 0 in
    let v_lt : v < n = omega (arith, q, A.node i k) in
    let v_num : get_or w (base + v) 0 ≡ suc i = ap (λ (t : ℕ). get_or w (base + t) 0) q ∙ A.held i k in
    let len = C.kept.len in
    let room = A.room in
    let s_le = A.s_le in
    let e_le = A.e_le in
    let b : ℕ = base + n + n + n + n + n + e + (i - p) in
    record {
      kept = kept_set (kept_set C.kept (base + v) x (omega arith) (omega arith)) b v (omega arith) (omega arith);
      num = λ j l. stored2 (λ a. a ≡ shut_at (i + 1) p x (λ t. get_or w (base + t) 0) j) w' (base + v) x b v (base + j) (omega arith) (omega arith)
          (λ o. absurd (omega arith))
          (λ o. let r : j ≡ v = omega arith in
          let m : get_or w (base + j) 0 ≡ suc i = ap (λ (t : ℕ). get_or w (base + t) 0) r ∙ v_num in
          sym (shut_case (λ y. y ≡ x) (i + 1) p x (λ t. get_or w (base + t) 0) j (λ _ _. refl) (λ a. absurd (omega arith)) (λ a. absurd (omega arith))))
          (λ o _. C.num j l ∙ shut_step i p x (λ t. get_or w (base + t) 0) j (λ m. o (ap (λ (t : ℕ). base + t) (sym (q ∙ A.place j i l k m)))));
      mid = λ j l m. stored2 (λ a. a ≡ get_or w j 0) w' (base + v) x b v j (omega arith) (omega arith)
          (λ o. absurd (omega arith)) (λ o. absurd (omega arith)) (λ _ _. C.mid j l m);
      ord = λ j l. stored2 (λ a. a ≡ pasted (λ t. get_or w (base + n + n + n + n + n + t) 0) e (λ t. get_or w (base + n + t) 0) p j) w' (base + v) x b v (base + n + n + n + n + n + j) (omega arith) (omega arith)
          (λ o. q ∙ sym (pasted_new _ e (λ t. get_or w (base + n + t) 0) p j i (omega arith) (omega arith)))
          (λ o. absurd (omega arith)) (λ _ o. C.ord j (omega arith));
    }
