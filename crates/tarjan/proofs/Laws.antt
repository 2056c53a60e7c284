-- The turn in the work space.
-- Assumes nothing.
use mathlib.Core.Path.{◌≡◌, refl, sym, ap, ◌∙◌, subst}
use mathlib.Core.List.{List}
use Prim.Native.Nat.{ℕ, zero, suc, ◌+◌, ◌-◌, ◌≤◌, ◌<◌, min}
use native.Mathlib.Omega.{arith}
use lib.ListN.{length, get_or, set, length-set}
use lib.Seq.{get_or-set_other}
use Rattle.words.proofs.Points.{stored}
use Rattle.tarjan.specs.Inner.Walk.{State, Walks}
use Rattle.tarjan.specs.Inner.Moves.{upd, shut_at, view, Agree, pushed, advanced, lowered, retired, closed}
use Rattle.tarjan.specs.Inner.Space.{Rows, graph, Reads, Held, Ready, Kept, left_of, push_list, Closes, Closed, Turned, Pl, Nd, Ed}
use Rattle.tarjan.proofs.Tools.{upd_case, upd_at, upd_off, shut_case, seen_le}
use Rattle.tarjan.proofs.Steps.{s_le, d_le, s_lt}
use Rattle.tarjan.proofs.Whole.{agree_walks, left_same, left_falls}
use Rattle.tarjan.proofs.Lists.{kept_refl, kept_set}
use Rattle.tarjan.proofs.Turns.{p_lt, u_lt, v_lt, take_new, take_held, take_shut, lower_frame, leave_held, leave_closed}

-- ---- stores in a region
pub hit : (l : List ℕ) (b i x j : ℕ) → b + i < length l → get_or (set l (b + i) x) (b + j) 0 ≡ upd (λ t. get_or l (b + t) 0) i x j
hit l b i x j h = stored (λ a. a ≡ upd (λ t. get_or l (b + t) 0) i x j) l (b + i) x (b + j) h
    (λ e. sym (upd_at _ i x j (omega arith)))
    (λ e. sym (upd_off (λ t. get_or l (b + t) 0) i x j (λ q. e (ap (λ (t : ℕ). b + t) q))))

upd_same : (f g : ℕ → ℕ) (i x y j : ℕ) → f j ≡ g j → x ≡ y → upd f i x j ≡ upd g i y j
upd_same f g i x y j e h = upd_case (λ a. a ≡ upd g i y j) f i x j
    (λ q. h ∙ sym (upd_at g i y j q)) (λ q. e ∙ sym (upd_off g i y j q))

module _ (n base : ℕ) (w : List ℕ) (s d c e : ℕ) (room : base + n + n + n + n + n + n ≤ length w) (e_le : e ≤ n) where
  pub agree_nxt : (u x : ℕ) → u < n → x ≡ suc (get_or w (base + n + n + n + n + u) 0)
      → Agree n (advanced (view n base w s d c e) u) (view n base (set w (base + n + n + n + n + u) x) s d c e)
  agree_nxt u x l q = record {
    num = λ j h. get_or-set_other w _ _ x 0 (λ o. absurd (omega arith));
    stk = λ j h. get_or-set_other w _ _ x 0 (λ o. absurd (omega arith));
    fr = λ j h. get_or-set_other w _ _ x 0 (λ o. absurd (omega arith));
    lw = λ j h. get_or-set_other w _ _ x 0 (λ o. absurd (omega arith));
    nxt = λ j h. hit w (base + n + n + n + n) u x j (omega arith) ∙ upd_same _ _ u x _ j refl q;
    ord = λ j h. get_or-set_other w _ _ x 0 (λ o. absurd (omega arith));
    s = refl;
    d = refl;
    c = refl;
    e = refl;
  }

  pub agree_lw : (f x q : ℕ) → f < n → x ≡ min (get_or w (base + n + n + n + f) 0) q
      → Agree n (lowered (view n base w s d c e) f q) (view n base (set w (base + n + n + n + f) x) s d c e)
  agree_lw f x q l r = record {
    num = λ j h. get_or-set_other w _ _ x 0 (λ o. absurd (omega arith));
    stk = λ j h. get_or-set_other w _ _ x 0 (λ o. absurd (omega arith));
    fr = λ j h. get_or-set_other w _ _ x 0 (λ o. absurd (omega arith));
    lw = λ j h. hit w (base + n + n + n) f x j (omega arith) ∙ upd_same _ _ f x _ j refl r;
    nxt = λ j h. get_or-set_other w _ _ x 0 (λ o. absurd (omega arith));
    ord = λ j h. get_or-set_other w _ _ x 0 (λ o. absurd (omega arith));
    s = refl;
    d = refl;
    c = refl;
    e = refl;
  }

  pub agree_push : (v : ℕ) → v < n → s < n → d < n
      → Agree n (pushed (view n base w s d c e) v) (view n base (push_list n base v s d w) (s + 1) (d + 1) c e)
  agree_push v l m k =
      let w₁ : List ℕ = set w (base + v) (s + 1) in
      let w₂ : List ℕ = set w₁ (base + n + s) v in
      let w₃ : List ℕ = set w₂ (base + n + n + d) s in
      record {
        num = λ j h. get_or-set_other w₃ _ _ s 0 (λ o. absurd (omega arith)) ∙ get_or-set_other w₂ _ _ s 0 (λ o. absurd (omega arith))
            ∙ get_or-set_other w₁ _ _ v 0 (λ o. absurd (omega arith)) ∙ hit w base v (s + 1) j (omega arith) ∙ upd_same _ _ v _ _ j refl (omega arith);
        stk = λ j h. get_or-set_other w₃ _ _ s 0 (λ o. absurd (omega arith)) ∙ get_or-set_other w₂ _ _ s 0 (λ o. absurd (omega arith))
            ∙ hit w₁ (base + n) s v j (simp length-set (omega arith)) ∙ upd_same _ _ s v v j (get_or-set_other w _ _ _ 0 (λ o. absurd (omega arith))) refl;
        fr = λ j h. get_or-set_other w₃ _ _ s 0 (λ o. absurd (omega arith)) ∙ hit w₂ (base + n + n) d s j (simp length-set (omega arith))
            ∙ upd_same _ _ d s s j (get_or-set_other w₁ _ _ v 0 (λ o. absurd (omega arith)) ∙ get_or-set_other w _ _ _ 0 (λ o. absurd (omega arith))) refl;
        lw = λ j h. hit w₃ (base + n + n + n) d s j (simp length-set (omega arith))
            ∙ upd_same _ _ d s s j (get_or-set_other w₂ _ _ s 0 (λ o. absurd (omega arith)) ∙ get_or-set_other w₁ _ _ v 0 (λ o. absurd (omega arith)) ∙ get_or-set_other w _ _ _ 0 (λ o. absurd (omega arith))) refl;
        nxt = λ j h. get_or-set_other w₃ _ _ s 0 (λ o. absurd (omega arith)) ∙ get_or-set_other w₂ _ _ s 0 (λ o. absurd (omega arith))
            ∙ get_or-set_other w₁ _ _ v 0 (λ o. absurd (omega arith)) ∙ get_or-set_other w _ _ _ 0 (λ o. absurd (omega arith));
        ord = λ j h. get_or-set_other w₃ _ _ s 0 (λ o. absurd (omega arith)) ∙ get_or-set_other w₂ _ _ s 0 (λ o. absurd (omega arith))
            ∙ get_or-set_other w₁ _ _ v 0 (λ o. absurd (omega arith)) ∙ get_or-set_other w _ _ _ 0 (λ o. absurd (omega arith));
        s = omega arith;
        d = omega arith;
        c = refl;
        e = refl;
      }

  pub kept_push : (w₀ : List ℕ) → Kept n base w₀ w → (v : ℕ) → v < n → s < n → d < n → Kept n base w₀ (push_list n base v s d w)
  kept_push w₀ K v l m k =
      kept_set (kept_set (kept_set (kept_set K (base + v) (s + 1) (omega arith) (omega arith)) (base + n + s) v (omega arith) (omega arith))
      (base + n + n + d) s (omega arith) (omega arith)) (base + n + n + n + d) s (omega arith) (omega arith)

-- the edge's own store, and then a push or a lower
module _ (n base : ℕ) (w w₁ : List ℕ) (s d c e u : ℕ) (A : Agree n (advanced (view n base w s d c e) u) (view n base w₁ s d c e)) where
  then_push : {z : State} (v : ℕ) → Agree n (pushed (view n base w₁ s d c e) v) z → Agree n (advanced (pushed (view n base w s d c e) v) u) z
  then_push v B = record {
    num = λ j h. B.num j h ∙ upd_same _ _ v _ _ j (A.num j h) refl;
    stk = λ j h. B.stk j h ∙ upd_same _ _ s _ _ j (A.stk j h) refl;
    fr = λ j h. B.fr j h ∙ upd_same _ _ d _ _ j (A.fr j h) refl;
    lw = λ j h. B.lw j h ∙ upd_same _ _ d _ _ j (A.lw j h) refl;
    nxt = λ j h. B.nxt j h ∙ A.nxt j h;
    ord = λ j h. B.ord j h ∙ A.ord j h;
    s = B.s;
    d = B.d;
    c = B.c;
    e = B.e;
  }

  then_lower : {z : State} (f q : ℕ) → f < n → Agree n (lowered (view n base w₁ s d c e) f q) z → Agree n (advanced (lowered (view n base w s d c e) f q) u) z
  then_lower f q l B = record {
    num = λ j h. B.num j h ∙ A.num j h;
    stk = λ j h. B.stk j h ∙ A.stk j h;
    fr = λ j h. B.fr j h ∙ A.fr j h;
    lw = λ j h. B.lw j h ∙ upd_same _ _ f _ _ j (A.lw j h) (ap (λ (t : ℕ). min t q) (A.lw f l));
    nxt = λ j h. B.nxt j h ∙ A.nxt j h;
    ord = λ j h. B.ord j h ∙ A.ord j h;
    s = B.s;
    d = B.d;
    c = B.c;
    e = B.e;
  }

-- ---- what was kept
pub reads_kept : {R : Rows} {n at to base : ℕ} {w w' : List ℕ} → Reads R n at to base w → Kept n base w w' → Reads R n at to base w'
reads_kept {R} {n} {at} {to} {base} D K = let st = D.starts in record {
  sound = D.sound;
  starts = D.starts;
  ends = D.ends;
  beg_is = λ u h. K.below (at + u) (omega arith) ∙ D.beg_is u h;
  end_is = λ u h. K.below (at + u + 1) (omega arith) ∙ D.end_is u h;
  tgt_is = λ u k h a b. K.below (to + k) (omega (arith, D.ends u h)) ∙ D.tgt_is u k h a b;
  room = omega (arith, K.len, D.room);
}

pub held_agree : {R : Rows} {n at to base : ℕ} {w w' : List ℕ} {s d c e : ℕ} (z : State) → Reads R n at to base w → Kept n base w w'
    → Walks (graph n R) z → Agree n z (view n base w' s d c e) → Held R n at to base w' s d c e
held_agree z D K W A = record { reads = reads_kept D K; walks = agree_walks D.sound W.inv A W.order }

-- ---- what is known at a turn
-- where the next edge of the top frame goes
abbrev pub Tg : ℕ → ℕ → ℕ → List ℕ → ℕ → ℕ
Tg n to base w d = get_or w (to + Ed n base w d) 0

pub record Top (n at to base : ℕ) (w : List ℕ) (s d c e : ℕ) : Type 0 where
  pub room : base + n + n + n + n + n + n ≤ length w
  pub starts : at + n < base
  pub fits : c + s ≤ n
  pub e_fits : e + s ≤ n
  pub deep : d ≤ s
  pub p_lt : Pl n base w d < s
  pub u_lt : Nd n base w d < n
  pub end_le : to + get_or w (at + Nd n base w d + 1) 0 ≤ base

module _ (n at to base : ℕ) (w : List ℕ) (s d c e : ℕ) (pos : 0 < d) where
  abbrev z : State
  z = view n base w s d c e

  f_is : d ≡ suc (d - 1)
  f_is = omega arith

  pub top : Ready n at to base w s d c e → Top n at to base w s d c e
  top Y =
      let D = Y.held.reads in
      let W = Y.held.walks in
      let u-ok = u_lt D.sound W (d - 1) f_is in
      record {
        room = D.room;
        starts = D.starts;
        fits = s_le D.sound W.inv;
        e_fits = omega (arith, W.order.total, seen_le n (λ i. get_or w (base + i) 0));
        deep = d_le D.sound W.inv;
        p_lt = p_lt D.sound W (d - 1) f_is;
        u_lt = u-ok;
        end_le = rw (D.end_is _ u-ok) (D.ends _ u-ok);
      }

  -- the edges left: one fewer, or as many
  one_fewer : {w' : List ℕ} → Top n at to base w s d c e → Kept n base w w' → Ed n base w d < get_or w (at + Nd n base w d + 1) 0
      → ((j : ℕ) → j < n → get_or w' (base + n + n + n + n + j) 0 ≡ upd (λ t. get_or w (base + n + n + n + n + t) 0) (Nd n base w d) (suc (Ed n base w d)) j)
      → suc (left_of n at base w') ≡ left_of n at base w
  one_fewer {w'} T E more g =
      let st = T.starts in
      ap suc (left_same n (λ v. get_or w (at + v + 1) 0) (λ v. get_or w' (at + v + 1) 0) (λ v. get_or w' (base + n + n + n + n + v) 0) (λ v. get_or w' (base + n + n + n + n + v) 0)
      (λ v h. E.below (at + v + 1) (omega arith)) (λ _ _. refl))
      ∙ left_falls n (λ v. get_or w (at + v + 1) 0) (λ v. get_or w (base + n + n + n + n + v) 0) (λ v. get_or w' (base + n + n + n + n + v) 0) (Nd n base w d) T.u_lt more
      (g _ T.u_lt ∙ upd_at _ _ _ _ refl)
      (λ v h ne. g v h ∙ upd_off _ _ _ v ne)

  as_many : {w' : List ℕ} → Top n at to base w s d c e → Kept n base w w'
      → ((j : ℕ) → j < n → get_or w' (base + n + n + n + n + j) 0 ≡ get_or w (base + n + n + n + n + j) 0)
      → left_of n at base w' ≡ left_of n at base w
  as_many {w'} T E g =
      let st = T.starts in
      left_same n (λ v. get_or w (at + v + 1) 0) (λ v. get_or w' (at + v + 1) 0) (λ v. get_or w (base + n + n + n + n + v) 0) (λ v. get_or w' (base + n + n + n + n + v) 0)
      (λ v h. E.below (at + v + 1) (omega arith)) g

  -- ---- an edge
  module _ (more : Ed n base w d < get_or w (at + Nd n base w d + 1) 0) where
    more_in : {R : Rows} → Held R n at to base w s d c e → Ed n base w d < R.end (Nd n base w d)
    more_in H = omega (arith, H.reads.end_is _ (u_lt H.reads.sound H.walks (d - 1) f_is))

    target : {R : Rows} → Held R n at to base w s d c e → Tg n to base w d ≡ R.tgt (Ed n base w d)
    target H =
        let u-ok = u_lt H.reads.sound H.walks (d - 1) f_is in
        H.reads.tgt_is _ _ u-ok (H.walks.inv.begun _ u-ok) (more_in H)

    pub v_ok : Ready n at to base w s d c e → Tg n to base w d < n
    v_ok Y = rw (target Y.held) (v_lt Y.held.reads.sound Y.held.walks (d - 1) f_is (more_in Y.held))

    pub room_for : Ready n at to base w s d c e → get_or w (base + Tg n to base w d) 0 ≡ 0 → s < n
    room_for Y new = s_lt Y.held.reads.sound Y.held.walks.inv (Tg n to base w d) (v_ok Y) new

    -- the list after the edge's own store
    abbrev w₁ : List ℕ
    w₁ = set w (base + n + n + n + n + Nd n base w d) (Ed n base w d + 1)

    module _ (Y : Ready n at to base w s d c e) where
      T : Top n at to base w s d c e
      T = top Y

      k₁ : Kept n base w w₁
      k₁ = let t = T in kept_set (kept_refl n base w) _ _ (omega arith) (omega arith)

      a₁ : Agree n (advanced z (Nd n base w d)) (view n base w₁ s d c e)
      a₁ = let t = T in agree_nxt n base w s d c e (omega arith) (omega arith) (Nd n base w d) (Ed n base w d + 1) t.u_lt (omega arith)

      room₁ : base + n + n + n + n + n + n ≤ length w₁
      room₁ = let t = T in simp length-set (omega arith)

      pub turn_new : get_or w (base + Tg n to base w d) 0 ≡ 0 → Turned n at to base w s d c e (push_list n base (Tg n to base w d) s d w₁) (s + 1) (d + 1) c e
      turn_new new =
          let t = T in
          let vl = v_ok Y in
          let sl : s < n = room_for Y new in
          let kept = kept_push n base w₁ s d c e room₁ (omega arith) w k₁ (Tg n to base w d) vl sl (omega arith) in
          let agree = then_push n base w w₁ s d c e (Nd n base w d) a₁ (Tg n to base w d) (agree_push n base w₁ s d c e room₁ (omega arith) (Tg n to base w d) vl sl (omega arith)) in
          record {
            kept = kept;
            still = λ j h o. rw (agree.num j h) (upd_case (λ a. 0 < a) z.num (Tg n to base w d) (suc s) j (λ _. omega arith) (λ _. o));
            falls = omega (arith, one_fewer t kept more agree.nxt);
            held = λ R H. held_agree (advanced (pushed z (Tg n to base w d)) (Nd n base w d)) H.reads kept
                (subst (λ (y : ℕ). Walks (graph n R) (advanced (pushed z y) (Nd n base w d))) (sym (target H))
                (take_new H.reads.sound H.walks (d - 1) f_is (more_in H) (subst (λ (y : ℕ). get_or w (base + y) 0 ≡ 0) (target H) new)))
                agree;
          }

      pub turn_held : (x : ℕ) → x ≡ min (get_or w₁ (base + n + n + n + (d - 1)) 0) (get_or w (base + Tg n to base w d) 0 - 1)
          → (get_or w (base + Tg n to base w d) 0 ≡ 0 → ⊥) → get_or w (base + Tg n to base w d) 0 ≤ n
          → Turned n at to base w s d c e (set w₁ (base + n + n + n + (d - 1)) x) s d c e
      turn_held x x-is ne le =
          let t = T in
          let q : ℕ = get_or w (base + Tg n to base w d) 0 - 1 in
          let q-is : get_or w (base + Tg n to base w d) 0 ≡ suc q = omega arith in
          let kept = kept_set k₁ (base + n + n + n + (d - 1)) x (omega arith) (omega arith) in
          let agree = then_lower n base w w₁ s d c e (Nd n base w d) a₁ (d - 1) q (omega arith) (agree_lw n base w₁ s d c e room₁ (omega arith) (d - 1) x q (omega arith) x-is) in
          record {
            kept = kept;
            still = λ j h o. rw (agree.num j h) o;
            falls = omega (arith, one_fewer t kept more agree.nxt);
            held = λ R H. held_agree (advanced (lowered z (d - 1) q) (Nd n base w d)) H.reads kept
                (take_held H.reads.sound H.walks (d - 1) f_is (more_in H) q (subst (λ (y : ℕ). get_or w (base + y) 0 ≡ suc q) (target H) q-is) (omega arith))
                agree;
          }

      pub turn_shut : n < get_or w (base + Tg n to base w d) 0 → Turned n at to base w s d c e w₁ s d c e
      turn_shut gt =
          let t = T in
          record {
            kept = k₁;
            still = λ j h o. rw (a₁.num j h) o;
            falls = omega (arith, one_fewer t k₁ more a₁.nxt);
            held = λ R H. held_agree (advanced z (Nd n base w d)) H.reads k₁
                (take_shut H.reads.sound H.walks (d - 1) f_is (more_in H) (subst (λ (y : ℕ). n < get_or w (base + y) 0) (target H) gt))
                a₁;
          }

  -- ---- a frame is left
  module _ (done : get_or w (at + Nd n base w d + 1) 0 ≤ Ed n base w d) (Y : Ready n at to base w s d c e) where
    done_in : {R : Rows} → Held R n at to base w s d c e → R.end (Nd n base w d) ≤ Ed n base w d
    done_in H = omega (arith, H.reads.end_is _ (u_lt H.reads.sound H.walks (d - 1) f_is))

    pub under : get_or w (base + n + n + n + (d - 1)) 0 < Pl n base w d → 0 < d - 1
    under less = lower_frame Y.held.reads.sound Y.held.walks (d - 1) f_is (done_in Y.held) less

    pub turn_left : (x : ℕ) → x ≡ min (get_or w (base + n + n + n + (d - 1 - 1)) 0) (get_or w (base + n + n + n + (d - 1)) 0)
        → get_or w (base + n + n + n + (d - 1)) 0 < Pl n base w d
        → Turned n at to base w s d c e (set w (base + n + n + n + (d - 1 - 1)) x) s (d - 1) c e
    turn_left x x-is less =
        let t = top Y in
        let g-pos = under less in
        let g-is : d - 1 ≡ suc (d - 1 - 1) = omega arith in
        let l-is : get_or w (base + n + n + n + (d - 1)) 0 ≡ get_or w (base + n + n + n + suc (d - 1 - 1)) 0 = ap (λ (y : ℕ). get_or w (base + n + n + n + y) 0) g-is in
        let kept = kept_set (kept_refl n base w) (base + n + n + n + (d - 1 - 1)) x (omega arith) (omega arith) in
        let B = agree_lw n base w s d c e (omega arith) (omega arith) (d - 1 - 1) x (get_or w (base + n + n + n + suc (d - 1 - 1)) 0) (omega arith) (x-is ∙ ap (λ (y : ℕ). min (get_or w (base + n + n + n + (d - 1 - 1)) 0) y) l-is) in
        let agree : Agree n (retired z (d - 1 - 1)) (view n base (set w (base + n + n + n + (d - 1 - 1)) x) s (d - 1) c e) = record {
          num = B.num;
          stk = B.stk;
          fr = B.fr;
          lw = B.lw;
          nxt = B.nxt;
          ord = B.ord;
          s = refl;
          d = g-is;
          c = refl;
          e = refl;
        } in
        record {
          kept = kept;
          still = λ j h o. rw (agree.num j h) o;
          falls = omega (arith, as_many t kept agree.nxt);
          held = λ R H. held_agree (retired z (d - 1 - 1)) H.reads kept
              (leave_held H.reads.sound H.walks (d - 1) f_is (done_in H) (d - 1 - 1) g-is less)
              agree;
        }

    pub closes : Closes n base w (Pl n base w d) s e
    closes =
        let t = top Y in
        let I = Y.held.walks.inv in
        record {
          room = t.room;
          p_le = omega arith;
          s_le = omega arith;
          e_le = omega arith;
          node = I.node;
          held = I.held;
          place = λ v i h k o. (I.place v i h o (omega arith)).1;
        }

    pub turn_closed : (x : ℕ) → x ≡ n + 1 + c → Pl n base w d ≤ get_or w (base + n + n + n + (d - 1)) 0 → (w' : List ℕ) → Closed n base w (Pl n base w d) x e s w'
        → Turned n at to base w s d c e w' (Pl n base w d) (d - 1) (c + 1) (e + (s - Pl n base w d))
    turn_closed x x-is all w' C =
        let t = top Y in
        let I = Y.held.walks.inv in
        let agree : Agree n (closed n z (d - 1)) (view n base w' (Pl n base w d) (d - 1) (c + 1) (e + (s - Pl n base w d))) = record {
          num = λ j h. C.num j h ∙ shut_case (λ a. a ≡ shut_at n (Pl n base w d) (suc (n + c)) z.num j) s (Pl n base w d) x z.num j
              (λ a b. sym (shut_case (λ y. y ≡ x) n (Pl n base w d) (suc (n + c)) z.num j (λ _ _. omega arith) (λ o. absurd (omega arith)) (λ o. absurd (omega arith))))
              (λ a. sym (shut_case (λ y. y ≡ z.num j) n (Pl n base w d) (suc (n + c)) z.num j (λ o _. absurd (omega arith)) (λ _. refl) (λ _. refl)))
              (λ a. sym (shut_case (λ y. y ≡ z.num j) n (Pl n base w d) (suc (n + c)) z.num j (λ o m. absurd (beyond j h a m)) (λ _. refl) (λ _. refl)));
          stk = λ j h. C.mid (base + n + j) (omega arith) (omega arith);
          fr = λ j h. C.mid (base + n + n + j) (omega arith) (omega arith);
          lw = λ j h. C.mid (base + n + n + n + j) (omega arith) (omega arith);
          nxt = λ j h. C.mid (base + n + n + n + n + j) (omega arith) (omega arith);
          ord = λ j h. C.ord j h;
          s = refl;
          d = refl;
          c = omega arith;
          e = refl;
        } in
        record {
          kept = C.kept;
          still = λ j h o. rw (C.num j h) (shut_case (λ a. 0 < a) s (Pl n base w d) x z.num j (λ _ _. omega arith) (λ _. o) (λ _. o));
          falls = omega (arith, as_many t C.kept agree.nxt);
          held = λ R H. held_agree (closed n z (d - 1)) H.reads C.kept
              (leave_closed H.reads.sound H.walks (d - 1) f_is (done_in H) all)
              agree;
        }
      where
        beyond : (j : ℕ) → j < n → s < get_or w (base + j) 0 → get_or w (base + j) 0 ≤ n → ⊥
        beyond j h a m = go (get_or w (base + j) 0) refl
          where
            go : (y : ℕ) → get_or w (base + j) 0 ≡ y → ⊥
            go zero o = omega arith
            go (suc q) o = omega (arith, (Y.held.walks.inv.place j q h o (omega arith)).0)
