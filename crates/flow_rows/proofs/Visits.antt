-- Laws of the steps over a component's places: `pull`, `touch`, `share`, and the three as one visit.
use Prim.Native.Nat.{ℕ, ◌+◌, ◌*◌, ◌^◌, ◌≤◌, ◌<◌}
use mathlib.Core.Path.{◌≡◌, refl, sym, ap, ◌∙◌, subst}
use mathlib.Core.Logic.{◌≢◌, ◌⊎◌, inl, inr, ⊎_elim}
use mathlib.Core.Bool.{Bool, true, false, ◌||◌}
use mathlib.Core.List.{List}
use native.Mathlib.Omega.{arith}
use lib.ListN.{length, get_or}
use Rattle.bits.specs.Bits.{bit}
use Rattle.bits.specs.Inner.{Row}
use Rattle.words.proofs.Points.{same}
use Rattle.graph.specs.Inner.Work.{Within}
use Rattle.flow_rows.specs.declared.Flow.{Flow}
use Rattle.flow_rows.specs.Inner.{which, order_from, order, begins, ends, target, touched_bit, out_bit, Laid, Across, Stays, Member, Joins, Tells}
use Rattle.flow_rows.proofs.Joins.{which_kept, order_kept, begins_kept, ends_kept, target_kept, touched_kept, laid_kept, row_wide, other_row, joins_none, joins_then, joins_as, joins_row}
use Rattle.words.proofs.FitLaws.{as_long}
use Rattle.words.proofs.Bools.{never}
use Rattle.flow_rows.proofs.Places.{OrderAt, RowAt, order_at_lem, row_at, here}

-- ---- what a change of the row of x leaves of the sources of its component

module _ {f : Flow} {w₀ w : List ℕ} {x c : ℕ} (L : Laid f w₀) (x_lt : x < f.n) (x_in : which f w₀ x ≡ c)
    (K : Within (f.out + x * f.words) (f.out + x * f.words + f.words) w₀ w) where
  wide : Within f.out (f.out + f.n * f.words) w₀ w
  wide = row_wide L x x_lt K

  -- the target of an edge of u, and its component
  which_target : (u k : ℕ) → u < f.n → begins f w₀ u ≤ k → k < ends f w₀ u → which f w (target f w k) ≡ which f w₀ (target f w₀ k)
  which_target u k h a b = ap (which f w) (target_kept L wide u k h b) ∙ which_kept L wide (target f w₀ k) (L.nodes u k h a b)

  module _ (u b : ℕ) (h : u < f.n) (l : b < f.words * 64) where
    out_target : (k : ℕ) → begins f w₀ u ≤ k → k < ends f w₀ u → which f w₀ (target f w₀ k) ≢ c → out_bit f w (target f w k) b ≡ out_bit f w₀ (target f w₀ k) b
    out_target k a e ne = ap (λ (y : ℕ). out_bit f w y b) (target_kept L wide u k h e) ∙ other_row L x (target f w₀ k) b (λ o. ne (ap (which f w₀) o ∙ x_in)) l K

    touched_target : (k : ℕ) → begins f w₀ u ≤ k → k < ends f w₀ u → touched_bit f w (target f w k) b ≡ touched_bit f w₀ (target f w₀ k) b
    touched_target k a e = ap (λ (y : ℕ). touched_bit f w y b) (target_kept L wide u k h e) ∙ touched_kept L wide (target f w₀ k) b (L.nodes u k h a e) l

    pub across_back : Across f w u c b → Across f w₀ u c b
    across_back s =
        let a : begins f w₀ u ≤ s.0 = omega (arith, s.1, begins_kept L wide u h) in
        let e : s.0 < ends f w₀ u = omega (arith, s.2, ends_kept L wide u h) in
        let ne : which f w₀ (target f w₀ s.0) ≢ c = λ o. s.3 (which_target u s.0 h a e ∙ o) in
        (s.0, a, e, ne, ⊎_elim (λ o. inl (sym (out_target s.0 a e ne) ∙ o)) (λ o. inr (sym (touched_target s.0 a e) ∙ o)) s.4)

    pub across_on : Across f w₀ u c b → Across f w u c b
    across_on s = (
      s.0,
      omega (arith, s.1, begins_kept L wide u h),
      omega (arith, s.2, ends_kept L wide u h),
      (λ o. s.3 (sym (which_target u s.0 h s.1 s.2) ∙ o)),
      ⊎_elim (λ o. inl (out_target s.0 s.1 s.2 s.3 ∙ o)) (λ o. inr (touched_target s.0 s.1 s.2 ∙ o)) s.4,
    )

  pub stays_back : (u : ℕ) → u < f.n → Stays f w u c → Stays f w₀ u c
  stays_back u h s =
      let a : begins f w₀ u ≤ s.0 = omega (arith, s.1, begins_kept L wide u h) in
      let e : s.0 < ends f w₀ u = omega (arith, s.2, ends_kept L wide u h) in
      (s.0, a, e, sym (which_target u s.0 h a e) ∙ s.3)

  pub stays_on : (u : ℕ) → u < f.n → Stays f w₀ u c → Stays f w u c
  stays_on u h s = (s.0, omega (arith, s.1, begins_kept L wide u h), omega (arith, s.2, ends_kept L wide u h), which_target u s.0 h s.1 s.2 ∙ s.3)

  -- a member with another reading of it
  pub member_as : {P Q : ℕ → Type 0} (i j : ℕ) → j ≤ f.n → ((u : ℕ) → u < f.n → P u → Q u) → Member f w i j P → Member f w₀ i j Q
  member_as {P} {Q} i j h g m =
      let e = order_kept L wide m.0 (omega (arith, m.2)) in
      (m.0, m.1, m.2, g (order f w₀ m.0) (L.listed m.0 (omega (arith, m.2))) (subst P e m.3))

  pub member_on : {P Q : ℕ → Type 0} (i j : ℕ) → j ≤ f.n → ((u : ℕ) → u < f.n → P u → Q u) → Member f w₀ i j P → Member f w i j Q
  member_on {P} {Q} i j h g m =
      let e = order_kept L wide m.0 (omega (arith, m.2)) in
      (m.0, m.1, m.2, subst Q (sym e) (g (order f w₀ m.0) (L.listed m.0 (omega (arith, m.2))) m.3))

-- one member more
more_member : (f : Flow) (w : List ℕ) (i p : ℕ) (P : ℕ → Type 0) → i ≤ p → Member f w i p P ⊎ P (order f w p) → Member f w i (p + 1) P
more_member f w i p P h (inl m) = (m.0, m.1, omega (arith, m.2), m.3)
more_member f w i p P h (inr m) = (p, h, omega arith, m)

last_member : (f : Flow) (w : List ℕ) (i p : ℕ) (P : ℕ → Type 0) → Member f w i (p + 1) P → Member f w i p P ⊎ P (order f w p)
last_member f w i p P m = same m.0 p
    (λ e. inr (subst (λ (y : ℕ). P (order f w y)) e m.3))
    (λ e. inl (m.0, m.1, omega (arith, m.2), m.3))

-- ---- pull

pub record Pulling (f : Flow) (i j c x : ℕ) (w₀ w : List ℕ) (p : ℕ) (looped : Bool) : Type 0 where
  pub laid : Laid f w₀
  pub j_le : j ≤ f.n
  pub x_lt : x < f.n
  pub x_in : which f w₀ x ≡ c
  pub i_le : i ≤ p
  pub p_le : p ≤ j
  pub joins : Joins f x (λ b. Member f w₀ i p (λ u. Across f w₀ u c b)) w₀ w
  pub tells : Tells (Member f w₀ i p (λ u. Stays f w₀ u c)) looped

pub pull_start : (f : Flow) (i j c x : ℕ) (w : List ℕ) → Laid f w → i ≤ j → j ≤ f.n → x < f.n → which f w x ≡ c → Pulling f i j c x w w i false
pull_start f i j c x w L h k l e = record {
  laid = L;
  j_le = k;
  x_lt = l;
  x_in = e;
  i_le = omega arith;
  p_le = h;
  joins = joins_as (λ b. Member f w i i (λ u. Across f w u c b)) (joins_none w) (λ b l s. absurd s) (λ b l s. absurd (omega (arith, s.1, s.2)));
  tells = record { yes_so = λ q. never q; so_yes = λ s. absurd (omega (arith, s.1, s.2)) };
}

module _ {f : Flow} {i j c x : ℕ} {w₀ w : List ℕ} {p : ℕ} {looped : Bool} (t : Pulling f i j c x w₀ w p looped) (h : p < j) {o : ℕ} (e : o ≡ order_from f) where
  abbrev node : ℕ
  node = get_or w (o + p) 0

  all_rows : Within f.out (f.out + f.n * f.words) w₀ w
  all_rows = row_wide t.laid x t.x_lt t.joins.kept

  pub pull_laid : Laid f w
  pull_laid = laid_kept t.laid all_rows

  p_lt : p < f.n
  p_lt = omega (arith, t.j_le)

  pub pull_order : node ≡ order f w₀ p
  pull_order = here f w e p ∙ order_kept t.laid all_rows p p_lt

  u_lt : order f w₀ p < f.n
  u_lt = t.laid.listed p p_lt

  pub pull_node : node < f.n
  pull_node = omega (arith, pull_order, u_lt)

  pub pull_at : length w₀ * 8 < 2 ^ 63 → OrderAt o (length w) p
  pull_at r = order_at_lem pull_laid (as_long _ (length w₀) all_rows.len r) e p p_lt

  pub pull_x : which f w x ≡ c
  pull_x = which_kept t.laid all_rows x t.x_lt ∙ t.x_in

  module _ {w' : List ℕ} {r : Bool} (J : Joins f x (Across f w (node) c) w w') (T : Tells (Stays f w (node) c) r) where
    joins' : Joins f x (λ b. Member f w₀ i (p + 1) (λ u. Across f w₀ u c b)) w₀ w'
    joins' = joins_as (λ b. Member f w₀ i (p + 1) (λ u. Across f w₀ u c b)) (joins_then t.joins J)
        (λ b l s. more_member f w₀ i p (λ u. Across f w₀ u c b) t.i_le
        (⊎_elim (λ a. inl a) (λ a. inr (across_back t.laid t.x_lt t.x_in t.joins.kept (order f w₀ p) b u_lt l (subst (λ (y : ℕ). Across f w y c b) pull_order a))) s))
        (λ b l s. ⊎_elim (λ a. inl a)
        (λ a. inr (subst (λ (y : ℕ). Across f w y c b) (sym pull_order) (across_on t.laid t.x_lt t.x_in t.joins.kept (order f w₀ p) b u_lt l a)))
        (last_member f w₀ i p (λ u. Across f w₀ u c b) s))

    here_stays : Stays f w (node) c → Stays f w₀ (order f w₀ p) c
    here_stays s = stays_back t.laid t.x_lt t.x_in t.joins.kept (order f w₀ p) u_lt (subst (λ (y : ℕ). Stays f w y c) pull_order s)

    there_stays : Stays f w₀ (order f w₀ p) c → Stays f w (node) c
    there_stays s = subst (λ (y : ℕ). Stays f w y c) (sym pull_order) (stays_on t.laid t.x_lt t.x_in t.joins.kept (order f w₀ p) u_lt s)

    pub pull_looped : r ≡ true → Pulling f i j c x w₀ w' (p + 1) true
    pull_looped y = record {
      laid = t.laid;
      j_le = t.j_le;
      x_lt = t.x_lt;
      x_in = t.x_in;
      i_le = omega (arith, t.i_le);
      p_le = omega arith;
      joins = joins';
      tells = record { yes_so = λ _. (p, t.i_le, omega arith, here_stays (T.yes_so y)); so_yes = λ _. refl };
    }

    pub pull_not : r ≡ false → Pulling f i j c x w₀ w' (p + 1) looped
    pull_not y = record {
      laid = t.laid;
      j_le = t.j_le;
      x_lt = t.x_lt;
      x_in = t.x_in;
      i_le = omega (arith, t.i_le);
      p_le = omega arith;
      joins = joins';
      tells = record {
        yes_so = λ q. let m = t.tells.yes_so q in (m.0, m.1, omega (arith, m.2), m.3);
        so_yes = λ m. ⊎_elim (λ a. t.tells.so_yes a) (λ a. never (sym y ∙ T.so_yes (there_stays a))) (last_member f w₀ i p (λ u. Stays f w₀ u c) m);
      };
    }

pub pull_done : {f : Flow} {i j c x : ℕ} {w₀ w : List ℕ} {p : ℕ} {looped : Bool} → Pulling f i j c x w₀ w p looped → j ≤ p
    → Joins f x (λ b. Member f w₀ i j (λ u. Across f w₀ u c b)) w₀ w × Tells (Member f w₀ i j (λ u. Stays f w₀ u c)) looped
pull_done {f} {i} {j} {c} {x} {w₀} {w} {p} t h = (
  joins_as (λ b. Member f w₀ i j (λ u. Across f w₀ u c b)) t.joins (λ b l s. (s.0, s.1, omega (arith, s.2, t.p_le), s.3)) (λ b l s. (s.0, s.1, omega (arith, s.2), s.3)),
  record {
    yes_so = λ r. let s = t.tells.yes_so r in (s.0, s.1, omega (arith, s.2, t.p_le), s.3);
    so_yes = λ s. t.tells.so_yes (s.0, s.1, omega (arith, s.2), s.3);
  },
)

-- ---- touch

pub record Touching (f : Flow) (i j x : ℕ) (w₀ w : List ℕ) (p : ℕ) : Type 0 where
  pub laid : Laid f w₀
  pub j_le : j ≤ f.n
  pub x_lt : x < f.n
  pub i_le : i ≤ p
  pub p_le : p ≤ j
  pub joins : Joins f x (λ b. Member f w₀ i p (λ u. touched_bit f w₀ u b ≡ true)) w₀ w

pub touch_start_lem : (f : Flow) (i j x : ℕ) (w : List ℕ) → Laid f w → i ≤ j → j ≤ f.n → x < f.n → Touching f i j x w w i
touch_start_lem f i j x w L h k l = record {
  laid = L;
  j_le = k;
  x_lt = l;
  i_le = omega arith;
  p_le = h;
  joins = joins_as (λ b. Member f w i i (λ u. touched_bit f w u b ≡ true)) (joins_none w) (λ b l s. absurd s) (λ b l s. absurd (omega (arith, s.1, s.2)));
}

module _ {f : Flow} {i j x : ℕ} {w₀ w : List ℕ} {p : ℕ} (t : Touching f i j x w₀ w p) (h : p < j) {o : ℕ} (e : o ≡ order_from f) where
  abbrev touch_u : ℕ
  touch_u = get_or w (o + p) 0

  kept_all : Within f.out (f.out + f.n * f.words) w₀ w
  kept_all = row_wide t.laid x t.x_lt t.joins.kept

  pub touch_laid : Laid f w
  touch_laid = laid_kept t.laid kept_all

  p_in : p < f.n
  p_in = omega (arith, t.j_le)

  order_is : touch_u ≡ order f w₀ p
  order_is = here f w e p ∙ order_kept t.laid kept_all p p_in

  pub touch_node : touch_u < f.n
  touch_node = omega (arith, order_is, t.laid.listed p p_in)

  pub touch_at : length w₀ * 8 < 2 ^ 63 → OrderAt o (length w) p
  touch_at r = order_at_lem touch_laid (as_long _ (length w₀) kept_all.len r) e p p_in

  pub touch_row : length w₀ * 8 < 2 ^ 63 → RowAt f (length w) (touch_u)
  touch_row r = row_at touch_laid (as_long _ (length w₀) kept_all.len r) _ touch_node

  pub touch_x : length w₀ * 8 < 2 ^ 63 → RowAt f (length w) x
  touch_x r = row_at touch_laid (as_long _ (length w₀) kept_all.len r) x t.x_lt

  pub touch_more : {w' : List ℕ}
      → Row w w' (f.out + x * f.words) f.words (λ b. bit w (f.out + x * f.words) b || bit w (f.touched + touch_u * f.words) b) → Touching f i j x w₀ w' (p + 1)
  touch_more {w'} r =
      let is : (b : ℕ) → b < f.words * 64 → bit w (f.touched + touch_u * f.words) b ≡ touched_bit f w₀ (order f w₀ p) b =
      λ b l. ap (λ (y : ℕ). touched_bit f w y b) order_is ∙ touched_kept t.laid kept_all (order f w₀ p) b (t.laid.listed p p_in) l in
      record {
        laid = t.laid;
        j_le = t.j_le;
        x_lt = t.x_lt;
        i_le = omega (arith, t.i_le);
        p_le = omega arith;
        joins = joins_as (λ b. Member f w₀ i (p + 1) (λ u. touched_bit f w₀ u b ≡ true)) (joins_then t.joins (joins_row (λ b. touched_bit f w (touch_u) b) r))
            (λ b l s. more_member f w₀ i p (λ u. touched_bit f w₀ u b ≡ true) t.i_le (⊎_elim (λ a. inl a) (λ a. inr (sym (is b l) ∙ a)) s))
            (λ b l s. ⊎_elim (λ a. inl a) (λ a. inr (is b l ∙ a)) (last_member f w₀ i p (λ u. touched_bit f w₀ u b ≡ true) s));
      }

pub touch_done : {f : Flow} {i j x : ℕ} {w₀ w : List ℕ} {p : ℕ} → Touching f i j x w₀ w p → j ≤ p → Joins f x (λ b. Member f w₀ i j (λ u. touched_bit f w₀ u b ≡ true)) w₀ w
touch_done {f} {i} {j} {x} {w₀} {w} {p} t h =
    joins_as (λ b. Member f w₀ i j (λ u. touched_bit f w₀ u b ≡ true)) t.joins (λ b l s. (s.0, s.1, omega (arith, s.2, t.p_le), s.3)) (λ b l s. (s.0, s.1, omega (arith, s.2), s.3))
