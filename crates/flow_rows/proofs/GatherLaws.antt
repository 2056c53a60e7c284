-- Laws of `gather`: the edges of one place, one after the other.
use Prim.Native.Nat.{ℕ, ◌+◌, ◌*◌, ◌^◌, ◌≤◌, ◌<◌}
use mir.Syntax.{w64}
use mir.Val.{Fits}
use mathlib.Core.Path.{◌≡◌, refl, sym, ap, ◌∙◌, subst}
use mathlib.Core.Logic.{◌≢◌, ◌⊎◌, inl, inr, ⊎_elim}
use mathlib.Core.Bool.{Bool, true, false, ◌||◌}
use mathlib.Core.List.{List}
use native.Mathlib.Omega.{arith}
use lib.ListN.{length}
use Rattle.words.proofs.Points.{same}
use Rattle.words.proofs.FitLaws.{small, bytes}
use Rattle.words.proofs.Bools.{or_right, or_left, or_cases, never}
use Rattle.words.proofs.RegionLaws.{row_before}
use Rattle.bits.specs.Bits.{bit}
use Rattle.bits.specs.Inner.{Row, Aligned}
use Rattle.graph.specs.Inner.Work.{Within}
use Rattle.flow_rows.specs.declared.Flow.{Flow}
use Rattle.flow_rows.specs.Inner.{which, begins, ends, target, touched_bit, out_bit, Laid, Across, Stays, Joins, Tells}
use Rattle.flow_rows.proofs.Joins.{which_kept, target_kept, touched_kept, row_wide, other_row, joins_none, joins_then, joins_as, joins_row, touched_aligned}

-- the edges of u before e
abbrev pub AcrossTo : Flow → List ℕ → ℕ → ℕ → ℕ → ℕ → Type 0
AcrossTo f w u c e b = (k : ℕ) × (begins f w u ≤ k) × (k < e) × (which f w (target f w k) ≢ c)
    × ((out_bit f w (target f w k) b ≡ true) ⊎ (touched_bit f w (target f w k) b ≡ true))

abbrev pub StaysTo : Flow → List ℕ → ℕ → ℕ → ℕ → Type 0
StaysTo f w u c e = (k : ℕ) × (begins f w u ≤ k) × (k < e) × (which f w (target f w k) ≡ c)

pub record Gathering (f : Flow) (u c x : ℕ) (w₀ w : List ℕ) (k : ℕ) (looped : Bool) : Type 0 where
  pub laid : Laid f w₀
  pub u_lt : u < f.n
  pub x_lt : x < f.n
  pub x_in : which f w₀ x ≡ c
  pub from : begins f w₀ u ≤ k
  pub to : k ≤ ends f w₀ u
  pub joins : Joins f x (AcrossTo f w₀ u c k) w₀ w
  pub tells : Tells (StaysTo f w₀ u c k) looped

pub gather_start : (f : Flow) (u c x : ℕ) (w : List ℕ) → Laid f w → u < f.n → x < f.n → which f w x ≡ c → Gathering f u c x w w (begins f w u) false
gather_start f u c x w L h k e = record {
  laid = L;
  u_lt = h;
  x_lt = k;
  x_in = e;
  from = omega arith;
  to = L.rising u h;
  joins = joins_as (AcrossTo f w u c (begins f w u)) (joins_none w) (λ b l s. absurd s) (λ b l s. absurd (omega (arith, s.1, s.2)));
  tells = record { yes_so = λ q. never q; so_yes = λ s. absurd (omega (arith, s.1, s.2)) };
}

-- what is computed before the first edge fits
pub record Before (f : Flow) (n u x : ℕ) : Type 0 where
  pub to : Fits w64 (f.at + f.n)
  pub to_one : Fits w64 (f.at + f.n + 1)
  pub rows : Fits w64 (x * f.words)
  pub row : Fits w64 (f.out + x * f.words)
  pub begin : Fits w64 (f.at + u)
  pub begin_bytes : Fits w64 ((f.at + u) * 8)
  pub begin_in : f.at + u < n
  pub end : Fits w64 (f.at + u + 1)
  pub end_bytes : Fits w64 ((f.at + u + 1) * 8)
  pub end_in : f.at + u + 1 < n

pub before_edges : {f : Flow} {w : List ℕ} (u x : ℕ) → Laid f w → u < f.n → x < f.n → length w * 8 < 2 ^ 63 → Before f (length w) u x
before_edges {f} {w} u x L h k r =
    let o = L.out_fits in
    let top : f.at + u + 1 < length w = omega (arith, L.below, L.base_fits) in
    let all : f.at + f.n + 1 ≤ length w = omega (arith, L.below, L.base_fits) in
    let row : f.out + x * f.words ≤ length w = omega (arith, row_before x f.n f.words k) in
    record {
      to = small _ (length w) (omega arith) r;
      to_one = small _ (length w) all r;
      rows = small _ (length w) (omega arith) r;
      row = small _ (length w) row r;
      begin = small _ (length w) (omega arith) r;
      begin_bytes = bytes _ (length w) (omega arith) r;
      begin_in = omega arith;
      end = small _ (length w) (omega arith) r;
      end_bytes = bytes _ (length w) (omega arith) r;
      end_in = top;
    }

-- what is computed at edge k, which goes to g, fits
pub record AtEdge (f : Flow) (n x k g : ℕ) : Type 0 where
  pub to : Fits w64 (f.at + f.n + 1 + k)
  pub to_bytes : Fits w64 ((f.at + f.n + 1 + k) * 8)
  pub to_in : f.at + f.n + 1 + k < n
  pub which_fits : Fits w64 (f.base + g)
  pub which_bytes : Fits w64 ((f.base + g) * 8)
  pub which_in : f.base + g < n
  pub next : Fits w64 (k + 1)
  pub rows : Fits w64 (g * f.words)
  pub out : Fits w64 (f.out + g * f.words)
  pub touched : Fits w64 (f.touched + g * f.words)
  pub row_in_x : f.out + x * f.words + f.words ≤ n
  pub out_in : f.out + g * f.words + f.words ≤ n
  pub touched_in : f.touched + g * f.words + f.words ≤ n

at_node : {f : Flow} {w₀ : List ℕ} (u x k g : ℕ) → Laid f w₀ → u < f.n → x < f.n → k < ends f w₀ u → g < f.n → length w₀ * 8 < 2 ^ 63 → AtEdge f (length w₀) x k g
at_node {f} {w₀} u x k g L h l e m r =
    let n = length w₀ in
    let o = L.out_fits in
    let t = L.touched_fits in
    let to : f.at + f.n + 1 + k < n = omega (arith, L.rows_fit u h, L.base_fits) in
    let which : f.base + g < n = omega (arith, L.base_fits) in
    let in_x : f.out + x * f.words + f.words ≤ n = omega (arith, row_before x f.n f.words l) in
    let in_g = row_before g f.n f.words m in
    let out : f.out + g * f.words + f.words ≤ n = omega arith in
    let touched : f.touched + g * f.words + f.words ≤ n = omega arith in
    record {
      to = small _ n (omega arith) r;
      to_bytes = bytes _ n (omega arith) r;
      to_in = to;
      which_fits = small _ n (omega arith) r;
      which_bytes = bytes _ n (omega arith) r;
      which_in = which;
      next = small _ n (omega arith) r;
      rows = small _ n (omega arith) r;
      out = small _ n (omega arith) r;
      touched = small _ n (omega arith) r;
      row_in_x = in_x;
      out_in = out;
      touched_in = touched;
    }

module _ {f : Flow} {u c x : ℕ} {w₀ w : List ℕ} {k : ℕ} {looped : Bool} (t : Gathering f u c x w₀ w k looped) (h : k < ends f w₀ u) where
  wide : Within f.out (f.out + f.n * f.words) w₀ w
  wide = row_wide t.laid x t.x_lt t.joins.kept

  pub target_is : target f w k ≡ target f w₀ k
  target_is = target_kept t.laid wide u k t.u_lt h

  target_lt : target f w₀ k < f.n
  target_lt = t.laid.nodes u k t.u_lt t.from h

  pub which_is : which f w (target f w k) ≡ which f w₀ (target f w₀ k)
  which_is = ap (which f w) target_is ∙ which_kept t.laid wide (target f w₀ k) target_lt

  pub at_edge : length w₀ * 8 < 2 ^ 63 → AtEdge f (length w) x k (target f w k)
  at_edge r = subst (λ (n : ℕ). AtEdge f n x k (target f w k)) (sym wide.len)
      (subst (AtEdge f (length w₀) x k) (sym target_is) (at_node u x k (target f w₀ k) t.laid t.u_lt t.x_lt h target_lt r))

  pub touched_apart : Aligned (f.out + x * f.words) (f.touched + target f w k * f.words) f.words
  touched_apart = touched_aligned f w₀ x (target f w k) t.laid t.x_lt (omega (arith, target_is, target_lt))

  pub gather_stay : which f w (target f w k) ≡ c → Gathering f u c x w₀ w (k + 1) true
  gather_stay e = let q = sym which_is ∙ e in record {
    laid = t.laid;
    u_lt = t.u_lt;
    x_lt = t.x_lt;
    x_in = t.x_in;
    from = omega (arith, t.from);
    to = omega arith;
    joins = joins_as (AcrossTo f w₀ u c (k + 1)) t.joins
        (λ b l s. (s.0, s.1, omega (arith, s.2), s.3, s.4))
        (λ b l s. (s.0, s.1, same s.0 k (λ o. absurd (s.3 (ap (λ (y : ℕ). which f w₀ (target f w₀ y)) o ∙ q))) (λ o. omega (arith, s.2)), s.3, s.4));
    tells = record { yes_so = λ _. (k, t.from, omega arith, q); so_yes = λ _. refl };
  }

  pub gather_go : {w₁ : List ℕ} → (which f w (target f w k) ≡ c → ⊥)
      → Row w w₁ (f.out + x * f.words) f.words
      (λ b. bit w (f.out + x * f.words) b || (bit w (f.out + target f w k * f.words) b || bit w (f.touched + target f w k * f.words) b))
      → Gathering f u c x w₀ w₁ (k + 1) looped
  gather_go {w₁} ne r =
      let g = target f w₀ k in
      let q : which f w₀ g ≢ c = λ o. ne (which_is ∙ o) in
      let g-x : g ≢ x = λ o. q (ap (which f w₀) o ∙ t.x_in) in
      let J = joins_row (λ b. out_bit f w (target f w k) b || touched_bit f w (target f w k) b) r in
      let out_is : (b : ℕ) → b < f.words * 64 → out_bit f w (target f w k) b ≡ out_bit f w₀ g b =
      λ b l. ap (λ (y : ℕ). out_bit f w y b) target_is ∙ other_row t.laid x g b g-x l t.joins.kept in
      let touched_is : (b : ℕ) → b < f.words * 64 → touched_bit f w (target f w k) b ≡ touched_bit f w₀ g b =
      λ b l. ap (λ (y : ℕ). touched_bit f w y b) target_is ∙ touched_kept t.laid wide g b target_lt l in
      record {
        laid = t.laid;
        u_lt = t.u_lt;
        x_lt = t.x_lt;
        x_in = t.x_in;
        from = omega (arith, t.from);
        to = omega arith;
        joins = joins_as (AcrossTo f w₀ u c (k + 1)) (joins_then t.joins J)
            (λ b l s. ⊎_elim
            (λ o. (o.0, o.1, omega (arith, o.2), o.3, o.4))
            (λ o. (k, t.from, omega arith, q, ⊎_elim (λ a. inl (sym (out_is b l) ∙ a)) (λ a. inr (sym (touched_is b l) ∙ a)) (or_cases (out_bit f w (target f w k) b) (touched_bit f w (target f w k) b) o)))
            s)
            (λ b l s. same s.0 k
            (λ o. inr (⊎_elim
            (λ a. or_left (out_bit f w (target f w k) b) (touched_bit f w (target f w k) b) (out_is b l ∙ subst (λ (y : ℕ). out_bit f w₀ (target f w₀ y) b ≡ true) o a))
            (λ a. or_right (out_bit f w (target f w k) b) (touched_bit f w (target f w k) b) (touched_is b l ∙ subst (λ (y : ℕ). touched_bit f w₀ (target f w₀ y) b ≡ true) o a))
            s.4))
            (λ o. inl (s.0, s.1, omega (arith, s.2), s.3, s.4)));
        tells = record {
          yes_so = λ r. let s = t.tells.yes_so r in (s.0, s.1, omega (arith, s.2), s.3);
          so_yes = λ s. t.tells.so_yes (s.0, s.1, same s.0 k (λ o. absurd (q (ap (λ (y : ℕ). which f w₀ (target f w₀ y)) (sym o) ∙ s.3))) (λ o. omega (arith, s.2)), s.3);
        };
      }

pub gather_done : {f : Flow} {u c x : ℕ} {w₀ w : List ℕ} {k : ℕ} {looped : Bool} → Gathering f u c x w₀ w k looped → ends f w₀ u ≤ k → Joins f x (Across f w₀ u c) w₀ w × Tells (Stays f w₀ u c) looped
gather_done {f} {u} {c} {x} {w₀} {w} {k} t h = (
  joins_as (Across f w₀ u c) t.joins (λ b l s. (s.0, s.1, omega (arith, s.2, t.to), s.3, s.4)) (λ b l s. (s.0, s.1, omega (arith, s.2), s.3, s.4)),
  record {
    yes_so = λ r. let s = t.tells.yes_so r in (s.0, s.1, omega (arith, s.2, t.to), s.3);
    so_yes = λ s. t.tells.so_yes (s.0, s.1, omega (arith, s.2), s.3);
  },
)
