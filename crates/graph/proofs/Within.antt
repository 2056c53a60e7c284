-- Laws of a part of the work space: what a store in it leaves, and that edge rows below it stay.
use Prim.Native.Nat.{ℕ, ◌+◌, ◌≤◌, ◌<◌}
use mathlib.Core.Path.{◌≡◌, refl, sym, ◌∙◌, subst}
use mathlib.Core.List.{List}
use native.Mathlib.Omega.{arith}
use lib.ListN.{length, get_or, set, length-set}
use lib.Seq.{get_or-set_other}
use Rattle.words.specs.Inner.{Region}
use Rattle.graph.specs.Paths.{Edge, Link, Between}
use Rattle.graph.specs.Inner.Work.{Within, EdgeRows}

pub within_refl : (lo hi : ℕ) (w : List ℕ) → Within lo hi w w
within_refl lo hi w = record { len = refl; below = λ i h. refl; past = λ i h. refl }

pub within_trans : {lo hi : ℕ} {a b c : List ℕ} → Within lo hi a b → Within lo hi b c → Within lo hi a c
within_trans p q = record { len = q.len ∙ p.len; below = λ i h. q.below i h ∙ p.below i h; past = λ i h. q.past i h ∙ p.past i h }

pub within_wider : {lo hi : ℕ} {a b : List ℕ} (lo' hi' : ℕ) → lo' ≤ lo → hi ≤ hi' → Within lo hi a b → Within lo' hi' a b
within_wider lo' hi' h k p = record { len = p.len; below = λ i l. p.below i (omega arith); past = λ i l. p.past i (omega arith) }

pub within_set : {lo hi : ℕ} {w₀ w : List ℕ} → Within lo hi w₀ w → (i x : ℕ) → lo ≤ i → i < hi → Within lo hi w₀ (set w i x)
within_set {w = w} p i x h k = record {
  len = simp length-set p.len;
  below = λ j l. get_or-set_other w i j x 0 (λ e. absurd (omega arith)) ∙ p.below j l;
  past = λ j l. get_or-set_other w i j x 0 (λ e. absurd (omega arith)) ∙ p.past j l;
}

-- a part that was filled
pub region_within : {w₀ w : List ℕ} {at n : ℕ} {f : ℕ → ℕ} → Region w₀ w at n f → Within at (at + n) w₀ w
region_within r = record { len = r.len; below = r.before; past = r.after }

-- edge rows, in a list with the same numbers below base
pub rows_kept : {es : List Edge} {n at base : ℕ} {w w' : List ℕ} → Between n es → at + n < base → ((j : ℕ) → j < n → at + n + 1 + get_or w (at + j + 1) 0 ≤ base) → ((i : ℕ) → i < base → get_or w' i 0 ≡ get_or w i 0)
    → EdgeRows es n at w → EdgeRows es n at w'
rows_kept {es} {n} {at} {base} {w} {w'} B starts fits f R = record {
  rising = λ j h. omega (arith, R.rising j h, f (at + j) (omega arith), f (at + j + 1) (omega arith));
  ends = λ j h. omega (arith, R.ends j h, f (at + j + 1) (omega arith));
  has = λ j k l.
      let h = B.from _ l in
      let p = R.has j k l in
      (p.0, omega (arith, p.1, f (at + j) (omega arith)), omega (arith, p.2, f (at + j + 1) (omega arith)), f (at + n + 1 + p.0) (omega (arith, p.2, fits j h)) ∙ p.3);
  only = λ j p h a b.
      let b' : p < get_or w (at + j + 1) 0 = omega (arith, f (at + j + 1) (omega arith)) in
      subst (λ (y : ℕ). Link es j y) (sym (f (at + n + 1 + p) (omega (arith, fits j h)))) (R.only j p h (omega (arith, f (at + j) (omega arith))) b');
}

pub rows_moved : {es : List Edge} {n at base : ℕ} {w w' : List ℕ} → Between n es → at + n + 1 + length es ≤ base → ((i : ℕ) → i < base → get_or w' i 0 ≡ get_or w i 0) → EdgeRows es n at w → EdgeRows es n at w'
rows_moved B fits f R = rows_kept B (omega arith) (λ j h. omega (arith, R.ends j h)) f R
