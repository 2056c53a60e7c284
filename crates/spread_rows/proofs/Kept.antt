-- What a change of the waiting row and of the arriving rows leaves: everything that is read lies below them.
use Prim.Native.Nat.{ℕ, ◌+◌, ◌*◌, ◌/◌, ◌≤◌, ◌<◌}
use mathlib.Core.Path.{◌≡◌, sym, ap, ◌∙◌, subst}
use mathlib.Core.Logic.{◌≢◌}
use mathlib.Core.List.{List}
use native.Mathlib.Omega.{arith}
use lib.ListN.{length, get_or}
use Rattle.bits.specs.Inner.{Aligned, apart}
use Rattle.bits.proofs.BitLaws.{bit_kept}
use Rattle.words.specs.Inner.{above}
use Rattle.words.proofs.Points.{cut}
use Rattle.words.proofs.RegionLaws.{row_before}
use Rattle.graph.specs.Paths.{Edge, Link, Between}
use Rattle.graph.specs.Inner.Work.{Within, EdgeRows}
use Rattle.graph.proofs.Within.{within_wider}
use Rattle.spread_rows.specs.declared.Layout.{Layout}
use Rattle.spread_rows.specs.Inner.{begins, ends, target, order_at, rank_of, out_of, leave_bit, pass_bit, out_bit, waits, Laid}

module _ {s : Layout} {w₀ w : List ℕ} (L : Laid s w₀) (K : Within s.wait (out_of s + s.n * s.words) w₀ w) where
  pub begins_kept : (u : ℕ) → u < s.n → begins s w u ≡ begins s w₀ u
  begins_kept u h = K.below (s.at + u) (omega (arith, L.below))

  pub ends_kept : (u : ℕ) → u < s.n → ends s w u ≡ ends s w₀ u
  ends_kept u h = K.below (s.at + u + 1) (omega (arith, L.below))

  pub target_kept : (u k : ℕ) → u < s.n → k < ends s w₀ u → target s w k ≡ target s w₀ k
  target_kept u k h l = K.below (s.at + s.n + 1 + k) (omega (arith, L.rows_fit u h))

  pub order_kept : (r : ℕ) → r < s.n → order_at s w r ≡ order_at s w₀ r
  order_kept r h = K.below (s.order + r) (omega (arith, L.order_fits))

  pub rank_kept : (v : ℕ) → v < s.n → rank_of s w v ≡ rank_of s w₀ v
  rank_kept v h = K.below (s.rank + v) (omega (arith, L.rank_fits))

  pub leave_kept : (v b : ℕ) → v < s.n → b < s.words * 64 → leave_bit s w v b ≡ leave_bit s w₀ v b
  leave_kept v b h l = bit_kept {w₀ = w₀} {w = w} {base = s.leaves + v * s.words} {n = s.words} (record { same = λ i p q. K.below i (omega (arith, L.leaves_fit, row_before v s.n s.words h)) }) b l

  pub pass_kept : (v b : ℕ) → v < s.n → b < s.words * 64 → pass_bit s w v b ≡ pass_bit s w₀ v b
  pass_kept v b h l = bit_kept {w₀ = w₀} {w = w} {base = s.passes + v * s.words} {n = s.words} (record { same = λ i p q. K.below i (omega (arith, L.passes_fit, row_before v s.n s.words h)) }) b l

  pub laid_kept : Laid s w
  laid_kept = record {
    few = L.few;
    rising = λ u h. omega (arith, L.rising u h, begins_kept u h, ends_kept u h);
    rows_fit = λ u h. omega (arith, L.rows_fit u h, ends_kept u h);
    below = L.below;
    nodes = λ u k h a b.
        let l : k < ends s w₀ u = omega (arith, ends_kept u h) in
        omega (arith, target_kept u k h l, L.nodes u k h (omega (arith, begins_kept u h)) l);
    order_fits = L.order_fits;
    rank_fits = L.rank_fits;
    leaves_fit = L.leaves_fit;
    passes_fit = L.passes_fit;
    out_fits = omega (arith, L.out_fits, K.len);
    placed = λ r h. omega (arith, order_kept r h, L.placed r h);
    ranked = λ v h. omega (arith, rank_kept v h, L.ranked v h);
    rank_of_lem = λ r h. ap (rank_of s w) (order_kept r h) ∙ rank_kept (order_at s w₀ r) (L.placed r h) ∙ L.rank_of_lem r h;
    order_of_lem = λ v h. ap (order_at s w) (rank_kept v h) ∙ order_kept (rank_of s w₀ v) (L.ranked v h) ∙ L.order_of_lem v h;
  }

-- the edge rows, of any graph
pub rows_kept : {s : Layout} {w₀ w : List ℕ} → Laid s w₀ → Within s.wait (out_of s + s.n * s.words) w₀ w → (es : List Edge) → Between s.n es → EdgeRows es s.n s.at w₀ → EdgeRows es s.n s.at w
rows_kept {s} {w₀} {w} L K es E R = record {
  rising = λ j a. omega (arith, R.rising j a, begins_kept L K j a, ends_kept L K j a);
  ends = λ j a. omega (arith, R.ends j a, ends_kept L K j a);
  has = λ j k l.
      let a = E.from _ l in
      let p = R.has j k l in
      (p.0, omega (arith, p.1, begins_kept L K j a), omega (arith, p.2, ends_kept L K j a), target_kept L K j p.0 a p.2 ∙ p.3);
  only = λ j p a b c.
      let d : p < ends s w₀ j = omega (arith, ends_kept L K j a) in
      subst (λ (y : ℕ). Link es j y) (sym (target_kept L K j p a d)) (R.only j p a (omega (arith, begins_kept L K j a)) d);
}

-- one arriving row, or a word of the waiting row, lies in them
pub row_wide : (s : Layout) {w₀ w : List ℕ} (v : ℕ) → v < s.n → Within (out_of s + v * s.words) (out_of s + v * s.words + s.words) w₀ w → Within s.wait (out_of s + s.n * s.words) w₀ w
row_wide s v h K = within_wider s.wait (out_of s + s.n * s.words) (omega arith) (omega (arith, row_before v s.n s.words h)) K

pub other_row : (s : Layout) (w₀ w : List ℕ) (x v b : ℕ) → v ≢ x → b < s.words * 64 → Within (out_of s + x * s.words) (out_of s + x * s.words + s.words) w₀ w → out_bit s w v b ≡ out_bit s w₀ v b
other_row s w₀ w x v b ne h K = bit_kept {w₀ = w₀} {w = w} {base = out_of s + v * s.words} {n = s.words}
    (record {
      same = λ i p q. cut v x
          (λ l. K.below i (omega (arith, row_before v x s.words (omega arith))))
          (λ l. K.past i (omega (arith, row_before x v s.words l)));
    }) b h

-- the waiting row is below the arriving rows
pub waits_kept : (s : Layout) (w₀ w : List ℕ) (v r : ℕ) → r < (s.n / 64 + 1) * 64 → Within (out_of s + v * s.words) (out_of s + v * s.words + s.words) w₀ w → waits s w r ≡ waits s w₀ r
waits_kept s w₀ w v r h K = bit_kept {w₀ = w₀} {w = w} {base = s.wait} {n = s.n / 64 + 1} (record { same = λ i p q. K.below i (omega arith) }) r h

pub rank_in : (n r : ℕ) → r < n → r < (n / 64 + 1) * 64
rank_in n r h = omega arith

-- a word of the waiting row: the arriving rows are as they were
pub out_kept : (s : Layout) (w₀ w : List ℕ) (r : ℕ) → r < s.n → ((i : ℕ) → (i ≡ s.wait + r / 64 → ⊥) → get_or w i 0 ≡ get_or w₀ i 0) → (v b : ℕ) → b < s.words * 64 → out_bit s w v b ≡ out_bit s w₀ v b
out_kept s w₀ w r h f v b l = bit_kept {w₀ = w₀} {w = w} {base = out_of s + v * s.words} {n = s.words} (record { same = λ i p q. f i (λ e. absurd (omega arith)) }) b l

pub word_within : (s : Layout) (w₀ w : List ℕ) (r : ℕ) → r < s.n → length w ≡ length w₀ → ((i : ℕ) → (i ≡ s.wait + r / 64 → ⊥) → get_or w i 0 ≡ get_or w₀ i 0) → Within s.wait (out_of s + s.n * s.words) w₀ w
word_within s w₀ w r h len f = record { len = len; below = λ i l. f i (λ e. absurd (omega arith)); past = λ i l. f i (λ e. absurd (omega arith)) }

-- what is read lies below the arriving rows
pub below_aligned : {s : Layout} {w : List ℕ} → Laid s w → (at v u : ℕ) → at + s.n * s.words ≤ s.wait → u < s.n → Aligned (out_of s + v * s.words) (at + u * s.words) s.words
below_aligned {s} L at v u h k = apart (above (omega (arith, row_before u s.n s.words k)))
