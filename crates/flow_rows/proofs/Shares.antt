-- Laws of `share` and `visit`: the rows of one component, worked out and given to each of its places.
use Prim.Native.Nat.{ℕ, ◌+◌, ◌*◌, ◌/◌, ◌%◌, ◌^◌, ◌≤◌, ◌<◌}
use mathlib.Core.Path.{◌≡◌, refl, sym, ap, ◌∙◌, subst}
use mathlib.Core.Logic.{◌≢◌, inl, inr, ⊎_elim}
use mathlib.Core.Bool.{Bool, true, false}
use mathlib.Core.List.{List}
use native.Mathlib.Omega.{arith}
use lib.ListN.{length, get_or}
use Rattle.bits.specs.Bits.{bit_of}
use Rattle.words.specs.Inner.{Region, Disjoint, below as lower, above as upper}
use Rattle.words.proofs.Points.{cut, same}
use Rattle.words.proofs.RegionLaws.{row_before}
use Rattle.bits.proofs.DigitLaws.{bit_zero}
use Rattle.graph.specs.Inner.Work.{Within}
use Rattle.graph.proofs.Within.{within_refl, within_trans, region_within}
use Rattle.flow_rows.specs.declared.Flow.{Flow}
use Rattle.flow_rows.specs.Inner.{which, order_from, order, touched_bit, out_bit, Laid, Across, Stays, Member, Joins, Tells, Run, Shared, Source, Visited}
use Rattle.flow_rows.proofs.Joins.{which_kept, order_kept, touched_kept, laid_kept, row_wide, other_row}
use Rattle.words.proofs.FitLaws.{as_long}
use Rattle.flow_rows.proofs.Places.{OrderAt, RowAt, order_at_lem, row_at, here}
use Rattle.flow_rows.proofs.Visits.{across_back, across_on, stays_back, stays_on, member_as, member_on}

-- ---- share

-- two rows of the answer have no word in common
pub rows_apart : (f : Flow) (u x : ℕ) → u ≢ x → Disjoint (f.out + u * f.words) (f.out + x * f.words) f.words
rows_apart f u x ne = cut u x
    (λ l. lower (omega (arith, row_before u x f.words (omega arith))))
    (λ l. upper (omega (arith, row_before x u f.words l)))

pub record Sharing (f : Flow) (x i j c : ℕ) (w₀ w : List ℕ) (p : ℕ) : Type 0 where
  pub laid : Laid f w₀
  pub run : Run f w₀ i j c
  pub x_lt : x < f.n
  pub i_le : i ≤ p
  pub p_le : p ≤ j
  pub kept : Within f.out (f.out + f.n * f.words) w₀ w
  pub row : (b : ℕ) → b < f.words * 64 → out_bit f w x b ≡ out_bit f w₀ x b
  pub shared : (q b : ℕ) → i ≤ q → q < p → b < f.words * 64 → out_bit f w (order f w₀ q) b ≡ out_bit f w₀ x b
  pub others : (v b : ℕ) → v < f.n → which f w₀ v ≢ c → b < f.words * 64 → out_bit f w v b ≡ out_bit f w₀ v b

pub share_start : (f : Flow) (x i j c : ℕ) (w : List ℕ) → Laid f w → Run f w i j c → x < f.n → Sharing f x i j c w w i
share_start f x i j c w L R h = record {
  laid = L;
  run = R;
  x_lt = h;
  i_le = omega arith;
  p_le = omega (arith, R.first);
  kept = within_refl _ _ w;
  row = λ b l. refl;
  shared = λ q b a e l. absurd (omega arith);
  others = λ v b a e l. refl;
}

module _ {f : Flow} {x i j c : ℕ} {w₀ w : List ℕ} {p : ℕ} (t : Sharing f x i j c w₀ w p) (h : p < j) {o : ℕ} (e : o ≡ order_from f) where
  abbrev node : ℕ
  node = get_or w (o + p) 0

  p_lt : p < f.n
  p_lt = omega (arith, t.run.last)

  pub share_laid : Laid f w
  share_laid = laid_kept t.laid t.kept

  order_is : node ≡ order f w₀ p
  order_is = here f w e p ∙ order_kept t.laid t.kept p p_lt

  pub share_node : node < f.n
  share_node = omega (arith, order_is, t.laid.listed p p_lt)

  pub share_at : length w₀ * 8 < 2 ^ 63 → OrderAt o (length w) p
  share_at r = order_at_lem share_laid (as_long _ (length w₀) t.kept.len r) e p p_lt

  pub share_row : length w₀ * 8 < 2 ^ 63 → RowAt f (length w) (node)
  share_row r = row_at share_laid (as_long _ (length w₀) t.kept.len r) _ share_node

  pub share_x : length w₀ * 8 < 2 ^ 63 → RowAt f (length w) x
  share_x r = row_at share_laid (as_long _ (length w₀) t.kept.len r) x t.x_lt

  pub share_skip : node ≡ x → Sharing f x i j c w₀ w (p + 1)
  share_skip s = record {
    laid = t.laid;
    run = t.run;
    x_lt = t.x_lt;
    i_le = omega (arith, t.i_le);
    p_le = omega arith;
    kept = t.kept;
    row = t.row;
    shared = λ q b a d l. same q p
        (λ z. ap (λ (y : ℕ). out_bit f w (order f w₀ y) b) z ∙ ap (λ (y : ℕ). out_bit f w y b) (sym order_is ∙ s) ∙ t.row b l)
        (λ z. t.shared q b a (omega arith) l);
    others = t.others;
  }

  pub share_more : {w' : List ℕ} → (node ≡ x → ⊥) → Region w w' (f.out + node * f.words) f.words (λ k. get_or w (f.out + x * f.words + k) 0) → Sharing f x i j c w₀ w' (p + 1)
  share_more {w'} ne R =
      let u = node in
      let K = region_within R in
      let new : (b : ℕ) → b < f.words * 64 → out_bit f w' u b ≡ out_bit f w₀ x b = λ b l.
      ap (λ (y : ℕ). bit_of y (b % 64)) (R.inside (f.out + u * f.words + b / 64) (b / 64) refl (omega arith)) ∙ t.row b l in
      record {
        laid = t.laid;
        run = t.run;
        x_lt = t.x_lt;
        i_le = omega (arith, t.i_le);
        p_le = omega arith;
        kept = within_trans t.kept (row_wide share_laid u share_node K);
        row = λ b l. other_row share_laid u x b (λ o. ne (sym o)) l K ∙ t.row b l;
        shared = λ q b a d l. same (order f w₀ q) u
            (λ o. ap (λ (y : ℕ). out_bit f w' y b) o ∙ new b l)
            (λ o. other_row share_laid u (order f w₀ q) b o l K
            ∙ t.shared q b a (same q p (λ z. absurd (o (ap (order f w₀) z ∙ sym order_is))) (λ z. omega arith)) l);
        others = λ v b a d l. other_row share_laid u v b
            (λ o. d (ap (which f w₀) (o ∙ order_is) ∙ t.run.inside p t.i_le h)) l K
            ∙ t.others v b a d l;
      }

pub share_done : {f : Flow} {x i j c : ℕ} {w₀ w : List ℕ} {p : ℕ} → Sharing f x i j c w₀ w p → j ≤ p → Shared f x i j c w₀ w
share_done t h = record { kept = t.kept; shared = λ q b a d l. t.shared q b a (omega arith) l; others = t.others }

-- ---- a run, in a list with the same components

pub run_kept : {f : Flow} {i j c : ℕ} {w₀ w : List ℕ} → Laid f w₀ → Within f.out (f.out + f.n * f.words) w₀ w → Run f w₀ i j c → Run f w i j c
run_kept {f} {i} {j} {c} {w₀} {w} L K R =
    let is : (p : ℕ) → p < f.n → which f w (order f w p) ≡ which f w₀ (order f w₀ p) =
    λ p h. ap (which f w) (order_kept L K p h) ∙ which_kept L K (order f w₀ p) (L.listed p h) in
    record {
      first = R.first;
      last = R.last;
      inside = λ p a b. is p (omega (arith, R.last)) ∙ R.inside p a b;
      next = λ h e. R.next h (sym (is j h) ∙ e);
    }

-- ---- one visit

module _ {f : Flow} {i j c x : ℕ} {w₀ w₁ : List ℕ} (L : Laid f w₀) (R : Run f w₀ i j c) (x_lt : x < f.n) (x_in : which f w₀ x ≡ c)
    (Z : Region w₀ w₁ (f.out + x * f.words) f.words (λ k. 0)) where
  K₁ : Within (f.out + x * f.words) (f.out + x * f.words + f.words) w₀ w₁
  K₁ = region_within Z

  wide₁ : Within f.out (f.out + f.n * f.words) w₀ w₁
  wide₁ = row_wide L x x_lt K₁

  pub laid₁ : Laid f w₁
  laid₁ = laid_kept L wide₁

  pub x_in₁ : which f w₁ x ≡ c
  x_in₁ = which_kept L wide₁ x x_lt ∙ x_in

  empty : (b : ℕ) → b < f.words * 64 → out_bit f w₁ x b ≡ false
  empty b l = ap (λ (y : ℕ). bit_of y (b % 64)) (Z.inside (f.out + x * f.words + b / 64) (b / 64) refl (omega arith)) ∙ bit_zero (b % 64)

  not_empty : {A : Type 0} (b : ℕ) → b < f.words * 64 → out_bit f w₁ x b ≡ true → A
  not_empty b l e = absurd (let q = empty b l in let z : ◌≡◌ {A = ℕ} 0 1 = cc in omega arith)

  module _ {w₂ : List ℕ} (J : Joins f x (λ b. Member f w₁ i j (λ u. Across f w₁ u c b)) w₁ w₂) where
    K₂ : Within (f.out + x * f.words) (f.out + x * f.words + f.words) w₀ w₂
    K₂ = within_trans K₁ J.kept

    wide₂ : Within f.out (f.out + f.n * f.words) w₀ w₂
    wide₂ = row_wide L x x_lt K₂

    pub laid₂ : Laid f w₂
    laid₂ = laid_kept L wide₂

    pub run₂ : Run f w₂ i j c
    run₂ = run_kept L wide₂ R

    -- over the edges that leave the component
    left_has : (b : ℕ) → b < f.words * 64 → Member f w₀ i j (λ u. Across f w₀ u c b) → out_bit f w₂ x b ≡ true
    left_has b l m = J.new b l (member_on L x_lt x_in K₁ i j R.last (λ u h s. across_on L x_lt x_in K₁ u b h l s) m)

    left_only : (b : ℕ) → b < f.words * 64 → out_bit f w₂ x b ≡ true → Member f w₀ i j (λ u. Across f w₀ u c b)
    left_only b l o = ⊎_elim (λ a. not_empty b l a)
        (λ m. member_as L x_lt x_in K₁ i j R.last (λ u h s. across_back L x_lt x_in K₁ u b h l s) m)
        (J.only b l o)

    -- the row of x given to the places of the component
    module _ {w₃ w₄ : List ℕ} (K₃ : Within (f.out + x * f.words) (f.out + x * f.words + f.words) w₂ w₃) (H : Shared f x i j c w₃ w₄) where
      K : Within (f.out + x * f.words) (f.out + x * f.words + f.words) w₀ w₃
      K = within_trans K₂ K₃

      wide₃ : Within f.out (f.out + f.n * f.words) w₀ w₃
      wide₃ = row_wide L x x_lt K

      visited : ((b : ℕ) → b < f.words * 64 → Source f w₀ i j c b → out_bit f w₃ x b ≡ true) → ((b : ℕ) → b < f.words * 64 → out_bit f w₃ x b ≡ true → Source f w₀ i j c b)
          → Visited f i j c w₀ w₄
      visited has only =
          let o_is : (p : ℕ) → p < j → order f w₃ p ≡ order f w₀ p = λ p h. order_kept L wide₃ p (omega (arith, R.last)) in
          let out_is : (p b : ℕ) → i ≤ p → p < j → b < f.words * 64 → out_bit f w₄ (order f w₀ p) b ≡ out_bit f w₃ x b =
          λ p b a e l. ap (λ (y : ℕ). out_bit f w₄ y b) (sym (o_is p e)) ∙ H.shared p b a e l in
          record {
            run = R;
            kept = within_trans wide₃ H.kept;
            has = λ p b a e l s. out_is p b a e l ∙ has b l s;
            only = λ p b a e l o. only b l (sym (out_is p b a e l) ∙ o);
            others = λ v b a e l. H.others v b a (λ q. e (sym (which_kept L wide₃ v a) ∙ q)) l
                ∙ other_row L x v b (λ o. e (ap (which f w₀) o ∙ x_in)) l K;
          }

    -- no edge stays in the component
    pub visit_line : {r : Bool} {w₄ : List ℕ} → Tells (Member f w₁ i j (λ u. Stays f w₁ u c)) r → r ≡ false → Shared f x i j c w₂ w₄ → Visited f i j c w₀ w₄
    visit_line {r} {w₄} T e H = visited (within_refl _ _ w₂) H
        (λ b l s. ⊎_elim (λ a. left_has b l a)
        (λ a. absurd (let q = T.so_yes (member_on L x_lt x_in K₁ i j R.last (λ u h s. stays_on L x_lt x_in K₁ u h s) a.0) in let z : ◌≡◌ {A = ℕ} 0 1 = cc in omega arith)) s)
        (λ b l o. inl (left_only b l o))

    -- an edge stays in it: its own touches come round
    pub visit_loop : {r : Bool} {w₃ w₄ : List ℕ} → Tells (Member f w₁ i j (λ u. Stays f w₁ u c)) r → r ≡ true
        → Joins f x (λ b. Member f w₂ i j (λ u. touched_bit f w₂ u b ≡ true)) w₂ w₃ → Shared f x i j c w₃ w₄ → Visited f i j c w₀ w₄
    visit_loop {r} {w₃} {w₄} T e M H =
        let loops : Member f w₀ i j (λ u. Stays f w₀ u c) = member_as L x_lt x_in K₁ i j R.last (λ u h s. stays_back L x_lt x_in K₁ u h s) (T.yes_so e) in
        visited M.kept H
        (λ b l s. ⊎_elim (λ a. M.old b l (left_has b l a))
        (λ a. M.new b l (member_on L x_lt x_in K₂ {P = λ u. touched_bit f w₀ u b ≡ true} {Q = λ u. touched_bit f w₂ u b ≡ true} i j R.last (λ u h o. touched_kept L wide₂ u b h l ∙ o) a.1)) s)
        (λ b l o. ⊎_elim (λ a. inl (left_only b l a))
        (λ a. inr (loops, member_as L x_lt x_in K₂ {P = λ u. touched_bit f w₂ u b ≡ true} {Q = λ u. touched_bit f w₀ u b ≡ true} i j R.last (λ u h o. sym (touched_kept L wide₂ u b h l) ∙ o) a))
        (M.only b l o))

    pub run_loop : {w₃ : List ℕ} → Joins f x (λ b. Member f w₂ i j (λ u. touched_bit f w₂ u b ≡ true)) w₂ w₃ → Laid f w₃ × Run f w₃ i j c
    run_loop M = let k = row_wide L x x_lt (within_trans K₂ M.kept) in (laid_kept L k, run_kept L k R)

-- the component that is visited, by where the order stands
module _ (f : Flow) (w : List ℕ) {o : ℕ} (e : o ≡ order_from f) (i : ℕ) where
  pub number : which f w (order f w i) ≡ which f w (get_or w (o + i) 0)
  number = ap (which f w) (sym (here f w e i))

  pub visited_from : {j : ℕ} {w' : List ℕ} → Visited f i j (which f w (get_or w (o + i) 0)) w w' → Visited f i j (which f w (order f w i)) w w'
  visited_from {j} {w'} v = subst (λ (c : ℕ). Visited f i j c w w') (sym number) v
