-- Laws of `push`: the edges of one place, one after the other.
use Prim.Native.Nat.{ℕ, ◌+◌, ◌*◌, ◌/◌, ◌≤◌, ◌<◌}
use mathlib.Core.Path.{◌≡◌, refl, sym, ap, ◌∙◌, subst}
use mathlib.Core.Logic.{◌≢◌, ◌⊎◌, inl, inr, ⊎_elim}
use mathlib.Core.Bool.{Bool, true, false, ◌||◌, ◌&&◌}
use mathlib.Core.List.{List}
use native.Mathlib.Omega.{arith}
use borrow.Author.Tests.{eq-eqb, ne_eqb}
use Rattle.words.proofs.Points.{same}
use Rattle.words.proofs.Bools.{and_pair, or_right, and_both, or_left, or_cases}
use Rattle.bits.specs.Bits.{bit}
use Rattle.bits.specs.Inner.{Grown, PutBit}
use Rattle.graph.specs.Paths.{Edge, Link}
use Rattle.graph.specs.Flow.{Arrives, left, passed}
use Rattle.graph.specs.Inner.Work.{Within, EdgeRows}
use Rattle.graph.proofs.Within.{within_refl, within_trans}
use Rattle.spread_rows.specs.declared.Layout.{Layout}
use Rattle.spread_rows.specs.Inner.{begins, ends, target, rank_of, out_of, leave_bit, pass_bit, out_bit, waits, Laid, Sends, Sound, missing, Pushed}
use Rattle.spread_rows.proofs.Sums.{sum_le, sum_lt, not_le, not_lt}
use Rattle.spread_rows.proofs.Kept.{target_kept, rank_kept, leave_kept, pass_kept, laid_kept, row_wide, other_row, waits_kept, rank_in, out_kept, word_within}

-- ---- tests

pub put_set : {w₀ w : List ℕ} {base b : ℕ} → PutBit w₀ w base b true → bit w base b ≡ true
put_set {w₀} {w} {base} {b} p = p.bits b ∙ rw (eq-eqb b b refl) refl

pub put_other : {w₀ w : List ℕ} {base b : ℕ} {v : Bool} → PutBit w₀ w base b v → (c : ℕ) → c ≢ b → bit w base c ≡ bit w₀ base c
put_other {w₀} {w} {base} {b} p c ne = p.bits c ∙ rw (ne_eqb c b ne) refl

pub put_keeps : {w₀ w : List ℕ} {base b : ℕ} → PutBit w₀ w base b true → (c : ℕ) → bit w₀ base c ≡ true → bit w base c ≡ true
put_keeps {b = b} p c e = same c b (λ q. rw q (put_set p)) (λ q. put_other p c q ∙ e)

-- ---- what is missing falls

pub missing_le : (s : Layout) (w₀ w : List ℕ) → ((v b : ℕ) → v < s.n → b < s.words * 64 → out_bit s w₀ v b ≡ true → out_bit s w v b ≡ true) → missing s w ≤ missing s w₀
missing_le s w₀ w g = sum_le _ _ s.n (λ v h. sum_le _ _ (s.words * 64) (λ b l. not_le (out_bit s w₀ v b) (out_bit s w v b) (g v b h l)))

pub missing_lt : (s : Layout) (w₀ w : List ℕ) → ((v b : ℕ) → v < s.n → b < s.words * 64 → out_bit s w₀ v b ≡ true → out_bit s w v b ≡ true)
    → (v b : ℕ) → v < s.n → b < s.words * 64 → out_bit s w₀ v b ≡ false → out_bit s w v b ≡ true → missing s w < missing s w₀
missing_lt s w₀ w g v b h l e f =
    sum_lt _ _ s.n v (λ x k. sum_le _ _ (s.words * 64) (λ c m. not_le (out_bit s w₀ x c) (out_bit s w x c) (g x c k m))) h
    (sum_lt _ _ (s.words * 64) b (λ c m. not_le (out_bit s w₀ v c) (out_bit s w v c) (g v c h m)) l (not_lt (out_bit s w₀ v b) (out_bit s w v b) e f))

-- ---- one row

-- what row_pass makes of the row of v, sent by u
abbrev pub Passed : Layout → ℕ → ℕ → List ℕ → List ℕ → Bool → Type 0
Passed s u v w w' r = Grown w w' (out_of s + v * s.words) s.words
    (λ c. bit w (out_of s + v * s.words) c || (bit w (out_of s + u * s.words) c && bit w (s.passes + u * s.words) c || bit w (s.leaves + u * s.words) c)) r

module _ (s : Layout) (u v : ℕ) {w w' : List ℕ} {r : Bool} (G : Passed s u v w w' r) where
  row_kept : Within (out_of s + v * s.words) (out_of s + v * s.words + s.words) w w'
  row_kept = record { len = G.row.len; below = G.row.before; past = G.row.after }

  pub row_grows : (x b : ℕ) → b < s.words * 64 → out_bit s w x b ≡ true → out_bit s w' x b ≡ true
  row_grows x b l o = same x v
      (λ e. rw e (G.row.bits b l ∙ or_left (out_bit s w v b) _ (rw e at o)))
      (λ e. other_row s w w' v x b e l row_kept ∙ o)

  pub row_sent : (b : ℕ) → b < s.words * 64 → Sends s w u b → out_bit s w' v b ≡ true
  row_sent b l t = G.row.bits b l ∙ or_right (out_bit s w v b) _ (⊎_elim
      (λ p. or_left (out_bit s w u b && pass_bit s w u b) (leave_bit s w u b) (and_pair (out_bit s w u b) (pass_bit s w u b) p.0 p.1))
      (λ p. or_right (out_bit s w u b && pass_bit s w u b) (leave_bit s w u b) p)
      t)

  pub row_only : (b : ℕ) → b < s.words * 64 → out_bit s w' v b ≡ true → (out_bit s w v b ≡ true) ⊎ Sends s w u b
  row_only b l o = ⊎_elim (λ p. inl p)
      (λ p. inr (⊎_elim (λ q. inl (and_both (out_bit s w u b) (pass_bit s w u b) q)) (λ q. inr q) (or_cases (out_bit s w u b && pass_bit s w u b) (leave_bit s w u b) p)))
      (or_cases (out_bit s w v b) _ (sym (G.row.bits b l) ∙ o))

  pub row_other : (x b : ℕ) → x ≢ v → b < s.words * 64 → out_bit s w' x b ≡ out_bit s w x b
  row_other x b ne l = other_row s w w' v x b ne l row_kept

  pub row_waits : (q : ℕ) → q < (s.n / 64 + 1) * 64 → waits s w' q ≡ waits s w q
  row_waits q l = waits_kept s w w' v q l row_kept

  pub row_within : v < s.n → Within s.wait (out_of s + s.n * s.words) w w'
  row_within h = row_wide s v h row_kept

-- ---- a turn

pub record Pushing (s : Layout) (u : ℕ) (w₀ w : List ℕ) (k : ℕ) : Type 0 where
  pub laid : Laid s w₀
  pub u_lt : u < s.n
  pub from : begins s w₀ u ≤ k
  pub to : k ≤ ends s w₀ u
  pub kept : Within s.wait (out_of s + s.n * s.words) w₀ w
  pub grows : (v b : ℕ) → v < s.n → b < s.words * 64 → out_bit s w₀ v b ≡ true → out_bit s w v b ≡ true
  pub sent : (j b : ℕ) → begins s w₀ u ≤ j → j < k → b < s.words * 64 → Sends s w₀ u b → out_bit s w (target s w₀ j) b ≡ true
  pub sound : (es : List Edge) → EdgeRows es s.n s.at w₀ → Sound es s w₀ w₀ → Sound es s w₀ w
  pub queued : (v : ℕ) → v < s.n → (waits s w (rank_of s w₀ v) ≡ true) ⊎ ((b : ℕ) → b < s.words * 64 → out_bit s w v b ≡ out_bit s w₀ v b)
  pub still : (r : ℕ) → r < s.n → waits s w₀ r ≡ true → waits s w r ≡ true
  pub ranks : ((r : ℕ) → r < (s.n / 64 + 1) * 64 → waits s w₀ r ≡ true → r < s.n) → (r : ℕ) → r < (s.n / 64 + 1) * 64 → waits s w r ≡ true → r < s.n
  pub falls : (missing s w < missing s w₀) ⊎ (w ≡ w₀)

pub push_start : (s : Layout) (u : ℕ) (w : List ℕ) → Laid s w → u < s.n → Pushing s u w w (begins s w u)
push_start s u w L h = record {
  laid = L;
  u_lt = h;
  from = omega arith;
  to = L.rising u h;
  kept = within_refl _ _ w;
  grows = λ v b a l o. o;
  sent = λ j b a d l. absurd (omega arith);
  sound = λ es R S. S;
  queued = λ v a. inr (λ b l. refl);
  still = λ r a o. o;
  ranks = λ f. f;
  falls = inr refl;
}

module _ {s : Layout} {u : ℕ} {w₀ w : List ℕ} {k : ℕ} (t : Pushing s u w₀ w k) (h : k < ends s w₀ u) where
  pub push_laid : Laid s w
  push_laid = laid_kept t.laid t.kept

  pub target_is : target s w k ≡ target s w₀ k
  target_is = target_kept t.laid t.kept u k t.u_lt h

  pub target_lt : target s w k < s.n
  target_lt = omega (arith, target_is, t.laid.nodes u k t.u_lt t.from h)

  pub rank_is : rank_of s w (target s w k) ≡ rank_of s w₀ (target s w k)
  rank_is = rank_kept t.laid t.kept (target s w k) target_lt

  -- after the row of the edge's end, a rank is read
  pub push_rank : {w₁ : List ℕ} {r : Bool} → Passed s u (target s w k) w w₁ r → (x : ℕ) → x < s.n → rank_of s w₁ x < s.n
  push_rank G x l =
      let K₁ = within_trans t.kept (row_within s u (target s w k) G target_lt) in
      omega (arith, rank_kept t.laid K₁ x l, t.laid.ranked x l)

  -- what u sends has not become less
  sends_on : (b : ℕ) → b < s.words * 64 → Sends s w₀ u b → Sends s w u b
  sends_on b l p = ⊎_elim
      (λ q. inl (t.grows u b t.u_lt l q.0, pass_kept t.laid t.kept u b t.u_lt l ∙ q.1))
      (λ q. inr (leave_kept t.laid t.kept u b t.u_lt l ∙ q)) p

  -- no bit is new
  pub push_same : {w' : List ℕ} → Passed s u (target s w k) w w' false → Pushing s u w₀ w' (k + 1)
  push_same {w'} G =
      let e : w' ≡ w = G.none refl in
      subst (λ (y : List ℕ). Pushing s u w₀ y (k + 1)) (sym e) (record {
        laid = t.laid;
        u_lt = t.u_lt;
        from = omega (arith, t.from);
        to = omega arith;
        kept = t.kept;
        grows = t.grows;
        sent = λ j b a d l p. same j k
            (λ q. ap (λ (y : ℕ). out_bit s w y b) (ap (target s w₀) q ∙ sym target_is) ∙ ap (λ (y : List ℕ). out_bit s y (target s w k) b) (sym e) ∙ row_sent s u (target s w k) G b l (sends_on b l p))
            (λ q. t.sent j b a (omega arith) l p);
        sound = t.sound;
        queued = t.queued;
        still = t.still;
        ranks = t.ranks;
        falls = t.falls;
      })

  -- the row grew, and its rank waits
  pub push_grew : {w₁ w' : List ℕ} → Passed s u (target s w k) w w₁ true → PutBit w₁ w' s.wait (rank_of s w₁ (target s w k)) true → Pushing s u w₀ w' (k + 1)
  push_grew {w₁} {w'} G P =
      let v = target s w k in
      let K₁ = within_trans t.kept (row_within s u (target s w k) G target_lt) in
      let rank-v : rank_of s w₁ v ≡ rank_of s w₀ v = rank_kept t.laid K₁ v target_lt in
      let rank_lt : rank_of s w₁ v < s.n = omega (arith, rank-v, t.laid.ranked v target_lt) in
      let out_is : (x b : ℕ) → b < s.words * 64 → out_bit s w' x b ≡ out_bit s w₁ x b = λ x b l. out_kept s w₁ w' (rank_of s w₁ v) rank_lt P.rest x b l in
      let grow : (x b : ℕ) → x < s.n → b < s.words * 64 → out_bit s w x b ≡ true → out_bit s w' x b ≡ true = λ x b _ l o. out_is x b l ∙ row_grows s u (target s w k) G x b l o in
      record {
        laid = t.laid;
        u_lt = t.u_lt;
        from = omega (arith, t.from);
        to = omega arith;
        kept = within_trans K₁ (word_within s w₁ w' (rank_of s w₁ v) rank_lt P.len P.rest);
        grows = λ x b a l o. grow x b a l (t.grows x b a l o);
        sent = λ j b a d l p. same j k
            (λ q. ap (λ (y : ℕ). out_bit s w' y b) (ap (target s w₀) q ∙ sym target_is) ∙ out_is v b l ∙ row_sent s u (target s w k) G b l (sends_on b l p))
            (λ q. grow (target s w₀ j) b (t.laid.nodes u j t.u_lt a (omega arith)) l (t.sent j b a (omega arith) l p));
        sound = λ es R S x b a l o. same x v
            (λ q. arrives es R (t.sound es R S) b l x q (row_only s u (target s w k) G b l (sym (out_is v b l) ∙ ap (λ (y : ℕ). out_bit s w' y b) (sym q) ∙ o)))
            (λ q. t.sound es R S x b a l (sym (row_other s u (target s w k) G x b q l) ∙ sym (out_is x b l) ∙ o));
        queued = λ x a. same x v
            (λ q. inl (ap (λ (y : ℕ). waits s w' y) (ap (rank_of s w₀) q ∙ sym rank-v) ∙ put_set P))
            (λ q. ⊎_elim
            (λ o. inl (put_keeps P (rank_of s w₀ x) (row_waits s u (target s w k) G (rank_of s w₀ x) (rank_in s.n _ (t.laid.ranked x a)) ∙ o)))
            (λ o. inr (λ b l. out_is x b l ∙ row_other s u (target s w k) G x b q l ∙ o b l))
            (t.queued x a));
        still = λ r a o. put_keeps P r (row_waits s u (target s w k) G r (rank_in s.n r a) ∙ t.still r a o);
        ranks = λ f r a o. same r (rank_of s w₁ v)
            (λ q. omega arith)
            (λ q. t.ranks f r a (sym (row_waits s u (target s w k) G r a) ∙ sym (put_other P r q) ∙ o));
        falls = inl (let g = G.some refl in
            let m = missing_lt s w w' grow v g.0 target_lt g.1 g.2 (out_is v g.0 g.1 ∙ g.3) in
            let n = missing_le s w₀ w t.grows in
            omega arith);
      }
    where
      arrives : (es : List Edge) → EdgeRows es s.n s.at w₀ → Sound es s w₀ w → (b : ℕ) → b < s.words * 64 → (x : ℕ) → x ≡ target s w k
          → (out_bit s w (target s w k) b ≡ true) ⊎ Sends s w u b → Arrives es (λ y. leave_bit s w₀ y b) (λ y. pass_bit s w₀ y b) x
      arrives es R S b l x q c = subst (λ (y : ℕ). Arrives es (λ z. leave_bit s w₀ z b) (λ z. pass_bit s w₀ z b) y) (sym q) (⊎_elim
          (λ o. S (target s w k) b target_lt l o)
          (λ p. let e : Link es u (target s w k) = subst (λ (y : ℕ). Link es u y) (sym target_is) (R.only u k t.u_lt t.from h) in
          ⊎_elim
          (λ o. passed e (S u b t.u_lt l o.0) (sym (pass_kept t.laid t.kept u b t.u_lt l) ∙ o.1))
          (λ o. left e (sym (leave_kept t.laid t.kept u b t.u_lt l) ∙ o))
          p)
          c)

pub push_done : {s : Layout} {u : ℕ} {w₀ w : List ℕ} {k : ℕ} → Pushing s u w₀ w k → ends s w₀ u ≤ k → Pushed s u w₀ w
push_done t h = record {
  kept = t.kept;
  grows = t.grows;
  sent = λ j b a d l p. t.sent j b a (omega arith) l p;
  sound = t.sound;
  queued = t.queued;
  still = t.still;
  ranks = t.ranks;
  falls = t.falls;
}
