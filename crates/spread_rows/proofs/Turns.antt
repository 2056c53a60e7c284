-- Laws of `begin` and `spread`: what waits, what is closed under the edges, and that the rows are exactly what arrives.
use Prim.Native.Nat.{ℕ, suc, ◌+◌, ◌-◌, ◌*◌, ◌/◌, ◌%◌, ◌≤◌, ◌<◌}
use mathlib.Core.Path.{◌≡◌, refl, sym, ap, ◌∙◌, subst}
use mathlib.Core.Logic.{◌≢◌, inl, inr, ⊎_elim}
use mathlib.Core.Bool.{Bool, true, false}
use mathlib.Core.List.{List}
use native.Mathlib.Nat.{mul-le-mul_right}
use native.Mathlib.Omega.{arith}
use lib.ListN.{length, get_or}
use borrow.Author.Tests.{eq-eqb}
use Rattle.bits.specs.Bits.{bit, bit_of}
use Rattle.bits.specs.Inner.{PutBit, FirstSet}
use Rattle.words.specs.Inner.{Region}
use Rattle.words.proofs.Points.{cut, same}
use Rattle.words.proofs.RegionLaws.{row_before}
use Rattle.bits.proofs.DigitLaws.{bit_zero}
use Rattle.graph.specs.Paths.{Edge, Between}
use Rattle.graph.specs.Flow.{Arrives, left, passed}
use Rattle.graph.specs.Inner.Work.{Within, EdgeRows, one}
use Rattle.graph.proofs.Within.{within_refl, within_trans, within_wider, region_within}
use Rattle.words.proofs.Bools.{not_both}
use Rattle.graph.proofs.Sums.{one_most}
use Rattle.spread_rows.specs.declared.Layout.{Layout}
use Rattle.spread_rows.specs.Inner.{begins, ends, target, order_at, rank_of, out_of, leave_bit, pass_bit, out_bit, waits, Laid, Sends, Sound, missing, waiting, Pushed, Begun, Arrived}
use Rattle.spread_rows.proofs.Sums.{sum_lt, sum_most, one_le, one_lt}
use Rattle.spread_rows.proofs.Kept.{begins_kept, ends_kept, target_kept, order_kept, rank_kept, leave_kept, pass_kept, laid_kept, rank_in, out_kept, word_within, rows_kept}
use Rattle.spread_rows.proofs.Pushes.{put_set, put_other, put_keeps, missing_le}

put_off : {w₀ w : List ℕ} {base b : ℕ} → PutBit w₀ w base b false → bit w base b ≡ false
put_off {w₀} {w} {base} {b} p = p.bits b ∙ rw (eq-eqb b b refl) refl

-- the same bits at the places: the same arrivals
pub arrives_as : {n : ℕ} (es : List Edge) {leaves passes leaves' passes' : ℕ → Bool} → Between n es → ((k : ℕ) → k < n → leaves k ≡ leaves' k) → ((k : ℕ) → k < n → passes k ≡ passes' k)
    → {v : ℕ} → Arrives es leaves passes v → Arrives es leaves' passes' v
arrives_as es E f g (left {j} e o) = left e (sym (f j (E.from _ e)) ∙ o)
arrives_as es E f g (passed {j} e r o) = passed e (arrives_as es E f g r) (sym (g j (E.from _ e)) ∙ o)

-- ---- begin: the first r ranks wait, the others not, and nothing has arrived

pub record Beginning (n wait words : ℕ) (w₀ w : List ℕ) (r : ℕ) : Type 0 where
  pub r_le : r ≤ n
  pub kept : Within wait (wait + (n / 64 + 1) + n * words) w₀ w
  pub fits : wait + (n / 64 + 1) + n * words ≤ length w₀
  pub zeros : (i : ℕ) → wait + (n / 64 + 1) ≤ i → i < wait + (n / 64 + 1) + n * words → get_or w i 0 ≡ 0
  pub set : (q : ℕ) → q < r → bit w wait q ≡ true
  pub unset : (q : ℕ) → r ≤ q → q < (n / 64 + 1) * 64 → bit w wait q ≡ false

pub begin_start : (n wait words : ℕ) (w₀ w : List ℕ) → wait + (n / 64 + 1) + n * words ≤ length w₀ → Region w₀ w wait (n / 64 + 1 + n * words) (λ _. 0) → Beginning n wait words w w 0
begin_start n wait words w₀ w h R = record {
  r_le = omega arith;
  kept = within_refl _ _ w;
  fits = omega (arith, R.len);
  zeros = λ i a b. let e : wait + (i - wait) ≡ i = omega arith in R.inside i (i - wait) (sym e) (omega arith);
  set = λ q a. absurd (omega arith);
  unset = λ q a b. ap (λ (y : ℕ). bit_of y (q % 64)) (R.inside (wait + q / 64) (q / 64) refl (omega arith)) ∙ bit_zero (q % 64);
}

pub begin_more : {n wait words : ℕ} {w₀ w w' : List ℕ} {r : ℕ} → Beginning n wait words w₀ w r → r < n → PutBit w w' wait r true → Beginning n wait words w₀ w' (r + 1)
begin_more {n} {wait} {words} {w₀} {w} {w'} {r} t h P = record {
  r_le = omega arith;
  kept = within_trans t.kept (record { len = P.len; below = λ i l. P.rest i (λ e. absurd (omega arith)); past = λ i l. P.rest i (λ e. absurd (omega arith)) });
  fits = t.fits;
  zeros = λ i a b. P.rest i (λ e. absurd (omega arith)) ∙ t.zeros i a b;
  set = λ q a. put_keeps_or q a;
  unset = λ q a b. put_other P q (omega arith) ∙ t.unset q (omega arith) b;
}
  where
    put_keeps_or : (q : ℕ) → q < r + 1 → bit w' wait q ≡ true
    put_keeps_or q a = same q r (λ e. rw e (put_set P)) (λ e. put_keeps P q (t.set q (omega arith)))

pub begin_done : {s : Layout} {w₀ w₁ w : List ℕ} {r : ℕ} → Region w₀ w₁ s.wait (s.n / 64 + 1 + s.n * s.words) (λ _. 0) → Beginning s.n s.wait s.words w₁ w r → s.n ≤ r → Begun s w₀ w
begin_done {s} {w₀} {w₁} {w} {r} R t h = record {
  kept = within_trans (within_wider s.wait _ (omega arith) (omega arith) (region_within R)) t.kept;
  none = λ v b a l. ap (λ (y : ℕ). bit_of y (b % 64)) (t.zeros (out_of s + v * s.words + b / 64) (omega arith) (omega (arith, row_before v s.n s.words a))) ∙ bit_zero (b % 64);
  all = λ q a. t.set q (omega arith);
  ranks = λ q a o. cut s.n q (λ l. not_both o (t.unset q (omega (arith, t.r_le)) a)) (λ l. l);
}

-- ---- spread

pub record Spreading (s : Layout) (w₀ w : List ℕ) : Type 0 where
  pub laid : Laid s w₀
  pub kept : Within s.wait (out_of s + s.n * s.words) w₀ w
  pub ranks : (r : ℕ) → r < (s.n / 64 + 1) * 64 → waits s w r ≡ true → r < s.n
  pub closed : (u : ℕ) → u < s.n → waits s w (rank_of s w₀ u) ≡ false → (k b : ℕ) → begins s w₀ u ≤ k → k < ends s w₀ u → b < s.words * 64 → Sends s w u b → out_bit s w (target s w₀ k) b ≡ true
  pub sound : (es : List Edge) → Between s.n es → EdgeRows es s.n s.at w₀ → Sound es s w₀ w

pub spread_start : (s : Layout) (w₀ w : List ℕ) → Laid s w₀ → Begun s w₀ w → Spreading s w w
spread_start s w₀ w L B = let L₁ = laid_kept L B.kept in record {
  laid = L₁;
  kept = within_refl _ _ w;
  ranks = B.ranks;
  closed = λ u a o. not_both (B.all (rank_of s w u) (L₁.ranked u a)) o;
  sound = λ es E R v b a l o. not_both o (B.none v b a l);
}

pub spread_laid : {s : Layout} {w₀ w : List ℕ} → Spreading s w₀ w → Laid s w
spread_laid t = laid_kept t.laid t.kept

module _ {s : Layout} {w₀ w w₁ : List ℕ} {r : ℕ} (t : Spreading s w₀ w) (F : FirstSet w s.wait (s.n / 64 + 1) 0 r) (h : r < s.n)
    (P : PutBit w w₁ s.wait r false) where
  K₁ : Within s.wait (out_of s + s.n * s.words) w w₁
  K₁ = word_within s w w₁ r h P.len P.rest

  all₁ : Within s.wait (out_of s + s.n * s.words) w₀ w₁
  all₁ = within_trans t.kept K₁

  pub laid₁ : Laid s w₁
  laid₁ = laid_kept t.laid all₁

  order_is : order_at s w₁ r ≡ order_at s w₀ r
  order_is = order_kept t.laid all₁ r h

  pub node : order_at s w₁ r < s.n
  node = laid₁.placed r h

  out₁ : (v b : ℕ) → b < s.words * 64 → out_bit s w₁ v b ≡ out_bit s w v b
  out₁ = out_kept s w w₁ r h P.rest

  was_waiting : waits s w r ≡ true
  was_waiting = F.set (rank_in s.n r h)

  module _ {w₂ : List ℕ} (Q : Pushed s (order_at s w₁ r) w₁ w₂) where
    K₂ : Within s.wait (out_of s + s.n * s.words) w₀ w₂
    K₂ = within_trans all₁ Q.kept

    rank_same : (v : ℕ) → v < s.n → rank_of s w₁ v ≡ rank_of s w₀ v
    rank_same = rank_kept t.laid all₁

    grow : (v b : ℕ) → v < s.n → b < s.words * 64 → out_bit s w v b ≡ true → out_bit s w₂ v b ≡ true
    grow v b a l o = Q.grows v b a l (out₁ v b l ∙ o)

    -- a place that does not wait has the row that it had
    row_same : (u : ℕ) → u < s.n → waits s w₂ (rank_of s w₀ u) ≡ false → (b : ℕ) → b < s.words * 64 → out_bit s w₂ u b ≡ out_bit s w u b
    row_same u a o b l = ⊎_elim
        (λ q. not_both (ap (waits s w₂) (sym (rank_same u a)) ∙ q) o)
        (λ q. q b l ∙ out₁ u b l)
        (Q.queued u a)

    -- what it sends
    sends_to : (u : ℕ) → u < s.n → waits s w₂ (rank_of s w₀ u) ≡ false → (b : ℕ) → b < s.words * 64 → Sends s w₂ u b → Sends s w u b
    sends_to u a o b l p = ⊎_elim
        (λ q. inl (sym (row_same u a o b l) ∙ q.0, pass_kept t.laid t.kept u b a l ∙ sym (pass_kept t.laid K₂ u b a l) ∙ q.1))
        (λ q. inr (leave_kept t.laid t.kept u b a l ∙ sym (leave_kept t.laid K₂ u b a l) ∙ q)) p

    sends_one : (u b : ℕ) → u < s.n → b < s.words * 64 → Sends s w u b → Sends s w₁ u b
    sends_one u b a l p = ⊎_elim
        (λ q. inl (out₁ u b l ∙ q.0, pass_kept t.laid all₁ u b a l ∙ sym (pass_kept t.laid t.kept u b a l) ∙ q.1))
        (λ q. inr (leave_kept t.laid all₁ u b a l ∙ sym (leave_kept t.laid t.kept u b a l) ∙ q)) p

    closed' : (u : ℕ) → u < s.n → waits s w₂ (rank_of s w₀ u) ≡ false → (k b : ℕ) → begins s w₀ u ≤ k → k < ends s w₀ u → b < s.words * 64 → Sends s w₂ u b → out_bit s w₂ (target s w₀ k) b ≡ true
    closed' u a o k b lo hi l p = same u (order_at s w₁ r)
        (λ e. let lo' : begins s w₁ (order_at s w₁ r) ≤ k = rw (← e) (omega (arith, begins_kept t.laid all₁ u a)) in
        let hi' : k < ends s w₁ (order_at s w₁ r) = rw (← e) (omega (arith, ends_kept t.laid all₁ u a)) in
        ap (λ (y : ℕ). out_bit s w₂ y b) (sym (target_kept t.laid all₁ u k a hi))
        ∙ Q.sent k b lo' hi' l (subst (λ (y : ℕ). Sends s w₁ y b) e (sends_one u b a l (sends_to u a o b l p))))
        (λ e. let ne : rank_of s w₀ u ≢ r = λ q. e (sym (t.laid.order_of_lem u a) ∙ ap (order_at s w₀) q ∙ sym order_is) in
        grow (target s w₀ k) b (t.laid.nodes u k a lo hi) l
        (t.closed u a (not-waiting (rank_of s w₀ u) (t.laid.ranked u a) ne o) k b lo hi l (sends_to u a o b l p)))
      where
        -- it did not wait before, or it would still
        not-waiting : (q : ℕ) → q < s.n → q ≢ r → waits s w₂ q ≡ false → waits s w q ≡ false
        not-waiting q x ne z = go (waits s w q) refl
          where
            go : (y : Bool) → waits s w q ≡ y → waits s w q ≡ false
            go true e = not_both (Q.still q x (put_other P q ne ∙ e)) z
            go false e = e

    pub spread_more : Spreading s w₀ w₂
    spread_more = record {
      laid = t.laid;
      kept = K₂;
      ranks = Q.ranks (λ q a o. same q r (λ e. omega arith) (λ e. t.ranks q a (sym (put_other P q e) ∙ o)));
      closed = closed';
      sound = λ es E R v b a l o. arrives_as es E
          (λ k c. leave_kept t.laid all₁ k b c l) (λ k c. pass_kept t.laid all₁ k b c l)
          (Q.sound es (rows_kept t.laid all₁ es E R) (sound₁ es E R) v b a l o);
    }
      where
        -- what had arrived before, read by the rows of then
        sound₁ : (es : List Edge) → Between s.n es → EdgeRows es s.n s.at w₀ → Sound es s w₁ w₁
        sound₁ es E R v b a l o = arrives_as es E
            (λ k c. sym (leave_kept t.laid all₁ k b c l)) (λ k c. sym (pass_kept t.laid all₁ k b c l))
            (t.sound es E R v b a l (sym (out₁ v b l) ∙ o))

    -- ---- it ends: a row gains a bit, or one rank fewer waits

    waiting_falls : suc (waiting s w₁) ≤ waiting s w
    waiting_falls = sum_lt (λ q. one (waits s w₁ q)) (λ q. one (waits s w q)) s.n r
        (λ q a. one_le (waits s w₁ q) (waits s w q) (λ o. same q r (λ e. rw e was_waiting) (λ e. sym (put_other P q e) ∙ o)))
        h
        (one_lt (waits s w₁ r) (waits s w r) (put_off P) was_waiting)

    missing₁ : missing s w₁ ≤ missing s w
    missing₁ = missing_le s w w₁ (λ v b a l o. out₁ v b l ∙ o)

    pub spread_falls : missing s w₂ * (s.n + 1) + waiting s w₂ < missing s w * (s.n + 1) + waiting s w
    spread_falls = ⊎_elim
        (λ a. let m : suc (missing s w₂) ≤ missing s w = omega (arith, missing₁) in
        omega (arith, mul-le-mul_right (s.n + 1) m, sum_most (λ q. one (waits s w₂ q)) s.n (λ q _. one_most (waits s w₂ q))))
        (λ a. rw a (omega (arith, waiting_falls, mul-le-mul_right (s.n + 1) missing₁)))
        Q.falls

-- ---- nothing waits: the rows are what arrives

pub spread_done : {s : Layout} {w₀ w : List ℕ} {r : ℕ} → Spreading s w₀ w → FirstSet w s.wait (s.n / 64 + 1) 0 r → s.n ≤ r → Arrived s w₀ w
spread_done {s} {w₀} {w} {r} t F h = record {
  kept = t.kept;
  bits = λ es E R v b a l. (t.sound es E R v b a l, whole es E R b l v);
}
  where
    quiet : (q : ℕ) → q < s.n → waits s w q ≡ false
    quiet q a = F.least q (omega arith) (omega arith)

    whole : (es : List Edge) → Between s.n es → EdgeRows es s.n s.at w₀ → (b : ℕ) → b < s.words * 64 → (v : ℕ)
        → Arrives es (λ k. leave_bit s w₀ k b) (λ k. pass_bit s w₀ k b) v → out_bit s w v b ≡ true
    whole es E R b l v (left {j} {k} e o) =
        let a = E.from _ e in
        let p = R.has j k e in
        ap (λ (y : ℕ). out_bit s w y b) (sym p.3) ∙ t.closed j a (quiet (rank_of s w₀ j) (t.laid.ranked j a)) p.0 b p.1 p.2 l (inr (leave_kept t.laid t.kept j b a l ∙ o))
    whole es E R b l v (passed {j} {k} e r o) =
        let a = E.from _ e in
        let p = R.has j k e in
        ap (λ (y : ℕ). out_bit s w y b) (sym p.3)
        ∙ t.closed j a (quiet (rank_of s w₀ j) (t.laid.ranked j a)) p.0 b p.1 p.2 l (inl (whole es E R b l j r, pass_kept t.laid t.kept j b a l ∙ o))

-- the same, read by the list from before `begin`
pub arrived_from : {s : Layout} {w₀ w₁ w : List ℕ} → Laid s w₀ → Begun s w₀ w₁ → Arrived s w₁ w → Arrived s w₀ w
arrived_from {s} {w₀} {w₁} {w} L B A = record {
  kept = within_trans B.kept A.kept;
  bits = λ es E R v b a l.
      let r = A.bits es E (rows_kept L B.kept es E R) v b a l in (
        (λ o. arrives_as es E (λ k c. leave_kept L B.kept k b c l) (λ k c. pass_kept L B.kept k b c l) (r.0 o)),
        (λ o. r.1 (arrives_as es E (λ k c. sym (leave_kept L B.kept k b c l)) (λ k c. sym (pass_kept L B.kept k b c l)) o)),
      );
}
