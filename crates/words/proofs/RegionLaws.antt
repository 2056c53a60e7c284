-- Laws of regions: a loop that fills one, one after another, and what a store into one leaves of the others.
use mathlib.Core.Path.{◌≡◌, refl, sym, ap, ◌∙◌, subst}
use mathlib.Core.Logic.{◌⊎◌, ⊎_elim}
use mathlib.Core.List.{List, ◌++◌, append_assoc, [], ◌∷◌}
use Prim.Native.Nat.{ℕ, ◌+◌, ◌-◌, ◌*◌, ◌≤◌, ◌<◌, suc}
use native.Mathlib.Nat.{mul-le-mul_right}
use native.Mathlib.Omega.{arith}
use lib.ListN.{length, take, drop, get_or, set, length-set, length-append, length-drop, get_or-append}
use lib.Seq.{ext_get_or, get_or-take, get_or-drop, get_or-append-add, length-take-le, drop-cons, set_at}
use native.Mathlib.Numerals.{add-one}
use Rattle.words.specs.Rows.{tabulate}
use Rattle.words.specs.Inner.{Region, part, Kept, Disjoint, below, above}
use Rattle.words.specs.Regions.{cleared}
use Rattle.words.proofs.Points.{cut, stored}
use Rattle.words.proofs.RowLaws.{length_tabulate, get_d_tabulate, tabulate_replicate}

-- ---- a loop over a region in order: k of its n places are done
pub record Done (w₀ w : List ℕ) (at n : ℕ) (f : ℕ → ℕ) (k : ℕ) : Type 0 where
  pub room : at + n ≤ length w₀
  pub k_le : k ≤ n
  pub now_is : Region w₀ w at k f

pub done_start : (w₀ : List ℕ) (at n : ℕ) (f : ℕ → ℕ) → at + n ≤ length w₀ → Done w₀ w₀ at n f 0
done_start w₀ at n f h = record {
  room = h;
  k_le = omega arith;
  now_is = record { len = refl; inside = λ x i e l. absurd (omega arith); before = λ i l. refl; after = λ i l. refl };
}

module _ {w₀ w : List ℕ} {at n : ℕ} {f : ℕ → ℕ} {k : ℕ} (d : Done w₀ w at n f k) where
  pub done_more : (x v : ℕ) → k < n → x ≡ at + k → v ≡ f k → Done w₀ (set w x v) at n f (k + 1)
  done_more x v h ex ev = record {
    room = d.room;
    k_le = omega arith;
    now_is = record {
      len = simp length-set d.now_is.len;
      inside = λ j i q l. stored (λ y. y ≡ f i) w x v j (omega arith) (λ e. let z : k ≡ i = omega arith in ev ∙ ap f z) (λ e. d.now_is.inside j i q (omega arith));
      before = λ i l. stored (λ y. y ≡ get_or w₀ i 0) w x v i (omega arith) (λ e. absurd (omega arith)) (λ e. d.now_is.before i l);
      after = λ i l. stored (λ y. y ≡ get_or w₀ i 0) w x v i (omega arith) (λ e. absurd (omega arith)) (λ e. d.now_is.after i (omega arith));
    };
  }

  pub done_all : n ≤ k → Region w₀ w at n f
  done_all h = let e : k ≡ n = omega arith in subst (λ (q : ℕ). Region w₀ w at q f) e d.now_is

  -- the next place is what it is to be already
  pub done_skip : k < n → get_or w₀ (at + k) 0 ≡ f k → Done w₀ w at n f (k + 1)
  done_skip h e = record {
    room = d.room;
    k_le = omega arith;
    now_is = record {
      len = d.now_is.len;
      inside = λ x i q l. cut k i
          (λ g. let z : i ≡ k = omega arith in let y : x ≡ at + k = omega arith in rw (y, z) (d.now_is.after (at + k) (omega arith) ∙ e))
          (λ g. d.now_is.inside x i q g);
      before = d.now_is.before;
      after = λ i l. d.now_is.after i (omega arith);
    };
  }

  -- the place that is next has not been written
  pub done_next : (x : ℕ) → x ≡ at + k → get_or w x 0 ≡ get_or w₀ x 0
  done_next x e = d.now_is.after x (omega arith)

-- a region and the one after it
pub region_next : {w₀ w₁ w₂ : List ℕ} {at n : ℕ} {f : ℕ → ℕ} {bt m : ℕ} → Region w₀ w₁ at n f → Region w₁ w₂ bt m (λ i. f (n + i)) → bt ≡ at + n → (t : ℕ) → t ≡ n + m → Region w₀ w₂ at t f
region_next {n = n} {f = f} r s e t et = record {
  len = s.len ∙ r.len;
  inside = λ x i q l. cut n i
      (λ h. let z : n + (i - n) ≡ i = omega arith in s.inside x (i - n) (omega arith) (omega arith) ∙ ap f z)
      (λ h. s.before x (omega arith) ∙ r.inside x i q h);
  before = λ i l. s.before i (omega arith) ∙ r.before i l;
  after = λ i l. s.after i (omega arith) ∙ r.after i (omega arith);
}

pub region_none : (w : List ℕ) (at n : ℕ) (f : ℕ → ℕ) → n ≡ 0 → Region w w at n f
region_none w at n f e = record { len = refl; inside = λ x i q l. absurd (omega arith); before = λ i l. refl; after = λ i l. refl }

-- ---- two regions that have no place in common

pub disjoint_sym : {a b n : ℕ} → Disjoint a b n → Disjoint b a n
disjoint_sym (below h) = above h
disjoint_sym (above h) = below h

-- a place that is outside a region that is written
pub region_outside : {w₀ w : List ℕ} {at n : ℕ} {f : ℕ → ℕ} → Region w₀ w at n f → {b m : ℕ} → Disjoint at b m → n ≤ m
    → (x : ℕ) → b ≤ x → x < b + m → get_or w x 0 ≡ get_or w₀ x 0
region_outside r (below q) s x l h = r.after x (omega arith)
region_outside r (above q) s x l h = r.before x (omega arith)

-- a loop over one region has not changed the other
pub done_source : {w₀ w : List ℕ} {at n : ℕ} {f : ℕ → ℕ} {k : ℕ} → Done w₀ w at n f k → {b : ℕ} → Disjoint at b n
    → (x : ℕ) → b ≤ x → x < b + n → get_or w x 0 ≡ get_or w₀ x 0
done_source d a x l h = region_outside d.now_is a d.k_le x l h

-- rows of a table: row u lies before row v
pub row_before : (u v words : ℕ) → u < v → u * words + words ≤ v * words
row_before u v words h = omega (arith, mul-le-mul_right words h)

-- ---- what a store leaves of another region

pub kept_all : (w : List ℕ) (at n : ℕ) → Kept w w at n
kept_all w at n = record { same = λ x l h. refl }

pub kept_then : {w₀ w₁ w₂ : List ℕ} {at n : ℕ} → Kept w₀ w₁ at n → Kept w₁ w₂ at n → Kept w₀ w₂ at n
kept_then p q = record { same = λ x l h. q.same x l h ∙ p.same x l h }

pub kept_part : {w₀ w : List ℕ} {at n : ℕ} → Kept w₀ w at n → (b m : ℕ) → at ≤ b → b + m ≤ at + n → Kept w₀ w b m
kept_part k b m p q = record { same = λ x l h. k.same x (omega arith) (omega arith) }

pub kept_store : (w : List ℕ) (x v at n : ℕ) → x < length w → (x < at) ⊎ (at + n ≤ x) → Kept w (set w x v) at n
kept_store w x v at n r d = record {
  same = λ y l h. stored (λ z. z ≡ get_or w y 0) w x v y r (λ e. absurd (⊎_elim (λ q. omega arith) (λ q. omega arith) d)) (λ _. refl);
}

pub kept_before : {w₀ w : List ℕ} {at n : ℕ} {f : ℕ → ℕ} → Region w₀ w at n f → (b m : ℕ) → b + m ≤ at → Kept w₀ w b m
kept_before r b m h = record { same = λ x l q. r.before x (omega arith) }

pub kept_after : {w₀ w : List ℕ} {at n : ℕ} {f : ℕ → ℕ} → Region w₀ w at n f → (b m : ℕ) → at + n ≤ b → Kept w₀ w b m
kept_after r b m h = record { same = λ x l q. r.after x (omega arith) }

-- a region whose numbers were kept since
pub region_kept : {w₀ w₁ w : List ℕ} {at n : ℕ} {f : ℕ → ℕ} → Region w₀ w₁ at n f → Kept w₁ w at n → (x i : ℕ) → x ≡ at + i → i < n → get_or w x 0 ≡ f i
region_kept r k x i e h = k.same x (omega arith) (omega arith) ∙ r.inside x i e h

-- ---- as lists

pub length_part : (at n : ℕ) (w : List ℕ) → at + n ≤ length w → length (part at n w) ≡ n
length_part at n w h = length-take-le n (drop at w) (rw (length-drop at w) (omega arith))

pub get_d_part : (at n : ℕ) (w : List ℕ) (i : ℕ) → i < n → get_or (part at n w) i 0 ≡ get_or w (at + i) 0
get_d_part at n w i h = get_or-take n (drop at w) i 0 h ∙ get_or-drop at w i 0

-- a list that holds the numbers of a part
pub part_is : (at n : ℕ) (w l : List ℕ) → at + n ≤ length w → length l ≡ n → ((i : ℕ) → i < n → get_or w (at + i) 0 ≡ get_or l i 0) → part at n w ≡ l
part_is at n w l h e f =
    ext_get_or 0 (part at n w) l (length_part at n w h ∙ sym e)
    (λ i q. let s : i < n = omega (arith, length_part at n w h) in get_d_part at n w i s ∙ f i s)

pub kept_part_list : {w₀ w : List ℕ} {at n : ℕ} → Kept w₀ w at n → at + n ≤ length w₀ → length w ≡ length w₀ → part at n w ≡ part at n w₀
kept_part_list {w₀} {w} {at} {n} k h q =
    part_is at n w (part at n w₀) (omega arith) (length_part at n w₀ h)
    (λ i s. k.same (at + i) (omega arith) (omega arith) ∙ sym (get_d_part at n w₀ i s))

pub region_part : {w₀ w : List ℕ} {at n : ℕ} {f : ℕ → ℕ} → Region w₀ w at n f → at + n ≤ length w₀ → part at n w ≡ tabulate n f
region_part {w₀} {w} {at} {n} {f} r h =
    part_is at n w (tabulate n f) (omega arith) (length_tabulate n f)
    (λ i s. r.inside (at + i) i refl s ∙ sym (get_d_tabulate n f i 0 s))

-- a region is what stands before it, its own numbers, and what stands after it
pub region_list : {w₀ w : List ℕ} {at n : ℕ} {f : ℕ → ℕ} → Region w₀ w at n f → at + n ≤ length w₀
    → w ≡ take at w₀ ++ (tabulate n f ++ drop (at + n) w₀)
region_list {w₀} {w} {at} {n} {f} r h = ext_get_or 0 w (take at w₀ ++ (tabulate n f ++ drop (at + n) w₀)) all (λ i l. at_place i l)
  where
    front : length (take at w₀) ≡ at
    front = length-take-le at w₀ (omega arith)

    mine : length (tabulate n f) ≡ n
    mine = length_tabulate n f

    all : length w ≡ length (take at w₀ ++ (tabulate n f ++ drop (at + n) w₀))
    all = omega (arith, r.len, length-append (take at w₀) (tabulate n f ++ drop (at + n) w₀), length-append (tabulate n f) (drop (at + n) w₀), length-drop (at + n) w₀, front, mine)

    -- the part from `at` on
    from : (j : ℕ) → get_or (take at w₀ ++ (tabulate n f ++ drop (at + n) w₀)) (at + j) 0 ≡ get_or (tabulate n f ++ drop (at + n) w₀) j 0
    from j = rw front at (get_or-append-add (take at w₀) (tabulate n f ++ drop (at + n) w₀) j 0)

    past : (j : ℕ) → get_or (tabulate n f ++ drop (at + n) w₀) (n + j) 0 ≡ get_or w₀ (at + n + j) 0
    past j = (rw mine at (get_or-append-add (tabulate n f) (drop (at + n) w₀) j 0)) ∙ get_or-drop (at + n) w₀ j 0

    at_place : (i : ℕ) → i < length w → get_or w i 0 ≡ get_or (take at w₀ ++ (tabulate n f ++ drop (at + n) w₀)) i 0
    at_place i l =
        cut at i
        (λ p. let e : at + (i - at) ≡ i = omega arith in cut n (i - at)
        (λ q. let z : n + (i - at - n) ≡ i - at = omega arith in let y : at + n + (i - at - n) ≡ i = omega arith in
        r.after i (omega arith) ∙ sym ((rw e at (from (i - at))) ∙ (rw (z, y) at (past (i - at - n)))))
        (λ q. r.inside i (i - at) (omega arith) q ∙ sym ((rw e at (from (i - at))) ∙ get_or-append (tabulate n f) (drop (at + n) w₀) 0 (i - at) (omega (arith, mine)) ∙ get_d_tabulate n f (i - at) 0 q)))
        (λ p. r.before i p ∙ sym (get_or-append (take at w₀) (tabulate n f ++ drop (at + n) w₀) 0 i (omega (arith, front)) ∙ get_or-take at w₀ i 0 p))

-- what a call leaves of a part that it is lent: t for the part, and the list put together around it
pub region_lent : (w t : List ℕ) (at n : ℕ) → at + n ≤ length w → length t ≡ n
    → Region w (take at w ++ (t ++ drop n (drop at w))) at n (λ i. get_or t i 0)
region_lent w t at n h e = record {
  len = omega (arith, length-append (take at w) (t ++ drop n (drop at w)), length-append t (drop n (drop at w)), front, length-drop n (drop at w), length-drop at w);
  inside = λ x i q l. rw q (from i ∙ get_or-append t (drop n (drop at w)) 0 i (omega arith));
  before = λ i l. get_or-append (take at w) (t ++ drop n (drop at w)) 0 i (omega (arith, front)) ∙ get_or-take at w i 0 l;
  after = λ i l.
      let y : at + (n + (i - at - n)) ≡ i = omega arith in
      rw (← y) (from (n + (i - at - n)) ∙ past (i - at - n) ∙ get_or-drop n (drop at w) (i - at - n) 0 ∙ get_or-drop at w (n + (i - at - n)) 0);
}
  where
    front : length (take at w) ≡ at
    front = length-take-le at w (omega arith)

    from : (j : ℕ) → get_or (take at w ++ (t ++ drop n (drop at w))) (at + j) 0 ≡ get_or (t ++ drop n (drop at w)) j 0
    from j = rw front at (get_or-append-add (take at w) (t ++ drop n (drop at w)) j 0)

    past : (j : ℕ) → get_or (t ++ drop n (drop at w)) (n + j) 0 ≡ get_or (drop n (drop at w)) j 0
    past j = rw e at (get_or-append-add t (drop n (drop at w)) j 0)

-- the same where the part's end was worked out, and the call's answer is a function of the part
pub region_called : (g : List ℕ → List ℕ) (w t : List ℕ) (at n k : ℕ) → at + n ≤ length w → k ≡ n → length (g (part at n w)) ≡ n → t ≡ g (take k (drop at w))
    → Region w (take at w ++ (t ++ drop k (drop at w))) at n (λ i. get_or (g (part at n w)) i 0)
region_called g w t at n k h e l q = rw (q, e) (region_lent w (g (part at n w)) at n h l)

-- a region at the front
pub region_front : {w₀ w : List ℕ} {n : ℕ} {f : ℕ → ℕ} → Region w₀ w 0 n f → n ≤ length w₀ → w ≡ tabulate n f ++ drop n w₀
region_front {n = n} r h = let e : 0 + n ≡ n = omega arith in rw e at (region_list r (omega arith))

pub region_cleared : {w₀ w : List ℕ} {n : ℕ} → Region w₀ w 0 n (λ _. 0) → n ≤ length w₀ → w ≡ cleared n w₀
region_cleared {w₀} {w} {n} r h = region_front r h ∙ ap (λ (l : List ℕ). l ++ drop n w₀) (tabulate_replicate n 0)

-- ---- the front and the rest of a list

-- a list that is the same from n on
pub drop_same : (n : ℕ) (l m : List ℕ) → length m ≡ length l → ((i : ℕ) → n ≤ i → get_or m i 0 ≡ get_or l i 0) → drop n m ≡ drop n l
drop_same n l m e h = ext_get_or 0 (drop n m) (drop n l) (simp length-drop (omega arith)) (λ i q. rw (get_or-drop, get_or-drop) (h (n + i) (omega arith)))

-- one number more in front of what was there
pub push : (xs o : List ℕ) (n v : ℕ) → length xs ≡ n → n < length o → set (xs ++ drop n o) n v ≡ (xs ++ (v ∷ [])) ++ drop (n + 1) o
push xs o n v e h =
    ap (λ (l : List ℕ). set (xs ++ l) n v) (drop-cons o n 0 h) ∙ set_at xs (get_or o n 0) (drop (suc n) o) v n e
    ∙ sym (append_assoc xs (v ∷ []) (drop (n + 1) o) ∙ ap (λ (k : ℕ). xs ++ (v ∷ drop k o)) (add-one n))

-- a part that is lent by where it begins and ends
pub lent_part : (w : List ℕ) (f e n : ℕ) → e ≡ f + n → take (e - f) (drop f w) ≡ part f n w
lent_part w f e n h = let z : e - f ≡ n = omega arith in ap (λ (k : ℕ). take k (drop f w)) z
