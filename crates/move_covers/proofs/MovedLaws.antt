-- Laws of `moved`: ranges appended to an answer list.
use Prim.Native.Nat.{ℕ, ◌+◌, ◌*◌, ◌≤◌}
use native.Mathlib.Numerals.{add-one}
use native.Mathlib.Omega.{arith}
use mathlib.Core.Path.{◌≡◌, refl, sym, ap, ◌∙◌}
use mathlib.Core.List.{List, [], ◌∷◌, ◌++◌, append_assoc}
use lib.ListN.{length, set, length-set, length-append, drop}
use Rattle.words.specs.Rows.{tabulate}
use Rattle.words.specs.Widths.{range_width}
use Rattle.words.proofs.RowLaws.{tabulate_suc}
use Rattle.words.proofs.RegionLaws.{push}
use Rattle.ranges.specs.declared.Range.{Range}
use Rattle.carrying.specs.Lists.{gather}
use Rattle.move_covers.specs.Wrote.{rows_of}
use Rattle.move_covers.specs.Inner.{Wrote}

-- ---- ranges appended

pub rows_append : (rs ss : List Range) → rows_of (rs ++ ss) ≡ rows_of rs ++ rows_of ss
unfolding rows_of
rows_append [] ss = refl
rows_append (r ∷ rs) ss = ap (λ (l : List ℕ). r.start ∷ r.end ∷ l) (rows_append rs ss)

pub rows_length : (rs : List Range) → length (rows_of rs) ≡ range_width * length rs
unfolding rows_of
rows_length [] = refl
rows_length (r ∷ rs) = let e = rows_length rs in omega arith

append_none : {A : Type 0} (l : List A) → l ++ [] ≡ l
append_none [] = refl
append_none {A} (a ∷ l) = ap (λ (k : List A). a ∷ k) (append_none l)

two : (a b : ℕ) (r : Range) (xs : List ℕ) → r.start ≡ a → r.end ≡ b → (xs ++ (a ∷ [])) ++ (b ∷ []) ≡ xs ++ rows_of (r ∷ [])
unfolding rows_of
two a b r xs e f = append_assoc xs (a ∷ []) (b ∷ []) ∙ rw (e, f)

pub wrote_none : (out : List ℕ) (k : ℕ) → Wrote out out k k []
wrote_none out k = record { len = refl; count = omega arith; list = λ xs o p q e. e ∙ ap (λ (l : List Range). rows_of l ++ drop (range_width * k) o) (sym (append_none xs)) }

pub wrote_one : (out : List ℕ) (k x y a b : ℕ) (r : Range) → range_width * k + 2 ≤ length out → x ≡ range_width * k → y ≡ range_width * k + 1 → r.start ≡ a → r.end ≡ b
    → Wrote out (set (set out x a) y b) k (k + 1) (r ∷ [])
wrote_one out k x y a b r h ex ey ea eb = record {
  len = length-set (set out x a) y b ∙ length-set out x a;
  count = omega arith;
  list = λ xs o p q e.
      let l : length (rows_of xs) ≡ range_width * k = rows_length xs ∙ ap (λ (j : ℕ). range_width * j) p in
      let m : length (rows_of xs ++ (a ∷ [])) ≡ range_width * k + 1 = length-append (rows_of xs) (a ∷ []) ∙ ap (λ (j : ℕ). j + 1) l in
      let z : range_width * k + 1 + 1 ≡ range_width * (k + 1) = omega arith in
      ap (λ (j : ℕ). set (set out j a) y b) ex ∙ ap (λ (j : ℕ). set (set out (range_width * k) a) j b) ey
      ∙ ap (λ (t : List ℕ). set (set t (range_width * k) a) (range_width * k + 1) b) e
      ∙ ap (λ (t : List ℕ). set t (range_width * k + 1) b) (push (rows_of xs) o (range_width * k) a l (omega arith))
      ∙ push (rows_of xs ++ (a ∷ [])) o (range_width * k + 1) b m (omega arith)
      ∙ ap (λ (t : List ℕ). t ++ drop (range_width * k + 1 + 1) o) (two a b r (rows_of xs) ea eb ∙ sym (rows_append xs (r ∷ [])))
      ∙ ap (λ (j : ℕ). rows_of (xs ++ (r ∷ [])) ++ drop j o) z;
}

pub wrote_then : {o₀ o₁ o₂ : List ℕ} {k n q : ℕ} {rs ss : List Range} → Wrote o₀ o₁ k n rs → Wrote o₁ o₂ n q ss → Wrote o₀ o₂ k q (rs ++ ss)
wrote_then {k = k} {q = j} {rs = rs} {ss = ss} a b = record {
  len = b.len ∙ a.len;
  count = let e = length-append rs ss in let s = a.count in let t = b.count in omega arith;
  list = λ xs o p q e.
      let l = length-append xs rs in
      let s = a.count in
      b.list (xs ++ rs) o (omega arith) (q ∙ sym a.len) (a.list xs o p q e) ∙ ap (λ (t : List Range). rows_of t ++ drop (range_width * j) o) (append_assoc xs rs ss);
}

-- ---- all moves, one after another

gather_last : {A B : Type 0} (f : A → List B) (l : List A) (a : A) → gather f (l ++ (a ∷ [])) ≡ gather f l ++ f a
unfolding gather
gather_last f [] a = append_none (f a)
gather_last {A} {B} f (b ∷ l) a = ap (λ (k : List B). f b ++ k) (gather_last f l a) ∙ sym (append_assoc (f b) (gather f l) (f a))

pub gather_next : {A B : Type 0} (f : A → List B) (g : ℕ → A) (i : ℕ) → gather f (tabulate (i + 1) g) ≡ gather f (tabulate i g) ++ f (g i)
gather_next {A} f g i = ap (λ (k : ℕ). gather f (tabulate k g)) (add-one i) ∙ ap (gather f) (tabulate_suc i g) ∙ gather_last f (tabulate i g) (g i)

pub gather_none : {A B : Type 0} (f : A → List B) (g : ℕ → A) → gather f (tabulate 0 g) ≡ []
unfolding gather tabulate
gather_none f g = refl

pub wrote_as : {o₀ o₁ : List ℕ} {k n : ℕ} {rs ss : List Range} → Wrote o₀ o₁ k n rs → rs ≡ ss → Wrote o₀ o₁ k n ss
wrote_as w e = rw e at w
