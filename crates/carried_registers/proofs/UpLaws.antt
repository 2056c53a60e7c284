-- Lists that rise strictly are told by their entries; numbers that differ rise strictly once sorted.
use Prim.Native.Nat.{ℕ, zero, suc, ◌+◌, ◌≤◌, ◌<◌}
use native.Mathlib.Omega.{arith}
use mathlib.Core.Path.{◌≡◌, refl, sym, ap, ◌∙◌}
use mathlib.Core.Logic.{◌≢◌, ◌⊎◌, inl, inr}
use mathlib.Core.Bool.{Bool, true, false, cond}
use mathlib.Core.List.Memᴰ
use mathlib.Core.List.{List, [], ◌∷◌, ◌++◌, Memᴰ, append-nil}
use lib.ListN.{length, get_or, length-append}
use lib.Dec.{leb}
use borrow.Author.Tests.{leb-true, leb-false}
use Rattle.words.specs.Sort.{insert, sort_of}
use Rattle.words.proofs.SortLaws.{mem_insert, mem_of_sort}
use Rattle.graph.proofs.Line.{at_mem}
use Rattle.carrying.specs.Lists.{below}
use Rattle.carrying.proofs.ListLaws.{of_below}

-- each entry is below all that follow
abbrev pub Up : List ℕ → Type 0
Up [] = ℕ
Up (x ∷ l) = ((y : ℕ) → Memᴰ y l → x < y) × Up l

-- no entry occurs again
abbrev pub Apart : List ℕ → Type 0
Apart [] = ℕ
Apart (x ∷ l) = (Memᴰ x l → ⊥) × Apart l

pub apart_of_lem : (l : List ℕ) → ((j k : ℕ) → j < k → k < length l → get_or l j 0 ≢ get_or l k 0) → Apart l
apart_of_lem [] f = 0
apart_of_lem (x ∷ l) f = (
  λ m.
      let (k, h, e) = at_mem l x 0 m in
      f 0 (suc k) (omega arith) (omega arith) (sym e),
  apart_of_lem l (λ j k a b e. f (suc j) (suc k) (omega arith) (omega arith) e),
)

up_insert : (x : ℕ) (l : List ℕ) → (Memᴰ x l → ⊥) → Up l → Up (insert x l)
unfolding insert
up_insert x [] n u = (λ y m. absurd (Memᴰ.not-nil m), 0)
up_insert x (y ∷ l) n u = go (leb x y) refl (up_insert x l (λ m. n (Memᴰ.tail m)) u.1)
  where
    first : x ≤ y → (a : ℕ) → (a ≡ y) ⊎ Memᴰ a l → x < a
    first h a (inl e) = let d : x ≢ y = (λ q. n (Memᴰ.head q)) in omega arith
    first h a (inr m) = let g = u.0 a m in omega arith

    later : y < x → (a : ℕ) → (a ≡ x) ⊎ Memᴰ a l → y < a
    later h a (inl e) = omega arith
    later h a (inr m) = u.0 a m

    go : (t : Bool) → leb x y ≡ t → Up (insert x l) → Up (cond t (x ∷ y ∷ l) (y ∷ insert x l))
    go true e ih = (λ a m. first (leb-true x y e) a (Memᴰ.cases_cons m), u)
    go false e ih = (λ a m. later (leb-false x y e) a (mem_insert l m), ih)

pub up_sort : (l : List ℕ) → Apart l → Up (sort_of l)
unfolding sort_of
up_sort [] a = 0
up_sort (x ∷ l) a = up_insert x (sort_of l) (λ m. a.0 (mem_of_sort l m)) (up_sort l a.1)

up_snoc : (l : List ℕ) (n : ℕ) → Up l → ((y : ℕ) → Memᴰ y l → y < n) → Up (l ++ (n ∷ []))
up_snoc [] n u f = (λ y m. absurd (Memᴰ.not-nil m), 0)
up_snoc (x ∷ l) n u f = (λ y m. go y (Memᴰ.append_cases l m), up_snoc l n u.1 (λ y m. f y (Memᴰ.tail m)))
  where
    last : (y : ℕ) → (y ≡ n) ⊎ Memᴰ y [] → x < y
    last y (inl e) = let g = f x (Memᴰ.head refl) in omega arith
    last y (inr m) = absurd (Memᴰ.not-nil m)

    go : (y : ℕ) → Memᴰ y l ⊎ Memᴰ y (n ∷ []) → x < y
    go y (inl m) = u.0 y m
    go y (inr m) = last y (Memᴰ.cases_cons m)

pub up_below : (n : ℕ) (f : ℕ → Bool) → Up (below n f)
unfolding below
up_below zero f = 0
up_below (suc n) f = go (f n) (up_below n f)
  where
    go : (t : Bool) → Up (below n f) → Up (below n f ++ cond t (n ∷ []) [])
    go true u = up_snoc (below n f) n u (λ y m. (of_below f n y m).0)
    go false u = rw (append-nil (below n f)) u

pub below_length : (n : ℕ) (f : ℕ → Bool) → length (below n f) ≤ n
unfolding below
below_length zero f = omega arith
below_length (suc n) f = go (f n) (below_length n f)
  where
    go : (t : Bool) → length (below n f) ≤ n → length (below n f ++ cond t (n ∷ []) []) ≤ suc n
    go true h = let e = length-append (below n f) (n ∷ []) in omega arith
    go false h = let e = length-append (below n f) [] in omega arith

pub up_same : (a b : List ℕ) → Up a → Up b → ((x : ℕ) → Memᴰ x a → Memᴰ x b) → ((x : ℕ) → Memᴰ x b → Memᴰ x a) → a ≡ b
up_same [] [] u v f g = refl
up_same [] (y ∷ b) u v f g = absurd (Memᴰ.not-nil (g y (Memᴰ.head refl)))
up_same (x ∷ a) [] u v f g = absurd (Memᴰ.not-nil (f x (Memᴰ.head refl)))
up_same (x ∷ a) (y ∷ b) u v f g =
    let e : x ≡ y = heads (Memᴰ.cases_cons (f x (Memᴰ.head refl))) (Memᴰ.cases_cons (g y (Memᴰ.head refl))) in
    ap (λ (z : ℕ). z ∷ a) e ∙ ap (λ (l : List ℕ). y ∷ l)
    (up_same a b u.1 v.1
    (λ z m. rest z (u.0 z m) e (Memᴰ.cases_cons (f z (Memᴰ.tail m))))
    (λ z m. back z (v.0 z m) e (Memᴰ.cases_cons (g z (Memᴰ.tail m)))))
  where
    heads : (x ≡ y) ⊎ Memᴰ x b → (y ≡ x) ⊎ Memᴰ y a → x ≡ y
    heads (inl e) q = e
    heads (inr m) (inl e) = sym e
    heads (inr m) (inr n) = absurd (let p = v.0 x m in let q = u.0 y n in omega arith)

    rest : (z : ℕ) → x < z → x ≡ y → (z ≡ y) ⊎ Memᴰ z b → Memᴰ z b
    rest z h e (inl q) = absurd (omega arith)
    rest z h e (inr m) = m

    back : (z : ℕ) → y < z → x ≡ y → (z ≡ x) ⊎ Memᴰ z a → Memᴰ z a
    back z h e (inl q) = absurd (omega arith)
    back z h e (inr m) = m
