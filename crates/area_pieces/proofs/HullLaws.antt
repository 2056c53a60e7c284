-- First to last point of some ranges, put together from parts; the clips of a list of touches, one after another.
use Prim.Native.Nat.{ℕ, min, max}
use native.Mathlib.Omega.{arith}
use mathlib.Core.Path.{◌≡◌, refl, sym, ap, ◌∙◌}
use mathlib.Core.Logic.{◌≢◌}
use mathlib.Core.Bool.{Bool, true, false, cond}
use mathlib.Core.List.{List, [], ◌∷◌, ◌++◌, map, append-nil, append_assoc}
use borrow.Author.Tests.{ne_eqb}
use Rattle.ranges.specs.declared.Range.{Range}
use Rattle.ranges.proofs.FormLaws.{map_append}
use Rattle.carrying.specs.Lists.{keep, gather}
use Rattle.areas.specs.Blocks.{Graph, block_of, bounds, clip}
use Rattle.areas.specs.Pieces.{clips, least, most}
use Rattle.area_pieces.specs.Inner.{hull, hulled}

least_append : (a : Range) (bs : List Range) (c : Range) (cs : List Range) → least a (bs ++ (c ∷ cs)) ≡ min (least a bs) (least c cs)
least_append a [] c cs = refl
least_append a (b ∷ bs) c cs = let e = least_append b bs c cs in ap (min a.start) e ∙ omega arith

most_append : (a : Range) (bs : List Range) (c : Range) (cs : List Range) → most a (bs ++ (c ∷ cs)) ≡ max (most a bs) (most c cs)
most_append a [] c cs = refl
most_append a (b ∷ bs) c cs = let e = most_append b bs c cs in ap (max a.end) e ∙ omega arith

pub hull_append : (bs ds : List Range) → hull (bs ++ ds) ≡ hulled (hull bs) ds
hull_append [] [] = refl
hull_append [] (c ∷ cs) = refl
hull_append (a ∷ bs) [] = ap hull (append-nil (a ∷ bs))
hull_append (a ∷ bs) (c ∷ cs) = rw (least_append a bs c cs, most_append a bs c cs)

-- ---- lists by a test, of two lists one after another

pub keep_append : {A : Type 0} (f : A → Bool) (l m : List A) → keep f (l ++ m) ≡ keep f l ++ keep f m
unfolding keep
keep_append f [] m = refl
keep_append {A} f (a ∷ l) m = go (f a) (keep_append f l m)
  where
    go : (t : Bool) → keep f (l ++ m) ≡ keep f l ++ keep f m → cond t (a ∷ keep f (l ++ m)) (keep f (l ++ m)) ≡ cond t (a ∷ keep f l) (keep f l) ++ keep f m
    go true e = ap (λ (k : List A). a ∷ k) e
    go false e = e

pub gather_append : {A B : Type 0} (f : A → List B) (l m : List A) → gather f (l ++ m) ≡ gather f l ++ gather f m
unfolding gather
gather_append f [] m = refl
gather_append {B = B} f (a ∷ l) m = ap (λ (k : List B). f a ++ k) (gather_append f l m) ∙ sym (append_assoc (f a) (gather f l) (gather f m))

pub gather_one : {A B : Type 0} (f : A → List B) (a : A) → gather f (a ∷ []) ≡ f a
unfolding gather
gather_one f a = append-nil (f a)

pub gather_none : {A B : Type 0} (f : A → List B) → gather f [] ≡ []
unfolding gather
gather_none f = refl

-- ---- the clips of a block

module _ (G : Graph) (k : ℕ) where
  pub clips_append : (ts us : List Range) → clips G (ts ++ us) k ≡ clips G ts k ++ clips G us k
  clips_append ts us = ap (map (clip G k)) (keep_append (bounds G k) ts us) ∙ map_append (clip G k) (keep (bounds G k) ts) (keep (bounds G k) us)

  pub clips_none : clips G [] k ≡ []
  unfolding keep
  clips_none = refl

  pub clips_in : (t : Range) → bounds G k t ≡ true → clips G (t ∷ []) k ≡ clip G k t ∷ []
  unfolding keep
  clips_in t e = rw e

  pub clips_out : (t : Range) → bounds G k t ≡ false → clips G (t ∷ []) k ≡ []
  unfolding keep
  clips_out t e = rw e

  pub bounds_not : (t : Range) → block_of G t.start ≢ k → block_of G t.end ≢ k → bounds G k t ≡ false
  bounds_not t d e = rw (ne_eqb (block_of G t.start) k d, ne_eqb (block_of G t.end) k e)
