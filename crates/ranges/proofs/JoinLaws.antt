-- Laws of `joined`: its points are the list's and the new range's, and no range becomes reversed.
use mathlib.Core.Path.{◌≡◌, refl}
use mathlib.Core.Logic.{◌⊎◌, inl, inr}
use mathlib.Core.Bool.{Bool, true, false, cond}
use mathlib.Core.List.{List, [], ◌∷◌}
use Prim.Native.Nat.{ℕ, ◌+◌, ◌≤◌}
use native.Mathlib.Omega.{arith}
use lib.Dec.{leb, eqb}
use borrow.Author.Tests.{leb-true, leb-false, eqb-true}
use Rattle.ranges.specs.declared.Range.{Range}
use Rattle.ranges.specs.Points.{range, Point, Upright}
use Rattle.ranges.specs.Inner.{Within}
use Rattle.ranges.specs.Merged.{joined}
use Rattle.ranges.proofs.PointLaws.{point_head, point_tail, point_none, point_cases, upright_head, upright_tail, upright_cons}

pub joined_upright : (rs : List Range) (r : Range) → Upright rs → r.start ≤ r.end → Upright (joined rs r)
unfolding joined
joined_upright [] r u h = upright_cons r [] h u
joined_upright (a ∷ []) r u h = go (eqb r.start (a.end + 1)) refl
  where
    go : (t : Bool) → eqb r.start (a.end + 1) ≡ t → Upright (cond t (range a.start r.end ∷ []) (a ∷ r ∷ []))
    go true e =
        let k = upright_head a [] u in
        let z : r.start ≡ a.end + 1 = eqb-true _ _ e in
        upright_cons (range a.start r.end) [] (omega arith) (upright_tail a [] u)
    go false e = upright_cons a (r ∷ []) (upright_head a [] u) (upright_cons r [] h (upright_tail a [] u))
joined_upright (a ∷ b ∷ rs) r u h =
    upright_cons a (joined (b ∷ rs) r) (upright_head a (b ∷ rs) u) (joined_upright (b ∷ rs) r (upright_tail a (b ∷ rs) u) h)

pub joined_adds : (rs : List Range) (r : Range) (x : ℕ) → Upright rs → r.start ≤ x → x ≤ r.end → Point (joined rs r) x
unfolding joined
joined_adds [] r x u h k = point_head r [] x h k
joined_adds (a ∷ []) r x u h k = go (eqb r.start (a.end + 1)) refl
  where
    go : (t : Bool) → eqb r.start (a.end + 1) ≡ t → Point (cond t (range a.start r.end ∷ []) (a ∷ r ∷ [])) x
    go true e =
        let v = upright_head a [] u in
        let z : r.start ≡ a.end + 1 = eqb-true _ _ e in
        point_head (range a.start r.end) [] x (omega arith) k
    go false e = point_tail a (r ∷ []) x (point_head r [] x h k)
joined_adds (a ∷ b ∷ rs) r x u h k = point_tail a (joined (b ∷ rs) r) x (joined_adds (b ∷ rs) r x (upright_tail a (b ∷ rs) u) h k)

pub joined_keeps : (rs : List Range) (r : Range) (x : ℕ) → r.start ≤ r.end → Point rs x → Point (joined rs r) x
unfolding joined
joined_keeps [] r x h p = absurd (point_none x p)
joined_keeps (a ∷ []) r x h p = go (eqb r.start (a.end + 1)) refl (point_cases a [] x p)
  where
    go : (t : Bool) → eqb r.start (a.end + 1) ≡ t → Within a x ⊎ Point [] x → Point (cond t (range a.start r.end ∷ []) (a ∷ r ∷ [])) x
    go true e (inl (i, j)) =
        let z : r.start ≡ a.end + 1 = eqb-true _ _ e in
        point_head (range a.start r.end) [] x i (omega arith)
    go false e (inl (i, j)) = point_head a (r ∷ []) x i j
    go t e (inr q) = absurd (point_none x q)
joined_keeps (a ∷ b ∷ rs) r x h p = go (point_cases a (b ∷ rs) x p) (joined_keeps (b ∷ rs) r x h)
  where
    go : Within a x ⊎ Point (b ∷ rs) x → (Point (b ∷ rs) x → Point (joined (b ∷ rs) r) x) → Point (a ∷ joined (b ∷ rs) r) x
    go (inl (i, j)) ih = point_head a (joined (b ∷ rs) r) x i j
    go (inr q) ih = point_tail a (joined (b ∷ rs) r) x (ih q)

pub joined_only : (rs : List Range) (r : Range) (x : ℕ) → Point (joined rs r) x → Point rs x ⊎ Within r x
unfolding joined
joined_only [] r x p = go (point_cases r [] x p)
  where
    go : Within r x ⊎ Point [] x → Point [] x ⊎ Within r x
    go (inl w) = inr w
    go (inr q) = inl q
joined_only (a ∷ []) r x p = go (eqb r.start (a.end + 1)) refl p
  where
    -- a point of the lengthened range: no point lies between the two
    split : r.start ≡ a.end + 1 → a.start ≤ x → x ≤ r.end → (b : Bool) → leb x a.end ≡ b → Point (a ∷ []) x ⊎ Within r x
    split z i j true e = inl (point_head a [] x i (leb-true _ _ e))
    split z i j false e = let k = leb-false x a.end e in inr (omega arith, j)

    go : (t : Bool) → eqb r.start (a.end + 1) ≡ t → Point (cond t (range a.start r.end ∷ []) (a ∷ r ∷ [])) x → Point (a ∷ []) x ⊎ Within r x
    go true e q = late (point_cases (range a.start r.end) [] x q)
      where
        late : Within (range a.start r.end) x ⊎ Point [] x → Point (a ∷ []) x ⊎ Within r x
        late (inl (i, j)) = split (eqb-true _ _ e) i j (leb x a.end) refl
        late (inr c) = absurd (point_none x c)
    go false e q = late (point_cases a (r ∷ []) x q)
      where
        last : Within r x ⊎ Point [] x → Point (a ∷ []) x ⊎ Within r x
        last (inl w) = inr w
        last (inr c) = absurd (point_none x c)

        late : Within a x ⊎ Point (r ∷ []) x → Point (a ∷ []) x ⊎ Within r x
        late (inl (i, j)) = inl (point_head a [] x i j)
        late (inr c) = last (point_cases r [] x c)
joined_only (a ∷ b ∷ rs) r x p = go (point_cases a (joined (b ∷ rs) r) x p) (joined_only (b ∷ rs) r x)
  where
    go : Within a x ⊎ Point (joined (b ∷ rs) r) x → (Point (joined (b ∷ rs) r) x → Point (b ∷ rs) x ⊎ Within r x) → Point (a ∷ b ∷ rs) x ⊎ Within r x
    go (inl (i, j)) ih = inl (point_head a (b ∷ rs) x i j)
    go (inr q) ih = late (ih q)
      where
        late : Point (b ∷ rs) x ⊎ Within r x → Point (a ∷ b ∷ rs) x ⊎ Within r x
        late (inl c) = inl (point_tail a (b ∷ rs) x c)
        late (inr w) = inr w
