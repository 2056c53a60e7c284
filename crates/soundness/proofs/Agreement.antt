-- The claim about the whole list, from two facts: that the plan keeps different items of a cell apart, and that an item that is
-- held (permitted at two places, not emptied between) is in its area all the way.
use mathlib.Core.Path.{◌≡◌, refl, sym, ◌∙◌}
use mathlib.Core.Logic.{◌⊎◌, inl, inr}
use mathlib.Core.Bool.{Bool, true, false, true≢false}
use mathlib.Core.Option.{Option, some, none, none-ne-some}
use mathlib.Core.List.{List}
use Prim.Native.Nat.{ℕ, ◌≤◌, ◌<◌}
use lib.ListN.{get_elem?}
use native.Mathlib.Omega.{arith}
use native.Mathlib.Decide.{ℕ_discrete}
use Rattle.ranges.specs.declared.Range.{Range}
use Rattle.ranges.specs.Points.{Point}
use Rattle.soundness.specs.Walks.{Frame, Step, read, write, wrote, point, Permits, Uses, Legal, empties, private, shared, Kept, Unwritten, Alike}
use Rattle.soundness.specs.Inner.{Disjoint, Separate}
use Rattle.soundness.proofs.MarkLaws.{Last, mark_last, last_mark, mark_there, mark_none, wrote_true, wrote_it, wrote_own}

module _ (F : Frame) (first : ℕ) (w : List Step) where
  abbrev pub Held : Type 0
  Held =
      (i : ℕ) → i < F.items → (rs : List Range) → F.area i ≡ some rs → (q m n : ℕ) → q ≤ m → m ≤ n
      → Permits F first w (F.access i) (F.area i) q → Permits F first w (F.access i) (F.area i) n
      → ((l : ℕ) → q ≤ l → l < n → empties F first w i l ≡ false)
      → Point rs (point F first w m)

  at_write : Legal F first w → (n i b : ℕ) → get_elem? w n ≡ some (write i b) → Uses F first w i b n
  at_write L n i b e = rw e at (L.steps n)

  at_read : Legal F first w → (n i b : ℕ) → get_elem? w n ≡ some (read i b) → Uses F first w i b n
  at_read L n i b e = rw e at (L.steps n)

  module _ (cell : ℕ → ℕ) (L : Legal F first w) (S : Separate F cell) (H : Held) (n i b : ℕ) (e : get_elem? w n ≡ some (read i b)) where
    -- no other item writes the byte of the cell while the item is kept
    alone : (q m : ℕ) → Last (λ k. wrote (λ j. j) (get_elem? w k) i b) (λ k. empties F first w i k) n q → q < m → m < n
        → wrote cell (get_elem? w m) (cell i) b ≡ false
    alone q m r h k = go (wrote cell (get_elem? w m) (cell i) b) refl
      where
        at-q : get_elem? w q ≡ some (write i b)
        at-q = wrote_own (get_elem? w q) i b r.wrote_it

        mine : Uses F first w i b q
        mine = at_write L q i b at-q

        quiet : (l : ℕ) → q ≤ l → l < n → empties F first w i l ≡ false
        quiet l x y = since (ℕ_discrete q l)
          where
            since : Dec (q ≡ l) → empties F first w i l ≡ false
            since (yes z) = rw (← z, at-q)
            since (no d) = r.still l (omega arith) y

        clash : (j : ℕ) → get_elem? w m ≡ some (write j b) → cell j ≡ cell i → Dec (i ≡ j) → ⊥
        clash j s c (yes z) = true≢false (sym (wrote_it (λ j. j) (get_elem? w m) i b (rw z s)) ∙ r.sole m h k)
        clash j s c (no d) =
            let u : Uses F first w j b m = at_write L m j b s in
            let a : Disjoint F i j = S i j mine.item u.item d (sym c) in
            a.no_common (point F first w m)
            (H i mine.item a.one a.one_is q m n (omega arith) (omega arith) mine.there (at_read L n i b e).there quiet)
            (H j u.item a.two a.two_is m m m (omega arith) (omega arith) u.there u.there (λ l x y. absurd (omega arith)))

        go : (t : Bool) → wrote cell (get_elem? w m) (cell i) b ≡ t → wrote cell (get_elem? w m) (cell i) b ≡ false
        go false t = t
        go true t =
            let (j, s, c) = wrote_true cell (get_elem? w m) (cell i) b t in
            absurd (clash j s c (ℕ_discrete i j))

    same : (q : ℕ) → private F first w n i b ≡ some q → shared F first w cell n (cell i) b ≡ some q
    same q p =
        let r = mark_last _ _ n q p in
        last_mark _ _ n q (record {
          before = r.before;
          wrote_it = wrote_it cell (get_elem? w q) i b (wrote_own (get_elem? w q) i b r.wrote_it);
          sole = λ m h k. alone q m r h k;
          still = λ m h k. refl;
        })

    to : private F first w n i b ≡ shared F first w cell n (cell i) b → Kept F first w n i b ⊎ Unwritten F first w cell n (cell i) b
    to p = go (shared F first w cell n (cell i) b) refl
      where
        go : (o : Option ℕ) → shared F first w cell n (cell i) b ≡ o → Kept F first w n i b ⊎ Unwritten F first w cell n (cell i) b
        go none s = inr (λ q j h z c.
            let (r, m) = mark_there _ _ n q h (rw c at (wrote_it cell (get_elem? w q) j b z)) (λ m x y. refl) in
            none-ne-some r (sym s ∙ m))
        go (some q) s =
            let r = mark_last _ _ n q (p ∙ s) in
            inl (q, r.before, wrote_own (get_elem? w q) i b r.wrote_it, r.still)

    from : Kept F first w n i b ⊎ Unwritten F first w cell n (cell i) b → private F first w n i b ≡ shared F first w cell n (cell i) b
    from (inl (q, h, s, k)) =
        let (r, m) = mark_there _ _ n q h (wrote_it (λ j. j) (get_elem? w q) i b s) k in
        m ∙ sym (same r m)
    from (inr u) = mark_none _ _ n mine ∙ sym (mark_none _ _ n any)
      where
        mine : (m : ℕ) → m < n → wrote (λ j. j) (get_elem? w m) i b ≡ false
        mine m h = go (wrote (λ j. j) (get_elem? w m) i b) refl
          where
            go : (t : Bool) → wrote (λ j. j) (get_elem? w m) i b ≡ t → wrote (λ j. j) (get_elem? w m) i b ≡ false
            go false t = t
            go true t = absurd (u m i h (wrote_own (get_elem? w m) i b t) refl)

        any : (m : ℕ) → m < n → wrote cell (get_elem? w m) (cell i) b ≡ false
        any m h = go (wrote cell (get_elem? w m) (cell i) b) refl
          where
            go : (t : Bool) → wrote cell (get_elem? w m) (cell i) b ≡ t → wrote cell (get_elem? w m) (cell i) b ≡ false
            go false t = t
            go true t =
                let (j, s, c) = wrote_true cell (get_elem? w m) (cell i) b t in
                absurd (u m j h s c)

  pub alike : (cell : ℕ → ℕ) → Legal F first w → Separate F cell → Held → Alike F first w cell
  alike cell L S H n i b e = (to cell L S H n i b e, from cell L S H n i b e)
