-- Document 02, (b): merged areas have a gap between any two ranges, so two of them "are equal exactly when they cover the same points".
use Prim.Native.Nat.{ℕ, ◌+◌, ◌≤◌, ◌<◌}
use native.Mathlib.Omega.{arith}
use mathlib.Core.Path.{◌≡◌, refl, sym, ap, ◌∙◌}
use mathlib.Core.Logic.{◌⊎◌, inl, inr, ◌↔◌}
use mathlib.Core.Bool.{Bool, true, false}
use mathlib.Core.List.Memᴰ
use mathlib.Core.List.{List, [], ◌∷◌}
use lib.Dec.{leb}
use borrow.Author.Tests.{leb-true, leb-false}
use Rattle.ranges.specs.declared.Range.{Range}
use Rattle.ranges.specs.Points.{range, Point, Upright, Apart, Gapped, Same}
use Rattle.ranges.specs.Inner.{Within}
use Rattle.ranges.specs.Merged.{merged}
use Rattle.ranges.proofs.PointLaws.{point_head, point_tail, point_none, point_cases, past_point, gapped_tail}
use Rattle.ranges.proofs.MergeLaws.{merged_keeps, merged_only, merged_gapped}

-- ---- lists with gaps and the same points are equal

-- the first range's start is the first point
first_point : (r : Range) (rs : List Range) → Apart (r ∷ rs) → (y : ℕ) → Point (r ∷ rs) y → r.start ≤ y
first_point r rs g y p = go (point_cases r rs y p)
  where
    go : Within r y ⊎ Point rs y → r.start ≤ y
    go (inl (h, k)) = h
    go (inr q) = let a = past_point r.end rs g.1 y q in let b = g.0 in omega arith

module _ (r : Range) (rs : List Range) (s : Range) (ss : List Range) (g : Gapped (r ∷ rs)) (k : Gapped (s ∷ ss)) (f : (x : ℕ) → Point (r ∷ rs) x → Point (s ∷ ss) x) where
  -- every point of the first list is one of the second: the second starts no later
  starts_by : s.start ≤ r.start
  starts_by = first_point s ss k.apart r.start (f r.start (point_head r rs r.start (omega arith) g.apart.0))

  -- and where they start alike, its first range ends no earlier: the point after it is missing
  ends_by : r.start ≡ s.start → r.end ≤ s.end
  ends_by e = go (leb r.end s.end) refl
    where
      go : (t : Bool) → leb r.end s.end ≡ t → r.end ≤ s.end
      go true d = leb-true r.end s.end d
      go false d =
          let l = leb-false r.end s.end d in
          let u = k.apart.0 in
          absurd (k.gap s (Memᴰ.head refl) (f (s.end + 1) (point_head r rs (s.end + 1) (omega arith) (omega arith))))

  -- the others of the first list are others of the second
  later_by : r.end ≡ s.end → (x : ℕ) → Point rs x → Point ss x
  later_by e x p = go (point_cases s ss x (f x (point_tail r rs x p))) (past_point r.end rs g.apart.1 x p)
    where
      go : Within s x ⊎ Point ss x → r.end < x → Point ss x
      go (inl (h, i)) l = absurd (omega arith)
      go (inr q) l = q

-- two lists with gaps that have the same points are one list: the first points agree, then the first ends, then the rest
pub gapped_same : (rs ss : List Range) → Gapped rs → Gapped ss → Same rs ss → rs ≡ ss
gapped_same [] [] g k f = refl
gapped_same [] (s ∷ ss) g k f = absurd (point_none s.start ((f s.start).1 (point_head s ss s.start (omega arith) k.apart.0)))
gapped_same (r ∷ rs) [] g k f = absurd (point_none r.start ((f r.start).0 (point_head r rs r.start (omega arith) g.apart.0)))
gapped_same (r ∷ rs) (s ∷ ss) g k f = same_list (same_head begin end) (gapped_same rs ss (gapped_tail r rs g) (gapped_tail s ss k) later)
  where
    into : (x : ℕ) → Point (r ∷ rs) x → Point (s ∷ ss) x
    into x = (f x).0

    back : (x : ℕ) → Point (s ∷ ss) x → Point (r ∷ rs) x
    back x = (f x).1

    begin : r.start ≡ s.start
    begin = let a = starts_by r rs s ss g k into in let b = starts_by s ss r rs k g back in omega arith

    end : r.end ≡ s.end
    end = let a = ends_by r rs s ss g k into begin in let b = ends_by s ss r rs k g back (sym begin) in omega arith

    later : Same rs ss
    later x = (later_by r rs s ss g k into end x, later_by s ss r rs k g back (sym end) x)

    same_head : r.start ≡ s.start → r.end ≡ s.end → r ≡ s
    same_head a b = ap (λ (n : ℕ). range n r.end) a ∙ ap (range s.start) b

    same_list : r ≡ s → rs ≡ ss → r ∷ rs ≡ s ∷ ss
    same_list a b = ap (λ (t : Range). t ∷ rs) a ∙ ap (λ (l : List Range). s ∷ l) b

-- ---- `merged`

-- "Two merged areas are now equal exactly when they cover the same points"
pub merged_same : (rs ss : List Range) → Upright rs → Upright ss → (merged rs ≡ merged ss) ↔ Same rs ss
merged_same rs ss u v = (there, back)
  where
    there : merged rs ≡ merged ss → Same rs ss
    there e x = (λ p. merged_only ss x (rw e at (merged_keeps rs x p)), λ p. merged_only rs x (rw (← e) at (merged_keeps ss x p)))

    back : Same rs ss → merged rs ≡ merged ss
    back f =
        gapped_same (merged rs) (merged ss) (merged_gapped rs u) (merged_gapped ss v)
        (λ x. (λ p. merged_keeps ss x ((f x).0 (merged_only rs x p)), λ p. merged_keeps rs x ((f x).1 (merged_only ss x p))))
