-- The between-pieces have exactly the points of the blocks between a touch's first and last.
use Prim.Native.Nat.{ℕ, suc, pred, ◌<◌}
use native.Mathlib.Omega.{arith}
use mathlib.Core.Path.{◌≡◌, refl}
use mathlib.Core.Bool.{Bool, true, false, cond}
use mathlib.Core.Logic.{◌⊎◌, inl, inr}
use mathlib.Core.List.{List, [], ◌∷◌, Memᴰ}
use lib.Dec.{ltb}
use borrow.Author.Tests.{ltb-true, lt-ltb}
use Rattle.ranges.specs.declared.Range.{Range}
use Rattle.ranges.specs.Points.{range, Point}
use Rattle.ranges.specs.Inner.{Within}
use Rattle.ranges.proofs.PointLaws.{point_head, point_cases, point_none}
use Rattle.graph.specs.Line.{Sound}
use Rattle.carrying.specs.Lists.{gather}
use Rattle.carrying.proofs.ListLaws.{gathered, of_gathered}
use Rattle.areas.specs.Blocks.{Graph, top, bottom, InBlock, block_of, between}
use Rattle.areas.specs.Pieces.{through, throughs}
use Rattle.areas.proofs.BlockLaws.{between_cases, between_test, block_below, tops, bottoms, locate}

-- some touch of the list has the block of x between its first and its last
abbrev pub Inner : Graph → List Range → ℕ → Type 0
Inner G ts x = (k : ℕ) × (t : Range) × InBlock G k x × Memᴰ t ts × (between G k t ≡ true)

-- points of lists put one after another
pub gather_point : {A : Type 0} (f : A → List Range) (l : List A) (a : A) (x : ℕ) → Memᴰ a l → Point (f a) x → Point (gather f l) x
gather_point f l a x m (r, n, h, k) = (r, gathered f l a r m n, h, k)

pub point_gather : {A : Type 0} (f : A → List Range) (l : List A) (x : ℕ) → Point (gather f l) x → (a : A) × Memᴰ a l × Point (f a) x
point_gather f l x (r, n, h, k) =
    let (a, m, i) = of_gathered f l r n in
    (a, m, (r, i, h, k))

module _ (G : Graph) (S : Sound G.blocks) where
  through_point : (t : Range) (k x : ℕ) → InBlock G k x → between G k t ≡ true → Point (through G t) x
  through_point t k x b e =
      let (f, g) = between_cases G k t e in
      let l = block_below G S t.end in
      let a = tops G S (suc (block_of G t.start)) k f b.block in
      let c = bottoms G S k (pred (block_of G t.end)) (omega arith) (omega arith) in
      rw (lt-ltb (suc (block_of G t.start)) (block_of G t.end) (omega arith)) (point_head _ [] x (omega arith) (omega arith))

  point_through : (t : Range) (x : ℕ) → Point (through G t) x → (k : ℕ) × InBlock G k x × (between G k t ≡ true)
  point_through t x p = go (ltb (suc (block_of G t.start)) (block_of G t.end)) refl p
    where
      piece : Range
      piece = range (top G (suc (block_of G t.start))) (bottom G (pred (block_of G t.end)))

      inside : suc (block_of G t.start) < block_of G t.end → Within piece x ⊎ Point [] x → (k : ℕ) × InBlock G k x × (between G k t ≡ true)
      inside h (inl (i, j)) =
          let l = block_below G S t.end in
          let (k, b, c, d) = locate G S (suc (block_of G t.start)) (pred (block_of G t.end)) x (omega arith) (omega arith) i j in
          (k, b, between_test G k t c (omega arith))
      inside h (inr q) = absurd (point_none x q)

      go : (u : Bool) → ltb (suc (block_of G t.start)) (block_of G t.end) ≡ u → Point (cond u (piece ∷ []) []) x → (k : ℕ) × InBlock G k x × (between G k t ≡ true)
      go true e q = inside (ltb-true _ _ e) (point_cases piece [] x q)
      go false e q = absurd (point_none x q)

  pub inner_point : (ts : List Range) (x : ℕ) → Inner G ts x → Point (throughs G ts) x
  inner_point ts x (k, t, b, m, e) = gather_point (through G) ts t x m (through_point t k x b e)

  pub point_inner : (ts : List Range) (x : ℕ) → Point (throughs G ts) x → Inner G ts x
  point_inner ts x p =
      let (t, m, q) = point_gather (through G) ts x p in
      let (k, b, e) = point_through t x q in
      (k, t, b, m, e)
