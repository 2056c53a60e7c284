-- The area of an ending local has exactly the points that paths give it.
use Prim.Native.Nat.{ℕ, zero, suc, ◌≤◌, ◌<◌, min}
use native.Mathlib.Omega.{arith}
use mathlib.Core.Path.{◌≡◌, refl, ap, sym, ◌∙◌}
use mathlib.Core.Logic.{◌⊎◌, inl, inr, ◌↔◌}
use mathlib.Core.Bool.{Bool, true, false, cond, true≢false}
use mathlib.Core.List.Memᴰ
use mathlib.Core.List.{List, [], ◌∷◌, ◌++◌, map, Memᴰ}
use lib.ListN.{length}
use lib.Dec.{leb}
use borrow.Author.Tests.{leb-true, le-leb}
use Rattle.ranges.specs.declared.Range.{Range}
use Rattle.ranges.specs.Points.{range, Point}
use Rattle.ranges.specs.Inner.{Within}
use Rattle.ranges.proofs.PointLaws.{point_none, point_cases, point_head, point_left, point_right, point_split}
use Rattle.ranges.proofs.MergeLaws.{merged_keeps, merged_only}
use Rattle.graph.specs.Paths.{Between}
use Rattle.graph.specs.Line.{Sound}
use Rattle.graph.specs.Flow.{Arrives}
use Rattle.graph.proofs.RoundLaws.{arriving, last_or_less}
use Rattle.carrying.specs.Lists.{keep}
use Rattle.carrying.proofs.ListLaws.{kept, of_kept}
use Rattle.areas.specs.Blocks.{Graph, top, bottom, InBlock, bounds, clip, until, cover, leaves, passes}
use Rattle.areas.specs.Areas.{UpTo, EndAt, inner, covered, arrived, EndPoint}
use Rattle.areas.specs.Pieces.{throughs, end_pieces, end_line, arrives_row, ending_area}
use Rattle.areas.proofs.ThroughLaws.{inner_point, point_inner}

-- not past the first end at or after z, nor past the bottom
pub until_has : (es : List ℕ) (z b x : ℕ) → x ≤ b → UpTo es z x → x ≤ until es z b
unfolding until
until_has [] z b x h u = h
until_has (e ∷ es) z b x h u = go (leb z e) refl (until_has es z b x h (λ d m l. u d (Memᴰ.tail m) l))
  where
    go : (t : Bool) → leb z e ≡ t → x ≤ until es z b → x ≤ cond t (min e (until es z b)) (until es z b)
    go true q ih =
        let h : x ≤ e = u e (Memᴰ.head refl) (leb-true z e q) in
        omega arith
    go false q ih = ih

pub until_only : (es : List ℕ) (z b x : ℕ) → x ≤ until es z b → (x ≤ b) × UpTo es z x
unfolding until
until_only [] z b x h = (h, λ e m l. absurd (Memᴰ.not-nil m))
until_only (e ∷ es) z b x h = go (leb z e) refl h (until_only es z b x)
  where
    upto : (x ≤ e) ⊎ (leb z e ≡ false) → UpTo es z x → UpTo (e ∷ es) z x
    upto c u d m l = mem (Memᴰ.cases_cons m)
      where
        low : (x ≤ e) ⊎ (leb z e ≡ false) → z ≤ e → x ≤ e
        low (inl a) f = a
        low (inr a) f = absurd (true≢false (sym (le-leb z e f) ∙ a))

        mem : (d ≡ e) ⊎ Memᴰ d es → x ≤ d
        mem (inl q) = rw q (low c (rw q at l))
        mem (inr n) = u d n l

    go : (t : Bool) → leb z e ≡ t → x ≤ cond t (min e (until es z b)) (until es z b) → (x ≤ until es z b → (x ≤ b) × UpTo es z x) → (x ≤ b) × UpTo (e ∷ es) z x
    go true q h ih =
        let (a, u) = ih (omega arith) in
        (a, upto (inl (omega arith)) u)
    go false q h ih =
        let (a, u) = ih h in
        (a, upto (inr q) u)

module _ (G : Graph) (S : Sound G.blocks) (B : Between (length G.blocks) G.edges) (ts : List Range) (es : List ℕ) where
  has_arrived : (k : ℕ) → (arrives_row G ts es k ≡ true) ↔ Arrives G.edges (leaves G ts es) (passes G es) k
  has_arrived k = arriving G.edges (length G.blocks) B (leaves G ts es) (passes G es) k

  abbrev pieces : ℕ → List Range
  pieces k = end_pieces G ts es (arrives_row G ts es) k

  abbrev from_top : Bool → ℕ → List Range
  from_top t k = cond t (range (top G k) (until es (top G k) (bottom G k)) ∷ []) []

  abbrev covers : ℕ → List Range
  covers k = map (cover G es k) (keep (bounds G k) ts)

  pieces_arrived : (k x : ℕ) → InBlock G k x → Arrives G.edges (leaves G ts es) (passes G es) k → UpTo es (top G k) x → Point (pieces k) x
  pieces_arrived k x b a u =
      let p : Point (from_top (arrives_row G ts es k) k) x = rw ((has_arrived k).1 a) (point_head _ [] x b.above (until_has es (top G k) (bottom G k) x b.under u)) in
      point_left (covers k) p

  pieces_covered : (k x : ℕ) → InBlock G k x → (t : Range) → Memᴰ t ts → bounds G k t ≡ true → t.start ≤ x → UpTo es (clip G k t).end x → Point (pieces k) x
  pieces_covered k x b t m e h u =
      let a = b.above in
      point_right (from_top (arrives_row G ts es k) k)
      (cover G es k t, Memᴰ.map (cover G es k) (kept (bounds G k) ts t m e), omega arith, until_has es (clip G k t).end (bottom G k) x b.under u)

  pieces_only : (k x : ℕ) → k < length G.blocks → Point (pieces k) x → InBlock G k x × EndAt G ts es k x
  pieces_only k x l p = go (point_split (from_top (arrives_row G ts es k) k) (covers k) x p)
    where
      first : (t : Bool) → arrives_row G ts es k ≡ t → Point (from_top t k) x → InBlock G k x × EndAt G ts es k x
      first false e q = absurd (point_none x q)
      first true e q = one (point_cases _ [] x q)
        where
          one : Within (range (top G k) (until es (top G k) (bottom G k))) x ⊎ Point [] x → InBlock G k x × EndAt G ts es k x
          one (inl (i, j)) =
              let (a, u) = until_only es (top G k) (bottom G k) x j in
              (record { block = l; above = i; under = a }, arrived ((has_arrived k).0 e) u)
          one (inr n) = absurd (point_none x n)

      go : Point (from_top (arrives_row G ts es k) k) x ⊎ Point (covers k) x → InBlock G k x × EndAt G ts es k x
      go (inl q) = first (arrives_row G ts es k) refl q
      go (inr (r, m, i, j)) =
          let (t, n, e) = Memᴰ.of_map (cover G es k) (keep (bounds G k) ts) m in
          let (c, b) = of_kept (bounds G k) ts t n in
          let i' : (cover G es k t).start ≡ r.start = ap (λ (s : Range). s.start) e in
          let j' : (cover G es k t).end ≡ r.end = ap (λ (s : Range). s.end) e in
          let (a, u) = until_only es (clip G k t).end (bottom G k) x (omega arith) in
          (record { block = l; above = omega arith; under = a }, covered t c b (omega arith) u)

  abbrev line : ℕ → List Range
  line n = end_line G ts es (arrives_row G ts es) n

  line_pieces_lem : (n k x : ℕ) → k < n → Point (pieces k) x → Point (line n) x
  unfolding end_line
  line_pieces_lem zero k x l p = absurd (omega arith)
  line_pieces_lem (suc n) k x l p = go (last_or_less k n l) (line_pieces_lem n k x)
    where
      go : (k ≡ n) ⊎ (k < n) → (k < n → Point (pieces k) x → Point (line n) x) → Point (line n ++ pieces n) x
      go (inl e) ih = point_right (line n) (rw e at p)
      go (inr c) ih = point_left (pieces n) (ih c p)

  pieces_line : (n x : ℕ) → Point (line n) x → (k : ℕ) × (k < n) × Point (pieces k) x
  unfolding end_line
  pieces_line zero x p = absurd (point_none x p)
  pieces_line (suc n) x p = go (point_split (line n) (pieces n) x p) (pieces_line n x)
    where
      go : Point (line n) x ⊎ Point (pieces n) x → (Point (line n) x → (k : ℕ) × (k < n) × Point (pieces k) x) → (k : ℕ) × (k < suc n) × Point (pieces k) x
      go (inl q) ih =
          let (k, h, r) = ih q in
          (k, omega arith, r)
      go (inr q) ih = (n, omega arith, q)

  end_has : (x : ℕ) → EndPoint G ts es x → Point (ending_area G ts es) x
  unfolding ending_area
  end_has x (k, b, a) = merged_keeps _ x (go a)
    where
      go : EndAt G ts es k x → Point (throughs G ts ++ line (length G.blocks)) x
      go (inner t m e) = point_left (line (length G.blocks)) (inner_point G S ts x (k, t, b, m, e))
      go (covered t m e h u) = point_right (throughs G ts) (line_pieces_lem (length G.blocks) k x b.block (pieces_covered k x b t m e h u))
      go (arrived r u) = point_right (throughs G ts) (line_pieces_lem (length G.blocks) k x b.block (pieces_arrived k x b r u))

  end_only : (x : ℕ) → Point (ending_area G ts es) x → EndPoint G ts es x
  unfolding ending_area
  end_only x p = go (point_split (throughs G ts) (line (length G.blocks)) x (merged_only _ x p))
    where
      go : Point (throughs G ts) x ⊎ Point (line (length G.blocks)) x → EndPoint G ts es x
      go (inl q) =
          let (k, t, b, m, e) = point_inner G S ts x q in
          (k, b, inner t m e)
      go (inr q) =
          let (k, h, r) = pieces_line (length G.blocks) x q in
          let (b, a) = pieces_only k x h r in
          (k, b, a)

  pub end_exact : (x : ℕ) → Point (ending_area G ts es) x ↔ EndPoint G ts es x
  end_exact x = (end_only x, end_has x)
