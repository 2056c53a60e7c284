-- The area of a plain local has exactly the points that paths give it, for touches in the line.
use Prim.Native.Nat.{ℕ, zero, suc, ◌≤◌, ◌<◌, min, max}
use native.Mathlib.Omega.{arith}
use native.Mathlib.Decide.{dec_le}
use mathlib.Core.Path.{◌≡◌, refl, ap}
use mathlib.Core.Logic.{◌⊎◌, inl, inr, ◌↔◌}
use mathlib.Core.Bool.{Bool, true, false, cond, ◌&&◌, false≢true}
use mathlib.Core.List.Memᴰ
use mathlib.Core.List.{List, [], ◌∷◌, ◌++◌, Memᴰ}
use lib.ListN.{length}
use Rattle.words.proofs.Bools.{and_both, and_pair}
use Rattle.ranges.specs.declared.Range.{Range}
use Rattle.ranges.specs.Points.{range, Point, Upright}
use Rattle.ranges.specs.Inner.{Within}
use Rattle.ranges.proofs.PointLaws.{point_none, point_cases, point_head, point_left, point_right, point_split, upright_none, upright_cons}
use Rattle.ranges.proofs.MergeLaws.{merged_keeps, merged_only}
use Rattle.graph.specs.Paths.{Between}
use Rattle.graph.specs.Line.{Sound}
use Rattle.graph.specs.Flow.{Reached, Reaching}
use Rattle.graph.proofs.RoundLaws.{reached, reaching, last_or_less}
use Rattle.carrying.specs.Lists.{keep}
use Rattle.carrying.proofs.ListLaws.{kept, of_kept}
use Rattle.areas.specs.Blocks.{Graph, top, bottom, whole, InBlock, bounds, clip, touched, AllInLine}
use Rattle.areas.specs.Areas.{Started, Stopping, PlainAt, inner, both, part, PlainPoint}
use Rattle.areas.specs.Pieces.{clips, throughs, least, most, span, block_piece, join_each, line_pieces, before_row, after_row, plain_area}
use Rattle.areas.proofs.BlockLaws.{clip_up}
use Rattle.areas.proofs.ThroughLaws.{inner_point, point_inner}
use Rattle.areas.proofs.JoinLaws.{each_upright, each_keeps, each_adds, each_only}

-- ---- the first and the last point of some ranges

pub least_le : (r : Range) (rs : List Range) (c : Range) → Memᴰ c (r ∷ rs) → least r rs ≤ c.start
least_le r [] c m = go (Memᴰ.cases_cons m)
  where
    go : (c ≡ r) ⊎ Memᴰ c [] → r.start ≤ c.start
    go (inl e) = rw e (omega arith)
    go (inr n) = absurd (Memᴰ.not-nil n)
least_le r (s ∷ rs) c m = go (Memᴰ.cases_cons m) (least_le s rs c)
  where
    go : (c ≡ r) ⊎ Memᴰ c (s ∷ rs) → (Memᴰ c (s ∷ rs) → least s rs ≤ c.start) → min r.start (least s rs) ≤ c.start
    go (inl e) ih = rw e (omega arith)
    go (inr n) ih = omega (arith, ih n)

pub most_ge : (r : Range) (rs : List Range) (c : Range) → Memᴰ c (r ∷ rs) → c.end ≤ most r rs
most_ge r [] c m = go (Memᴰ.cases_cons m)
  where
    go : (c ≡ r) ⊎ Memᴰ c [] → c.end ≤ r.end
    go (inl e) = rw e (omega arith)
    go (inr n) = absurd (Memᴰ.not-nil n)
most_ge r (s ∷ rs) c m = go (Memᴰ.cases_cons m) (most_ge s rs c)
  where
    go : (c ≡ r) ⊎ Memᴰ c (s ∷ rs) → (Memᴰ c (s ∷ rs) → c.end ≤ most s rs) → c.end ≤ max r.end (most s rs)
    go (inl e) ih = rw e (omega arith)
    go (inr n) ih = omega (arith, ih n)

-- a range of the list begins at or before x; ends at or after x
abbrev pub Begun : List Range → ℕ → Type 0
Begun cs x = (c : Range) × Memᴰ c cs × (c.start ≤ x)

abbrev pub Lasts : List Range → ℕ → Type 0
Lasts cs x = (c : Range) × Memᴰ c cs × (x ≤ c.end)

pub least_begun : (r : Range) (rs : List Range) (x : ℕ) → least r rs ≤ x → Begun (r ∷ rs) x
least_begun r [] x h = (r, Memᴰ.head refl, h)
least_begun r (s ∷ rs) x h = go (dec_le r.start x) (least_begun s rs x)
  where
    go : Dec (r.start ≤ x) → (least s rs ≤ x → Begun (s ∷ rs) x) → Begun (r ∷ s ∷ rs) x
    go (yes d) ih = (r, Memᴰ.head refl, d)
    go (no d) ih =
        let (c, m, i) = ih (omega arith) in
        (c, Memᴰ.tail m, i)

pub most_lasts : (r : Range) (rs : List Range) (x : ℕ) → x ≤ most r rs → Lasts (r ∷ rs) x
most_lasts r [] x h = (r, Memᴰ.head refl, h)
most_lasts r (s ∷ rs) x h = go (dec_le x r.end) (most_lasts s rs x)
  where
    go : Dec (x ≤ r.end) → (x ≤ most s rs → Lasts (s ∷ rs) x) → Lasts (r ∷ s ∷ rs) x
    go (yes d) ih = (r, Memᴰ.head refl, d)
    go (no d) ih =
        let (c, m, i) = ih (omega arith) in
        (c, Memᴰ.tail m, i)

module _ (G : Graph) where
  -- ---- a block's piece

  span_point : (k : ℕ) (u v : Bool) (x : ℕ) (cs : List Range) (c : Range) → Memᴰ c cs → top G k ≤ x → x ≤ bottom G k
      → (u ≡ true) ⊎ Begun cs x → (v ≡ true) ⊎ Lasts cs x → Point (span G k u v cs) x
  span_point k u v x [] c m a b h l = absurd (Memᴰ.not-nil m)
  span_point k u v x (r ∷ rs) c m a b h l = point_head _ [] x (low u h) (high v l)
    where
      low : (u : Bool) → (u ≡ true) ⊎ Begun (r ∷ rs) x → cond u (top G k) (least r rs) ≤ x
      low true h = a
      low false (inl e) = absurd (false≢true e)
      low false (inr (d, n, i)) = omega (arith, least_le r rs d n)

      high : (v : Bool) → (v ≡ true) ⊎ Lasts (r ∷ rs) x → x ≤ cond v (bottom G k) (most r rs)
      high true h = b
      high false (inl e) = absurd (false≢true e)
      high false (inr (d, n, i)) = omega (arith, most_ge r rs d n)

  -- from the top by the bit, or from a range that begins before x
  data From (k : ℕ) (u : Bool) (cs : List Range) (x : ℕ) : Type 0 where
    bit : u ≡ true → top G k ≤ x → From k u cs x
    some_range : Begun cs x → From k u cs x

  data Upto (k : ℕ) (v : Bool) (cs : List Range) (x : ℕ) : Type 0 where
    bit : v ≡ true → x ≤ bottom G k → Upto k v cs x
    some_range : Lasts cs x → Upto k v cs x

  point_span : (k : ℕ) (u v : Bool) (x : ℕ) (cs : List Range) → Point (span G k u v cs) x → ((c : Range) × Memᴰ c cs) × From k u cs x × Upto k v cs x
  point_span k u v x [] p = absurd (point_none x p)
  point_span k u v x (r ∷ rs) p = go (point_cases _ [] x p)
    where
      low : (u : Bool) → cond u (top G k) (least r rs) ≤ x → From k u (r ∷ rs) x
      low true h = From.bit refl h
      low false h = From.some_range (least_begun r rs x h)

      high : (v : Bool) → x ≤ cond v (bottom G k) (most r rs) → Upto k v (r ∷ rs) x
      high true h = Upto.bit refl h
      high false h = Upto.some_range (most_lasts r rs x h)

      go : Within (range (cond u (top G k) (least r rs)) (cond v (bottom G k) (most r rs))) x ⊎ Point [] x
          → ((c : Range) × Memᴰ c (r ∷ rs)) × From k u (r ∷ rs) x × Upto k v (r ∷ rs) x
      go (inl (i, j)) = ((r, Memᴰ.head refl), low u i, high v j)
      go (inr q) = absurd (point_none x q)

  clip_listed : (ts : List Range) (k : ℕ) (t : Range) → Memᴰ t ts → bounds G k t ≡ true → Memᴰ (clip G k t) (clips G ts k)
  clip_listed ts k t m b = Memᴰ.map (clip G k) (kept (bounds G k) ts t m b)

  of_clip : (ts : List Range) (k : ℕ) (c : Range) → Memᴰ c (clips G ts k) → (t : Range) × Memᴰ t ts × (bounds G k t ≡ true) × (clip G k t ≡ c)
  of_clip ts k c m =
      let (t, n, e) = Memᴰ.of_map (clip G k) (keep (bounds G k) ts) m in
      let (i, b) = of_kept (bounds G k) ts t n in
      (t, i, b, e)

  module _ (S : Sound G.blocks) where
    pub clip_fits : (ts : List Range) → AllInLine G.blocks ts → (k : ℕ) (c : Range) → Memᴰ c (clips G ts k) → (top G k ≤ c.start) × (c.start ≤ c.end) × (c.end ≤ bottom G k)
    clip_fits ts fine k c m =
        let (t, n, b, e) = of_clip ts k c m in
        let u = clip_up G S t (fine t n) k b in
        rw (← e) (omega arith)

    pub span_upright : (k : ℕ) (u v : Bool) (cs : List Range) → k < length G.blocks
        → ((c : Range) → Memᴰ c cs → (top G k ≤ c.start) × (c.start ≤ c.end) × (c.end ≤ bottom G k)) → Upright (span G k u v cs)
    span_upright k u v [] l f = upright_none
    span_upright k u v (c ∷ cs) l f = upright_cons (range (cond u (top G k) (least c cs)) (cond v (bottom G k) (most c cs))) [] (go u v) upright_none
      where
        g : (top G k ≤ c.start) × (c.start ≤ c.end) × (c.end ≤ bottom G k)
        g = f c (Memᴰ.head refl)

        i : least c cs ≤ c.start
        i = least_le c cs c (Memᴰ.head refl)

        j : c.end ≤ most c cs
        j = most_ge c cs c (Memᴰ.head refl)

        go : (u v : Bool) → cond u (top G k) (least c cs) ≤ cond v (bottom G k) (most c cs)
        go true true = S.upright k l
        go true false = omega (arith, g, j)
        go false true = omega (arith, g, i)
        go false false = omega (arith, g, i, j)

  module _ (S : Sound G.blocks) (B : Between (length G.blocks) G.edges) (ts : List Range) (fine : AllInLine G.blocks ts) where
    abbrev piece : ℕ → List Range
    piece k = block_piece G ts (before_row G ts) (after_row G ts) k

    piece_upright : (k : ℕ) → k < length G.blocks → Upright (piece k)
    piece_upright k l = go (before_row G ts k && after_row G ts k)
      where
        go : (t : Bool) → Upright (cond t (whole G k ∷ []) (span G k (before_row G ts k) (after_row G ts k) (clips G ts k)))
        go true = upright_cons (whole G k) [] (S.upright k l) upright_none
        go false = span_upright S k _ _ (clips G ts k) l (clip_fits S ts fine k)

    has_before : (k : ℕ) → (before_row G ts k ≡ true) ↔ Reached G.edges (touched G ts) k
    has_before k = reached G.edges (length G.blocks) B (touched G ts) k

    has_after : (k : ℕ) → (after_row G ts k ≡ true) ↔ Reaching G.edges (touched G ts) k
    has_after k = reaching G.edges (length G.blocks) B (touched G ts) k

    -- the points of a block that paths give, but for the between-pieces, are those of its piece
    piece_both : (k x : ℕ) → InBlock G k x → Reached G.edges (touched G ts) k → Reaching G.edges (touched G ts) k → Point (piece k) x
    piece_both k x b r s =
        let e : before_row G ts k && after_row G ts k ≡ true = and_pair _ _ ((has_before k).1 r) ((has_after k).1 s) in
        let p : Point (cond (before_row G ts k && after_row G ts k) (whole G k ∷ []) (span G k (before_row G ts k) (after_row G ts k) (clips G ts k))) x =
        rw e (point_head (whole G k) [] x b.above b.under) in
        p

    piece_part : (k x : ℕ) → InBlock G k x → (t : Range) → Memᴰ t ts → bounds G k t ≡ true
        → Reached G.edges (touched G ts) k ⊎ Started G ts k x → Reaching G.edges (touched G ts) k ⊎ Stopping G ts k x → Point (piece k) x
    piece_part k x b t m e r s = go (before_row G ts k && after_row G ts k)
      where
        low : Reached G.edges (touched G ts) k ⊎ Started G ts k x → (before_row G ts k ≡ true) ⊎ Begun (clips G ts k) x
        low (inl q) = inl ((has_before k).1 q)
        low (inr q) =
            let a = b.above in
            let c = q.begun in
            inr (clip G k q.touch, clip_listed ts k q.touch q.listed q.bound, omega arith)

        high : Reaching G.edges (touched G ts) k ⊎ Stopping G ts k x → (after_row G ts k ≡ true) ⊎ Lasts (clips G ts k) x
        high (inl q) = inl ((has_after k).1 q)
        high (inr q) =
            let a = b.under in
            let c = q.lasting in
            inr (clip G k q.touch, clip_listed ts k q.touch q.listed q.bound, omega arith)

        go : (u : Bool) → Point (cond u (whole G k ∷ []) (span G k (before_row G ts k) (after_row G ts k) (clips G ts k))) x
        go true = point_head (whole G k) [] x b.above b.under
        go false = span_point k _ _ x (clips G ts k) (clip G k t) (clip_listed ts k t m e) b.above b.under (low r) (high s)

    piece_only : (k x : ℕ) → k < length G.blocks → Point (piece k) x → InBlock G k x × PlainAt G ts k x
    piece_only k x l p = go (before_row G ts k && after_row G ts k) refl p
      where
        low : From k (before_row G ts k) (clips G ts k) x → (top G k ≤ x) × (Reached G.edges (touched G ts) k ⊎ Started G ts k x)
        low (From.bit e h) = (h, inl ((has_before k).0 e))
        low (From.some_range (c, m, i)) =
            let (t, n, b, e) = of_clip ts k c m in
            let z : (clip G k t).start ≡ c.start = ap (λ (r : Range). r.start) e in
            (omega arith, inr (record { touch = t; listed = n; bound = b; begun = omega arith }))

        high : Upto k (after_row G ts k) (clips G ts k) x → (x ≤ bottom G k) × (Reaching G.edges (touched G ts) k ⊎ Stopping G ts k x)
        high (Upto.bit e h) = (h, inl ((has_after k).0 e))
        high (Upto.some_range (c, m, i)) =
            let (t, n, b, e) = of_clip ts k c m in
            let z : (clip G k t).end ≡ c.end = ap (λ (r : Range). r.end) e in
            (omega arith, inr (record { touch = t; listed = n; bound = b; lasting = omega arith }))

        all : Within (whole G k) x ⊎ Point [] x → before_row G ts k && after_row G ts k ≡ true → InBlock G k x × PlainAt G ts k x
        all (inl (i, j)) e =
            let (f, g) = and_both (before_row G ts k) (after_row G ts k) e in
            (record { block = l; above = i; under = j }, both ((has_before k).0 f) ((has_after k).0 g))
        all (inr q) e = absurd (point_none x q)

        go : (u : Bool) → before_row G ts k && after_row G ts k ≡ u → Point (cond u (whole G k ∷ []) (span G k (before_row G ts k) (after_row G ts k) (clips G ts k))) x → InBlock G k x × PlainAt G ts k x
        go true e q = all (point_cases (whole G k) [] x q) e
        go false e q =
            let ((c, m), f, g) = point_span k _ _ x (clips G ts k) q in
            let (t, n, b, z) = of_clip ts k c m in
            let (i, r) = low f in
            let (j, s) = high g in
            (record { block = l; above = i; under = j }, part t n b r s)

    -- ---- the line of pieces

    abbrev line : ℕ → List Range
    line n = line_pieces G ts (before_row G ts) (after_row G ts) n

    pub line_upright : (n : ℕ) → n ≤ length G.blocks → Upright (line n)
    unfolding line_pieces
    line_upright zero h = upright_none
    line_upright (suc n) h = each_upright (line n) (piece n) (line_upright n (omega arith)) (piece_upright n h)

    line_piece : (n k x : ℕ) → k < n → n ≤ length G.blocks → Point (piece k) x → Point (line n) x
    unfolding line_pieces
    line_piece zero k x l h p = absurd (omega arith)
    line_piece (suc n) k x l h p = go (last_or_less k n l) (line_piece n k x)
      where
        go : (k ≡ n) ⊎ (k < n) → (k < n → n ≤ length G.blocks → Point (piece k) x → Point (line n) x) → Point (join_each (line n) (piece n)) x
        go (inl e) ih = each_adds (line n) (piece n) x (line_upright n (omega arith)) (piece_upright n h) (rw e at p)
        go (inr c) ih = each_keeps (line n) (piece n) x (piece_upright n h) (ih c (omega arith) p)

    piece_line : (n x : ℕ) → Point (line n) x → (k : ℕ) × (k < n) × Point (piece k) x
    unfolding line_pieces
    piece_line zero x p = absurd (point_none x p)
    piece_line (suc n) x p = go (each_only (line n) (piece n) x p) (piece_line n x)
      where
        go : Point (line n) x ⊎ Point (piece n) x → (Point (line n) x → (k : ℕ) × (k < n) × Point (piece k) x) → (k : ℕ) × (k < suc n) × Point (piece k) x
        go (inl q) ih =
            let (k, h, r) = ih q in
            (k, omega arith, r)
        go (inr q) ih = (n, omega arith, q)

    -- ---- exactly

    plain_has : (x : ℕ) → PlainPoint G ts x → Point (plain_area G ts) x
    unfolding plain_area
    plain_has x (k, b, a) = merged_keeps _ x (go a)
      where
        go : PlainAt G ts k x → Point (throughs G ts ++ line (length G.blocks)) x
        go (inner t m e) = point_left (line (length G.blocks)) (inner_point G S ts x (k, t, b, m, e))
        go (both r s) = point_right (throughs G ts) (line_piece (length G.blocks) k x b.block (omega arith) (piece_both k x b r s))
        go (part t m e r s) = point_right (throughs G ts) (line_piece (length G.blocks) k x b.block (omega arith) (piece_part k x b t m e r s))

    plain_only : (x : ℕ) → Point (plain_area G ts) x → PlainPoint G ts x
    unfolding plain_area
    plain_only x p = go (point_split (throughs G ts) (line (length G.blocks)) x (merged_only _ x p))
      where
        go : Point (throughs G ts) x ⊎ Point (line (length G.blocks)) x → PlainPoint G ts x
        go (inl q) =
            let (k, t, b, m, e) = point_inner G S ts x q in
            (k, b, inner t m e)
        go (inr q) =
            let (k, h, r) = piece_line (length G.blocks) x q in
            let (b, a) = piece_only k x h r in
            (k, b, a)

    pub plain_exact : (x : ℕ) → Point (plain_area G ts) x ↔ PlainPoint G ts x
    plain_exact x = (plain_only x, plain_has x)
