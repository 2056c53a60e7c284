-- The block of a point by a count of starts, the first end by a count of ends, and the touches of a work space by index.
use Prim.Native.Nat.{ℕ, zero, suc, ◌+◌, ◌-◌, ◌/◌, ◌%◌, ◌^◌, ◌≤◌, ◌<◌}
use native.Mathlib.Omega.{arith}
use mathlib.Core.Path.{◌≡◌, refl, sym, ap, ◌∙◌, subst}
use mathlib.Core.Logic.{◌⊎◌, inl, inr}
use mathlib.Core.Bool.{cond}
use mathlib.Core.List.{List, [], Memᴰ}
use lib.ListN.{length, get_or}
use lib.Dec.{leb, ltb}
use borrow.Author.Tests.{ltb-true, ltb-false}
use Rattle.words.specs.Inner.{Rising, Splits, part}
use Rattle.words.specs.Widths.{block_count, block_start}
use Rattle.words.proofs.SortLaws.{rising_le}
use Rattle.words.proofs.Points.{cut}
use Rattle.words.proofs.RegionLaws.{length_part, get_d_part}
use Rattle.ranges.specs.declared.Range.{Range}
use Rattle.ranges.specs.Points.{range}
use Rattle.ranges.specs.Inner.{unpack, unpacked}
use Rattle.ranges.proofs.FormLaws.{unpacked_at, unpacked_length}
use Rattle.graph.specs.Paths.{Edge}
use Rattle.graph.specs.Line.{blocks_of, block_at, Sound}
use Rattle.graph.proofs.Line.{mem_at, at_mem, blocks_length, start_is}
use Rattle.areas.specs.Blocks.{Graph, top, holding, block_of, until}
use Rattle.areas.specs.Areas.{UpTo}
use Rattle.areas.proofs.BlockLaws.{block_below}
use Rattle.areas.proofs.EndLaws.{until_has, until_only}
use Rattle.spots.specs.Spots.{line_of}
use Rattle.spots.specs.Inner.{Held}

-- ---- the block of a point

-- the block of a point is found without the edges
pub holding_edges : (blocks : List ℕ) (es fs : List Edge) (n x : ℕ) → holding (line_of blocks es) n x ≡ holding (line_of blocks fs) n x
unfolding holding
holding_edges blocks es fs zero x = refl
holding_edges blocks es fs (suc n) x = ap (λ (h : ℕ). cond (leb (top (line_of blocks es) n) x) n h) (holding_edges blocks es fs n x)

-- of n blocks the first r start no later than x
holding_split : (G : Graph) (n x r : ℕ) → Splits (λ i. leb (top G i) x) n r → holding G n x ≡ r - 1
unfolding holding
holding_split G zero x r s = let h = s.within in omega arith
holding_split G (suc n) x r s = cut r n
    (λ h. rw (s.fails n h (omega arith)) (holding_split G n x r (record { within = h; holds = s.holds; fails = λ i a b. s.fails i a (omega arith) })))
    (λ h. let w = s.within in rw (s.holds n h) (omega arith))

pub held : (blocks : List ℕ) (point r q : ℕ) → Sound (blocks_of blocks) → Splits (λ i. leb (block_start blocks i) point) (block_count blocks) r → q ≡ r - 1 → Held blocks point q
held blocks point r q S s e = record {
  below = let b = block_below (line_of blocks []) S point in let i = is [] in let l = blocks_length blocks in omega arith;
  is = is;
}
  where
    same : (i : ℕ) → i < block_count blocks → leb (block_at (blocks_of blocks) i).start point ≡ leb (block_start blocks i) point
    same i h = ap (λ (t : ℕ). leb t point) (start_is blocks i h)

    split : Splits (λ i. leb (block_at (blocks_of blocks) i).start point) (block_count blocks) r
    split = record {
      within = s.within;
      holds = λ i h. same i (let w = s.within in omega arith) ∙ s.holds i h;
      fails = λ i h l. same i l ∙ s.fails i h l;
    }

    is : (es : List Edge) → q ≡ block_of (line_of blocks es) point
    is es = e ∙ sym (holding_split (line_of blocks es) (block_count blocks) point r split) ∙ ap (λ (n : ℕ). holding (line_of blocks es) n point) (sym (blocks_length blocks))

-- ---- the first end

-- it is the least of the bottom and the ends at or after the point
pub until_is : (es : List ℕ) (z b r : ℕ) → r ≤ b → UpTo es z r → (r ≡ b) ⊎ (Memᴰ r es × (z ≤ r)) → r ≡ until es z b
until_is es z b r h u o = go o
  where
    low : r ≤ until es z b
    low = until_has es z b r h u

    go : (r ≡ b) ⊎ (Memᴰ r es × (z ≤ r)) → r ≡ until es z b
    go (inl e) = let (p, q) = until_only es z b (until es z b) (omega arith) in omega (arith, low)
    go (inr (m, l)) = let (p, q) = until_only es z b (until es z b) (omega arith) in omega (arith, low, q r m l)

-- so the order of the ends does not matter
pub until_order : (es fs : List ℕ) (z b : ℕ) → ((e : ℕ) → Memᴰ e es → Memᴰ e fs) → ((e : ℕ) → Memᴰ e fs → Memᴰ e es) → until es z b ≡ until fs z b
until_order es fs z b to fro =
    let (p, q) = until_only es z b (until es z b) (omega arith) in
    let (s, t) = until_only fs z b (until fs z b) (omega arith) in
    let x = until_has fs z b (until es z b) p (λ e m l. q e (fro e m) l) in
    let y = until_has es z b (until fs z b) s (λ e m l. t e (to e m) l) in
    omega arith

module _ (w : List ℕ) (ends stops : ℕ) (fits : ends + stops ≤ length w) where
  -- the ends by index
  pub end_in : (i : ℕ) → i < stops → Memᴰ (get_or w (ends + i) 0) (part ends stops w)
  end_in i h = subst (λ (x : ℕ). Memᴰ x (part ends stops w)) (get_d_part ends stops w i h) (mem_at (part ends stops w) i 0 (rw (length_part ends stops w fits) h))

  pub end_of : (e : ℕ) → Memᴰ e (part ends stops w) → (i : ℕ) × (i < stops) × (get_or w (ends + i) 0 ≡ e)
  end_of e m =
      let (i, h, q) = at_mem (part ends stops w) e 0 m in
      let l : i < stops = rw (length_part ends stops w fits) at h in
      (i, l, sym (get_d_part ends stops w i l) ∙ q)

  -- i ends stand before the point
  module _ (rising : Rising (λ i. get_or w (ends + i) 0) stops) (z b i : ℕ) (s : Splits (λ i. ltb (get_or w (ends + i) 0) z) stops i) where
    from : (e : ℕ) → Memᴰ e (part ends stops w) → z ≤ e → (i < stops) × (get_or w (ends + i) 0 ≤ e)
    from e m l =
        let (j, h, q) = end_of e m in
        cut i j
        (λ g. (omega arith, omega (arith, rising_le (λ k. get_or w (ends + k) 0) stops rising i j g h)))
        (λ g. absurd (omega (arith, ltb-true (get_or w (ends + j) 0) z (s.holds j g))))

    pub until_none : stops ≤ i → b ≡ until (part ends stops w) z b
    until_none h = until_is (part ends stops w) z b b (omega arith) (λ e m l. absurd (omega (arith, (from e m l).0))) (inl refl)

    pub until_past : i < stops → b ≤ get_or w (ends + i) 0 → b ≡ until (part ends stops w) z b
    until_past h g = until_is (part ends stops w) z b b (omega arith) (λ e m l. omega (arith, (from e m l).1)) (inl refl)

    pub until_at : i < stops → get_or w (ends + i) 0 < b → get_or w (ends + i) 0 ≡ until (part ends stops w) z b
    until_at h g =
        until_is (part ends stops w) z b (get_or w (ends + i) 0) (omega arith) (λ e m l. (from e m l).1)
        (inr (end_in i h, ltb-false _ _ (s.fails i (omega arith) h)))

-- ---- touches

-- a word taken apart
pub unpack_is : (x s e : ℕ) → s ≡ x / 2 ^ 32 → e ≡ x % 2 ^ 32 → range s e ≡ unpack x
unpack_is x s e p q = ap (λ (a : ℕ). range a e) p ∙ ap (λ (b : ℕ). range (x / 2 ^ 32) b) q

module _ (w : List ℕ) (at count : ℕ) (fits : at + count ≤ length w) where
  pub touch_in : (i : ℕ) → i < count → Memᴰ (unpack (get_or w (at + i) 0)) (unpacked (part at count w))
  touch_in i h =
      subst (λ (t : Range). Memᴰ t (unpacked (part at count w))) (unpacked_at (part at count w) i ∙ ap unpack (get_d_part at count w i h))
      (mem_at (unpacked (part at count w)) i (range 0 0) (rw (unpacked_length (part at count w), length_part at count w fits) h))

  pub touch_of : (t : Range) → Memᴰ t (unpacked (part at count w)) → (i : ℕ) × (i < count) × (unpack (get_or w (at + i) 0) ≡ t)
  touch_of t m =
      let (i, h, q) = at_mem (unpacked (part at count w)) t (range 0 0) m in
      let l : i < count = rw (unpacked_length (part at count w), length_part at count w fits) at h in
      (i, l, ap unpack (sym (get_d_part at count w i l)) ∙ sym (unpacked_at (part at count w) i) ∙ q)
