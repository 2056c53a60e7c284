-- Points, blocks and touches of a sound line: each point has its block, and a touch in the line starts and ends in its first and last.
use Prim.Native.Nat.{ℕ, zero, suc, ◌+◌, ◌-◌, ◌≤◌, ◌<◌}
use native.Mathlib.Omega.{arith}
use native.Mathlib.Decide.{ℕ_discrete, dec_le}
use mathlib.Core.Path.{◌≡◌, refl, sym, ◌∙◌}
use mathlib.Core.Logic.{◌⊎◌, inl, inr}
use mathlib.Core.Bool.{Bool, true, false, cond}
use mathlib.Core.List.{List, Memᴰ}
use lib.ListN.{length}
use lib.Dec.{eqb, leb}
use borrow.Author.Tests.{leb-true, leb-false, ltb-true, le-leb, lt-leb, lt-ltb, eqb-true, eq-eqb}
use Rattle.words.proofs.Bools.{or_right, and_both, or_cases, or_left, and_pair}
use Rattle.ranges.specs.declared.Range.{Range}
use Rattle.ranges.specs.Points.{overlaps}
use Rattle.graph.specs.Line.{Sound}
use Rattle.graph.proofs.RoundLaws.{last_or_less}
use Rattle.carrying.proofs.ListLaws.{any_true}
use Rattle.areas.specs.Blocks.{Graph, top, bottom, whole, InBlock, holding, block_of, bounds, between, clip, touched, InLine}

-- the two tests of a touch and a block, taken apart
pub bounds_cases : (G : Graph) (k : ℕ) (t : Range) → bounds G k t ≡ true → (block_of G t.start ≡ k) ⊎ (block_of G t.end ≡ k)
bounds_cases G k t e = go (or_cases _ _ e)
  where
    go : (eqb (block_of G t.start) k ≡ true) ⊎ (eqb (block_of G t.end) k ≡ true) → (block_of G t.start ≡ k) ⊎ (block_of G t.end ≡ k)
    go (inl h) = inl (eqb-true _ _ h)
    go (inr h) = inr (eqb-true _ _ h)

pub bounds_first : (G : Graph) (k : ℕ) (t : Range) → block_of G t.start ≡ k → bounds G k t ≡ true
bounds_first G k t e = or_left (eqb (block_of G t.start) k) _ (eq-eqb _ _ e)

pub bounds_last : (G : Graph) (k : ℕ) (t : Range) → block_of G t.end ≡ k → bounds G k t ≡ true
bounds_last G k t e = or_right (eqb (block_of G t.start) k) _ (eq-eqb _ _ e)

pub between_cases : (G : Graph) (k : ℕ) (t : Range) → between G k t ≡ true → (block_of G t.start < k) × (k < block_of G t.end)
between_cases G k t e =
    let (a, b) = and_both _ _ e in
    (ltb-true _ _ a, ltb-true _ _ b)

pub between_test : (G : Graph) (k : ℕ) (t : Range) → block_of G t.start < k → k < block_of G t.end → between G k t ≡ true
between_test G k t a b = and_pair _ _ (lt-ltb _ _ a) (lt-ltb _ _ b)

module _ (G : Graph) (S : Sound G.blocks) where
  pub apart : (k n : ℕ) → k < n → n < length G.blocks → bottom G k < top G n
  apart k zero h b = absurd (omega arith)
  apart k (suc n) h b =
      let g = S.gapless n b in
      let u = S.upright n (omega arith) in
      go (last_or_less k n h) g u (apart k n)
    where
      go : (k ≡ n) ⊎ (k < n) → top G (suc n) ≡ bottom G n + 1 → top G n ≤ bottom G n → (k < n → n < length G.blocks → bottom G k < top G n) → bottom G k < top G (suc n)
      go (inl e) g u ih = rw e (omega arith)
      go (inr l) g u ih = omega (arith, ih l (omega arith))

  pub tops : (k n : ℕ) → k ≤ n → n < length G.blocks → top G k ≤ top G n
  tops k n h b = elim (ℕ_discrete k n)
      [ yes e ↦ rw e (omega arith) | no d ↦ omega (arith, apart k n (omega arith) b, S.upright k (omega arith)) ]

  pub bottoms : (k n : ℕ) → k ≤ n → n < length G.blocks → bottom G k ≤ bottom G n
  bottoms k n h b = elim (ℕ_discrete k n)
      [ yes e ↦ rw e (omega arith) | no d ↦ omega (arith, apart k n (omega arith) b, S.upright n b) ]

  -- ---- the block of a point

  holding_less : (n x : ℕ) → holding G n x ≤ n
  unfolding holding
  holding_less zero x = omega arith
  holding_less (suc n) x = go (leb (top G n) x) (holding_less n x)
    where
      go : (t : Bool) → holding G n x ≤ n → cond t n (holding G n x) ≤ suc n
      go true h = omega arith
      go false h = omega arith

  holding_below : (n x : ℕ) → holding G (suc n) x < suc n
  unfolding holding
  holding_below n x = go (leb (top G n) x) (holding_less n x)
    where
      go : (t : Bool) → holding G n x ≤ n → cond t n (holding G n x) < suc n
      go true h = omega arith
      go false h = omega arith

  pub block_below : (x : ℕ) → block_of G x < length G.blocks
  block_below x = go (length G.blocks) S.some_block
    where
      go : (n : ℕ) → 0 < n → holding G n x < n
      go zero h = absurd (omega arith)
      go (suc n) h = holding_below n x

  holding_is : (n k x : ℕ) → k < n → n ≤ length G.blocks → top G k ≤ x → x ≤ bottom G k → holding G n x ≡ k
  unfolding holding
  holding_is zero k x h b i j = absurd (omega arith)
  holding_is (suc n) k x h b i j = go (last_or_less k n h) (holding_is n k x)
    where
      go : (k ≡ n) ⊎ (k < n) → (k < n → n ≤ length G.blocks → top G k ≤ x → x ≤ bottom G k → holding G n x ≡ k) → cond (leb (top G n) x) n (holding G n x) ≡ k
      go (inl e) ih =
          let z : leb (top G n) x ≡ true = rw (← e) (le-leb (top G k) x i) in
          rw z (sym e)
      go (inr l) ih =
          let a = apart k n l b in
          let z : leb (top G n) x ≡ false = lt-leb (top G n) x (omega arith) in
          rw z (ih l (omega arith) i j)

  pub block_is : (k x : ℕ) → InBlock G k x → block_of G x ≡ k
  block_is k x b = holding_is (length G.blocks) k x b.block (omega arith) b.above b.under

  holding_rises : (n x y : ℕ) → x ≤ y → holding G n x ≤ holding G n y
  unfolding holding
  holding_rises zero x y h = omega arith
  holding_rises (suc n) x y h = go (leb (top G n) x) refl (leb (top G n) y) refl (holding_rises n x y h) (holding_less n x)
    where
      go : (s : Bool) → leb (top G n) x ≡ s → (t : Bool) → leb (top G n) y ≡ t → holding G n x ≤ holding G n y → holding G n x ≤ n
          → cond s n (holding G n x) ≤ cond t n (holding G n y)
      go true e true f ih l = omega arith
      go true e false f ih l =
          let a = leb-true (top G n) x e in
          let b = leb-false (top G n) y f in
          absurd (omega arith)
      go false e true f ih l = l
      go false e false f ih l = ih

  pub block_rises : (x y : ℕ) → x ≤ y → block_of G x ≤ block_of G y
  block_rises x y h = holding_rises (length G.blocks) x y h

  -- a point between two blocks' ends is in one of the blocks
  pub locate : (a b x : ℕ) → a ≤ b → b < length G.blocks → top G a ≤ x → x ≤ bottom G b → (k : ℕ) × InBlock G k x × (a ≤ k) × (k ≤ b)
  locate a zero x h l i j =
      let z : a ≡ 0 = omega arith in
      (0, record { block = l; above = rw z at i; under = j }, omega arith, omega arith)
  locate a (suc b) x h l i j = go (dec_le (top G (suc b)) x) (S.gapless b l) (locate a b x)
    where
      go : Dec (top G (suc b) ≤ x) → top G (suc b) ≡ bottom G b + 1
          → (a ≤ b → b < length G.blocks → top G a ≤ x → x ≤ bottom G b → (k : ℕ) × InBlock G k x × (a ≤ k) × (k ≤ b))
          → (k : ℕ) × InBlock G k x × (a ≤ k) × (k ≤ suc b)
      go (yes d) g ih = (suc b, record { block = l; above = d; under = j }, h, omega arith)
      go (no d) g ih = low (dec_le a b)
        where
          low : Dec (a ≤ b) → (k : ℕ) × InBlock G k x × (a ≤ k) × (k ≤ suc b)
          low (yes e) =
              let (k, p, q, r) = ih e (omega arith) i (omega arith) in
              (k, p, q, omega arith)
          low (no e) =
              let z : a ≡ suc b = omega arith in
              let t : top G (suc b) ≤ x = rw z at i in
              absurd (omega arith)

  -- ---- touches

  -- a touch with a point in the block starts or stops there, or the block lies between
  pub seen : (k x : ℕ) (t : Range) → InBlock G k x → t.start ≤ x → x ≤ t.end → (between G k t ≡ true) ⊎ (bounds G k t ≡ true)
  seen k x t b i j =
      let e = block_is k x b in
      let f : block_of G t.start ≤ k = rw e at (block_rises t.start x i) in
      let g : k ≤ block_of G t.end = rw e at (block_rises x t.end j) in
      go f g (ℕ_discrete (block_of G t.start) k) (ℕ_discrete (block_of G t.end) k)
    where
      go : block_of G t.start ≤ k → k ≤ block_of G t.end → Dec (block_of G t.start ≡ k) → Dec (block_of G t.end ≡ k) → (between G k t ≡ true) ⊎ (bounds G k t ≡ true)
      go f g (yes z) d = inr (bounds_first G k t z)
      go f g (no c) (yes z) = inr (bounds_last G k t z)
      go f g (no c) (no d) = inl (between_test G k t (omega arith) (omega arith))

  -- a touch in the line, clipped to its first or last block, is upright
  pub clip_up : (t : Range) → InLine G.blocks t → (k : ℕ) → bounds G k t ≡ true → (clip G k t).start ≤ (clip G k t).end
  clip_up t i k b = go (bounds_cases G k t b)
    where
      at : (x : ℕ) → t.start ≤ x → x ≤ t.end → block_of G x ≡ k → (top G k ≤ x) × (x ≤ bottom G k)
      at x l u e =
          let (j, p, c, d) = locate 0 (length G.blocks - 1) x (omega arith) (omega (arith, S.some_block)) (omega (arith, i.first)) (omega (arith, i.last)) in
          let z : k ≡ j = sym e ∙ block_is j x p in
          rw z (p.above, p.under)

      go : (block_of G t.start ≡ k) ⊎ (block_of G t.end ≡ k) → (clip G k t).start ≤ (clip G k t).end
      go (inl e) = omega (arith, i.upright, at t.start (omega arith) i.upright e)
      go (inr e) = omega (arith, i.upright, at t.end i.upright (omega arith) e)

  -- a block between lies wholly in the touch
  pub between_in : (k : ℕ) (t : Range) → InLine G.blocks t → between G k t ≡ true → (t.start < top G k) × (bottom G k < t.end)
  between_in k t i b =
      let (f, g) = between_cases G k t b in
      let p = clip_up t i (block_of G t.start) (bounds_first G _ t refl) in
      let q = clip_up t i (block_of G t.end) (bounds_last G _ t refl) in
      let l = block_below t.end in
      let a = apart (block_of G t.start) k f (omega arith) in
      let c = apart k (block_of G t.end) g l in
      (omega arith, omega arith)

  overlap : (ts : List Range) (k : ℕ) (t : Range) → Memᴰ t ts → t.start ≤ bottom G k → top G k ≤ t.end → touched G ts k ≡ true
  overlap ts k t m a b = any_true (λ s. overlaps s (whole G k)) ts t m (and_pair _ _ (le-leb _ _ a) (le-leb _ _ b))

  pub touched_bound : (ts : List Range) (k : ℕ) (t : Range) → Memᴰ t ts → InLine G.blocks t → bounds G k t ≡ true → touched G ts k ≡ true
  touched_bound ts k t m i b =
      let p = clip_up t i k b in
      overlap ts k t m (omega arith) (omega arith)

  pub touched_between : (ts : List Range) (k : ℕ) (t : Range) → Memᴰ t ts → InLine G.blocks t → k < length G.blocks → between G k t ≡ true → touched G ts k ≡ true
  touched_between ts k t m i l b =
      let (p, q) = between_in k t i b in
      let u = S.upright k l in
      overlap ts k t m (omega arith) (omega arith)
