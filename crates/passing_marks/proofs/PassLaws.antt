-- Where a local passes: each end in turn, and the block that has it.
use Prim.Native.Nat.{ℕ, ◌+◌, ◌*◌, ◌^◌, ◌≤◌, ◌<◌}
use native.Mathlib.Omega.{arith}
use mathlib.Core.Path.{◌≡◌, refl, sym, ap, ◌∙◌, subst}
use mathlib.Core.Logic.{inl, inr, ⊎_elim}
use mathlib.Core.Bool.{Bool, true, false, not, ◌&&◌}
use mathlib.Core.List.{List, []}
use lib.ListN.{get_or}
use lib.Dec.{leb}
use borrow.Author.Tests.{leb-true, le-leb, not-false}
use Rattle.words.proofs.Points.{same}
use Rattle.graph.specs.Paths.{Edge}
use Rattle.graph.specs.Line.{blocks_of, Sound}
use Rattle.graph.proofs.Line.{blocks_length, start_is, end_is}
use Rattle.carrying.specs.Lists.{any}
use Rattle.carrying.proofs.ListLaws.{any_true, any_entry}
use Rattle.areas.specs.Blocks.{InBlock, top, bottom, passes}
use Rattle.areas.proofs.BlockLaws.{block_is}
use Rattle.spots.specs.declared.Spots.{Spots}
use Rattle.spots.specs.Spots.{line_of}
use Rattle.spots.specs.Inner.{ends_at, Held}
use Rattle.spots.proofs.SpotLaws.{end_in, end_of}
use Rattle.area_rows.specs.declared.Column.{Column}
use Rattle.area_rows.specs.Inner.{marked, Fits, Marked, EndsReady, Put, Stopped}
use Rattle.area_rows.proofs.PutLaws.{put_none, put_then, put_as, put_fits, put_unset}
-- two tests that hold together are one
use Rattle.area_rows.proofs.MarkLaws.{beside}
use Rattle.words.proofs.Bools.{and_both, and_pair}
use Rattle.words.specs.Widths.{block_width, block_count, block_start, block_end}

module _ (blocks : List ℕ) (S : Sound (blocks_of blocks)) where
  pub stopped_far : (point : ℕ) → 2 ^ 32 ≤ point → ((i : ℕ) → get_or blocks i 0 < 2 ^ 32) → Stopped blocks point (block_count blocks)
  stopped_far point h fit = record {
    has = λ l. absurd (omega arith);
    only = λ k b. let l = b.block in let n = blocks_length blocks in let u = b.under in let e = end_is blocks k (omega arith) in let f = fit (block_width * k + 2) in absurd (omega arith);
  }

  module _ (point k : ℕ) (held : Held blocks point k) where
    same_block : (j : ℕ) → InBlock (line_of blocks []) j point → j ≡ k
    same_block j b = sym (block_is (line_of blocks []) S j point b) ∙ sym (held.is [])

    none : (InBlock (line_of blocks []) k point → ⊥) → Stopped blocks point (block_count blocks)
    none f = record { has = λ l. absurd (omega arith); only = λ j b. absurd (f (subst (λ (i : ℕ). InBlock (line_of blocks []) i point) (same_block j b) b)) }

    pub stopped_before : point < block_start blocks k → Stopped blocks point (block_count blocks)
    stopped_before h = none (λ b. let t = start_is blocks k held.below in let a = b.above in omega arith)

    pub stopped_after : block_end blocks k < point → Stopped blocks point (block_count blocks)
    stopped_after h = none (λ b. let t = end_is blocks k held.below in let a = b.under in omega arith)

    pub stopped_in : block_start blocks k ≤ point → point ≤ block_end blocks k → Stopped blocks point k
    stopped_in h l = record {
      has = λ m. record {
        block = let n = blocks_length blocks in omega arith;
        above = let t = start_is blocks k m in omega arith;
        under = let t = end_is blocks k m in omega arith;
      };
      only = same_block;
    }

pub record Ending (blocks : List ℕ) (s : Spots) (c : Column) (w₀ w : List ℕ) (i : ℕ) : Type 0 where
  pub ready : EndsReady blocks s c w₀
  pub fits : Fits c w
  pub put : Put c false (λ j. (m : ℕ) × (m < i) × InBlock (line_of blocks []) j (get_or w₀ (s.ends + m) 0)) w₀ w
  pub at_most : i ≤ s.stops

pub ending_start : {blocks : List ℕ} {s : Spots} {c : Column} {w : List ℕ} → EndsReady blocks s c w → Ending blocks s c w w 0
ending_start {blocks} {s} {c} {w} r = record {
  ready = r;
  fits = r.fits;
  put = put_as (λ j. (m : ℕ) × (m < 0) × InBlock (line_of blocks []) j (get_or w (s.ends + m) 0)) (put_none c false w) (λ k h s. absurd s) (λ k h p. let l = p.1 in absurd (omega arith));
  at_most = omega arith;
}

module _ {blocks : List ℕ} {s : Spots} {c : Column} {w₀ w : List ℕ} {i : ℕ} (p : Ending blocks s c w₀ w i) (h : i < s.stops) {r : ℕ} (q : Stopped blocks (get_or w (s.ends + i) 0) r) where
  word : get_or w (s.ends + i) 0 ≡ get_or w₀ (s.ends + i) 0
  word = beside s.ends s.stops p.put.kept p.ready.apart i h

  pub ending_hit : {w' : List ℕ} → r < c.n → Put c false (λ j. j ≡ r) w w' → Ending blocks s c w₀ w' (i + 1)
  ending_hit l u = record {
    ready = p.ready;
    fits = put_fits p.fits u;
    put = put_as (λ j. (m : ℕ) × (m < i + 1) × InBlock (line_of blocks []) j (get_or w₀ (s.ends + m) 0)) (put_then p.put u)
        (λ j k o. ⊎_elim (λ t. let (m, g, z) = t in (m, omega arith, z)) (λ e. (i, omega arith, subst (λ (x : ℕ). InBlock (line_of blocks []) j x) word (subst (λ (v : ℕ). InBlock (line_of blocks []) v (get_or w (s.ends + i) 0)) (sym e) (q.has (let z = p.ready.places in omega arith))))) o)
        (λ j k t. let (m, g, z) = t in same m i
        (λ d. inr (q.only j (subst (λ (x : ℕ). InBlock (line_of blocks []) j x) (ap (λ (n : ℕ). get_or w₀ (s.ends + n) 0) d ∙ sym word) z)))
        (λ d. inl (m, omega arith, z)));
    at_most = omega arith;
  }

  pub ending_miss : c.n ≤ r → Ending blocks s c w₀ w (i + 1)
  ending_miss l = record {
    ready = p.ready;
    fits = p.fits;
    put = put_as (λ j. (m : ℕ) × (m < i + 1) × InBlock (line_of blocks []) j (get_or w₀ (s.ends + m) 0)) p.put
        (λ j k t. let (m, g, z) = t in (m, omega arith, z))
        (λ j k t. let (m, g, z) = t in same m i
        (λ d. absurd (let e = q.only j (subst (λ (x : ℕ). InBlock (line_of blocks []) j x) (ap (λ (n : ℕ). get_or w₀ (s.ends + n) 0) d ∙ sym word) z) in omega arith))
        (λ d. (m, omega arith, z)));
    at_most = omega arith;
  }

-- the ends have been marked: the blocks that the local does not pass
module _ {blocks : List ℕ} {s : Spots} {c : Column} {w₀ w : List ℕ} {i : ℕ} (p : Ending blocks s c w₀ w i) where
  not_true : (b : Bool) → b ≡ true → not b ≡ false
  not_true b e = rw e refl

  pub ending_done : s.stops ≤ i → (es : List Edge) → Marked c (λ k. passes (line_of blocks es) (ends_at s w₀) k && marked c w₀ k) w₀ w
  ending_done h es = put_unset (λ k. passes (line_of blocks es) (ends_at s w₀) k) p.put
      (λ k l t. let (m, g, b) = t in not_true (any (inside k) (ends_at s w₀)) (any_true (inside k) (ends_at s w₀) (get_or w₀ (s.ends + m) 0)
      (end_in w₀ s.ends s.stops p.ready.stand m (let q = p.at_most in omega arith)) (and_pair _ _ (le-leb _ _ b.above) (le-leb _ _ b.under))))
      (λ k l e. let (x, m, z) = any_entry (inside k) (ends_at s w₀) (not-false (any (inside k) (ends_at s w₀)) e) in
      let (j, g, q) = end_of w₀ s.ends s.stops p.ready.stand x m in
      let (u, v) = and_both (leb (top (line_of blocks []) k) x) (leb x (bottom (line_of blocks []) k)) z in (
        j,
        omega arith,
        subst (λ (y : ℕ). InBlock (line_of blocks []) k y) (sym q) (record {
          block = let n = blocks_length blocks in let o = p.ready.places in omega arith;
          above = leb-true _ _ u;
          under = leb-true _ _ v;
        }),
      ))
    where
      inside : ℕ → ℕ → Bool
      inside k e = leb (top (line_of blocks []) k) e && leb e (bottom (line_of blocks []) k)
