-- The blocks that an ending local arrives at, in line order: only the marked ones are visited.
use Prim.Native.Nat.{ℕ, suc, ◌+◌, ◌*◌, ◌/◌, ◌≤◌, ◌<◌, min}
use native.Mathlib.Omega.{arith}
use mathlib.Core.Path.{◌≡◌, refl, sym, ap, ◌∙◌}
use mathlib.Core.Bool.{Bool, true, false}
use mathlib.Core.List.{List, [], ◌∷◌, ◌++◌, append-nil}
use lib.ListN.{length, get_or, set}
use Rattle.words.specs.Inner.{Region, part}
use Rattle.bits.specs.Inner.{PutBit, FirstSet}
use Rattle.bits.proofs.BitLaws.{row_copied}
use Rattle.ranges.specs.declared.Range.{Range}
use Rattle.ranges.specs.Inner.{unpack, unpacked}
use Rattle.graph.specs.Paths.{Edge}
use Rattle.areas.specs.Blocks.{Graph}
use Rattle.spots.specs.declared.Spots.{Spots}
use Rattle.spots.specs.Spots.{line_of}
use Rattle.spots.specs.Inner.{ends_at, Stand}
use Rattle.area_pieces.specs.declared.Local.{Local}
use Rattle.area_pieces.specs.Inner.{own_bit, mark_bit, Listed}
use Rattle.area_ends.specs.Inner.{arrival, arrivals, Arriving, Arrivable, Arrived}
use Rattle.area_pieces.proofs.PushLaws.{pushed}
use Rattle.area_pieces.proofs.SweepLaws.{stays, next_above, one_taken, Sweep, sweep_begin, sweep_in, sweep_mark, sweep_next, sweep_skip, sweep_pieces, sweep_more, sweep_done, swept_after}
use Rattle.area_ends.proofs.EndPieceLaws.{arrivals_row}
use Rattle.area_ends.proofs.CoverLaws.{ends_kept, stand_kept}

module _ (G : Graph) (es : List ℕ) (a : ℕ → Bool) where
  arrivals_one : (k : ℕ) → a k ≡ true → arrivals G es a (suc k) ≡ arrivals G es a k ++ (arrival G es k ∷ [])
  unfolding arrivals
  arrivals_one k e = rw e

  arrivals_same : (k : ℕ) → a k ≡ false → arrivals G es a (suc k) ≡ arrivals G es a k
  unfolding arrivals
  arrivals_same k e = rw e (append-nil (arrivals G es a k))

  arrivals_start : arrivals G es a 0 ≡ []
  unfolding arrivals
  arrivals_start = refl

-- the marked blocks before k are put
pub record Marching (blocks : List ℕ) (t : Spots) (s : Local) (n from : ℕ) (w₀ w : List ℕ) (k r : ℕ) : Type 0 where
  pub asked : Arriving t s n from w₀
  pub sweep : Sweep s n from w₀ w k r
  pub pieces : (es : List Edge) → unpacked (part from r w) ≡ arrivals (line_of blocks es) (ends_at t w₀) (mark_bit s w₀) (min k n)

module _ (blocks : List ℕ) (t : Spots) (s : Local) (n : ℕ) (w₀ : List ℕ) (es : List Edge) where
  passed : (j k : ℕ) → j ≤ k → ((i : ℕ) → j ≤ i → i < k → mark_bit s w₀ i ≡ false) → j ≤ n
      → arrivals (line_of blocks es) (ends_at t w₀) (mark_bit s w₀) (min k n) ≡ arrivals (line_of blocks es) (ends_at t w₀) (mark_bit s w₀) j
  passed j k h none l =
      stays (arrivals (line_of blocks es) (ends_at t w₀) (mark_bit s w₀)) n j k h l
      (λ i q m v. arrivals_same (line_of blocks es) (ends_at t w₀) (mark_bit s w₀) i (none i q m))

pub march_begin : (blocks : List ℕ) (t : Spots) (s : Local) (n from : ℕ) {w : List ℕ} → Arriving t s n from w → (k : ℕ) → FirstSet w s.mark s.wide 0 k → Marching blocks t s n from w w k 0
march_begin blocks t s n from {w} a k first = record {
  asked = a;
  sweep = sweep_begin a.swept first;
  pieces = λ es. sym (passed blocks t s n w es 0 k (omega arith) (λ i q m. first.least i (omega arith) m) (omega arith)
      ∙ arrivals_start (line_of blocks es) (ends_at t w) (mark_bit s w));
}

module _ {blocks : List ℕ} {t : Spots} {s : Local} {n from : ℕ} {w₀ w : List ℕ} {k r : ℕ} (d : Marching blocks t s n from w₀ w k r) where
  pub march_stand : Stand t w
  march_stand = stand_kept t s.mark w₀ w d.asked.stand d.asked.touches_fit d.asked.ends_fit d.sweep.len d.sweep.before

  same_ends : ends_at t w ≡ ends_at t w₀
  same_ends = ends_kept t s.mark w₀ w d.asked.stand d.asked.touches_fit d.asked.ends_fit d.sweep.len d.sweep.before

  module _ {w₂ : List ℕ} {k' : ℕ} (x : ℕ) (h : k < s.wide * 64) (ex : unpack x ≡ arrival (line_of blocks []) (ends_at t w) k)
      (u : PutBit (set w (from + r) x) w₂ s.mark k false) (first : FirstSet w₂ s.mark s.wide (k / 64) k') where
    kn : k < n
    kn = sweep_in d.sweep h

    room : from + r < length w
    room =
        let a = d.asked.swept.fits in
        let b = d.sweep.r_le in
        let e = d.sweep.len in
        let q = kn in
        omega arith

    put : Listed w (set w (from + r) x) from (r + 1) (unpacked (part from r w) ++ (unpack x ∷ []))
    put = pushed w from r room x

    pub march_next : k < k'
    march_next = let z = sweep_next d.sweep h (next_above k) put.len put.before put.after (omega arith) (one_taken h u) first in omega arith

    pub march_more : Marching blocks t s n from w₀ w₂ k' (r + 1)
    march_more = record {
      asked = d.asked;
      sweep = sweep_more d.sweep h (next_above k) put.len put.before put.after (omega arith) (one_taken h u) first;
      pieces = λ es. ap unpacked (sweep_pieces d.sweep h (next_above k) put.len put.before put.after (omega arith) (one_taken h u) first) ∙ put.is
          ∙ ap (λ (q : Range). unpacked (part from r w) ++ (q ∷ [])) (ex ∙ ap (λ (l : List ℕ). arrival (line_of blocks []) l k) same_ends)
          ∙ ap (λ (q : List Range). q ++ (arrival (line_of blocks es) (ends_at t w₀) k ∷ [])) (d.pieces es ∙ ap (λ (q : ℕ). arrivals (line_of blocks es) (ends_at t w₀) (mark_bit s w₀) q) least)
          ∙ sym (passed blocks t s n w₀ es (suc k) k' march_next (λ i q l. sweep_skip d.sweep h (next_above k) put.len put.before put.after (omega arith) (one_taken h u) first i (omega arith) l) kn
          ∙ arrivals_one (line_of blocks es) (ends_at t w₀) (mark_bit s w₀) k (sweep_mark d.sweep h));
    }
      where
        least : min k n ≡ k
        least = let q = kn in omega arith

  pub march_done : s.wide * 64 ≤ k → (es : List Edge) → Arrived (line_of blocks es) (ends_at t w₀) (mark_bit s w₀) s n from r w₀ w
  march_done h es =
      let a = d.sweep.within in
      let l = d.asked.swept.wide in
      let z : min k n ≡ n = omega arith in
      record {
        swept = sweep_done d.sweep h;
        pieces = d.pieces es ∙ ap (λ (q : ℕ). arrivals (line_of blocks es) (ends_at t w₀) (mark_bit s w₀) q) z;
      }

-- ---- the local's own row as marks

module _ (blocks : List ℕ) {t : Spots} {s : Local} {n from : ℕ} {w₀ w₁ : List ℕ} (a : Arrivable t s n from w₀) (g : Region w₀ w₁ s.mark s.wide (λ i. get_or w₀ (s.row + i) 0)) where
  marked : (c : ℕ) → c < s.wide * 64 → mark_bit s w₁ c ≡ own_bit s w₀ c
  marked c h = (row_copied w₀ s.row g).bits c h

  pub copied_asked : Arriving t s n from w₁
  copied_asked =
      let e = g.len in
      let f = a.fits in
      record {
        swept = record { wide = a.wide; small = a.small; mark_fits = a.mark_fits; fits = omega arith; past = λ c h l. marked c l ∙ a.bounded.past c h l };
        stand = stand_kept t s.mark w₀ w₁ a.stand a.touches_fit a.ends_fit g.len g.before;
        touches_fit = a.touches_fit;
        ends_fit = a.ends_fit;
      }

  pub copied_arrived : {w : List ℕ} {r : ℕ} → ((es : List Edge) → Arrived (line_of blocks es) (ends_at t w₁) (mark_bit s w₁) s n from r w₁ w) → (es : List Edge) → Arrived (line_of blocks es) (ends_at t w₀) (own_bit s w₀) s n from r w₀ w
  copied_arrived v es =
      let l = a.wide in
      record {
        swept = swept_after a.mark_fits g.len g.before g.after (v es).swept;
        pieces = (v es).pieces ∙ ap (λ (q : List ℕ). arrivals (line_of blocks es) q (mark_bit s w₁) n) (ends_kept t s.mark w₀ w₁ a.stand a.touches_fit a.ends_fit g.len g.before)
            ∙ arrivals_row (line_of blocks es) (ends_at t w₀) (mark_bit s w₁) (own_bit s w₀) n (λ k h. marked k (omega arith));
      }
