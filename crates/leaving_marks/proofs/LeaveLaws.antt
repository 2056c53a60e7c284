-- Where a local leaves: by each touch, whose cover may reach a block's last point.
use Prim.Native.Nat.{ℕ, ◌+◌, ◌*◌, ◌≤◌, ◌<◌, min}
use native.Mathlib.Omega.{arith}
use mathlib.Core.Path.{◌≡◌, sym, ap, ◌∙◌}
use mathlib.Core.Logic.{◌⊎◌, inl, inr, ⊎_elim}
use mathlib.Core.Bool.{Bool, true, ◌&&◌, ◌||◌}
use mathlib.Core.List.{List, []}
use lib.ListN.{length, get_or}
use lib.Dec.{eqb, leb, ltb}
use Rattle.words.specs.Inner.{Rising}
use Rattle.words.specs.Widths.{block_count, block_end}
use Rattle.words.proofs.RegionLaws.{kept_part_list}
use Rattle.ranges.specs.declared.Range.{Range}
use Rattle.ranges.specs.Points.{range}
use Rattle.graph.specs.Paths.{Edge}
use Rattle.graph.specs.Line.{blocks_of}
use Rattle.graph.specs.Inner.Work.{Within}
use Rattle.graph.proofs.Line.{end_is}
use Rattle.carrying.specs.Lists.{any}
use Rattle.areas.specs.Blocks.{Graph, bottom, block_of, bounds, between, until, cover, leaves}
use Rattle.areas.proofs.BlockLaws.{bounds_cases, bounds_first, bounds_last, between_cases, between_test}
use Rattle.spots.specs.declared.Spots.{Spots}
use Rattle.spots.specs.Spots.{line_of}
use Rattle.spots.specs.Inner.{touches_at, ends_at, Stand}
use Rattle.area_rows.specs.declared.Column.{Column}
use Rattle.area_rows.specs.Inner.{marked, Marked, TouchesReady, EndsReady, Put, leaves_by}
use Rattle.area_rows.proofs.PutLaws.{put_then, put_as}
-- two tests that hold together are one
use Rattle.area_rows.proofs.MarkLaws.{any_same, marked_as, beside, kept_beside}
use Rattle.words.proofs.Bools.{or_right, and_both, or_cases, or_left, and_pair}
use Rattle.spots.proofs.SpotLaws.{holding_edges}

leave_edges : (blocks : List ℕ) (es fs : List Edge) (ends : List ℕ) (k : ℕ) (t : Range) → leaves_by (line_of blocks es) ends k t ≡ leaves_by (line_of blocks fs) ends k t
leave_edges blocks es fs ends k t =
    ap (λ (a : ℕ). leaving a (block_of (line_of blocks es) t.end)) (holding_edges blocks es fs (length (blocks_of blocks)) t.start)
    ∙ ap (λ (b : ℕ). leaving (block_of (line_of blocks fs) t.start) b) (holding_edges blocks es fs (length (blocks_of blocks)) t.end)
  where
    leaving : ℕ → ℕ → Bool
    leaving a b = (ltb a k && ltb k b) || (eqb a k || eqb b k) && leb (bottom (line_of blocks es) k) (cover (line_of blocks es) ends k t).end

pub leaves_done : (blocks : List ℕ) (s : Spots) {c : Column} {w₀ w : List ℕ}
    → Marked c (λ k. any (λ t. leaves_by (line_of blocks []) (ends_at s w₀) k t) (touches_at s w₀) || marked c w₀ k) w₀ w
    → (es : List Edge) → Marked c (λ k. leaves (line_of blocks es) (touches_at s w₀) (ends_at s w₀) k || marked c w₀ k) w₀ w
leaves_done blocks s {c} {w₀} {w} p es = marked_as (λ k. leaves (line_of blocks es) (touches_at s w₀) (ends_at s w₀) k || marked c w₀ k) p
    (λ k h. ap (λ (t : Bool). t || marked c w₀ k)
    (any_same (λ t. leaves_by (line_of blocks []) (ends_at s w₀) k t) (λ t. leaves_by (line_of blocks es) (ends_at s w₀) k t) (touches_at s w₀)
    (λ t m. leave_edges blocks [] es (ends_at s w₀) k t)))

-- the three marks of one touch
pub leave_touch : {c : Column} {w₀ w₁ w₂ w₃ : List ℕ} (G : Graph) (es : List ℕ) (t : Range) (first last : ℕ) (one two : Bool)
    → first ≡ block_of G t.start → last ≡ block_of G t.end
    → one ≡ leb (bottom G first) (cover G es first t).end → two ≡ leb (bottom G last) (cover G es last t).end
    → Put c true (λ j. (j ≡ first) × (one ≡ true)) w₀ w₁ → Put c true (λ j. (j ≡ last) × (two ≡ true)) w₁ w₂ → Put c true (λ j. (first + 1 ≤ j) × (j < last)) w₂ w₃
    → Put c true (λ j. leaves_by G es j t ≡ true) w₀ w₃
leave_touch {c} G es t first last one two e f a b p q r = put_as (λ j. leaves_by G es j t ≡ true) (put_then (put_then p q) r) to fro
  where
    cov : ℕ → Bool
    cov j = leb (bottom G j) (cover G es j t).end

    to : (j : ℕ) → j < c.n → (((j ≡ first) × (one ≡ true)) ⊎ ((j ≡ last) × (two ≡ true))) ⊎ ((first + 1 ≤ j) × (j < last)) → leaves_by G es j t ≡ true
    to j h (inl (inl (z, y))) = or_right (between G j t) _ (and_pair (bounds G j t) (cov j) (bounds_first G j t (sym e ∙ sym z)) (ap cov z ∙ sym a ∙ y))
    to j h (inl (inr (z, y))) = or_right (between G j t) _ (and_pair (bounds G j t) (cov j) (bounds_last G j t (sym f ∙ sym z)) (ap cov z ∙ sym b ∙ y))
    to j h (inr (x, y)) = or_left (between G j t) _ (between_test G j t (omega arith) (omega arith))

    fro : (j : ℕ) → j < c.n → leaves_by G es j t ≡ true → (((j ≡ first) × (one ≡ true)) ⊎ ((j ≡ last) × (two ≡ true))) ⊎ ((first + 1 ≤ j) × (j < last))
    fro j h s = ⊎_elim
        (λ y. let (u, v) = between_cases G j t y in inr (omega arith, omega arith))
        (λ y. let (u, v) = and_both (bounds G j t) (cov j) y in
        ⊎_elim (λ z. let k : j ≡ first = sym z ∙ sym e in inl (inl (k, a ∙ ap cov (sym k) ∙ v))) (λ z. let k : j ≡ last = sym z ∙ sym f in inl (inr (k, b ∙ ap cov (sym k) ∙ v))) (bounds_cases G j t u))
        (or_cases (between G j t) (bounds G j t && cov j) s)

-- the touches and ends still stand, and the ends are as they were
module _ {blocks : List ℕ} {s : Spots} {c : Column} {w₀ w : List ℕ} (t : TouchesReady blocks s c w₀) (e : EndsReady blocks s c w₀) (K : Within c.base (c.base + c.n * c.words) w₀ w) where
  pub still_stand : Rising (λ i. get_or w₀ (s.ends + i) 0) s.stops → Stand s w
  still_stand r = record {
    touches_fit = let l = K.len in let f = t.stand in omega arith;
    ends_fit = let l = K.len in let f = e.stand in omega arith;
    rising = λ k h. let a = beside s.ends s.stops K e.apart k (omega arith) in let b = beside s.ends s.stops K e.apart (k + 1) h in let q = r k h in omega arith;
  }

  pub ends_same : ends_at s w ≡ ends_at s w₀
  ends_same = kept_part_list (kept_beside s.ends s.stops K e.apart) e.stand K.len

  pub leave_as : {w' : List ℕ} (r : Range) → Put c true (λ j. leaves_by (line_of blocks []) (ends_at s w) j r ≡ true) w w' → Put c true (λ j. leaves_by (line_of blocks []) (ends_at s w₀) j r ≡ true) w w'
  leave_as r p = put_as (λ j. leaves_by (line_of blocks []) (ends_at s w₀) j r ≡ true) p (λ j h q. rw (← ends_same) q) (λ j h q. rw ends_same q)

-- the test of one block
pub covers_is : (blocks ends : List ℕ) (k start end last u : ℕ) (es : List Edge) → k < block_count blocks → last ≡ min end (block_end blocks k) → u ≡ until ends last (block_end blocks k)
    → leb (block_end blocks k) u ≡ leb (bottom (line_of blocks es) k) (cover (line_of blocks es) ends k (range start end)).end
covers_is blocks ends k start end last u es h e f =
    ap (λ (x : ℕ). leb (block_end blocks k) x) (f ∙ ap (λ (x : ℕ). until ends x (block_end blocks k)) e)
    ∙ ap (λ (b : ℕ). leb b (until ends (min end b) b)) (sym (end_is blocks k h))
