-- The area of an ending local: the pieces of its touches and of the blocks it arrives at stand one behind the other, and are merged.
use Prim.Native.Nat.{ℕ, ◌+◌, ◌*◌, ◌/◌, ◌%◌, ◌≤◌, ◌<◌}
use native.Mathlib.Omega.{arith}
use mathlib.Core.Path.{◌≡◌, sym, ap, ◌∙◌}
use mathlib.Core.List.{List, [], ◌++◌}
use lib.ListN.{length, get_or}
use Rattle.words.specs.Inner.{part}
use Rattle.words.specs.Widths.{block_count}
use Rattle.words.proofs.RegionLaws.{kept_part_list}
use Rattle.bits.specs.Bits.{bit_of}
use Rattle.ranges.specs.declared.Range.{Range}
use Rattle.ranges.specs.Merged.{merged}
use Rattle.ranges.specs.Inner.{unpacked}
use Rattle.packed.specs.Inner.{MergedIn}
use Rattle.graph.specs.Paths.{Edge}
use Rattle.graph.specs.Line.{blocks_of, Sound}
use Rattle.graph.proofs.Line.{blocks_length}
use Rattle.carrying.specs.Lists.{gather}
use Rattle.areas.specs.Blocks.{Graph, AllInLine}
use Rattle.areas.specs.Pieces.{arrives_row}
use Rattle.spots.specs.declared.Spots.{Spots}
use Rattle.spots.specs.Spots.{line_of}
use Rattle.spots.specs.Inner.{touches_at, ends_at, Stand}
use Rattle.area_pieces.specs.declared.Local.{Local}
use Rattle.area_pieces.specs.Inner.{own_bit, Bounded, Laid}
use Rattle.area_ends.specs.Inner.{EndRow, EndingIn, touch_pieces, arrivals, Covers, Arrivable, Arrived}
use Rattle.area_pieces.proofs.SpanLaws.{touches_length}
use Rattle.area_pieces.proofs.AreaLaws.{unpacked_both}
use Rattle.area_ends.proofs.CoverLaws.{ends_kept, stand_kept}
use Rattle.area_ends.proofs.EndPieceLaws.{ending_is, arrivals_row}

module _ (blocks : List ℕ) (t : Spots) (s : Local) {w₀ w₁ : List ℕ} {m : ℕ} (a : Laid t s (block_count blocks) (3 * t.count + block_count blocks) w₀) (p : Stand t w₀) (d : Bounded s (block_count blocks) w₀)
    (co : (es : List Edge) → Covers (line_of blocks es) (ends_at t w₀) s (touches_at t w₀) m w₀ w₁) where
  abbrev n : ℕ
  n = block_count blocks

  few : m ≤ 3 * t.count
  few = let z = (co []).count in let y = touches_length t w₀ p.touches_fit in omega arith

  before₁ : (i : ℕ) → i < s.mark → get_or w₁ i 0 ≡ get_or w₀ i 0
  before₁ i h = let c = a.free in (co []).listed.before i (omega arith)

  own_same : (c : ℕ) → c < s.wide * 64 → own_bit s w₁ c ≡ own_bit s w₀ c
  own_same c h = let r = a.row_fits in ap (λ (y : ℕ). bit_of y (c % 64)) (before₁ (s.row + c / 64) (omega arith))

  pub ending_asked : Arrivable t s n (s.to + m) w₁
  ending_asked =
      let c = a.free in
      let e = (co []).listed.len in
      let z = few in
      record {
        wide = c.wide;
        small = c.small;
        row_fits = a.row_fits;
        mark_fits = omega arith;
        fits = omega arith;
        stand = stand_kept t s.mark w₀ w₁ p a.touches_fit a.ends_fit e before₁;
        touches_fit = a.touches_fit;
        ends_fit = a.ends_fit;
        bounded = record { past = λ k h l. own_same k l ∙ d.past k h l };
      }

  module _ {w₂ : List ℕ} {r : ℕ} (ar : (es : List Edge) → Arrived (line_of blocks es) (ends_at t w₁) (own_bit s w₁) s n (s.to + m) r w₁ w₂) where
    pub ending_room : s.to + (m + r) ≤ length w₂
    ending_room =
        let c = a.free in
        let e = (co []).listed.len in
        let z = few in
        let l = (ar []).swept.len in
        let q = (ar []).swept.count in
        omega arith

    behind : (es : List Edge) → EndRow (line_of blocks es) s (touches_at t w₀) (ends_at t w₀) w₀
        → unpacked (part s.to (m + r) w₂) ≡ gather (touch_pieces (line_of blocks es) (ends_at t w₀)) (touches_at t w₀) ++ arrivals (line_of blocks es) (ends_at t w₀) (arrives_row (line_of blocks es) (touches_at t w₀) (ends_at t w₀)) n
    behind es q =
        unpacked_both w₂ s.to m r
        ∙ ap (λ (l : List Range). l ++ unpacked (part (s.to + m) r w₂)) (ap unpacked left ∙ (co es).listed.is)
        ∙ ap (λ (l : List Range). gather (touch_pieces G (ends_at t w₀)) (touches_at t w₀) ++ l) ((ar es).pieces
        ∙ ap (λ (l : List ℕ). arrivals G l (own_bit s w₁) n) (ends_kept t s.mark w₀ w₁ p a.touches_fit a.ends_fit (co []).listed.len before₁)
        ∙ arrivals_row G (ends_at t w₀) (own_bit s w₁) (arrives_row G (touches_at t w₀) (ends_at t w₀)) n
        (λ k h. own_same k (let c = a.free.wide in omega arith) ∙ q.arriving k (omega (arith, blocks_length blocks))))
      where
        G : Graph
        G = line_of blocks es

        left : part s.to m w₂ ≡ part s.to m w₁
        left =
            let c = a.free in
            let e = (co []).listed.len in
            let z = few in
            kept_part_list {w₀ = w₁} {w = w₂} {at = s.to} {n = m} (record { same = λ i h l. (ar []).swept.between i (omega arith) l }) (omega arith) (ar []).swept.len

    pub ending_done : Sound (blocks_of blocks) → AllInLine (blocks_of blocks) (touches_at t w₀) → {w : List ℕ} {q : ℕ} → length w ≡ length w₂ → MergedIn w₂ w s.to (m + r) q → EndingIn blocks t s w₀ w q
    ending_done S up {w} {q} lw g =
        let c = a.free in
        let z = few in
        let y = (ar []).swept.count in
        let x = g.within in
        record {
          kept = record {
            len = lw ∙ (ar []).swept.len ∙ (co []).listed.len;
            below = λ i h. g.before i (omega arith) ∙ (ar []).swept.before i h ∙ before₁ i h;
            past = λ i h. g.after i (omega arith) ∙ (ar []).swept.after i (omega arith) ∙ (co []).listed.after i (omega arith);
          };
          unmarked = record { none = λ k h. ap (λ (v : ℕ). bit_of v (k % 64)) (g.before (s.mark + k / 64) (omega arith)) ∙ (ar []).swept.unmarked.none k h };
          count = omega arith;
          is = λ es e. g.is ∙ ap merged (behind es e ∙ whole es) ∙ ending_is (line_of blocks es) (ends_at t w₀) S (touches_at t w₀) up;
        }
      where
        whole : (es : List Edge) → gather (touch_pieces (line_of blocks es) (ends_at t w₀)) (touches_at t w₀) ++ arrivals (line_of blocks es) (ends_at t w₀) (arrives_row (line_of blocks es) (touches_at t w₀) (ends_at t w₀)) n
            ≡ gather (touch_pieces (line_of blocks es) (ends_at t w₀)) (touches_at t w₀) ++ arrivals (line_of blocks es) (ends_at t w₀) (arrives_row (line_of blocks es) (touches_at t w₀) (ends_at t w₀)) (length (blocks_of blocks))
        whole es =
            ap (λ (k : ℕ). gather (touch_pieces (line_of blocks es) (ends_at t w₀)) (touches_at t w₀) ++ arrivals (line_of blocks es) (ends_at t w₀) (arrives_row (line_of blocks es) (touches_at t w₀) (ends_at t w₀)) k)
            (sym (blocks_length blocks))
