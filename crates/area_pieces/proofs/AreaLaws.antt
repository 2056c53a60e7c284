-- The area of a plain local: its between-pieces and its pieces in line order stand one behind the other, and are merged.
use Prim.Native.Nat.{ℕ, zero, suc, ◌+◌, ◌/◌, ◌%◌, ◌≤◌, ◌<◌}
use native.Mathlib.Omega.{arith}
use mathlib.Core.Path.{◌≡◌, refl, sym, ap, ◌∙◌}
use mathlib.Core.Bool.{Bool}
use mathlib.Core.List.{List, [], ◌++◌}
use lib.ListN.{length, get_or, take, drop}
use lib.Seq.{take-add, drop-drop}
use Rattle.words.specs.Inner.{part}
use Rattle.words.specs.Widths.{block_count}
use Rattle.words.proofs.RegionLaws.{kept_part_list}
use Rattle.bits.specs.Bits.{bit_of}
use Rattle.ranges.specs.declared.Range.{Range}
use Rattle.ranges.specs.Merged.{merged}
use Rattle.ranges.specs.Inner.{unpack, unpacked}
use Rattle.ranges.proofs.FormLaws.{map_append}
use Rattle.packed.specs.Inner.{MergedIn}
use Rattle.graph.specs.Paths.{Edge}
use Rattle.graph.proofs.Line.{blocks_length}
use Rattle.areas.specs.Blocks.{Graph}
use Rattle.areas.specs.Pieces.{block_piece, join_each, line_pieces, throughs, before_row, after_row, plain_area}
use Rattle.spots.specs.declared.Spots.{Spots}
use Rattle.spots.specs.Spots.{line_of}
use Rattle.spots.specs.Inner.{touches_at}
use Rattle.area_pieces.specs.declared.Local.{Local}
use Rattle.area_pieces.specs.Inner.{written_bit, read_bit, Laid, Flowing, Both, PlainRows, PlainIn, Visitable, Spanned, Lined}
use Rattle.area_pieces.proofs.SpanLaws.{touches_length}
use Rattle.area_pieces.proofs.LineLaws.{written_kept, read_kept, own_kept}

-- two lists of ranges that stand one behind the other
pub unpacked_both : (w : List ℕ) (at m r : ℕ) → unpacked (part at (m + r) w) ≡ unpacked (part at m w) ++ unpacked (part (at + m) r w)
unpacked_both w at m r =
    ap unpacked (take-add m r (drop at w) ∙ ap (λ (l : List ℕ). take m (drop at w) ++ take r l) (drop-drop m at w))
    ∙ map_append unpack (part at m w) (part (at + m) r w)

-- only the rows of the n blocks matter
pub line_rows : (G : Graph) (ts : List Range) (f g f' g' : ℕ → Bool) (n : ℕ) → ((k : ℕ) → k < n → f k ≡ f' k) → ((k : ℕ) → k < n → g k ≡ g' k) → line_pieces G ts f g n ≡ line_pieces G ts f' g' n
unfolding line_pieces
line_rows G ts f g f' g' zero e h = refl
line_rows G ts f g f' g' (suc n) e h = both (line_rows G ts f g f' g' n (λ k l. e k (omega arith)) (λ k l. h k (omega arith))) (e n (omega arith)) (h n (omega arith))
  where
    both : line_pieces G ts f g n ≡ line_pieces G ts f' g' n → f n ≡ f' n → g n ≡ g' n → join_each (line_pieces G ts f g n) (block_piece G ts f g n) ≡ join_each (line_pieces G ts f' g' n) (block_piece G ts f' g' n)
    both x y z = rw (x, y, z)

plain_is : (G : Graph) (ts : List Range) (n : ℕ) → n ≡ length G.blocks → merged (throughs G ts ++ line_pieces G ts (before_row G ts) (after_row G ts) n) ≡ plain_area G ts
unfolding plain_area
plain_is G ts n e = ap (λ (k : ℕ). merged (throughs G ts ++ line_pieces G ts (before_row G ts) (after_row G ts) k)) e

pub laid_less : {t : Spots} {s : Local} {n room : ℕ} (less : ℕ) {w : List ℕ} → Laid t s n room w → less ≤ room → Laid t s n less w
laid_less less a h =
    let f = a.free in
    record {
      free = record { wide = f.wide; small = f.small; mark_fits = f.mark_fits; span_fits = f.span_fits; fits = omega arith };
      touches_fit = a.touches_fit;
      ends_fit = a.ends_fit;
      row_fits = a.row_fits;
    }

module _ (blocks : List ℕ) (t : Spots) (s : Local) (n : ℕ) {w₀ w₁ : List ℕ} {m : ℕ} (a : Laid t s n (t.count + n) w₀) (f : Flowing s n) (o : Both s n w₀)
    (sp : (es : List Edge) → Spanned (line_of blocks es) s n (touches_at t w₀) m w₀ w₁) where
  fit : t.at + t.count ≤ length w₀
  fit =
      let b = a.touches_fit in
      let c = a.free in
      omega arith

  few : m ≤ t.count
  few = let z = (sp []).count in let y = touches_length t w₀ fit in omega arith

  before₁ : (i : ℕ) → i < s.mark → get_or w₁ i 0 ≡ get_or w₀ i 0
  before₁ i h = (sp []).kept.below i h

  pub plain_asked : Visitable s n (s.to + m) w₁
  plain_asked =
      let c = a.free in
      let e = (sp []).kept.len in
      let z = few in
      record {
        swept = record { wide = c.wide; small = c.small; mark_fits = omega arith; fits = omega arith; past = (sp []).past };
        row_fits = a.row_fits;
        mark_fits = c.mark_fits;
        span_fits = omega arith;
        flowing = f;
      }

  pub plain_both : Both s n w₁
  plain_both =
      let c = a.free.wide in
      record {
        bits = λ k h. own_kept s n w₀ w₁ f before₁ a.row_fits k (omega arith) ∙ o.bits k h
            ∙ rw (written_kept s n w₀ w₁ f before₁ k h, read_kept s n w₀ w₁ f before₁ k h);
        bounded = record { past = λ k h l. own_kept s n w₀ w₁ f before₁ a.row_fits k l ∙ o.bounded.past k h l };
      }

  module _ {w₂ : List ℕ} {r : ℕ} (li : Lined blocks s n (s.to + m) r w₁ w₂) where
    pub plain_room : s.to + (m + r) ≤ length w₂
    plain_room =
        let c = a.free in
        let e = (sp []).kept.len in
        let z = few in
        let l = li.swept.len in
        let q = li.swept.count in
        omega arith

    behind : (es : List Edge) → PlainRows (line_of blocks es) s (touches_at t w₀) w₀ → n ≡ block_count blocks
        → unpacked (part s.to (m + r) w₂) ≡ throughs (line_of blocks es) (touches_at t w₀) ++ line_pieces (line_of blocks es) (touches_at t w₀) (before_row (line_of blocks es) (touches_at t w₀)) (after_row (line_of blocks es) (touches_at t w₀)) n
    behind es p en =
        unpacked_both w₂ s.to m r
        ∙ ap (λ (l : List Range). l ++ unpacked (part (s.to + m) r w₂)) (ap unpacked left ∙ (sp es).pieces)
        ∙ ap (λ (l : List Range). throughs G (touches_at t w₀) ++ l) (li.pieces es (touches_at t w₀) (sp es).spans
        ∙ line_rows G (touches_at t w₀) (written_bit s w₁) (read_bit s w₁) (before_row G (touches_at t w₀)) (after_row G (touches_at t w₀)) n
        (λ k h. written_kept s n w₀ w₁ f before₁ k h ∙ p.written k (omega (arith, blocks_length blocks)))
        (λ k h. read_kept s n w₀ w₁ f before₁ k h ∙ p.read k (omega (arith, blocks_length blocks))))
      where
        G : Graph
        G = line_of blocks es

        left : part s.to m w₂ ≡ part s.to m w₁
        left =
            let c = a.free in
            let e = (sp []).kept.len in
            let z = few in
            kept_part_list {w₀ = w₁} {w = w₂} {at = s.to} {n = m} (record { same = λ i h l. li.swept.between i (omega arith) l }) (omega arith) li.swept.len

    pub plain_done : n ≡ block_count blocks → {w : List ℕ} {q : ℕ} → length w ≡ length w₂ → MergedIn w₂ w s.to (m + r) q → PlainIn blocks t s w₀ w q
    plain_done en {w} {q} lw g =
        let c = a.free in
        let z = few in
        let y = li.swept.count in
        let x = g.within in
        record {
          kept = record {
            len = lw ∙ li.swept.len ∙ (sp []).kept.len;
            below = λ i h. g.before i (omega arith) ∙ li.swept.before i h ∙ (sp []).kept.below i h;
            past = λ i h. g.after i (omega arith) ∙ li.swept.after i (omega arith) ∙ (sp []).kept.past i (omega arith);
          };
          unmarked = record { none = λ k h. ap (λ (v : ℕ). bit_of v (k % 64)) (g.before (s.mark + k / 64) (omega arith)) ∙ li.swept.unmarked.none k h };
          count = omega arith;
          is = λ es p. g.is ∙ ap merged (behind es p en) ∙ area es;
        }
      where
        area : (es : List Edge) → merged (throughs (line_of blocks es) (touches_at t w₀) ++ line_pieces (line_of blocks es) (touches_at t w₀) (before_row (line_of blocks es) (touches_at t w₀)) (after_row (line_of blocks es) (touches_at t w₀)) n) ≡ plain_area (line_of blocks es) (touches_at t w₀)
        area es = plain_is (line_of blocks es) (touches_at t w₀) n (en ∙ sym (blocks_length blocks))
