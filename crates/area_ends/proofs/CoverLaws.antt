-- The pieces of an ending local's touches: what the code works out of one, the pieces of one put behind the others, and of all touches.
use Prim.Native.Nat.{ℕ, ◌+◌, ◌-◌, ◌*◌, ◌^◌, ◌≤◌, ◌<◌}
use native.Mathlib.Omega.{arith}
use mathlib.Core.Path.{◌≡◌, refl, sym, ap, ◌∙◌}
use mathlib.Core.List.{List, [], ◌∷◌, ◌++◌, append_assoc}
use lib.ListN.{length, get_or, take, set, length-set}
use lib.Seq.{take_all}
use borrow.Author.Tests.{eq-eqb, ne_eqb}
use Rattle.words.specs.Inner.{part}
use Rattle.words.specs.Widths.{block_count, block_start, block_end}
use Rattle.words.proofs.RegionLaws.{kept_part_list}
use Rattle.ranges.specs.declared.Range.{Range}
use Rattle.ranges.specs.Points.{range}
use Rattle.ranges.specs.Inner.{pack, unpack, unpacked}
use Rattle.ranges.proofs.FormLaws.{unpack_pack}
use Rattle.graph.specs.Line.{Sound}
use Rattle.graph.proofs.Line.{start_is, end_is}
use Rattle.carrying.specs.Lists.{gather}
use Rattle.areas.specs.Blocks.{Graph, top, bottom, block_of, until, cover, InLine}
use Rattle.spots.specs.declared.Spots.{Spots}
use Rattle.spots.specs.Spots.{line_of}
use Rattle.spots.specs.Inner.{touches_at, ends_at, Stand}
use Rattle.area_pieces.specs.declared.Local.{Local}
use Rattle.area_pieces.specs.Inner.{Laid, Listed}
use Rattle.touch_covers.proofs.TouchLaws.{until_le}
use Rattle.area_ends.specs.Inner.{covering, touch_pieces, arrival, Covered, Covers}
use Rattle.area_pieces.proofs.PushLaws.{pushed, set_other}
use Rattle.area_pieces.proofs.HullLaws.{gather_append, gather_one, gather_none}
use Rattle.area_pieces.proofs.SpanLaws.{rises, through_none, through_some, take_touch, touches_length}

-- ---- what the code works out

module _ (blocks es : List ℕ) (k y : ℕ) (h : k < block_count blocks) (small : block_end blocks k < 2 ^ 32) where
  pub arrival_is : (end : ℕ) → end ≡ until es (block_start blocks k) (block_end blocks k) → y ≡ pack (range (block_start blocks k) end)
      → unpack y ≡ arrival (line_of blocks []) es k
  arrival_is end ee e =
      let l : end ≤ block_end blocks k = rw ee (until_le es (block_start blocks k) (block_end blocks k)) in
      ap unpack e ∙ unpack_pack (block_start blocks k) end (omega arith)
      ∙ rw (start_is blocks k h, end_is blocks k h, ee)

-- ---- touches and ends that stand before what is written

module _ (t : Spots) (at : ℕ) (w₀ w : List ℕ) (p : Stand t w₀) (touches_fit : t.at + t.count ≤ at) (ends_fit : t.ends + t.stops ≤ at)
    (e : length w ≡ length w₀) (before : (i : ℕ) → i < at → get_or w i 0 ≡ get_or w₀ i 0) where
  pub ends_kept : ends_at t w ≡ ends_at t w₀
  ends_kept = let f = p.ends_fit in kept_part_list {w₀ = w₀} {w = w} {at = t.ends} {n = t.stops} (record { same = λ i h l. before i (omega arith) }) f e

  pub stand_kept : Stand t w
  stand_kept =
      let f = p.ends_fit in
      let g = p.touches_fit in
      record {
        touches_fit = omega arith;
        ends_fit = omega arith;
        rising = λ k h. rw (before (t.ends + k) (omega arith), before (t.ends + (k + 1)) (omega arith)) (p.rising k h);
      }

-- a store behind them
module _ (t : Spots) (at : ℕ) (w : List ℕ) (p : Stand t w) (touches_fit : t.at + t.count ≤ at) (ends_fit : t.ends + t.stops ≤ at) (i v : ℕ) (h : at ≤ i) (l : i < length w) where
  left : (j : ℕ) → j < at → get_or (set w i v) j 0 ≡ get_or w j 0
  left j q = set_other w i v j l (λ e. absurd (omega arith))

  pub ends_set : ends_at t (set w i v) ≡ ends_at t w
  ends_set = ends_kept t at w (set w i v) p touches_fit ends_fit (simp length-set) left

  pub stand_set : Stand t (set w i v)
  stand_set = stand_kept t at w (set w i v) p touches_fit ends_fit (simp length-set) left

-- a list that grew, and grew again
listed_then : {w₀ w₁ w₂ : List ℕ} {at q r : ℕ} {rs : List Range} (ys : List Range) → Listed w₀ w₁ at q rs → Listed w₁ w₂ at r (unpacked (part at q w₁) ++ ys) → q ≤ r → Listed w₀ w₂ at r (rs ++ ys)
listed_then ys a b h = record {
  len = b.len ∙ a.len;
  is = b.is ∙ ap (λ (l : List Range). l ++ ys) a.is;
  before = λ i l. b.before i l ∙ a.before i l;
  after = λ i l. b.after i l ∙ a.after i (omega arith);
}

listed_is : {w₀ w : List ℕ} {at r : ℕ} {rs ss : List Range} → Listed w₀ w at r rs → rs ≡ ss → Listed w₀ w at r ss
listed_is a e = record { len = a.len; is = a.is ∙ e; before = a.before; after = a.after }

-- ---- one touch

module _ (G : Graph) (S : Sound G.blocks) (es : List ℕ) (s : Local) (x m : ℕ) (up : InLine G.blocks (unpack x))
    (f l : ℕ) (ef : f ≡ block_of G (unpack x).start) (el : l ≡ block_of G (unpack x).end) (w₀ : List ℕ) (room : s.to + (m + 3) ≤ length w₀) where
  abbrev t : Range
  t = unpack x

  covering_one : l ≤ f → covering G es t ≡ cover G es f t ∷ []
  covering_one h =
      let r = rises G S s x m up in
      let z : block_of G t.start ≡ block_of G t.end = omega arith in
      rw (eq-eqb (block_of G t.start) (block_of G t.end) z, ← ef)

  covering_two : f < l → covering G es t ≡ cover G es f t ∷ cover G es l t ∷ []
  covering_two h = rw (ne_eqb (block_of G t.start) (block_of G t.end) (λ z. absurd (omega arith)), ← ef, ← el)

  abbrev so_far_lem : List Range
  so_far_lem = unpacked (part s.to m w₀)

  module _ (y : ℕ) (ey : unpack y ≡ cover G es f t) where
    first_put : Listed w₀ (set w₀ (s.to + m) y) s.to (m + 1) (so_far_lem ++ (cover G es f t ∷ []))
    first_put = listed_is (pushed w₀ s.to m (omega arith) y) (ap (λ (r : Range). so_far_lem ++ (r ∷ [])) ey)

    pub covered_one : l ≤ f → Covered G es s x m (m + 1) w₀ (set w₀ (s.to + m) y)
    covered_one h = record {
      listed = listed_is first_put (ap (λ (q : List Range). so_far_lem ++ q) (sym (rw (covering_one h, through_none G S s x m up f l ef el (omega arith)))));
      least = omega arith;
      most = omega arith;
    }

    module _ (z : ℕ) (ez : unpack z ≡ cover G es l t) where
      abbrev w₁ : List ℕ
      w₁ = set w₀ (s.to + m) y

      abbrev w₂ : List ℕ
      w₂ = set w₁ (s.to + (m + 1)) z

      second-put : Listed w₀ w₂ s.to (m + 1 + 1) (so_far_lem ++ (cover G es f t ∷ cover G es l t ∷ []))
      second-put =
          let e = first_put.len in
          listed_is (listed_then (unpack z ∷ []) first_put (pushed w₁ s.to (m + 1) (omega arith) z) (omega arith))
          (append_assoc so_far_lem (cover G es f t ∷ []) (unpack z ∷ []) ∙ ap (λ (r : Range). so_far_lem ++ (cover G es f t ∷ r ∷ [])) ez)

      pub covered_two : f < l → l ≤ f + 1 → Covered G es s x m (m + 1 + 1) w₀ w₂
      covered_two g h = record {
        listed = listed_is second-put (ap (λ (q : List Range). so_far_lem ++ q) (sym (rw (covering_two g, through_none G S s x m up f l ef el h))));
        least = omega arith;
        most = omega arith;
      }

      pub covered_three : (v : ℕ) → unpack v ≡ range (top G (f + 1)) (bottom G (l - 1)) → f + 1 < l → Covered G es s x m (m + 1 + 1 + 1) w₀ (set w₂ (s.to + (m + 1 + 1)) v)
      covered_three v ev h =
          let e = second-put.len in
          record {
            listed = listed_is (listed_then (unpack v ∷ []) second-put (pushed w₂ s.to (m + 1 + 1) (omega arith) v) (omega arith))
                (append_assoc so_far_lem (cover G es f t ∷ cover G es l t ∷ []) (unpack v ∷ []) ∙ ap (λ (r : Range). so_far_lem ++ (cover G es f t ∷ cover G es l t ∷ r ∷ [])) ev
                ∙ ap (λ (q : List Range). so_far_lem ++ q) (sym (rw (covering_two (omega arith), through_some G S s x m up f l ef el h))));
            least = omega arith;
            most = omega arith;
          }

-- ---- all touches

-- the first i touches are put
pub record Covering (G : Graph) (t : Spots) (s : Local) (n : ℕ) (w₀ w : List ℕ) (i m : ℕ) : Type 0 where
  pub laid : Laid t s n (3 * t.count) w₀
  pub stand : Stand t w₀
  pub i_le : i ≤ t.count
  pub m_le : m ≤ 3 * i
  pub listed : Listed w₀ w s.to m (gather (touch_pieces G (ends_at t w₀)) (take i (touches_at t w₀)))

pub cover_begin : (G : Graph) (t : Spots) (s : Local) (n : ℕ) (w : List ℕ) → Laid t s n (3 * t.count) w → Stand t w → Covering G t s n w w 0 0
cover_begin G t s n w a p = record {
  laid = a;
  stand = p;
  i_le = omega arith;
  m_le = omega arith;
  listed = record { len = refl; is = sym (gather_none (touch_pieces G (ends_at t w))); before = λ i _. refl; after = λ i _. refl };
}

module _ {G : Graph} {t : Spots} {s : Local} {n : ℕ} {w₀ w : List ℕ} {i m : ℕ} (d : Covering G t s n w₀ w i m) where
  below : (s.mark ≤ s.to) × (t.at + t.count ≤ s.to) × (t.ends + t.stops ≤ s.to)
  below =
      let a = d.laid in
      (omega arith, omega arith, omega arith)

  pub cover_fits : (t.at + t.count ≤ s.to) × (t.ends + t.stops ≤ s.to)
  cover_fits = (below.1, below.2)

  pub cover_stand : Stand t w
  cover_stand = stand_kept t s.to w₀ w d.stand below.1 below.2 d.listed.len d.listed.before

  cover_ends : ends_at t w ≡ ends_at t w₀
  cover_ends = ends_kept t s.to w₀ w d.stand below.1 below.2 d.listed.len d.listed.before

  pub cover_room : i < t.count → s.to + (m + 3) ≤ length w
  cover_room h =
      let a = d.laid.free.fits in
      let e = d.listed.len in
      let l = d.m_le in
      omega arith

  pub cover_word : i < t.count → get_or w (t.at + i) 0 ≡ get_or w₀ (t.at + i) 0
  cover_word h = let b = below in d.listed.before (t.at + i) (omega arith)

  fit : t.at + t.count ≤ length w₀
  fit = d.stand.touches_fit

  pub cover_more : {w' : List ℕ} {m' : ℕ} (x : ℕ) → i < t.count → x ≡ get_or w (t.at + i) 0 → Covered G (ends_at t w) s x m m' w w' → Covering G t s n w₀ w' (i + 1) m'
  cover_more {w'} {m'} x h ex c =
      let a = c.most in
      let b = d.m_le in
      record {
        laid = d.laid;
        stand = d.stand;
        i_le = omega arith;
        m_le = omega arith;
        listed = listed_is (listed_then (touch_pieces G (ends_at t w) (unpack x)) d.listed c.listed c.least)
            (ap (λ (l : List ℕ). done ++ touch_pieces G l (unpack x)) cover_ends
            ∙ sym (ap (gather pieces) next ∙ gather_append pieces (take i (touches_at t w₀)) (unpack x ∷ []) ∙ ap (λ (l : List Range). done ++ l) (gather_one pieces (unpack x))));
      }
    where
      pieces : Range → List Range
      pieces = touch_pieces G (ends_at t w₀)

      done : List Range
      done = gather (touch_pieces G (ends_at t w₀)) (take i (touches_at t w₀))

      next : take (i + 1) (touches_at t w₀) ≡ take i (touches_at t w₀) ++ (unpack x ∷ [])
      next = rw (ex, cover_word h) (take_touch t w₀ i fit h)

  pub cover_done : t.count ≤ i → Covers G (ends_at t w₀) s (touches_at t w₀) m w₀ w
  cover_done h =
      let a = d.m_le in
      let b = d.i_le in
      let l = touches_length t w₀ fit in
      record {
        listed = listed_is d.listed (ap (gather (touch_pieces G (ends_at t w₀))) (take_all i (touches_at t w₀) (omega arith)));
        count = omega arith;
      }
