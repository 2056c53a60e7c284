-- The live pieces of registers, each named once: no more than there are pieces.
use Prim.Native.Nat.{ℕ, zero, suc, ◌+◌, ◌-◌, ◌≤◌, ◌<◌, ◌^◌}
use mathlib.Core.Path.{◌≡◌, refl, sym, ap, subst, ◌∙◌}
use mathlib.Core.Logic.{◌⊎◌, inl, inr}
use mathlib.Core.Bool.{Bool, true, false, cond}
use mathlib.Core.List.Memᴰ
use mathlib.Core.List.{List, [], ◌∷◌, ◌++◌, map, Memᴰ}
use native.Mathlib.Omega.{arith}
use native.Mathlib.Numerals.{add-one}
use lib.ListN.{length, get_or, take, length-append, get_or-append}
use lib.Seq.{take_all, take-suc, get_or-append-add}
use lib.Dec.{eqb}
use borrow.Author.Tests.{eqb-true}
use Rattle.words.specs.Sort.{Distinct}
use Rattle.words.specs.Inner.{part}
use Rattle.words.specs.Widths.{piece_width, piece_count}
use Rattle.words.proofs.RegionLaws.{length_part, get_d_part, part_is}
use Rattle.words.proofs.Points.{cut}
use Rattle.words.proofs.RowLaws.{length_records}
use Rattle.ranges.specs.declared.Range.{Range}
use Rattle.ranges.specs.Points.{range}
use Rattle.ranges.specs.Inner.{unpack, unpacked}
use Rattle.ranges.proofs.FormLaws.{map_append, unpacked_length}
use Rattle.graph.specs.Inner.Work.{Within}
use Rattle.graph.proofs.Within.{within_refl, within_trans, within_wider}
use Rattle.carrying.specs.Lists.{keep, gather}
use Rattle.carrying.specs.Carried.{Piece, pieces_of, live_pieces}
use Rattle.area_pieces.proofs.HullLaws.{gather_append, gather_one, gather_none}
use Rattle.live.specs.Inner.{InOrder, Fetched}
use Rattle.touches.specs.Inner.{Gathered}

-- ---- counting

abbrev one : Bool → ℕ
one t = cond t 1 0

-- one piece more
live_cons : (p : Piece) (ps : List Piece) (q : ℕ) → length (live_pieces (p ∷ ps) q) ≡ one (eqb p.register q) + length (live_pieces ps q)
unfolding keep
live_cons p ps q = go (eqb p.register q)
  where
    go : (t : Bool) → length (map (λ (z : Piece). range z.start z.end) (cond t (p ∷ keep (λ (z : Piece). eqb z.register q) ps) (keep (λ (z : Piece). eqb z.register q) ps)))
        ≡ one t + length (live_pieces ps q)
    go true = omega arith
    go false = omega arith

abbrev pub total : List Piece → List ℕ → ℕ
total ps rs = length (gather (live_pieces ps) rs)

total_cons : (ps : List Piece) (r : ℕ) (rs : List ℕ) → total ps (r ∷ rs) ≡ length (live_pieces ps r) + total ps rs
unfolding gather
total_cons ps r rs = length-append (live_pieces ps r) (gather (live_pieces ps) rs)

-- of a register that is not named
total_other : (p : Piece) (ps : List Piece) (rs : List ℕ) → (Memᴰ p.register rs → ⊥) → total (p ∷ ps) rs ≡ total ps rs
unfolding gather
total_other p ps [] f = refl
total_other p ps (r ∷ rs) f =
    let a = total_cons (p ∷ ps) r rs in
    let b = total_cons ps r rs in
    let c = live_cons p ps r in
    let u : one (eqb p.register r) ≡ 0 = ap one (is (eqb p.register r) refl) in
    let h = total_other p ps rs (λ m. f (Memᴰ.tail m)) in
    omega (arith, a, b, c, u, h)
  where
    is : (t : Bool) → eqb p.register r ≡ t → t ≡ false
    is false e = refl
    is true e = absurd (f (Memᴰ.head (eqb-true p.register r e)))

total_more : (p : Piece) (ps : List Piece) (rs : List ℕ) → Distinct rs → total (p ∷ ps) rs ≤ suc (total ps rs)
unfolding gather
total_more p ps [] d = omega arith
total_more p ps (r ∷ rs) d = go (eqb p.register r) refl (total_more p ps rs d.1)
  where
    here : p.register ≡ r → total (p ∷ ps) rs ≡ total ps rs
    here e = total_other p ps rs (λ m. d.0 (rw e at m))

    go : (t : Bool) → eqb p.register r ≡ t → total (p ∷ ps) rs ≤ suc (total ps rs) → total (p ∷ ps) (r ∷ rs) ≤ suc (total ps (r ∷ rs))
    go true e ih =
        let a = total_cons (p ∷ ps) r rs in
        let b = total_cons ps r rs in
        let c = live_cons p ps r in
        let z = here (eqb-true p.register r e) in
        let u : one (eqb p.register r) ≡ 1 = ap one e in
        omega (arith, a, b, c, z, u)
    go false e ih =
        let a = total_cons (p ∷ ps) r rs in
        let b = total_cons ps r rs in
        let c = live_cons p ps r in
        let u : one (eqb p.register r) ≡ 0 = ap one e in
        omega (arith, a, b, c, u, ih)

total_none : (rs : List ℕ) → total [] rs ≡ 0
unfolding gather keep
total_none [] = refl
total_none (r ∷ rs) = total_none rs

pub total_le : (ps : List Piece) (rs : List ℕ) → Distinct rs → total ps rs ≤ length ps
total_le [] rs d = omega (arith, total_none rs)
total_le (p ∷ ps) rs d = omega (arith, total_more p ps rs d, total_le ps rs d)

member_take : {x : ℕ} (j : ℕ) (m : List ℕ) → Memᴰ x (take j m) → Memᴰ x m
member_take zero m h = absurd (Memᴰ.not-nil h)
member_take (suc j) [] h = h
member_take {x} (suc j) (y ∷ m) h = go (Memᴰ.cases_cons h) (member_take j m)
  where
    go : (x ≡ y) ⊎ Memᴰ x (take j m) → (Memᴰ x (take j m) → Memᴰ x m) → Memᴰ x (y ∷ m)
    go (inl e) f = Memᴰ.head e
    go (inr n) f = Memᴰ.tail (f n)

pub distinct_take : (k : ℕ) (l : List ℕ) → Distinct l → Distinct (take k l)
distinct_take zero l d = tt
distinct_take (suc k) [] d = tt
distinct_take (suc k) (x ∷ l) d = (λ m. d.0 (member_take k l m), distinct_take k l d.1)

-- ---- two parts, one behind the other

pub part_two : (w : List ℕ) (at m r : ℕ) → at + (m + r) ≤ length w → part at (m + r) w ≡ part at m w ++ part (at + m) r w
part_two w at m r h = part_is at (m + r) w (part at m w ++ part (at + m) r w) h
    (length-append (part at m w) (part (at + m) r w) ∙ (ap (λ n. n + length (part (at + m) r w)) (length_part at m w (omega arith)) ∙ ap (λ n. m + n) (length_part (at + m) r w (omega arith))))
    (λ i q. each i q)
  where
    long : length (part at m w) ≡ m
    long = length_part at m w (omega arith)

    each : (i : ℕ) → i < m + r → get_or w (at + i) 0 ≡ get_or (part at m w ++ part (at + m) r w) i 0
    each i q =
        cut m i
        (λ h₂. let e : i ≡ m + (i - m) = omega arith in
        rw e (sym (subst (λ n. get_or (part at m w ++ part (at + m) r w) (n + (i - m)) 0 ≡ get_or w (at + (m + (i - m))) 0) long
        (get_or-append-add (part at m w) (part (at + m) r w) (i - m) 0 ∙ (get_d_part (at + m) r w (i - m) (omega arith) ∙ ap (λ n. get_or w n 0) (omega arith))))))
        (λ h₂. sym (get_or-append (part at m w) (part (at + m) r w) 0 i (omega (arith, long)) ∙ get_d_part at m w i (omega arith)))

-- ---- one register after another

pub record Gathering (pieces : List ℕ) (keys from count to : ℕ) (w₀ w : List ℕ) (m k : ℕ) : Type 0 where
  pub order : InOrder pieces keys w₀
  pub few : piece_count pieces ≤ 65536
  pub keys_fit : keys + piece_count pieces ≤ to
  pub from_fits : from + count ≤ to
  pub room : to + (piece_count pieces + piece_count pieces) ≤ length w₀
  pub once : Distinct (part from count w₀)
  pub small : (j : ℕ) → j < count → get_or w₀ (from + j) 0 < 2 ^ 32
  pub k_le : k ≤ count
  pub m_le : m ≤ piece_count pieces
  pub kept : Within to (to + m) w₀ w
  pub is : unpacked (part to m w) ≡ gather (live_pieces (pieces_of pieces)) (take k (part from count w₀))

pub gather_start : (pieces : List ℕ) (keys from count to : ℕ) (w : List ℕ) → InOrder pieces keys w → piece_count pieces ≤ 65536 → keys + piece_count pieces ≤ to → from + count ≤ to
    → to + (piece_count pieces + piece_count pieces) ≤ length w → Distinct (part from count w) → ((j : ℕ) → j < count → get_or w (from + j) 0 < 2 ^ 32) → Gathering pieces keys from count to w w 0 0
gather_start pieces keys from count to w o f kf ff r d s = record {
  order = o;
  few = f;
  keys_fit = kf;
  from_fits = ff;
  room = r;
  once = d;
  small = s;
  k_le = omega arith;
  m_le = omega arith;
  kept = within_refl to (to + 0) w;
  is = sym (gather_none (live_pieces (pieces_of pieces)));
}

module _ {pieces : List ℕ} {keys from count to : ℕ} {w₀ w : List ℕ} {m k : ℕ} (G : Gathering pieces keys from count to w₀ w m k) where
  pub order_now : InOrder pieces keys w
  order_now = record { keys = λ j h. G.kept.below (keys + j) (omega (arith, G.keys_fit)) ∙ G.order.keys j h }

  pub register_now : k < count → get_or w (from + k) 0 ≡ get_or w₀ (from + k) 0
  register_now h = G.kept.below (from + k) (omega (arith, G.from_fits))

  abbrev live : ℕ → List Range
  live = live_pieces (pieces_of pieces)

  abbrev regs : List ℕ
  regs = part from count w₀

  pub gather_more : {w' : List ℕ} {q r : ℕ} → k < count → q ≡ get_or w₀ (from + k) 0 → Fetched pieces q (to + m) w w' r → Gathering pieces keys from count to w₀ w' (m + r) (k + 1)
  gather_more {w'} {q} {r} h e F = record {
    order = G.order;
    few = G.few;
    keys_fit = G.keys_fit;
    from_fits = G.from_fits;
    room = G.room;
    once = G.once;
    small = G.small;
    k_le = omega arith;
    m_le = bound;
    kept = within_trans (within_wider to (to + (m + r)) (omega arith) (omega arith) G.kept) (within_wider to (to + (m + r)) (omega arith) (omega arith) F.kept);
    is = all;
  }
    where
      fits : to + (m + r) ≤ length w'
      fits = omega (arith, F.kept.len, G.kept.len, G.room, F.count, G.m_le)

      regs_long : length regs ≡ count
      regs_long = length_part from count w₀ (omega (arith, G.from_fits, G.room))

      next : take (k + 1) regs ≡ take k regs ++ (q ∷ [])
      next = ap (λ n. take n regs) (add-one k) ∙ take-suc regs k 0 (omega (arith, regs_long)) ∙ ap (λ x. take k regs ++ (x ∷ [])) (get_d_part from count w₀ k h ∙ sym e)

      front : part to m w' ≡ part to m w
      front = part_is to m w' (part to m w) (omega (arith, fits)) (length_part to m w (omega (arith, fits, F.kept.len)))
          (λ i l. F.kept.below (to + i) (omega arith) ∙ sym (get_d_part to m w i l))

      all : unpacked (part to (m + r) w') ≡ gather live (take (k + 1) regs)
      all =
          ap unpacked (part_two w' to m r fits) ∙ map_append unpack (part to m w') (part (to + m) r w')
          ∙ ap (λ (l : List Range). l ++ unpacked (part (to + m) r w')) (ap unpacked front ∙ G.is)
          ∙ ap (λ (l : List Range). gather live (take k regs) ++ l) (F.is ∙ sym (gather_one live q))
          ∙ sym (ap (gather live) next ∙ gather_append live (take k regs) (q ∷ []))

      bound : m + r ≤ piece_count pieces
      bound =
          let a : length (unpacked (part to (m + r) w')) ≡ m + r = unpacked_length (part to (m + r) w') ∙ length_part to (m + r) w' fits in
          let b = total_le (pieces_of pieces) (take (k + 1) regs) (distinct_take (k + 1) regs G.once) in
          omega (arith, a, ap length all, b, length_records {A = Piece} piece_width (λ f. record { register = f 0; start = f 1; end = f 2 }) pieces)

  pub gather_done : count ≤ k → Gathered pieces from count to w₀ w m
  gather_done h = record {
    kept = G.kept;
    count_le = G.m_le;
    is = G.is ∙ ap (gather (live_pieces (pieces_of pieces))) (take_all k (part from count w₀) (omega (arith, length_part from count w₀ (omega (arith, G.from_fits, G.room)))));
  }
