-- The pieces of an ending local by touch, then by the blocks arrived at: the same ranges as by block, in another order.
use Prim.Native.Nat.{ℕ, zero, suc, ◌≤◌, ◌<◌}
use native.Mathlib.Omega.{arith}
use mathlib.Core.Path.{◌≡◌, refl, sym, ap, ◌∙◌}
use mathlib.Core.Logic.{◌≢◌}
use mathlib.Core.Bool.{Bool, true, false, cond}
use mathlib.Core.List.{List, [], ◌∷◌, ◌++◌, map, append-nil, append_assoc, Memᴰ}
use lib.ListN.{length}
use borrow.Author.Tests.{eq-eqb, ne_eqb}
use Rattle.words.proofs.Points.{cut, same}
use Rattle.ranges.specs.declared.Range.{Range}
use Rattle.ranges.specs.Merged.{merged, Permuted}
use Rattle.ranges.proofs.MergeLaws.{merged_permuted}
use Rattle.ranges.proofs.FormLaws.{map_append}
use Rattle.graph.specs.Line.{Sound}
use Rattle.carrying.specs.Lists.{keep, gather}
use Rattle.areas.specs.Blocks.{Graph, block_of, bounds, cover, AllInLine}
use Rattle.areas.specs.Pieces.{through, throughs, end_line, arrives_row, ending_area}
use Rattle.areas.proofs.BlockLaws.{bounds_first, bounds_last, block_rises, block_below}
use Rattle.areas.proofs.PermuteLaws.{perm_refl, perm_append, perm_front, perm_exchange, perm_is, perm_turn}
use Rattle.area_ends.specs.Inner.{covering, touch_pieces, arrival, arrivals}
use Rattle.area_pieces.proofs.HullLaws.{keep_append, bounds_not}

-- ---- lists in another order

perm_middle : (a b c d : List Range) → Permuted ((a ++ b) ++ (c ++ d)) ((a ++ c) ++ (b ++ d))
perm_middle a b c d =
    Permuted.then (perm_is (append_assoc a b (c ++ d)))
    (Permuted.then (perm_front a (perm_exchange b c d)) (perm_is (sym (append_assoc a c (b ++ d)))))

gather_both : {A : Type 0} (f g : A → List Range) (l : List A) → Permuted (gather f l ++ gather g l) (gather (λ a. f a ++ g a) l)
unfolding gather
gather_both f g [] = Permuted.none
gather_both f g (a ∷ l) = Permuted.then (perm_middle (f a) (gather f l) (g a) (gather g l)) (perm_front (f a ++ g a) (gather_both f g l))

gather_same : {A : Type 0} (f g : A → List Range) (l : List A) → ((a : A) → Memᴰ a l → f a ≡ g a) → gather f l ≡ gather g l
unfolding gather
gather_same f g [] h = refl
gather_same f g (a ∷ l) h = both (h a (Memᴰ.head refl)) (gather_same f g l (λ b m. h b (Memᴰ.tail m)))
  where
    both : {x y z w : List Range} → x ≡ y → z ≡ w → x ++ z ≡ y ++ w
    both e k = rw (e, k)

module _ (G : Graph) (es : List ℕ) where
  -- ---- the covers by block

  cover_line : List Range → ℕ → List Range
  cover_line ts zero = []
  cover_line ts (suc k) = cover_line ts k ++ map (cover G es k) (keep (bounds G k) ts)

  by_kind : (ts : List Range) (a : ℕ → Bool) (n : ℕ) → Permuted (end_line G ts es a n) (arrivals G es a n ++ cover_line ts n)
  unfolding end_line arrivals cover_line
  by_kind ts a zero = Permuted.none
  by_kind ts a (suc n) =
      Permuted.then (perm_append (by_kind ts a n) (perm_refl (cond (a n) (arrival G es n ∷ []) [] ++ map (cover G es n) (keep (bounds G n) ts))))
      (perm_middle (arrivals G es a n) (cover_line ts n) (cond (a n) (arrival G es n ∷ []) []) (map (cover G es n) (keep (bounds G n) ts)))

  covers_of : (ts us : List Range) (k : ℕ) → map (cover G es k) (keep (bounds G k) (ts ++ us)) ≡ map (cover G es k) (keep (bounds G k) ts) ++ map (cover G es k) (keep (bounds G k) us)
  covers_of ts us k = ap (map (cover G es k)) (keep_append (bounds G k) ts us) ∙ map_append (cover G es k) (keep (bounds G k) ts) (keep (bounds G k) us)

  one_more : (t : Range) (ts : List Range) (n : ℕ) → Permuted (cover_line (t ∷ ts) n) (cover_line (t ∷ []) n ++ cover_line ts n)
  unfolding cover_line
  one_more t ts zero = Permuted.none
  one_more t ts (suc n) =
      Permuted.then (perm_append (one_more t ts n) (perm_is (covers_of (t ∷ []) ts n)))
      (perm_middle (cover_line (t ∷ []) n) (cover_line ts n) (map (cover G es n) (keep (bounds G n) (t ∷ []))) (map (cover G es n) (keep (bounds G n) ts)))

  none_at : (n : ℕ) → cover_line [] n ≡ []
  unfolding cover_line keep
  none_at zero = refl
  none_at (suc n) = ap (λ (l : List Range). l ++ []) (none_at n)

  by_touch : (ts : List Range) (n : ℕ) → Permuted (cover_line ts n) (gather (λ t. cover_line (t ∷ []) n) ts)
  unfolding gather
  by_touch [] n = perm_is (none_at n)
  by_touch (t ∷ ts) n = Permuted.then (one_more t ts n) (perm_front (cover_line (t ∷ []) n) (by_touch ts n))

  -- ---- one touch's covers

  module _ (t : Range) where
    cover_one : (k : ℕ) → bounds G k t ≡ true → cover_line (t ∷ []) (suc k) ≡ cover_line (t ∷ []) k ++ (cover G es k t ∷ [])
    unfolding cover_line keep
    cover_one k e = rw e

    cover_same : (k : ℕ) → bounds G k t ≡ false → cover_line (t ∷ []) (suc k) ≡ cover_line (t ∷ []) k
    unfolding cover_line keep
    cover_same k e = rw e (append-nil (cover_line (t ∷ []) k))

    cover_start : cover_line (t ∷ []) 0 ≡ []
    unfolding cover_line
    cover_start = refl

    cover_skip : (a b : ℕ) → a ≤ b → ((i : ℕ) → a ≤ i → i < b → bounds G i t ≡ false) → cover_line (t ∷ []) b ≡ cover_line (t ∷ []) a
    cover_skip a zero h none = let e : 0 ≡ a = omega arith in ap (cover_line (t ∷ [])) e
    cover_skip a (suc b) h none =
        cut (suc b) a
        (λ q. let e : suc b ≡ a = omega arith in ap (cover_line (t ∷ [])) e)
        (λ q. cover_same b (none b (omega arith) (omega arith)) ∙ cover_skip a b (omega arith) (λ i l m. none i l (omega arith)))

    abbrev first : ℕ
    first = block_of G t.start

    abbrev last : ℕ
    last = block_of G t.end

    module _ (rises : first ≤ last) where
      apart : (i : ℕ) → i ≢ first → i ≢ last → bounds G i t ≡ false
      apart i d e = bounds_not G i t (λ z. d (sym z)) (λ z. e (sym z))

      cover-first : cover_line (t ∷ []) (suc first) ≡ cover G es first t ∷ []
      cover-first =
          cover_one first (bounds_first G first t refl)
          ∙ ap (λ (l : List Range). l ++ (cover G es first t ∷ [])) (cover_skip 0 first (omega arith) (λ i h l. apart i (omega arith) (omega arith)) ∙ cover_start)

      cover-last : first < last → cover_line (t ∷ []) (suc last) ≡ cover G es first t ∷ cover G es last t ∷ []
      cover-last h =
          cover_one last (bounds_last G last t refl)
          ∙ ap (λ (l : List Range). l ++ (cover G es last t ∷ [])) (cover_skip (suc first) last h (λ i q l. apart i (omega arith) (omega arith)) ∙ cover-first)

      covers-touch : (n : ℕ) → last < n → cover_line (t ∷ []) n ≡ covering G es t
      covers-touch n h =
          same first last
          (λ e. rw (eq-eqb first last e) (cover_skip (suc first) n (omega arith) (λ i q l. apart i (omega arith) (omega arith)) ∙ cover-first))
          (λ d. rw (ne_eqb first last d) (cover_skip (suc last) n h (λ i q l. apart i (omega arith) (omega arith)) ∙ cover-last (omega arith)))

  -- ---- all pieces

  module _ (S : Sound G.blocks) (ts : List Range) (up : AllInLine G.blocks ts) where
    touch_rises : (t : Range) → Memᴰ t ts → block_of G t.start ≤ block_of G t.end
    touch_rises t m = block_rises G S t.start t.end (up t m).upright

    abbrev n : ℕ
    n = length G.blocks

    covers_all : gather (λ t. cover_line (t ∷ []) n) ts ≡ gather (covering G es) ts
    covers_all = gather_same (λ t. cover_line (t ∷ []) n) (covering G es) ts (λ t m. covers-touch t (touch_rises t m) n (block_below G S t.end))

    by_touches : (a : ℕ → Bool) → Permuted (throughs G ts ++ end_line G ts es a n) (gather (touch_pieces G es) ts ++ arrivals G es a n)
    by_touches a =
        Permuted.then (perm_front (throughs G ts) (Permuted.then (by_kind ts a n) (perm_turn (arrivals G es a n) (cover_line ts n))))
        (Permuted.then (perm_front (throughs G ts) (perm_append (Permuted.then (by_touch ts n) (perm_is covers_all)) (perm_refl (arrivals G es a n))))
        (Permuted.then (perm_is (sym (append_assoc (throughs G ts) (gather (covering G es) ts) (arrivals G es a n))))
        (perm_append (Permuted.then (perm_turn (throughs G ts) (gather (covering G es) ts)) (gather_both (covering G es) (through G) ts)) (perm_refl (arrivals G es a n)))))

    pub ending_is : merged (gather (touch_pieces G es) ts ++ arrivals G es (arrives_row G ts es) n) ≡ ending_area G ts es
    unfolding ending_area
    ending_is = sym (merged_permuted (by_touches (arrives_row G ts es)))

-- only the row of the n blocks matters
pub arrivals_row : (G : Graph) (es : List ℕ) (a b : ℕ → Bool) (n : ℕ) → ((k : ℕ) → k < n → a k ≡ b k) → arrivals G es a n ≡ arrivals G es b n
unfolding arrivals
arrivals_row G es a b zero h = refl
arrivals_row G es a b (suc n) h = both (arrivals_row G es a b n (λ k l. h k (omega arith))) (h n (omega arith))
  where
    both : arrivals G es a n ≡ arrivals G es b n → a n ≡ b n → arrivals G es a n ++ cond (a n) (arrival G es n ∷ []) [] ≡ arrivals G es b n ++ cond (b n) (arrival G es n ∷ []) []
    both x y = rw (x, y)
