-- An area does not depend on the order that its touches are listed in.
use Prim.Native.Nat.{ℕ, zero, suc, ◌≤◌}
use native.Mathlib.Omega.{arith}
use mathlib.Core.Path.{◌≡◌, refl, sym, ap, ◌∙◌, fun_ext, subst}
use mathlib.Core.Logic.{◌⊎◌, inl, inr}
use mathlib.Core.Bool.{Bool, true, false, cond, ◌&&◌, ◌||◌}
use mathlib.Core.List.Memᴰ
use mathlib.Core.List.{List, [], ◌∷◌, ◌++◌, map, append-nil, Memᴰ}
use lib.ListN.{length}
use lib.Dec.{leb}
use Rattle.ranges.specs.declared.Range.{Range}
use Rattle.ranges.specs.Points.{range, overlaps}
use Rattle.ranges.specs.Merged.{Permuted}
use Rattle.ranges.proofs.MergeLaws.{merged_permuted}
use Rattle.graph.specs.Rounds.{reached_row, reaching_row, arriving_row}
use Rattle.carrying.specs.Lists.{any, keep, gather}
use Rattle.areas.specs.Blocks.{Graph, top, bottom, whole, bounds, between, clip, touched, until, cover, leaves, passes}
use Rattle.areas.specs.Pieces.{clips, through, least, most, span, join_each, line_pieces, before_row, after_row, arrives_row, end_line, plain_area, ending_area}
use Rattle.areas.proofs.PlainLaws.{least_le, most_ge, least_begun, most_lasts}

-- ---- lists in another order

pub perm_refl : (rs : List Range) → Permuted rs rs
perm_refl [] = Permuted.none
perm_refl (r ∷ rs) = Permuted.keep r (perm_refl rs)

pub perm_is : {rs ss : List Range} → rs ≡ ss → Permuted rs ss
perm_is {rs} e = subst (λ (l : List Range). Permuted rs l) e (perm_refl rs)

pub perm_sym : {rs ss : List Range} → Permuted rs ss → Permuted ss rs
perm_sym Permuted.none = Permuted.none
perm_sym (Permuted.keep r p) = Permuted.keep r (perm_sym p)
perm_sym (Permuted.swap r s rs) = Permuted.swap s r rs
perm_sym (Permuted.then p q) = Permuted.then (perm_sym q) (perm_sym p)

pub perm_member : {rs ss : List Range} → Permuted rs ss → (c : Range) → Memᴰ c rs → Memᴰ c ss
perm_member Permuted.none c m = m
perm_member (Permuted.keep r p) c m = go (Memᴰ.cases_cons m) (perm_member p c)
  where
    go : {rs ss : List Range} → (c ≡ r) ⊎ Memᴰ c rs → (Memᴰ c rs → Memᴰ c ss) → Memᴰ c (r ∷ ss)
    go (inl e) ih = Memᴰ.head e
    go (inr n) ih = Memᴰ.tail (ih n)
perm_member (Permuted.swap r s rs) c m = go (Memᴰ.cases_cons m)
  where
    later : (c ≡ s) ⊎ Memᴰ c rs → Memᴰ c (s ∷ r ∷ rs)
    later (inl e) = Memᴰ.head e
    later (inr n) = Memᴰ.tail (Memᴰ.tail n)

    go : (c ≡ r) ⊎ Memᴰ c (s ∷ rs) → Memᴰ c (s ∷ r ∷ rs)
    go (inl e) = Memᴰ.tail (Memᴰ.head e)
    go (inr n) = later (Memᴰ.cases_cons n)
perm_member (Permuted.then p q) c m = perm_member q c (perm_member p c m)

pub perm_front : (xs : List Range) {rs ss : List Range} → Permuted rs ss → Permuted (xs ++ rs) (xs ++ ss)
perm_front [] p = p
perm_front (x ∷ xs) p = Permuted.keep x (perm_front xs p)

perm_back : (xs : List Range) {rs ss : List Range} → Permuted rs ss → Permuted (rs ++ xs) (ss ++ xs)
perm_back xs Permuted.none = perm_refl xs
perm_back xs (Permuted.keep r p) = Permuted.keep r (perm_back xs p)
perm_back xs (Permuted.swap r s rs) = Permuted.swap r s (rs ++ xs)
perm_back xs (Permuted.then p q) = Permuted.then (perm_back xs p) (perm_back xs q)

pub perm_append : {rs ss ts us : List Range} → Permuted rs ss → Permuted ts us → Permuted (rs ++ ts) (ss ++ us)
perm_append {ss = ss} {ts = ts} p q = Permuted.then (perm_back ts p) (perm_front ss q)

perm_insert : (x : Range) (ys zs : List Range) → Permuted (x ∷ (ys ++ zs)) (ys ++ (x ∷ zs))
perm_insert x [] zs = perm_refl (x ∷ zs)
perm_insert x (y ∷ ys) zs = Permuted.then (Permuted.swap x y (ys ++ zs)) (Permuted.keep y (perm_insert x ys zs))

pub perm_exchange : (xs ys zs : List Range) → Permuted (xs ++ (ys ++ zs)) (ys ++ (xs ++ zs))
perm_exchange [] ys zs = perm_refl (ys ++ zs)
perm_exchange (x ∷ xs) ys zs = Permuted.then (Permuted.keep x (perm_exchange xs ys zs)) (perm_insert x ys (xs ++ zs))

pub perm_turn : (a b : List Range) → Permuted (a ++ b) (b ++ a)
perm_turn a b =
    Permuted.then (perm_is (ap (λ (l : List Range). a ++ l) (sym (append-nil b))))
    (Permuted.then (perm_exchange a b []) (perm_is (ap (λ (l : List Range). b ++ l) (append-nil a))))

perm_gather : (f : Range → List Range) {rs ss : List Range} → Permuted rs ss → Permuted (gather f rs) (gather f ss)
unfolding gather
perm_gather f Permuted.none = Permuted.none
perm_gather f (Permuted.keep r p) = perm_front (f r) (perm_gather f p)
perm_gather f (Permuted.swap r s rs) = perm_exchange (f r) (f s) (gather f rs)
perm_gather f (Permuted.then p q) = Permuted.then (perm_gather f p) (perm_gather f q)

perm_map : (f : Range → Range) {rs ss : List Range} → Permuted rs ss → Permuted (map f rs) (map f ss)
perm_map f Permuted.none = Permuted.none
perm_map f (Permuted.keep r p) = Permuted.keep (f r) (perm_map f p)
perm_map f (Permuted.swap r s rs) = Permuted.swap (f r) (f s) (map f rs)
perm_map f (Permuted.then p q) = Permuted.then (perm_map f p) (perm_map f q)

perm_keep : (f : Range → Bool) {rs ss : List Range} → Permuted rs ss → Permuted (keep f rs) (keep f ss)
unfolding keep
perm_keep f Permuted.none = Permuted.none
perm_keep f (Permuted.keep r {rs} {ss} p) = go (f r) (perm_keep f p)
  where
    go : (t : Bool) → Permuted (keep f rs) (keep f ss) → Permuted (cond t (r ∷ keep f rs) (keep f rs)) (cond t (r ∷ keep f ss) (keep f ss))
    go true ih = Permuted.keep r ih
    go false ih = ih
perm_keep f (Permuted.swap r s rs) = go (f r) (f s)
  where
    go : (t u : Bool) → Permuted (cond t (r ∷ cond u (s ∷ keep f rs) (keep f rs)) (cond u (s ∷ keep f rs) (keep f rs)))
        (cond u (s ∷ cond t (r ∷ keep f rs) (keep f rs)) (cond t (r ∷ keep f rs) (keep f rs)))
    go true true = Permuted.swap r s (keep f rs)
    go true false = perm_refl (r ∷ keep f rs)
    go false true = perm_refl (s ∷ keep f rs)
    go false false = perm_refl (keep f rs)
perm_keep f (Permuted.then p q) = Permuted.then (perm_keep f p) (perm_keep f q)

any_perm : (f : Range → Bool) {rs ss : List Range} → Permuted rs ss → any f rs ≡ any f ss
unfolding any
any_perm f Permuted.none = refl
any_perm f (Permuted.keep r p) = ap (λ (t : Bool). f r || t) (any_perm f p)
any_perm f (Permuted.swap r s rs) = go (f r) (f s) (any f rs)
  where
    go : (a b c : Bool) → a || (b || c) ≡ b || (a || c)
    go true true c = refl
    go true false c = refl
    go false b c = refl
any_perm f (Permuted.then p q) = any_perm f p ∙ any_perm f q

-- ---- a block's piece

least_perm : (r s : Range) (rs ss : List Range) → Permuted (r ∷ rs) (s ∷ ss) → least s ss ≤ least r rs
least_perm r s rs ss p =
    let (c, m, h) = least_begun r rs (least r rs) (omega arith) in
    let l = least_le s ss c (perm_member p c m) in
    omega arith

most_perm : (r s : Range) (rs ss : List Range) → Permuted (r ∷ rs) (s ∷ ss) → most r rs ≤ most s ss
most_perm r s rs ss p =
    let (c, m, h) = most_lasts r rs (most r rs) (omega arith) in
    let l = most_ge s ss c (perm_member p c m) in
    omega arith

module _ (G : Graph) where
  span_perm : (k : ℕ) (u v : Bool) (rs ss : List Range) → Permuted rs ss → span G k u v rs ≡ span G k u v ss
  span_perm k u v [] [] p = refl
  span_perm k u v [] (s ∷ ss) p = absurd (Memᴰ.not-nil (perm_member (perm_sym p) s (Memᴰ.head refl)))
  span_perm k u v (r ∷ rs) [] p = absurd (Memᴰ.not-nil (perm_member p r (Memᴰ.head refl)))
  span_perm k u v (r ∷ rs) (s ∷ ss) p =
      let a : least r rs ≡ least s ss = omega (arith, least_perm r s rs ss p, least_perm s r ss rs (perm_sym p)) in
      let b : most r rs ≡ most s ss = omega (arith, most_perm r s rs ss p, most_perm s r ss rs (perm_sym p)) in
      rw (a, b)

  module _ (ts ss : List Range) (p : Permuted ts ss) where
    clips_perm : (k : ℕ) → Permuted (clips G ts k) (clips G ss k)
    clips_perm k = perm_map (clip G k) (perm_keep (bounds G k) p)

    line_perm : (b a : ℕ → Bool) (n : ℕ) → line_pieces G ts b a n ≡ line_pieces G ss b a n
    unfolding line_pieces
    line_perm b a zero = refl
    line_perm b a (suc n) = both (line_perm b a n) (ap (λ (s : List Range). cond (b n && a n) (whole G n ∷ []) s) (span_perm n (b n) (a n) (clips G ts n) (clips G ss n) (clips_perm n)))
      where
        both : {x y z w : List Range} → x ≡ y → z ≡ w → join_each x z ≡ join_each y w
        both e f = rw (e, f)

    pub touched_perm : touched G ts ≡ touched G ss
    touched_perm = fun_ext (λ k. any_perm (λ t. overlaps t (whole G k)) p)

    pub plain_permuted : plain_area G ts ≡ plain_area G ss
    unfolding plain_area
    plain_permuted = merged_permuted (perm_append (perm_gather (through G) p) same)
      where
        rows : (t : ℕ → Bool) → List Range
        rows t = line_pieces G ts (reached_row (length G.blocks) G.edges t) (reaching_row (length G.blocks) G.edges t) (length G.blocks)

        equal : line_pieces G ts (before_row G ts) (after_row G ts) (length G.blocks) ≡ line_pieces G ss (before_row G ss) (after_row G ss) (length G.blocks)
        equal = ap rows touched_perm ∙ line_perm (before_row G ss) (after_row G ss) (length G.blocks)

        same : Permuted (line_pieces G ts (before_row G ts) (after_row G ts) (length G.blocks)) (line_pieces G ss (before_row G ss) (after_row G ss) (length G.blocks))
        same = subst (λ (l : List Range). Permuted (line_pieces G ts (before_row G ts) (after_row G ts) (length G.blocks)) l) equal (perm_refl _)

    module _ (es : List ℕ) where
      pub leaves_perm : leaves G ts es ≡ leaves G ss es
      leaves_perm = fun_ext (λ k. any_perm (λ t. between G k t || bounds G k t && leb (bottom G k) (cover G es k t).end) p)

      end-line-perm : (a : ℕ → Bool) (n : ℕ) → Permuted (end_line G ts es a n) (end_line G ss es a n)
      unfolding end_line
      end-line-perm a zero = Permuted.none
      end-line-perm a (suc n) = perm_append (end-line-perm a n) (perm_front (cond (a n) (range (top G n) (until es (top G n) (bottom G n)) ∷ []) []) (perm_map (cover G es n) (perm_keep (bounds G n) p)))

      pub end_permuted : ending_area G ts es ≡ ending_area G ss es
      unfolding ending_area
      end_permuted = merged_permuted (perm_append (perm_gather (through G) p) same)
        where
          rows : (t : ℕ → Bool) → List Range
          rows t = end_line G ss es (arriving_row (length G.blocks) G.edges t (passes G es)) (length G.blocks)

          same : Permuted (end_line G ts es (arrives_row G ts es) (length G.blocks)) (end_line G ss es (arrives_row G ss es) (length G.blocks))
          same =
              subst (λ (l : List Range). Permuted (end_line G ts es (arrives_row G ts es) (length G.blocks)) l) (ap rows leaves_perm)
              (end-line-perm (arrives_row G ts es) (length G.blocks))
