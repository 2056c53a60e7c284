-- The registers and entries of one local, in whatever order they come, give the touches of document 01, in another order.
use Prim.Native.Nat.{ℕ, zero, suc, ◌+◌, ◌*◌, ◌^◌, ◌≤◌, ◌<◌}
use mathlib.Core.Path.{◌≡◌, refl, sym, ap, subst, ◌∙◌}
use mathlib.Core.Logic.{◌⊎◌, inl, inr}
use mathlib.Core.Bool.{Bool, true, false, cond}
use mathlib.Core.List.Memᴰ
use mathlib.Core.List.{List, [], ◌∷◌, ◌++◌, map, append-nil, Memᴰ}
use native.Mathlib.Omega.{arith}
use lib.ListN.{get_or}
use lib.Dec.{eqb}
use Rattle.words.specs.Rows.{tabulate}
use Rattle.words.specs.Sort.{sort_of, Distinct}
use Rattle.words.specs.Widths.{inst_width, inst_count, mention_width, address_count, end_count}
use Rattle.words.specs.Inner.{inst_placed, inst_early, mention_inst, mention_local}
use Rattle.words.proofs.RowLaws.{tabulate_suc}
use Rattle.words.proofs.SortLaws.{sort_append_comm, sort_append_left}
use Rattle.ranges.specs.declared.Range.{Range}
use Rattle.ranges.specs.Points.{range}
use Rattle.ranges.specs.Merged.{Permuted}
use Rattle.ranges.specs.Inner.{unpack, unpacked}
use Rattle.ranges.proofs.FormLaws.{map_append, unpack_pack}
use Rattle.carrying.specs.Lists.{keep, gather, below}
use Rattle.carrying.specs.Carried.{Mention, Code, Carries, mentioned, carried, carries, pieces_of, live_pieces, touches_of, ends_of}
use Rattle.carrying.proofs.CarryLaws.{carried_least}
use Rattle.carrying.proofs.ListLaws.{of_below}
use Rattle.carrying.specs.Insts.{insts_of, inst_at, is_set}
use Rattle.insts.proofs.DealtLaws.{placed_is, early_is, late_is}
use Rattle.areas.proofs.PermuteLaws.{perm_is, perm_front, perm_append, perm_exchange, perm_turn}
use Rattle.area_pieces.proofs.HullLaws.{keep_append, gather_append}
use Rattle.live.proofs.LiveLaws.{keep_one}
use Rattle.reach.specs.Prepared.{code_of}
use Rattle.reach.specs.Inner.{row_local}
use Rattle.touches.specs.Inner.{listed_at, down_by, entry_at, end_at}

-- ---- lists that name the same numbers, each once

abbrev pub Among : List ℕ → List ℕ → Type 0
Among l m = (x : ℕ) → Memᴰ x l → Memᴰ x m

-- x is taken out of a list that names it once
record Out (x : ℕ) (l : List ℕ) : Type 0 where
  front : List ℕ
  back : List ℕ
  is : l ≡ front ++ (x ∷ back)

out : (x : ℕ) (l : List ℕ) → Memᴰ x l → Out x l
out x [] m = absurd (Memᴰ.not-nil m)
out x (y ∷ l) m = go (Memᴰ.cases_cons m) (out x l)
  where
    go : (x ≡ y) ⊎ Memᴰ x l → (Memᴰ x l → Out x l) → Out x (y ∷ l)
    go (inl e) f = record { front = []; back = l; is = ap (λ z. z ∷ l) (sym e) }
    go (inr n) f = let o = f n in record { front = y ∷ o.front; back = o.back; is = ap (λ (k : List ℕ). y ∷ k) o.is }

middle : {z x : ℕ} (a b : List ℕ) → Memᴰ z (a ++ (x ∷ b)) → (z ≡ x) ⊎ Memᴰ z (a ++ b)
middle [] b m = Memᴰ.cases_cons m
middle {z} {x} (y ∷ a) b m = go (Memᴰ.cases_cons m) (middle a b)
  where
    go : (z ≡ y) ⊎ Memᴰ z (a ++ (x ∷ b)) → (Memᴰ z (a ++ (x ∷ b)) → (z ≡ x) ⊎ Memᴰ z (a ++ b)) → (z ≡ x) ⊎ Memᴰ z (y ∷ (a ++ b))
    go (inl e) f = inr (Memᴰ.head e)
    go (inr n) f = later (f n)
      where
        later : (z ≡ x) ⊎ Memᴰ z (a ++ b) → (z ≡ x) ⊎ Memᴰ z (y ∷ (a ++ b))
        later (inl e) = inl e
        later (inr k) = inr (Memᴰ.tail k)

wider : {z : ℕ} (x : ℕ) (a b : List ℕ) → Memᴰ z (a ++ b) → Memᴰ z (a ++ (x ∷ b))
wider x [] b m = Memᴰ.tail m
wider {z} x (y ∷ a) b m = go (Memᴰ.cases_cons m) (wider x a b)
  where
    go : (z ≡ y) ⊎ Memᴰ z (a ++ b) → (Memᴰ z (a ++ b) → Memᴰ z (a ++ (x ∷ b))) → Memᴰ z (y ∷ (a ++ (x ∷ b)))
    go (inl e) f = Memᴰ.head e
    go (inr n) f = Memᴰ.tail (f n)

-- without its middle a list still names each once, and the middle no more
distinct_less : (x : ℕ) (a b : List ℕ) → Distinct (a ++ (x ∷ b)) → Distinct (a ++ b) × (Memᴰ x (a ++ b) → ⊥)
distinct_less x [] b d = (d.1, d.0)
distinct_less x (y ∷ a) b d = go (distinct_less x a b d.1)
  where
    here : Memᴰ x (x ∷ b) → Memᴰ x (a ++ (x ∷ b))
    here m = at a
      where
        at : (k : List ℕ) → Memᴰ x (k ++ (x ∷ b))
        at [] = m
        at (z ∷ k) = Memᴰ.tail (at k)

    new : (x ≡ y) ⊎ Memᴰ x (a ++ b) → (Memᴰ x (a ++ b) → ⊥) → ⊥
    new (inl e) f = d.0 (subst (λ (t : ℕ). Memᴰ t (a ++ (x ∷ b))) e (here (Memᴰ.head refl)))
    new (inr n) f = f n

    go : Distinct (a ++ b) × (Memᴰ x (a ++ b) → ⊥) → Distinct (y ∷ (a ++ b)) × (Memᴰ x (y ∷ (a ++ b)) → ⊥)
    go ih = ((λ m. d.0 (wider x a b m), ih.0), λ m. new (Memᴰ.cases_cons m) ih.1)

pub gather_same : (f : ℕ → List Range) (l m : List ℕ) → Distinct l → Distinct m → Among l m → Among m l → Permuted (gather f l) (gather f m)
unfolding gather
gather_same f [] [] d e p q = Permuted.none
gather_same f [] (y ∷ m) d e p q = absurd (Memᴰ.not-nil (q y (Memᴰ.head refl)))
gather_same f (x ∷ l) m d e p q = go (out x m (p x (Memᴰ.head refl))) (gather_same f l)
  where
    go : Out x m → ((k : List ℕ) → Distinct l → Distinct k → Among l k → Among k l → Permuted (gather f l) (gather f k)) → Permuted (f x ++ gather f l) (gather f m)
    go o ih =
        Permuted.then (perm_front (f x) (ih (o.front ++ o.back) d.1 less.0 there back))
        (Permuted.then (perm_is (ap (λ (k : List Range). f x ++ k) (gather_append f o.front o.back)))
        (Permuted.then (perm_exchange (f x) (gather f o.front) (gather f o.back))
        (perm_is (sym (ap (gather f) o.is ∙ gather_append f o.front (x ∷ o.back))))))
      where
        less : Distinct (o.front ++ o.back) × (Memᴰ x (o.front ++ o.back) → ⊥)
        less = distinct_less x o.front o.back (subst Distinct o.is e)

        other : {z : ℕ} → Memᴰ z l → (z ≡ x) ⊎ Memᴰ z (o.front ++ o.back) → Memᴰ z (o.front ++ o.back)
        other n (inl s) = absurd (d.0 (subst (λ (t : ℕ). Memᴰ t l) s n))
        other n (inr k) = k

        there : Among l (o.front ++ o.back)
        there z n = other n (middle o.front o.back (subst (λ (k : List ℕ). Memᴰ z k) o.is (p z (Memᴰ.tail n))))

        mine : {z : ℕ} → Memᴰ z (o.front ++ o.back) → (z ≡ x) ⊎ Memᴰ z l → Memᴰ z l
        mine n (inl s) = absurd (less.1 (subst (λ (t : ℕ). Memᴰ t (o.front ++ o.back)) s n))
        mine n (inr k) = k

        back : Among (o.front ++ o.back) l
        back z n = mine n (Memᴰ.cases_cons (q z (subst (λ (k : List ℕ). Memᴰ z k) (sym o.is) (wider x o.front o.back n))))

distinct_snoc : (l : List ℕ) (x : ℕ) → Distinct l → (Memᴰ x l → ⊥) → Distinct (l ++ (x ∷ []))
distinct_snoc [] x d f = (λ m. Memᴰ.not-nil m, tt)
distinct_snoc (y ∷ l) x d f = (λ m. new (Memᴰ.append_cases l m), distinct_snoc l x d.1 (λ m. f (Memᴰ.tail m)))
  where
    last : (y ≡ x) ⊎ Memᴰ y [] → ⊥
    last (inl e) = f (Memᴰ.head (sym e))
    last (inr n) = Memᴰ.not-nil n

    new : Memᴰ y l ⊎ Memᴰ y (x ∷ []) → ⊥
    new (inl n) = d.0 n
    new (inr n) = last (Memᴰ.cases_cons n)

pub distinct_below : (n : ℕ) (f : ℕ → Bool) → Distinct (below n f)
unfolding below
distinct_below zero f = tt
distinct_below (suc n) f = go (f n) (distinct_below n f) (λ m. of_below f n n m)
  where
    go : (t : Bool) → Distinct (below n f) → (Memᴰ n (below n f) → (n < n) × (f n ≡ true)) → Distinct (below n f ++ cond t (n ∷ []) [])
    go true d g = distinct_snoc (below n f) n d (λ m. absurd (omega (arith, (g m).0)))
    go false d g = rw (append-nil (below n f)) d

-- ---- the listed instructions

module _ (v : ℕ) (insts operands crossings addresses ends : List ℕ) (l : ℕ) where
  abbrev code : Code
  code = code_of v insts operands crossings addresses ends

  abbrev row : ℕ → Mention
  row a = record { inst = mention_inst addresses a; local = mention_local addresses a }

  abbrev points : Mention → Range
  points m = range (mentioned code m).early (mentioned code m).late

  abbrev named : Mention → Bool
  named m = eqb m.local l

  abbrev up : ℕ → List Range
  up n = map points (keep named (tabulate n row))

  up_next : (n : ℕ) → up (suc n) ≡ up n ++ map points (cond (named (row n)) (row n ∷ []) [])
  up_next n =
      ap (λ (k : List Mention). map points (keep named k)) (tabulate_suc n row)
      ∙ ap (map points) (keep_append named (tabulate n row) (row n ∷ []))
      ∙ map_append points (keep named (tabulate n row)) (keep named (row n ∷ []))
      ∙ ap (λ (k : List Mention). up n ++ map points k) (keep_one named (row n))

  module _ (found : (a : ℕ) → a < address_count addresses → get_or addresses (mention_width * a) 0 < inst_count insts) where
    at_points : (a : ℕ) → a < address_count addresses → listed_at insts addresses a ≡ points (row a)
    at_points a h =
        let e : mention_width * a + 0 ≡ mention_width * a = omega arith in
        let k : mention_inst addresses a ≡ get_or addresses (mention_width * a) 0 = ap (λ z. get_or addresses z 0) e in
        rw k (sym (ap (λ z. range z (mentioned code (record { inst = get_or addresses (mention_width * a) 0; local = mention_local addresses a })).late) (early_is insts operands (get_or addresses (mention_width * a) 0) (found a h))
        ∙ ap (λ z. range (inst_early insts (get_or addresses (mention_width * a) 0)) z) (late_is insts operands (get_or addresses (mention_width * a) 0) (found a h))))

    module _ (small : (y : ℕ) → get_or insts y 0 < 2 ^ 32) where
      listed-permuted : (n : ℕ) → n ≤ address_count addresses → Permuted (unpacked (down_by (row_local addresses) l (entry_at insts addresses) n)) (up n)
      unfolding down_by tabulate keep
      listed-permuted zero h = Permuted.none
      listed-permuted (suc n) h =
          Permuted.then (perm_is (map_append unpack (cond (eqb (row_local addresses n) l) (entry_at insts addresses n) []) (down_by (row_local addresses) l (entry_at insts addresses) n)))
          (Permuted.then (perm_front (unpacked (cond (eqb (row_local addresses n) l) (entry_at insts addresses n) [])) (listed-permuted n (omega arith)))
          (Permuted.then (perm_is (ap (λ (k : List Range). k ++ up n) (one (eqb (row_local addresses n) l))))
          (Permuted.then (perm_turn (map points (cond (named (row n)) (row n ∷ []) [])) (up n)) (perm_is (sym (up_next n))))))
        where
          one : (t : Bool) → unpacked (cond t (entry_at insts addresses n) []) ≡ map points (cond t (row n ∷ []) [])
          one true =
              ap (λ (r : Range). r ∷ [])
              (unpack_pack (listed_at insts addresses n).start (listed_at insts addresses n).end (small (inst_width * get_or addresses (mention_width * n) 0 + 3)) ∙ at_points n (omega arith))
          one false = refl

      -- ---- both together

      pub touches_permuted : (pieces registers : List ℕ) → Distinct registers → ((r : ℕ) → Memᴰ r registers → Carries code l r) → ((r : ℕ) → Carries code l r → Memᴰ r registers)
          → Permuted (gather (live_pieces (pieces_of pieces)) registers ++ unpacked (down_by (row_local addresses) l (entry_at insts addresses) (address_count addresses))) (touches_of code (pieces_of pieces) l)
      unfolding touches_of carried
      touches_permuted pieces registers d only all =
          perm_append
          (gather_same (live_pieces (pieces_of pieces)) registers (below v (carries code l)) d (distinct_below v (carries code l)) (λ r m. (carried_least code l r).1 (only r m)) (λ r m. all r ((carried_least code l r).0 m)))
          (listed-permuted (address_count addresses) (omega arith))

  -- ---- the ends

  abbrev end_row : ℕ → Mention
  end_row k = record { inst = mention_inst ends k; local = mention_local ends k }

  abbrev placed : Mention → Bool
  placed m = is_set (mentioned code m).placed

  abbrev early : Mention → ℕ
  early m = (mentioned code m).early

  abbrev ends_to : ℕ → List ℕ
  ends_to n = map early (keep placed (keep named (tabulate n end_row)))

  ends_next : (n : ℕ) → ends_to (suc n) ≡ ends_to n ++ map early (keep placed (cond (named (end_row n)) (end_row n ∷ []) []))
  ends_next n =
      ap (λ (k : List Mention). map early (keep placed (keep named k))) (tabulate_suc n end_row)
      ∙ ap (λ (k : List Mention). map early (keep placed k)) (keep_append named (tabulate n end_row) (end_row n ∷ []) ∙ ap (λ (k : List Mention). keep named (tabulate n end_row) ++ k) (keep_one named (end_row n)))
      ∙ ap (map early) (keep_append placed (keep named (tabulate n end_row)) (cond (named (end_row n)) (end_row n ∷ []) []))
      ∙ map_append early (keep placed (keep named (tabulate n end_row))) (keep placed (cond (named (end_row n)) (end_row n ∷ []) []))

  module _ (found : (k : ℕ) → k < end_count ends → get_or ends (mention_width * k) 0 < inst_count insts) where
    end_is : (k : ℕ) → k < end_count ends → end_at insts ends k ≡ map early (keep placed (end_row k ∷ []))
    end_is k h =
        let e : mention_width * k + 0 ≡ mention_width * k = omega arith in
        let i : mention_inst ends k ≡ get_or ends (mention_width * k) 0 = ap (λ z. get_or ends z 0) e in
        sym (ap (map early) (keep_one placed (end_row k))
        ∙ ap (λ z. map (λ (m : Mention). (inst_at (insts_of insts operands) m.inst).early) (cond (is_set (inst_at (insts_of insts operands) z).placed) (record { inst = z; local = mention_local ends k } ∷ []) [])) i
        ∙ ap (λ z. map (λ (m : Mention). (inst_at (insts_of insts operands) m.inst).early) (cond (is_set z) (record { inst = get_or ends (mention_width * k) 0; local = mention_local ends k } ∷ []) [])) (placed_is insts operands (get_or ends (mention_width * k) 0) (found k h))
        ∙ given (is_set (inst_placed insts (get_or ends (mention_width * k) 0))))
      where
        given : (t : Bool) → map (λ (m : Mention). (inst_at (insts_of insts operands) m.inst).early) (cond t (record { inst = get_or ends (mention_width * k) 0; local = mention_local ends k } ∷ []) []) ≡ cond t (inst_early insts (get_or ends (mention_width * k) 0) ∷ []) []
        given true = ap (λ z. z ∷ []) (early_is insts operands (get_or ends (mention_width * k) 0) (found k h))
        given false = refl

    sorted_to : (n : ℕ) → n ≤ end_count ends → sort_of (down_by (row_local ends) l (end_at insts ends) n) ≡ sort_of (ends_to n)
    unfolding down_by tabulate keep
    sorted_to zero h = refl
    sorted_to (suc n) h =
        sort_append_left (cond (eqb (row_local ends n) l) (end_at insts ends n) []) (down_by (row_local ends) l (end_at insts ends) n) (ends_to n) (sorted_to n (omega arith))
        ∙ sort_append_comm (cond (eqb (row_local ends n) l) (end_at insts ends n) []) (ends_to n)
        ∙ ap (λ (k : List ℕ). sort_of (ends_to n ++ k)) (one (eqb (row_local ends n) l))
        ∙ ap sort_of (sym (ends_next n))
      where
        one : (t : Bool) → cond t (end_at insts ends n) [] ≡ map early (keep placed (cond t (end_row n ∷ []) []))
        one true = end_is n (omega arith)
        one false = refl

    -- a local's ends, sorted
    pub ends_sorted : sort_of (down_by (row_local ends) l (end_at insts ends) (end_count ends)) ≡ sort_of (ends_of code l)
    ends_sorted = sorted_to (end_count ends) (omega arith)
