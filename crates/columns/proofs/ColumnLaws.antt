-- What the functions over columns do, by the numbers that they read and store.
use mathlib.Core.Path.{◌≡◌, refl, sym, ap, ◌∙◌}
use mathlib.Core.List.{List, [], ◌∷◌, ◌++◌}
use Prim.Native.Nat.{ℕ, suc, ◌+◌, ◌-◌, ◌≤◌, ◌<◌}
use native.Mathlib.Omega.{arith}
use lib.ListN.{length, get_or, take, drop, set, length-drop, length-map}
use lib.Seq.{set-get_or}
use native.Mathlib.Nat.{zero-add}
use Rattle.words.specs.Inner.{Region}
use Rattle.words.proofs.RegionLaws.{part_is, drop_same}
use Rattle.ranges.specs.declared.Range.{Range}
use Rattle.ranges.specs.Points.{range, range_at}
use Rattle.ranges.specs.Merged.{joined}
use Rattle.ranges.specs.Forms.{columns, starts, ends}
use Rattle.ranges.specs.Inner.{TakenUp, Listing}
use Rattle.ranges.proofs.ListingLaws.{up_first, up_next, up_wider, up_kept, listing_all, listing_length, listing_raise, listing_push}
use Rattle.ranges.proofs.TakeLaws.{joined_first, joined_longer, joined_next}
use Rattle.ranges.proofs.FormLaws.{columns_length, columns_set, starts_columns, ends_columns, columns_take, columns_drop, map_append, start_at, end_at_lem}

-- ---- one range taken up

module _ (os oe : List ℕ) (even : length os ≡ length oe) (k : ℕ) (room : k < length os) (s e : ℕ) where
  fits : k < length (columns os oe)
  fits = rw (columns_length os oe even) room

  pushed : columns (set os k s) (set oe k e) ≡ set (columns os oe) k (range s e)
  pushed = columns_set os oe k s e

  pub take_first : k ≡ 0 → TakenUp (columns os oe) (columns (set os k s) (set oe k e)) k (k + 1) (range s e)
  take_first h = rw pushed (up_first (columns os oe) k fits s e h)

  module _ (some : 0 < k) where
    m_is : k ≡ suc (k - 1)
    m_is = omega arith

    last : (range_at (columns os oe) (k - 1)).end ≡ get_or oe (k - 1) 0
    last = end_at_lem os oe even (k - 1)

    raised : columns os (set oe (k - 1) e) ≡ set (columns os oe) (k - 1) (range (range_at (columns os oe) (k - 1)).start e)
    raised =
        ap (λ (l : List ℕ). columns l (set oe (k - 1) e)) (sym (set-get_or os (k - 1) 0)) ∙ columns_set os oe (k - 1) (get_or os (k - 1) 0) e
        ∙ ap (λ (x : ℕ). set (columns os oe) (k - 1) (range x e)) (sym (start_at os oe even (k - 1)))

    pub take_next : get_or oe (k - 1) 0 + 1 < s → TakenUp (columns os oe) (columns (set os k s) (set oe k e)) k (k + 1) (range s e)
    take_next h = rw pushed (up_next (columns os oe) k fits s e (k - 1) m_is (rw last h))

    pub take_wider : s ≤ get_or oe (k - 1) 0 + 1 → get_or oe (k - 1) 0 < e → TakenUp (columns os oe) (columns os (set oe (k - 1) e)) k k (range s e)
    take_wider h l = rw raised (up_wider (columns os oe) k fits s e (k - 1) m_is (rw last h) (rw last l))

    pub take_kept : s ≤ get_or oe (k - 1) 0 + 1 → e ≤ get_or oe (k - 1) 0 → TakenUp (columns os oe) (columns os oe) k k (range s e)
    take_kept h l = up_kept (columns os oe) k fits s e (k - 1) m_is (rw last h) (rw last l)

-- ---- what the two columns hold in the end

module _ (os₀ oe₀ os oe : List ℕ) {k : ℕ} {rs : List Range} (even₀ : length os₀ ≡ length oe₀) (even : length os ≡ length oe) (w : Listing (columns os₀ oe₀) (columns os oe) k rs) where
  pub starts_are : os ≡ starts rs ++ drop (length (starts rs)) os₀
  starts_are =
      sym (starts_columns os oe even) ∙ ap starts (listing_all w) ∙ map_append (λ (r : Range). r.start) rs (drop k (columns os₀ oe₀))
      ∙ ap (λ (l : List Range). starts rs ++ starts l) (sym (columns_drop k os₀ oe₀ even₀))
      ∙ ap (λ (l : List ℕ). starts rs ++ l) (starts_columns (drop k os₀) (drop k oe₀) (even-drop k))
      ∙ ap (λ (n : ℕ). starts rs ++ drop n os₀) (sym (length-map rs (λ (r : Range). r.start) ∙ listing_length w))
    where
      even-drop : (n : ℕ) → length (drop n os₀) ≡ length (drop n oe₀)
      even-drop n = simp length-drop (omega arith)

  pub ends_are : oe ≡ ends rs ++ drop (length (ends rs)) oe₀
  ends_are =
      sym (ends_columns os oe even) ∙ ap ends (listing_all w) ∙ map_append (λ (r : Range). r.end) rs (drop k (columns os₀ oe₀))
      ∙ ap (λ (l : List Range). ends rs ++ ends l) (sym (columns_drop k os₀ oe₀ even₀))
      ∙ ap (λ (l : List ℕ). ends rs ++ l) (ends_columns (drop k os₀) (drop k oe₀) (even-drop k))
      ∙ ap (λ (n : ℕ). ends rs ++ drop n oe₀) (sym (length-map rs (λ (r : Range). r.end) ∙ listing_length w))
    where
      even-drop : (n : ℕ) → length (drop n os₀) ≡ length (drop n oe₀)
      even-drop n = simp length-drop (omega arith)

-- ---- one range joined on: the list was copied to the front of the answer

module _ (ss es os oe : List ℕ) (even : length ss ≡ length es) (even' : length os ≡ length oe) (room : length ss + 1 ≤ length os) (os₁ oe₁ : List ℕ)
    (copied : Region os os₁ 0 (length ss) (λ i. get_or ss (0 + i) 0)) (copied' : Region oe oe₁ 0 (length ss) (λ i. get_or es (0 + i) 0)) (s e : ℕ) where
  abbrev n : ℕ
  n = length ss

  front_is : take n os₁ ≡ ss
  front_is = part_is 0 n os₁ ss (let a = copied.len in omega arith) refl (λ i h. copied.inside (0 + i) i refl h ∙ ap (λ (k : ℕ). get_or ss k 0) (zero-add i))

  front_is' : take n oe₁ ≡ es
  front_is' = part_is 0 n oe₁ es (let a = copied'.len in omega arith) (sym even) (λ i h. copied'.inside (0 + i) i refl h ∙ ap (λ (k : ℕ). get_or es k 0) (zero-add i))

  rest_is : drop n os₁ ≡ drop n os
  rest_is = drop_same n os os₁ copied.len (λ i h. copied.after i (omega arith))

  rest_is' : drop n oe₁ ≡ drop n oe
  rest_is' = drop_same n oe oe₁ copied'.len (λ i h. copied'.after i (omega arith))

  even₁ : length os₁ ≡ length oe₁
  even₁ = let a = copied.len in let b = copied'.len in omega arith

  pub copied_list : Listing (columns os oe) (columns os₁ oe₁) n (columns ss es)
  copied_list = record {
    len = columns_length os₁ oe₁ even₁ ∙ copied.len ∙ sym (columns_length os oe even');
    room = rw (columns_length os oe even') (omega arith);
    is = sym (columns_take n os₁ oe₁) ∙ ap (λ (l : List ℕ). columns l (take n oe₁)) front_is ∙ ap (columns ss) front_is';
    past = sym (columns_drop n os₁ oe₁ even₁) ∙ ap (λ (l : List ℕ). columns l (drop n oe₁)) rest_is ∙ ap (columns (drop n os)) rest_is' ∙ columns_drop n os oe even';
  }

  full : length (columns ss es) ≡ n
  full = columns_length ss es even

  pub join_longer : 0 < n → s ≡ get_or es (n - 1) 0 + 1 → Listing (columns os oe) (columns os₁ (set oe₁ (n - 1) e)) n (joined (columns ss es) (range s e))
  join_longer h l =
      rw (joined_longer (columns ss es) (range s e) (n - 1) (full ∙ omega arith) (rw (end_at_lem ss es even (n - 1)) l), raised)
      (listing_raise copied_list (n - 1) (range (range_at (columns ss es) (n - 1)).start e) (omega arith))
    where
      raised : columns os₁ (set oe₁ (n - 1) e) ≡ set (columns os₁ oe₁) (n - 1) (range (range_at (columns ss es) (n - 1)).start e)
      raised =
          ap (λ (q : List ℕ). columns q (set oe₁ (n - 1) e)) (sym (set-get_or os₁ (n - 1) 0)) ∙ columns_set os₁ oe₁ (n - 1) (get_or os₁ (n - 1) 0) e
          ∙ ap (λ (x : ℕ). set (columns os₁ oe₁) (n - 1) (range x e))
          (copied.inside (n - 1) (n - 1) (omega arith) (omega arith) ∙ ap (λ (k : ℕ). get_or ss k 0) (zero-add (n - 1)) ∙ sym (start_at ss es even (n - 1)))

  appended : joined (columns ss es) (range s e) ≡ columns ss es ++ (range s e ∷ []) → Listing (columns os oe) (columns (set os₁ n s) (set oe₁ n e)) (n + 1) (joined (columns ss es) (range s e))
  appended q = rw (q, columns_set os₁ oe₁ n s e) (listing_push copied_list (range s e) (rw (columns_length os oe even') (omega arith)))

  pub join_first : n ≡ 0 → Listing (columns os oe) (columns (set os₁ n s) (set oe₁ n e)) (n + 1) (joined (columns ss es) (range s e))
  join_first h = appended (joined_first (columns ss es) (range s e) (full ∙ h))

  pub join_next : 0 < n → (s ≡ get_or es (n - 1) 0 + 1 → ⊥) → Listing (columns os oe) (columns (set os₁ n s) (set oe₁ n e)) (n + 1) (joined (columns ss es) (range s e))
  join_next h l = appended (joined_next (columns ss es) (range s e) (n - 1) (full ∙ omega arith) (λ q. l (q ∙ ap (λ (x : ℕ). x + 1) (end_at_lem ss es even (n - 1)))))
