-- `merged` over columns, by way of words: packed, merged and unpacked.
use mathlib.Core.Path.{◌≡◌, refl, sym, ap, ◌∙◌}
use mathlib.Core.List.{List}
use Prim.Native.Nat.{ℕ, ◌+◌, ◌/◌, ◌%◌, ◌^◌, ◌≤◌, ◌<◌}
use native.Mathlib.Omega.{arith}
use native.Mathlib.Nat.{zero-add}
use lib.ListN.{length, get_or, take, drop}
use lib.Seq.{ext_get_or, get_or-take, length-take-le}
use Rattle.words.specs.Inner.{Region, part}
use Rattle.words.proofs.RegionLaws.{length_part, get_d_part, drop_same}
use Rattle.packed.specs.Inner.{MergedIn}
use Rattle.ranges.specs.Points.{range}
use Rattle.ranges.specs.Merged.{merged}
use Rattle.ranges.specs.Forms.{columns}
use Rattle.ranges.specs.Inner.{pack, unpack, unpacked, Listing}
use Rattle.ranges.proofs.FormLaws.{columns_length, columns_at, columns_drop, unpacked_at, unpacked_length, unpack_pack}

module _ (ss es : List ℕ) (even : length ss ≡ length es) (small : (i : ℕ) → get_or es i 0 < 2 ^ 32) where
  packed_columns : (w₀ w : List ℕ) → length ss ≤ length w₀ → Region w₀ w 0 (length ss) (λ i. pack (range (get_or ss i 0) (get_or es i 0))) → unpacked (part 0 (length ss) w) ≡ columns ss es
  packed_columns w₀ w h r =
      ext_get_or (range 0 0) (unpacked (part 0 (length ss) w)) (columns ss es) lengths (λ i l. at_i i (rw (unpacked_length (part 0 (length ss) w) ∙ long) at l))
    where
      long : length (part 0 (length ss) w) ≡ length ss
      long = let e = r.len in length_part 0 (length ss) w (omega arith)

      lengths : length (unpacked (part 0 (length ss) w)) ≡ length (columns ss es)
      lengths = unpacked_length (part 0 (length ss) w) ∙ long ∙ sym (columns_length ss es even)

      at_i : (i : ℕ) → i < length ss → get_or (unpacked (part 0 (length ss) w)) i (range 0 0) ≡ get_or (columns ss es) i (range 0 0)
      at_i i l =
          unpacked_at (part 0 (length ss) w) i ∙ ap unpack (get_d_part 0 (length ss) w i l ∙ r.inside (0 + i) i refl l)
          ∙ unpack_pack (get_or ss i 0) (get_or es i 0) (small i) ∙ sym (columns_at ss es i even)

-- the first k words' ranges, in two columns
unpacked_columns : (os oe os' oe' w : List ℕ) (k : ℕ) → length os ≡ length oe → k ≤ length os → k ≤ length w
    → Region os os' 0 k (λ i. get_or w i 0 / 2 ^ 32) → Region oe oe' 0 k (λ i. get_or w i 0 % 2 ^ 32) → Listing (columns os oe) (columns os' oe') k (unpacked (part 0 k w))
unpacked_columns os oe os' oe' w k even room h r q =
    let a = r.len in
    let b = q.len in
    record {
      len = columns_length os' oe' even' ∙ r.len ∙ sym (columns_length os oe even);
      room = rw (columns_length os oe even) room;
      is = ext_get_or (range 0 0) (take k (columns os' oe')) (unpacked (part 0 k w)) lengths (λ i l. at_i i (rw long at l));
      past = sym (columns_drop k os' oe' even') ∙ ap (λ (l : List ℕ). columns l (drop k oe')) (drop_same k os os' r.len (λ i l. r.after i (omega arith)))
          ∙ ap (columns (drop k os)) (drop_same k oe oe' q.len (λ i l. q.after i (omega arith))) ∙ columns_drop k os oe even;
    }
  where
    even' : length os' ≡ length oe'
    even' = let a = r.len in let b = q.len in omega arith

    long : length (take k (columns os' oe')) ≡ k
    long = let a = r.len in length-take-le k (columns os' oe') (rw (columns_length os' oe' even') (omega arith))

    lengths : length (take k (columns os' oe')) ≡ length (unpacked (part 0 k w))
    lengths = long ∙ sym (unpacked_length (part 0 k w) ∙ length_part 0 k w (omega arith))

    at_i : (i : ℕ) → i < k → get_or (take k (columns os' oe')) i (range 0 0) ≡ get_or (unpacked (part 0 k w)) i (range 0 0)
    at_i i l =
        get_or-take k (columns os' oe') i (range 0 0) l ∙ columns_at os' oe' i even'
        ∙ ap (λ (x : ℕ). range x (get_or oe' i 0)) (r.inside i i (omega arith) l) ∙ ap (range (get_or w i 0 / 2 ^ 32)) (q.inside i i (omega arith) l)
        ∙ sym (unpacked_at (part 0 k w) i ∙ ap unpack (get_d_part 0 k w i l ∙ ap (λ (x : ℕ). get_or w x 0) (zero-add i)))

pub merged_columns : (ss es os oe os' oe' w₀ w₁ w₂ : List ℕ) (k : ℕ) → length ss ≡ length es → ((i : ℕ) → get_or es i 0 < 2 ^ 32) → length os ≡ length oe → length ss ≤ length os → length ss ≤ length w₀
    → Region w₀ w₁ 0 (length ss) (λ i. pack (range (get_or ss i 0) (get_or es i 0))) → length w₂ ≡ length w₁ → MergedIn w₁ w₂ 0 (length ss) k
    → Region os os' 0 k (λ i. get_or w₂ i 0 / 2 ^ 32) → Region oe oe' 0 k (λ i. get_or w₂ i 0 % 2 ^ 32) → Listing (columns os oe) (columns os' oe') k (merged (columns ss es))
merged_columns ss es os oe os' oe' w₀ w₁ w₂ k even small even' room h r lw m p q =
    let a = m.within in
    let b = r.len in
    let e : unpacked (part 0 k w₂) ≡ merged (columns ss es) = m.is ∙ ap merged (packed_columns ss es even small w₀ w₁ h r) in
    rw e at (unpacked_columns os oe os' oe' w₂ k even' (omega arith) (omega arith) p q)
