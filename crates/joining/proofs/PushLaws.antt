-- A list of packed ranges that grows in the work space: a range pushed, or put on through `joined`.
use Prim.Native.Nat.{ℕ, ◌+◌, ◌-◌, ◌/◌, ◌%◌, ◌^◌, ◌<◌}
use mathlib.Core.Path.{◌≡◌, refl, sym, ap, ◌∙◌}
use mathlib.Core.List.{List, [], ◌∷◌, ◌++◌}
use native.Mathlib.Omega.{arith}
use native.Mathlib.Numerals.{add-one}
use lib.ListN.{length, get_or, take, drop, set, length-set, length-drop}
use lib.Seq.{take-suc-set, take-set-lt, drop-set-add}
use Rattle.words.specs.Inner.{part}
use Rattle.words.proofs.Points.{stored}
use Rattle.words.proofs.RegionLaws.{length_part, get_d_part}
use Rattle.ranges.specs.declared.Range.{Range}
use Rattle.ranges.specs.Points.{range, range_at}
use Rattle.ranges.specs.Merged.{joined}
use Rattle.ranges.specs.Inner.{pack, unpack, unpacked}
use Rattle.ranges.proofs.FormLaws.{map_set, map_append, unpacked_at, unpacked_length, unpack_pack}
use Rattle.ranges.proofs.TakeLaws.{joined_first, joined_longer, joined_next}
use Rattle.joining.specs.Inner.{Listed, JoinedIn}

-- ---- one word stored

pub part_push : (w : List ℕ) (at k x : ℕ) → at + k < length w → part at (k + 1) (set w (at + k) x) ≡ part at k w ++ (x ∷ [])
part_push w at k x h =
    ap (λ (l : List ℕ). take (k + 1) l) (drop-set-add at w k x) ∙ ap (λ (n : ℕ). take n (set (drop at w) k x)) (add-one k)
    ∙ take-suc-set (drop at w) k x (simp length-drop (omega arith))

-- what a store leaves elsewhere
pub set_other : (w : List ℕ) (x v i : ℕ) → x < length w → (i ≡ x → ⊥) → get_or (set w x v) i 0 ≡ get_or w i 0
set_other w x v i h d = stored (λ y. y ≡ get_or w i 0) w x v i h (λ e. absurd (d e)) (λ _. refl)

module _ (w : List ℕ) (at k : ℕ) (room : at + k < length w) (x : ℕ) where
  -- a range behind the k ranges from `at` on
  pub pushed : Listed w (set w (at + k) x) at (k + 1) (unpacked (part at k w) ++ (unpack x ∷ []))
  pushed = record {
    len = simp length-set;
    is = ap unpacked (part_push w at k x room) ∙ map_append unpack (part at k w) (x ∷ []);
    before = λ i h. set_other w (at + k) x i room (λ e. absurd (omega arith));
    after = λ i h. set_other w (at + k) x i room (λ e. absurd (omega arith));
  }

  long : length (unpacked (part at k w)) ≡ k
  long = unpacked_length (part at k w) ∙ length_part at k w (omega arith)

  apart : joined (unpacked (part at k w)) (unpack x) ≡ unpacked (part at k w) ++ (unpack x ∷ []) → JoinedIn w (set w (at + k) x) at k (k + 1) x
  apart e = record { listed = rw e pushed; least = omega arith; most = omega arith }

  pub join_first : k ≡ 0 → JoinedIn w (set w (at + k) x) at k (k + 1) x
  join_first h = apart (joined_first (unpacked (part at k w)) (unpack x) (long ∙ h))

  module _ (some : 0 < k) where
    place : at + k - 1 ≡ at + (k - 1)
    place = omega arith

    last_is : range_at (unpacked (part at k w)) (k - 1) ≡ unpack (get_or w (at + k - 1) 0)
    last_is = unpacked_at (part at k w) (k - 1) ∙ ap unpack (get_d_part at k w (k - 1) (omega arith)) ∙ ap (λ (i : ℕ). unpack (get_or w i 0)) (sym place)

    pub join_next : (x / 2 ^ 32 ≡ get_or w (at + k - 1) 0 % 2 ^ 32 + 1 → ⊥) → JoinedIn w (set w (at + k) x) at k (k + 1) x
    join_next d = apart (joined_next (unpacked (part at k w)) (unpack x) (k - 1) (long ∙ omega arith) (rw last_is d))

    pub join_longer : x / 2 ^ 32 ≡ get_or w (at + k - 1) 0 % 2 ^ 32 + 1
        → JoinedIn w (set w (at + k - 1) (pack (range (get_or w (at + k - 1) 0 / 2 ^ 32) (x % 2 ^ 32)))) at k k x
    join_longer e = record {
      listed = record {
        len = simp length-set;
        is = ap (λ (i : ℕ). unpacked (part at k (set w i (pack longer)))) place ∙ ap (λ (l : List ℕ). unpacked (take k l)) (drop-set-add at w (k - 1) (pack longer))
            ∙ ap unpacked (take-set-lt k (drop at w) (k - 1) (pack longer) (omega arith)) ∙ map_set unpack (part at k w) (k - 1) (pack longer)
            ∙ ap (set (unpacked (part at k w)) (k - 1)) (unpack_pack (get_or w (at + k - 1) 0 / 2 ^ 32) (x % 2 ^ 32) (omega arith))
            ∙ ap (λ (r : Range). set (unpacked (part at k w)) (k - 1) (range r.start (x % 2 ^ 32))) (sym last_is)
            ∙ sym (joined_longer (unpacked (part at k w)) (unpack x) (k - 1) (long ∙ omega arith) (rw last_is e));
        before = λ i h. set_other w (at + k - 1) (pack longer) i (omega arith) (λ z. absurd (omega arith));
        after = λ i h. set_other w (at + k - 1) (pack longer) i (omega arith) (λ z. absurd (omega arith));
      };
      least = omega arith;
      most = omega arith;
    }
      where
        longer : Range
        longer = range (get_or w (at + k - 1) 0 / 2 ^ 32) (x % 2 ^ 32)
