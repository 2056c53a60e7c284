-- Blocks that are visited at once: those of a word of the local's own row that has every bit.
use Prim.Native.Nat.{ℕ, zero, suc, ◌+◌, ◌-◌, ◌*◌, ◌/◌, ◌%◌, ◌^◌, ◌≤◌, ◌<◌}
use native.Mathlib.Omega.{arith}
use native.Mathlib.Nat.{pow-suc}
use mathlib.Core.Path.{◌≡◌, refl, ap, ◌∙◌}
use mathlib.Core.Bool.{true}
use mathlib.Core.List.{List, []}
use lib.ListN.{get_or}
use borrow.Author.Tests.{eq-eqb}
use Rattle.words.proofs.Points.{same}
use Rattle.bits.specs.Bits.{digit, bit_of}
use Rattle.bits.proofs.DigitLaws.{digit_zero, digit_suc}
use Rattle.ranges.specs.Points.{range}
use Rattle.ranges.specs.Inner.{pack, unpack}
use Rattle.ranges.proofs.FormLaws.{unpack_pack}
use Rattle.graph.proofs.Line.{start_is, end_is}
use Rattle.areas.specs.Blocks.{top, bottom}
use Rattle.spots.specs.Spots.{line_of}
use Rattle.area_pieces.specs.declared.Local.{Local}
use Rattle.area_pieces.specs.Inner.{own_bit, Run}
use Rattle.words.specs.Widths.{block_count, block_start, block_end}

-- each digit of the largest number with d digits is 1
full_digit : (k d x : ℕ) → k < d → x + 1 ≡ 2 ^ d → digit k x ≡ 1
full_digit k zero x h e = absurd (omega arith)
full_digit zero (suc d) x h e = let p : 2 ^ suc d ≡ 2 ^ d * 2 = pow-suc 2 d in digit_zero x ∙ omega (arith, p, e)
full_digit (suc k) (suc d) x h e = let p : 2 ^ suc d ≡ 2 ^ d * 2 = pow-suc 2 d in digit_suc k x ∙ full_digit k d (x / 2) (omega arith) (omega (arith, p, e))

full_bit : (x k : ℕ) → x ≡ 18446744073709551615 → k < 64 → bit_of x k ≡ true
full_bit x k e h = eq-eqb (digit k x) 1 (full_digit k 64 x h (omega (arith, e)))

pub run_word : (s : Local) (k : ℕ) (w : List ℕ) → get_or w (s.row + k / 64) 0 ≡ 18446744073709551615 → Run s k (k / 64 * 64 + 64) w
run_word s k w e = record {
  some = omega arith;
  word = omega arith;
  own = λ q c i j. let z : c / 64 ≡ k / 64 = omega arith in
      ap (λ (y : ℕ). bit_of (get_or w (s.row + y) 0) (c % 64)) z ∙ full_bit (get_or w (s.row + k / 64) 0) (c % 64) e (omega arith);
}

pub run_one : (s : Local) (k : ℕ) (w : List ℕ) → Run s k (k + 1) w
run_one s k w = record { some = omega arith; word = omega arith; own = λ q. absurd (q refl) }

-- the blocks from k up to e have the bit
abbrev pub Owned : Local → List ℕ → ℕ → ℕ → Type 0
Owned s w k e = (c : ℕ) → k ≤ c → c < e → own_bit s w c ≡ true

pub owned_first : (s : Local) (w : List ℕ) (k : ℕ) → own_bit s w k ≡ true → Owned s w k (k + 1)
owned_first s w k o c i j = let z : c ≡ k = omega arith in ap (λ (y : ℕ). own_bit s w y) z ∙ o

pub owned_more : (s : Local) (w : List ℕ) (k e : ℕ) → Owned s w k e → own_bit s w e ≡ true → Owned s w k (e + 1)
owned_more s w k e d o c i j = same c e (λ q. ap (λ (y : ℕ). own_bit s w y) q ∙ o) (λ q. d c i (omega arith))

pub run_owned : (s : Local) (w : List ℕ) (k e : ℕ) → k < e → e ≤ k / 64 * 64 + 64 → Owned s w k e → Run s k e w
run_owned s w k e h l o = record { some = h; word = l; own = λ q. o }

pub run_is : (blocks : List ℕ) (k e y : ℕ) → k < e → e ≤ block_count blocks → block_end blocks (e - 1) < 2 ^ 32
    → y ≡ pack (range (block_start blocks k) (block_end blocks (e - 1))) → unpack y ≡ range (top (line_of blocks []) k) (bottom (line_of blocks []) (e - 1))
run_is blocks k e y h n small q =
    ap unpack q ∙ unpack_pack (block_start blocks k) (block_end blocks (e - 1)) small
    ∙ rw (start_is blocks k (omega arith), end_is blocks (e - 1) (omega arith))
