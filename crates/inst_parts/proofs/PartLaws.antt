-- The block of a point among sound blocks, and the ways out of an operand's check.
use Prim.Native.Nat.{ℕ, suc, ◌-◌, ◌*◌, ◌≤◌, ◌<◌}
use native.Mathlib.Nat.{add-zero}
use native.Mathlib.Omega.{arith}
use mathlib.Core.Path.{◌≡◌, sym, ap}
use mathlib.Core.Bool.{Bool, true, ◌||◌}
use mathlib.Core.List.{List}
use lib.ListN.{get_or}
use lib.Dec.{leb, ltb}
use borrow.Author.Tests.{lt-ltb, le-ltb, le-leb, lt-leb}
use Rattle.words.specs.Inner.{Splits, operand_def, operand_register}
use Rattle.words.specs.Widths.{block_count, block_start, block_end, operand_width}
use Rattle.words.proofs.SortLaws.{rising_le}
use Rattle.graph.specs.Line.{blocks_of, Sound}
use Rattle.graph.proofs.Line.{blocks_length, start_is, end_is, starts_rise}
use Rattle.carrying.specs.Checks.{bad_register}

module _ (s : List ℕ) (S : Sound (blocks_of s)) where
  -- a block that has the point is the last that starts no later
  pub near_found : (k e : ℕ) → 0 < k → k ≤ block_count s → block_start s (k - 1) ≤ e → e ≤ block_end s (k - 1) → Splits (λ i. leb (block_start s i) e) (block_count s) k
  near_found k e h l a b = record {
    within = l;
    holds = λ i q. le-leb (block_start s i) e (omega (arith, rising_le (λ j. block_start s j) (block_count s) (starts_rise s S) i (k - 1) (omega arith) (omega arith)));
    fails = λ i q v. lt-leb (block_start s i) e (omega (arith, rising_le (λ j. block_start s j) (block_count s) (starts_rise s S) k i q v, next (omega arith)));
  }
    where
      next : k < block_count s → block_end s (k - 1) < block_start s k
      next v =
          let n = blocks_length s in
          let z : suc (k - 1) ≡ k = omega arith in
          let g = rw z at (S.gapless (k - 1) (omega arith)) in
          let p = end_is s (k - 1) (omega arith) in
          let q = start_is s k v in
          omega arith

module _ (s : List ℕ) (i v : ℕ) where
  flag : get_or s (operand_width * i) 0 ≡ operand_def s i
  flag = ap (λ (k : ℕ). get_or s k 0) (sym (add-zero (operand_width * i)))

  pub bad_flag : 1 < get_or s (operand_width * i) 0 → true ≡ (ltb 1 (operand_def s i) || bad_register v (operand_register s i))
  bad_flag h = sym (ap (λ (t : Bool). t || bad_register v (operand_register s i)) (lt-ltb 1 (operand_def s i) (let e = flag in omega arith)))

  pub by_register : get_or s (operand_width * i) 0 ≤ 1 → bad_register v (operand_register s i) ≡ (ltb 1 (operand_def s i) || bad_register v (operand_register s i))
  by_register h = sym (ap (λ (t : Bool). t || bad_register v (operand_register s i)) (le-ltb 1 (operand_def s i) (let e = flag in omega arith)))
