-- `bits::row_pass` meets its contract: a turn keeps `Growing`, over the words that pass.
use mathlib.Core.List.{List}
use Rattle.bits.proofs.BitLaws.{Growing}
use lib.Bits.{bit_or, bit_and}
use Prim.Native.Nat.{ℕ, ◌+◌}
use lib.ListN.{get_or}
use Rattle.bits.proofs.row_pass.Given as goal

-- the word of bits that come to word i
abbrev pub passed : List ℕ → ℕ → ℕ → ℕ → ℕ → ℕ
passed w from pass leave i = bit_or (bit_and (get_or w (from + i) 0) (get_or w (pass + i) 0)) (get_or w (leave + i) 0)

abbrev pub invariant-loop-k : goal.invariant-loop-k
invariant-loop-k l = Growing l.initial.w l.w l.to l.n (passed l.initial.w l.from l.pass l.leave) l.k l.came
