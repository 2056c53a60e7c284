-- `bits::unset` meets its contract: the stored word has one bit less.
use Rattle.bits.proofs.BitLaws.{put_bit, clear_word}
use native.Mathlib.Omega.{arith}
use mathlib.Core.Path.{refl}
use Rattle.bits.proofs.unset.Goals as goal

pub returns : goal.returns
returns c = let a = c.args in put_bit a.w.now a.base a.b _ _ _ refl (omega arith) (clear_word _ _ (omega arith))
