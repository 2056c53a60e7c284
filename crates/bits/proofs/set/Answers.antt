-- `bits::set` meets its contract: the stored word has one bit more.
use Rattle.bits.proofs.BitLaws.{put_bit, set_word}
use native.Mathlib.Omega.{arith}
use mathlib.Core.Path.{refl}
use Rattle.bits.proofs.set.Goals as goal

pub returns : goal.returns
returns c = let a = c.args in put_bit a.w.now a.base a.b _ _ _ refl (omega arith) (set_word _ _ (omega arith))
