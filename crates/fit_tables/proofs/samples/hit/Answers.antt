-- `hit` meets its contract.
use lib.Bits.{bit_and}
use mathlib.Core.Bool.{false≢true}
use Rattle.fit_tables.proofs.MarkLaws.{nonzero}
use Prim.Native.Nat.{◌+◌, ◌*◌}
use lib.ListN.{get_or}
use Rattle.fit_tables.proofs.samples.hit.Goals as goal

pub returns-then-s-lt1 : goal.returns-then-s-lt1
returns-then-s-lt1 c = λ e. absurd (false≢true e)

pub returns : goal.returns
returns c =
    nonzero (bit_and (get_or c.args.w.now (c.args.s.base + c.args.c * c.args.s.width) 0) c.args.s.word)
