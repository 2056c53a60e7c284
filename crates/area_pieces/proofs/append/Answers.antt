-- `append` meets its contract: all of the area is copied, or nothing is stored.
use native.Mathlib.Omega.{arith}
use Rattle.area_pieces.proofs.PushLaws.{append_put, append_full}
use Rattle.area_pieces.proofs.append.Goals as goal

pub returns-then-sum-room : goal.returns-then-sum-room
returns-then-sum-room c =
    append_put c.args.base c.args.room c.args.total c.args.from c.args.count c.copy.ensures (omega arith) (omega arith) (omega arith)

pub returns-else-sum-room : goal.returns-else-sum-room
returns-else-sum-room c =
    append_full c.args.base c.args.room c.args.total c.args.from c.args.count _ (omega arith)
