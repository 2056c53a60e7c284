-- `room` meets its contract: a law for each way out.
use native.Mathlib.Omega.{arith}
use Rattle.refusals.proofs.RoomLaws.{room_answer, room_work, room_fine}
use Rattle.refusals.proofs.room.Goals as goal

pub returns-then-lent-most : goal.returns-then-lent-most
returns-then-lent-most c = room_answer c.args.lent c.args.most c.args.work c.args.space c.if-lent-most.true

pub returns-then-work-space : goal.returns-then-work-space
returns-then-work-space c =
    room_work c.args.lent c.args.most c.args.work c.args.space (omega arith) c.if-work-space.true

pub returns : goal.returns
returns c =
    room_fine c.args.lent c.args.most c.args.work c.args.space (omega arith) (omega arith)
