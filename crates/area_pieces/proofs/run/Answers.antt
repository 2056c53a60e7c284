-- `run` meets its contract: a word with every bit, the blocks that have the bit, or one block.
use Rattle.area_pieces.proofs.RunLaws.{run_word, run_one}
use Rattle.area_pieces.proofs.run.Goals as goal

pub returns-then-work-s : goal.returns-then-work-s
returns-then-work-s c =
    run_word c.args.s c.args.k c.args.work.now c.if-work-s.true

pub returns : goal.returns
returns c =
    run_one c.args.s c.args.k c.args.work.now
