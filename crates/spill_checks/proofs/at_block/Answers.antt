-- `spill_checks::at_block` meets its contract: a law for each way out.
use native.Mathlib.Omega.{arith}
use borrow.Author.Tests.{le-leb, lt-leb}
use Rattle.spill_checks.proofs.PositionLaws.{stray_when, kept_when}
use Rattle.words.specs.Widths.{block_count}
use Rattle.spill_checks.proofs.at_block.Goals as goal

pub returns-then-blocks-number : goal.returns-then-blocks-number
returns-then-blocks-number c = stray_when c.args.p (le-leb (block_count c.args.blocks.now) c.args.number (omega arith))

pub returns : goal.returns
returns c = kept_when c.args.p (lt-leb (block_count c.args.blocks.now) c.args.number (omega arith))
