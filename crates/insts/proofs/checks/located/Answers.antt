-- `insts::checks::located` meets its contract: the line first.
use native.Mathlib.Omega.{arith}
use mathlib.Core.Path.{sym, ◌∙◌}
use Rattle.refusals.proofs.Laws.{first_fine, first_bad, handed_on}
use Rattle.graph.specs.Line.{blocks_of}
use Rattle.graph.proofs.Line.{line_sound, blocks_length}
use Rattle.insts.proofs.checks.located.Goals as goal

pub returns-in_err-line : goal.returns-in_err-line
returns-in_err-line c =
    rw (handed_on c.from_residual.ensures.1)
    (sym (first_bad _ _ _ _ (sym c.line.ensures ∙ c.in_err-line.was)))

pub inst-requires : goal.inst-requires
inst-requires c = (
  (line_sound (blocks_of (c.args.blocks.now)) c.args.points (let n = blocks_length (c.args.blocks.now) in omega arith)
      (sym c.line.ensures ∙ c.in_ok-line.was)),
  c.requires.2,
  c.requires.3,
)

pub returns : goal.returns
returns c = c.inst.ensures ∙ sym (first_fine _ _ (sym c.line.ensures ∙ c.in_ok-line.was))
