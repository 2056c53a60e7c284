-- `insts::checks::bad_inst` meets its contract: an instruction in three parts.
use native.Mathlib.Omega.{arith}
use Prim.Native.Nat.{ℕ}
use mathlib.Core.Path.{sym, ap, ◌∙◌}
use Rattle.insts.proofs.CheckLaws.{by_points, by_fields, by_operands}
use Rattle.graph.specs.Line.{blocks_of}
use Rattle.carrying.specs.Lists.{any}
use Rattle.carrying.specs.Checks.{bad_operand}
use Rattle.insts.specs.Counts.{offset}
use Rattle.insts.specs.Inner.{operands_from}
use Rattle.insts.proofs.DealtLaws.{operands_within}
use Rattle.insts.proofs.checks.bad_inst.Goals as goal

pub bad_points-requires : goal.bad_points-requires
bad_points-requires c = (c.requires.sound.0, c.requires.sound.1, c.requires.from_value.2)

pub returns-then-bad_points : goal.returns-then-bad_points
returns-then-bad_points c =
    by_points (blocks_of (c.args.blocks.now)) c.args.v (c.args.insts.now) (c.args.operands.now) c.args.i c.requires.sound.2 (omega arith)
    (sym c.bad_points.ensures ∙ c.if-bad_points.true)

pub returns-then-bad_fields : goal.returns-then-bad_fields
returns-then-bad_fields c =
    by_fields (blocks_of (c.args.blocks.now)) c.args.v (c.args.insts.now) (c.args.operands.now) c.args.i c.requires.sound.2 (omega arith)
    (sym c.bad_points.ensures ∙ c.if-bad_points.false) (sym c.bad_fields.ensures ∙ c.if-bad_fields.true)

pub bad_operands-requires : goal.bad_operands-requires
bad_operands-requires c =
    (omega (arith, operands_within (c.args.insts.now) (c.args.operands.now) c.requires.sound.2 c.args.i (omega arith), c.requires.from_value.0), c.requires.from_value.1)

pub returns : goal.returns
returns c =
    c.bad_operands.ensures ∙ ap (λ (x : ℕ). any (bad_operand c.args.v) (operands_from (c.args.operands.now) x c.wide.result)) c.requires.from_value.0 ∙ ap
    (λ (x : ℕ). any (bad_operand c.args.v) (operands_from (c.args.operands.now) (offset (c.args.insts.now) c.args.i) x)) c.wide.ensures ∙ by_operands
    (blocks_of (c.args.blocks.now)) c.args.v (c.args.insts.now) (c.args.operands.now) c.args.i c.requires.sound.2 (omega arith)
    (sym c.bad_points.ensures ∙ c.if-bad_points.false)
    (sym c.bad_fields.ensures ∙ c.if-bad_fields.false)
