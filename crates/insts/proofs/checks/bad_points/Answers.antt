-- `insts::checks::bad_points` meets its contract: a law for each way out.
use native.Mathlib.Omega.{arith}
use Prim.Native.Nat.{ℕ, ◌*◌}
use mathlib.Core.Path.{◌≡◌, ap}
use lib.ListN.{get_or}
use Rattle.insts.proofs.CheckLaws.{points_1, points_2, points_3}
use Rattle.words.specs.Widths.{inst_width}
use Rattle.words.specs.Inner.{inst_placed, inst_early, inst_late}
use native.Mathlib.Nat.{add-zero}
use Rattle.graph.specs.Line.{blocks_of}
use Rattle.carrying.specs.Checks.{misplaced}
use Rattle.insts.specs.Inner.{row_inst}
use Rattle.insts.proofs.checks.bad_points.Goals as goal

pub returns-then-late-early : goal.returns-then-late-early
returns-then-late-early c =
    points_1 (inst_late (c.args.insts.now) c.args.i) (inst_early (c.args.insts.now) c.args.i) _ (omega arith)

pub returns-then-insts-at-ne1 : goal.returns-then-insts-at-ne1
returns-then-insts-at-ne1 c =
    (let z : inst_placed (c.args.insts.now) c.args.i ≡ get_or (c.args.insts.now) (inst_width * c.args.i) 0 = ap (λ (k : ℕ). get_or (c.args.insts.now) k 0)
    (add-zero (inst_width * c.args.i)) in
    points_2 (inst_late (c.args.insts.now) c.args.i) (inst_early (c.args.insts.now) c.args.i) (inst_placed (c.args.insts.now) c.args.i) _ (omega arith)
    (λ q. c.if-insts-at-ne1.true (omega arith)))

pub outside-requires : goal.outside-requires
outside-requires c =
    (c.requires.0, omega arith, c.requires.2)

pub returns : goal.returns
returns c =
    (let z : inst_placed (c.args.insts.now) c.args.i ≡ get_or (c.args.insts.now) (inst_width * c.args.i) 0 = ap (λ (k : ℕ). get_or (c.args.insts.now) k 0)
    (add-zero (inst_width * c.args.i)) in
    points_3 (inst_late (c.args.insts.now) c.args.i) (inst_early (c.args.insts.now) c.args.i) (inst_placed (c.args.insts.now) c.args.i)
    (misplaced (blocks_of (c.args.blocks.now)) (row_inst (c.args.insts.now) c.args.i)) _ (omega arith) (omega arith) c.outside.ensures)
