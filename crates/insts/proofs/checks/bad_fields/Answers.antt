-- `insts::checks::bad_fields` meets its contract: a law for each way out.
use native.Mathlib.Omega.{arith}
use Prim.Native.Nat.{ℕ, ◌*◌}
use mathlib.Core.Path.{◌≡◌, ap}
use lib.ListN.{get_or}
use Rattle.insts.proofs.CheckLaws.{fields_1, fields_2, fields_3, fields_4, fields_5}
use Rattle.words.specs.Widths.{inst_width}
use Rattle.words.specs.Inner.{inst_placed, inst_lea, inst_mem, inst_base, inst_index}
use native.Mathlib.Nat.{add-zero}
use Rattle.insts.proofs.checks.bad_fields.Goals as goal

pub returns-then-insts-at-gt1 : goal.returns-then-insts-at-gt1
returns-then-insts-at-gt1 c =
    (let z : inst_placed (c.args.insts.now) c.args.i ≡ get_or (c.args.insts.now) (inst_width * c.args.i) 0 = ap (λ (k : ℕ). get_or (c.args.insts.now) k 0)
    (add-zero (inst_width * c.args.i)) in
    fields_1 (inst_placed (c.args.insts.now) c.args.i) (inst_lea (c.args.insts.now) c.args.i) (inst_mem (c.args.insts.now) c.args.i)
    (inst_base (c.args.insts.now) c.args.i) (inst_index (c.args.insts.now) c.args.i) (omega arith))

pub returns-then-insts-at-gt1-2 : goal.returns-then-insts-at-gt1-2
returns-then-insts-at-gt1-2 c =
    (let z : inst_placed (c.args.insts.now) c.args.i ≡ get_or (c.args.insts.now) (inst_width * c.args.i) 0 = ap (λ (k : ℕ). get_or (c.args.insts.now) k 0)
    (add-zero (inst_width * c.args.i)) in
    fields_2 (inst_placed (c.args.insts.now) c.args.i) (inst_lea (c.args.insts.now) c.args.i) (inst_mem (c.args.insts.now) c.args.i)
    (inst_base (c.args.insts.now) c.args.i) (inst_index (c.args.insts.now) c.args.i) (omega arith) (omega arith))

pub returns-then-insts-at-gt1-3 : goal.returns-then-insts-at-gt1-3
returns-then-insts-at-gt1-3 c =
    (let z : inst_placed (c.args.insts.now) c.args.i ≡ get_or (c.args.insts.now) (inst_width * c.args.i) 0 = ap (λ (k : ℕ). get_or (c.args.insts.now) k 0)
    (add-zero (inst_width * c.args.i)) in
    fields_3 (inst_placed (c.args.insts.now) c.args.i) (inst_lea (c.args.insts.now) c.args.i) (inst_mem (c.args.insts.now) c.args.i)
    (inst_base (c.args.insts.now) c.args.i) (inst_index (c.args.insts.now) c.args.i) (omega arith) (omega arith) (omega arith))

pub returns-then-insts-at-gt256 : goal.returns-then-insts-at-gt256
returns-then-insts-at-gt256 c =
    (let z : inst_placed (c.args.insts.now) c.args.i ≡ get_or (c.args.insts.now) (inst_width * c.args.i) 0 = ap (λ (k : ℕ). get_or (c.args.insts.now) k 0)
    (add-zero (inst_width * c.args.i)) in
    fields_4 (inst_placed (c.args.insts.now) c.args.i) (inst_lea (c.args.insts.now) c.args.i) (inst_mem (c.args.insts.now) c.args.i)
    (inst_base (c.args.insts.now) c.args.i) (inst_index (c.args.insts.now) c.args.i) (omega arith) (omega arith) (omega arith) (omega arith))

pub returns : goal.returns
returns c =
    (let z : inst_placed (c.args.insts.now) c.args.i ≡ get_or (c.args.insts.now) (inst_width * c.args.i) 0 = ap (λ (k : ℕ). get_or (c.args.insts.now) k 0)
    (add-zero (inst_width * c.args.i)) in
    fields_5 (inst_placed (c.args.insts.now) c.args.i) (inst_lea (c.args.insts.now) c.args.i) (inst_mem (c.args.insts.now) c.args.i)
    (inst_base (c.args.insts.now) c.args.i) (inst_index (c.args.insts.now) c.args.i) (omega arith) (omega arith) (omega arith) (omega arith))
