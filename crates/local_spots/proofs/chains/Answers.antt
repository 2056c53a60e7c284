-- `local_spots::chains` meets its contract: no local has a row, then both lists are linked.
use Rattle.local_spots.proofs.ChainLaws.{touches_none, ends_none, chained}
use native.Mathlib.Omega.{arith}
use mathlib.Core.Path.{refl}
use Rattle.local_spots.proofs.chains.Goals as goal

pub overflow_add-past : goal.overflow_add-past
overflow_add-past c = omega arith

pub overflow_add-p : goal.overflow_add-p
overflow_add-p c = omega arith

pub fill-requires : goal.fill-requires
fill-requires c = omega arith

pub chain-requires : goal.chain-requires
chain-requires c =
    record { column_lt_width = (omega arith, refl, omega arith, omega arith); by_index = touches_none c.args.p c.args.touches.now c.args.ends.now c.requires c.fill.ensures }

pub overflow_add-p-2 : goal.overflow_add-p-2
overflow_add-p-2 c = omega arith

pub chain-requires-2 : goal.chain-requires-2
chain-requires-2 c =
    record {
      column_lt_width = (omega arith, refl, omega arith, omega arith);
      by_index = (ends_none c.args.p c.args.touches.now c.args.ends.now c.requires
          c.fill.ensures c.chain.ensures);
    }

pub returns : goal.returns
returns c =
    chained c.args.p c.args.touches.now c.args.ends.now c.requires
    c.fill.ensures
    c.chain.ensures c.chain-2.ensures
