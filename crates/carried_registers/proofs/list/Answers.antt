-- `carried_registers::list` meets its contract: the walk, in order, is the list of the definition.
use native.Mathlib.Omega.{arith}
use mathlib.Core.Path.{◌∙◌}
use lib.ListN.{length}
use Rattle.carry_checks.proofs.LayoutLaws.{laid_longer, measure_ready}
use Rattle.carried_registers.proofs.CarriedLaws.{fits_on, from_start, queue_holds, narrow_asks, registers_are}
use Rattle.reach.specs.Prepared.{code_of}
use Rattle.words.specs.Widths.{inst_count, local_count}
use Rattle.carried_registers.proofs.list.Goals as goal

pub layout-lay-requires : goal.layout-lay-requires
layout-lay-requires c = let k = c.requires.0 in (k.few_insts, k.few_operands, k.few_locals, k.few_addresses, k.registers)

pub prepare-e-requires : goal.prepare-e-requires
prepare-e-requires c =
    let k = c.requires.0 in
    record {
      adds_up = (k.adds, k.few_insts, k.registers);
      laid = laid_longer c.layout-lay.ensures.0 (length c.args.work.now) k.room;
      by_index = k.ended;
    }

pub follow-f-requires : goal.follow-f-requires
follow-f-requires c = (
  measure_ready (c.args).v (c.args).insts.now (c.args).operands.now (c.args).crossings.now (c.args).locals.now (c.args).addresses.now
      (c.args).ends.now (c.layout-lay).result (c.prepare-e).result (c.requires).0 (c.layout-lay).ensures.0 (c.prepare-e).ensures,
  (c.requires).2,
)

pub sort_part-requires : goal.sort_part-requires
sort_part-requires c =
    omega (
      arith,
      queue_holds (code_of c.args.v c.args.insts.now c.args.operands.now c.args.crossings.now c.args.addresses.now c.args.ends.now)
          c.layout-lay.result (record { v = c.args.v; insts = inst_count c.args.insts.now; locals = local_count c.args.locals.now; edges = c.prepare-e.result }) c.args.local
          (c.follow-f.ensures.code c.args.operands.now c.args.crossings.now c.args.ends.now c.prepare-e.ensures.prepared)
          (fits_on (laid_longer c.layout-lay.ensures.0 (length c.args.work.now) c.requires.0.room).queue_fits c.prepare-e.ensures.kept.len c.follow-f.ensures.kept.len),
    )

pub narrow-requires : goal.narrow-requires
narrow-requires c =
    narrow_asks (code_of c.args.v c.args.insts.now c.args.operands.now c.args.crossings.now c.args.addresses.now c.args.ends.now) c.layout-lay.result
    (record { v = c.args.v; insts = inst_count c.args.insts.now; locals = local_count c.args.locals.now; edges = c.prepare-e.result }) c.args.local
    (c.follow-f.ensures.code c.args.operands.now c.args.crossings.now c.args.ends.now c.prepare-e.ensures.prepared)
    (fits_on (laid_longer c.layout-lay.ensures.0 (length c.args.work.now) c.requires.0.room).queue_fits c.prepare-e.ensures.kept.len c.follow-f.ensures.kept.len)
    c.sort_part.ensures c.requires.1 c.requires.0.registers

pub shape_of-answer : goal.shape_of-answer
shape_of-answer c = (c.narrow).ensures.len

pub shape_of-work : goal.shape_of-work
shape_of-work c =
    (c.sort_part).ensures.len ∙
    (c.follow-f).ensures.kept.len ∙
    (c.prepare-e).ensures.kept.len

pub returns : goal.returns
returns c =
    registers_are (code_of c.args.v c.args.insts.now c.args.operands.now c.args.crossings.now c.args.addresses.now c.args.ends.now) c.layout-lay.result
    (record { v = c.args.v; insts = inst_count c.args.insts.now; locals = local_count c.args.locals.now; edges = c.prepare-e.result }) c.args.local
    (c.follow-f.ensures.code c.args.operands.now c.args.crossings.now c.args.ends.now c.prepare-e.ensures.prepared)
    (fits_on (laid_longer c.layout-lay.ensures.0 (length c.args.work.now) c.requires.0.room).queue_fits c.prepare-e.ensures.kept.len c.follow-f.ensures.kept.len)
    c.sort_part.ensures _ (from_start _ c.layout-lay.ensures.1 c.prepare-e.ensures.kept) c.follow-f.ensures.kept
    c.layout-lay.ensures.1 c.requires.1 c.narrow.ensures
