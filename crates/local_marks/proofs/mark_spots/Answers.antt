-- `local_marks::mark_spots` meets its contract: a plain local is marked once, an ending one twice.
use Rattle.local_marks.proofs.BitLaws.{plain_kept, plain_marking, ending_kept, ending_marking}
use Rattle.local_marks.proofs.mark_spots.Goals as goal

pub returns-then-plain : goal.returns-then-plain
returns-then-plain c = record {
  within = plain_kept c.args.blocks.now c.args.s c.args.g c.args.l c.requires c.mark_touched.ensures;
  marking = plain_marking c.args.blocks.now c.args.s c.args.g
      c.args.l c.requires c.mark_touched.ensures c.args.plain c.if-plain.true;
}

pub returns : goal.returns
returns c = record {
  within = ending_kept c.args.blocks.now c.args.s c.args.g c.args.l c.requires c.mark_leaving.ensures c.mark_passing.ensures;
  marking = ending_marking c.args.blocks.now
      c.args.s c.args.g c.args.l c.requires c.mark_leaving.ensures c.mark_passing.ensures c.args.plain c.if-plain.false;
}
