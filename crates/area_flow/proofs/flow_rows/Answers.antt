-- `area_flow::flow_rows` meets its contract: over predecessors, over successors, and what arrives.
use Rattle.components.specs.Entry.{edges_in}
use Rattle.area_flow.proofs.FlowLaws.{laid_kept, linked, flowing}
use native.Mathlib.Omega.{arith}
use mathlib.Core.Path.{◌∙◌}
use Rattle.area_flow.proofs.flow_rows.Goals as goal

pub flow_over-requires : goal.flow_over-requires
flow_over-requires c =
    record {
      sound = (c.requires.0, c.requires.1, c.requires.2);
      words_bound = ((
        omega (arith, c.requires.2.touched_fits, c.requires.2.leaves_fit, c.requires.2.passes_fit),
        omega
            (arith, c.requires.2.written_fits, c.requires.2.read_fits, c.requires.2.wait_fits, c.requires.2.to_fits),
      ));
    }

pub flow_over-requires-2 : goal.flow_over-requires-2
flow_over-requires-2 c =
    record {
      sound = (c.requires.0, c.requires.1, laid_kept c.flow_over.ensures.kept.len c.requires.2);
      words_bound = ((
        omega
            (arith, c.requires.2.touched_fits, c.requires.2.leaves_fit, c.requires.2.passes_fit, c.requires.2.written_fits),
        omega
            (arith, c.requires.2.read_fits, c.requires.2.wait_fits, c.requires.2.to_fits, c.flow_over.ensures.kept.len),
      ));
    }

pub arrive-requires : goal.arrive-requires
arrive-requires c = (
  laid_kept (c.flow_over-2.ensures.kept.len ∙ c.flow_over.ensures.kept.len) c.requires.2,
  linked (edges_in c.args.blocks.now c.args.edges.now) c.args.g _ _
      c.requires.2 c.flow_over.ensures c.flow_over-2.ensures,
)

pub returns : goal.returns
returns c =
    flowing (edges_in c.args.blocks.now c.args.edges.now) c.args.g _ _ c.requires.2
    c.flow_over.ensures c.flow_over-2.ensures
    c.arrive.ensures
