-- `area_flow::flow_over` meets its contract: the rows of the edges, the components, and then the flow.
use Rattle.components.specs.Entry.{edges_in}
use Rattle.area_flow.proofs.FlowLaws.{walkable, flow_laid, flowed_over}
use native.Mathlib.Omega.{arith}
use Rattle.area_flow.proofs.flow_over.Goals as goal

pub lay-requires : goal.lay-requires
lay-requires c =
    record { sound = (c.requires.sound.0, c.requires.sound.1); edges_in_bounds = omega (arith, c.requires.sound.2.edges_fit, c.requires.sound.2.tarjan_fits) }

pub components-requires : goal.components-requires
components-requires c =
    walkable c.args.over (edges_in c.args.blocks.now c.args.edges.now) c.args.g _ _ c.args.out _ _ c.requires.sound.2 c.requires.words_bound.0 c.requires.words_bound.1
    c.lay.ensures

pub flowed-requires : goal.flowed-requires
flowed-requires c = (
  flow_laid c.args.over (edges_in c.args.blocks.now c.args.edges.now) c.args.g _ _ c.args.out _ _ c.requires.sound.2 c.requires.words_bound.0 c.requires.words_bound.1
      c.lay.ensures c.components.ensures,
  c.components.ensures.order,
)

pub returns : goal.returns
returns c =
    flowed_over c.args.over (edges_in c.args.blocks.now c.args.edges.now) c.args.g _ _ c.args.out _ _ c.requires.sound.2 c.requires.words_bound.0 c.requires.words_bound.1
    c.lay.ensures c.components.ensures
    c.flowed.ensures
