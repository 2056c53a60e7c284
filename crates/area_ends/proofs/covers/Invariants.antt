-- `covers` meets its contract: the first i touches are put.
use mathlib.Core.List.{List}
use Rattle.graph.specs.Paths.{Edge}
use Rattle.graph.specs.Line.{blocks_of}
use Rattle.spots.specs.Spots.{line_of}
use Rattle.spots.specs.Inner.{touches_at}
use Rattle.areas.specs.Blocks.{AllInLine}
use Rattle.area_ends.proofs.CoverLaws.{Covering}
use Rattle.words.specs.Widths.{block_count}
use Rattle.area_ends.proofs.covers.Given as goal

abbrev pub invariant-loop-i : goal.invariant-loop-i
invariant-loop-i l = AllInLine (blocks_of l.blocks) (touches_at l.t l.initial.work) × ((es : List Edge) → Covering (line_of l.blocks es) l.t l.s (block_count l.blocks) l.initial.work l.work l.i l.m)
