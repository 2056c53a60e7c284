-- ★1 to ★9 as one table, of the definitions: ★1 from its text to the text that the program prints; ★2 and ★8 as document 02, (b), has them, with document 02's layout, (a).
use mathlib.Core.Path.{◌≡◌}
use mathlib.Core.Bool.{true, false}
use mathlib.Core.List.{[], ◌∷◌}
use lib.IntN.{negsuc}
use lib.ListN.{length}
use Rattle.ranges.specs.Points.{range}
use Rattle.ranges.specs.Merged.{merged, clashes}
use Rattle.graph.specs.Paths.{edge}
use Rattle.areas.specs.Pieces.{plain_area, ending_area}
use Rattle.areas.proofs.Stars as areas
use Rattle.fitting.specs.Wants.{order_of}
use Rattle.fitting.specs.Plan.{plan_of}
use Rattle.fitting.specs.Layout.{depth_of, offsets_of}
use Rattle.fitting.proofs.Stars as fitting
use Rattle.text_grammar.proofs.Stars as grammar
use Rattle.text_plan.proofs.Stars as plan_text
use Rattle.planning.specs.Program.{program_text}
use Rattle.planning.proofs.StarOne.{star_1}

pub record Table : Type 0 where
  -- "`H,20,0,1048576` … on standard input makes the planning program print: `C,0,8,8` …"
  pub one : program_text grammar.star ≡ plan_text.star
  -- "merged 5–9, 1–5, 10–12": "★2 becomes 1–12"
  pub two : merged (range 5 9 ∷ range 1 5 ∷ range 10 12 ∷ []) ≡ range 1 12 ∷ []
  -- "1–4 clashes with 4–6", "not with 5–6"
  pub three : clashes (range 1 4 ∷ []) (range 4 6 ∷ []) ≡ true
  pub four : clashes (range 1 4 ∷ []) (range 5 6 ∷ []) ≡ false
  -- "touch 12–13: that range; with edge 1 to 1 added, 10–19"
  pub five : (plain_area areas.straight (range 12 13 ∷ []) ≡ range 12 13 ∷ [])
      × (plain_area (areas.line (edge 0 1 ∷ edge 1 2 ∷ edge 1 1 ∷ [])) (range 12 13 ∷ []) ≡ range 10 19 ∷ [])
  -- "touches 2–3 and 24–25: 2–25"
  pub six : plain_area areas.straight (range 2 3 ∷ range 24 25 ∷ []) ≡ range 2 25 ∷ []
  -- "ending, touch 12–13, end 15: 12–15", "end 12 instead": "★8 becomes 12–29"
  pub seven : ending_area areas.straight (range 12 13 ∷ []) (15 ∷ []) ≡ range 12 15 ∷ []
  pub eight : ending_area areas.straight (range 12 13 ∷ []) (12 ∷ []) ≡ range 12 29 ∷ []
  -- "three wants with areas that don't clash, budget 1: two cells, one probe; budget 0: three cells"
  pub nine : (length (plan_of fitting.three 1 (order_of fitting.three)).cells ≡ 2) × ((plan_of fitting.three 1 (order_of fitting.three)).probes ≡ 1)
      × (length (plan_of fitting.three 0 (order_of fitting.three)).cells ≡ 3)
  -- document 02, (a): "cells 8/8, 4/4, 8/8 lie at −8, −12, −24", depth "24 here"
  pub laid : (offsets_of fitting.laid ≡ negsuc 7 ∷ negsuc 11 ∷ negsuc 23 ∷ []) × (depth_of fitting.laid ≡ 24)

pub stars : Table
stars = record {
  one = star_1;
  two = fitting.star_2;
  three = fitting.star_3;
  four = fitting.star_4;
  five = (areas.star_5, areas.star_5_loop);
  six = areas.star_6;
  seven = areas.star_7;
  eight = areas.star_8;
  nine = fitting.star_9;
  laid = ((fitting.layout).0, (fitting.layout).1);
}
