-- The checks of a job by the functions that make them. No public promise names these.
use Rattle.std.specs.Prelude.{ℕ, List}
use Rattle.refusals.specs.Verdicts.{first, Verdict}
use Rattle.graph.specs.Line.{blocks_of, jumps_of, line_verdict, edge_verdict}
use Rattle.carrying.specs.Insts.{insts_of}
use Rattle.carrying.specs.Carried.{pieces_of}
use Rattle.carrying.specs.Checks.{inst_verdict, crossing_verdict}
use Rattle.areas.specs.Slots.{assigned_of, moves_of, move_verdict, piece_verdict, assigned_verdict}
use Rattle.carry_checks.specs.Inner.{stray_verdict as mentionVerdict}

-- numbers 2, 3 and 4 of the blocks, the edges and the instructions
abbrev pub place_verdict : ℕ → ℕ → List ℕ → List ℕ → List ℕ → List ℕ → Verdict
place_verdict points v blocks edges insts operands =
    first (line_verdict (blocks_of blocks) points) (first (edge_verdict (blocks_of blocks) (jumps_of edges)) (inst_verdict (blocks_of blocks) v (insts_of insts operands)))

-- number 5 of the addresses, the ends and the moves
abbrev pub stray_verdict : List ℕ → List ℕ → List ℕ → List ℕ → List ℕ → List ℕ → Verdict
stray_verdict blocks insts operands addresses ends moves = first (mentionVerdict insts operands addresses ends) (move_verdict (blocks_of blocks) (insts_of insts operands) (moves_of moves))

-- number 6
abbrev pub live_verdict : ℕ → List ℕ → List ℕ → List ℕ → Verdict
live_verdict v blocks pieces assigned = first (piece_verdict (blocks_of blocks) v (pieces_of pieces)) (assigned_verdict v (assigned_of assigned))

-- numbers 2 to 6
abbrev pub placed_verdict : ℕ → ℕ → List ℕ → List ℕ → List ℕ → List ℕ → List ℕ → List ℕ → List ℕ → List ℕ → List ℕ → List ℕ → Verdict
placed_verdict points v blocks edges insts operands crossings addresses ends pieces assigned moves =
    first (place_verdict points v blocks edges insts operands)
    (first (crossing_verdict v crossings) (first (stray_verdict blocks insts operands addresses ends moves) (live_verdict v blocks pieces assigned)))
