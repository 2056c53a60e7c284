-- Document 01: a job as it is lent, its checks by number 2 to 6, and the area of every item, locals first, then slots.
use Rattle.std.specs.Prelude.{ℕ, ◌+◌, ◌-◌, ◌≡◌, cond, List, [], ◌∷◌, length, ltb}
use Rattle.std.proofs.Math.Option.{Option, some, none}
use Rattle.refusals.specs.declared.Refusal.TheVariants.{List as ListWord}
use Rattle.refusals.specs.Verdicts.{check, in_order, Fine, Verdict}
use Rattle.words.specs.Rows.{records, tabulate}
use Rattle.words.specs.Widths.{local_width}
use Rattle.ranges.specs.declared.Range.{Range}
use Rattle.ranges.specs.Points.{listed}
use Rattle.graph.specs.Line.{Stretch, Jump, edges_of, line_verdict, edge_verdict}
use Rattle.carrying.specs.declared.Kind.{Kind}
use Rattle.carrying.specs.declared.Kind.TheVariants.{Unfollowed, Plain, Ending}
use Rattle.carrying.specs.Carried.{Code, Piece, kind_of, ends_of, touches_of}
use Rattle.carrying.specs.Checks.{inst_verdict, crossing_verdict, address_verdict, end_verdict}
use Rattle.areas.specs.Blocks.{Graph}
use Rattle.areas.specs.Pieces.{plain_area, ending_area}
use Rattle.areas.specs.Slots.{Assigned, Move, moved, spilled, slot_area, move_verdict, piece_verdict, assigned_verdict}

-- rows `L,size,align`
pub record Local : Type 0 where
  pub size : ℕ
  pub align : ℕ

abbrev pub locals_of : List ℕ → List Local
locals_of s = records local_width (λ f. record { size = f 0; align = f 1 }) s

-- the records of a job; `H`'s numbers are points, V (in the code) and the budget, which only fitting takes
pub record Job : Type 0 where
  pub points : ℕ
  pub blocks : List Stretch
  pub jumps : List Jump
  pub code : Code
  pub locals : List Local
  pub slots : List ℕ
  pub pieces : List Piece
  pub assigned : List Assigned
  pub moves : List Move

-- numbers 2 to 6, in the job text's group order
abbrev pub checks : Job → List Verdict
checks J =
    line_verdict J.blocks J.points ∷ edge_verdict J.blocks J.jumps
    ∷ inst_verdict J.blocks J.code.numbered J.code.insts ∷ crossing_verdict J.code.numbered J.code.crossings
    ∷ address_verdict J.code.insts J.code.addresses ∷ end_verdict J.code.insts J.code.ends
    ∷ move_verdict J.blocks J.code.insts J.moves
    ∷ piece_verdict J.blocks J.code.numbered J.pieces ∷ assigned_verdict J.code.numbered J.assigned ∷ []

abbrev pub Checked : Job → Type 0
Checked J = in_order (checks J) ≡ Fine

-- the blocks and the edges by place
abbrev pub graph_of : Job → Graph
graph_of J = record { blocks = J.blocks; edges = edges_of J.blocks J.jumps }

-- a local's touches
abbrev pub touches_in : Job → ℕ → List Range
touches_in J l = touches_of J.code J.pieces l

-- a local's area, by its kind: an unfollowed local has none
abbrev pub area_by : Graph → Kind → List Range → List ℕ → Option (List Range)
area_by G Unfollowed ts es = none
area_by G Plain ts es = some (plain_area G ts)
area_by G Ending ts es = some (ending_area G ts es)

abbrev pub local_area : Job → ℕ → Option (List Range)
local_area J l = area_by (graph_of J) (kind_of J.code l) (touches_in J l) (ends_of J.code l)

abbrev pub slot_area_in : Job → ℕ → Option (List Range)
slot_area_in J s = slot_area J.pieces (spilled J.assigned s) (moved J.points J.blocks J.code.insts J.moves s)

-- items: locals, then slots
abbrev pub item_count : Job → ℕ
item_count J = length J.locals + length J.slots

abbrev pub item_area : Job → ℕ → Option (List Range)
item_area J i = cond (ltb i (length J.locals)) (local_area J i) (slot_area_in J (i - length J.locals))

-- how many ranges an area has
abbrev pub ranges_in : Option (List Range) → ℕ
ranges_in a = length (listed a)

-- how many ranges areas have
unfoldable pub ranges_of : List (Option (List Range)) → ℕ
ranges_of [] = 0
ranges_of (a ∷ l) = length (listed a) + ranges_of l

-- number 9: "all areas, put there in item order, exceed the area list", of n items, and of a job's
abbrev pub areas_verdict : ℕ → (ℕ → Option (List Range)) → ℕ → Verdict
areas_verdict n A room = check ListWord (ltb room (ranges_of (tabulate n A)))

abbrev pub items_verdict : Job → ℕ → Verdict
items_verdict J room = areas_verdict (item_count J) (item_area J) room
