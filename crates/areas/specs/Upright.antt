-- Document 02, (i): number 8, "a computed range that ends before it starts", has no input. The ranges that are computed on a job's way, each upright.
use Rattle.std.specs.Prelude.{ℕ, ◌<◌, Bool, List, [], ◌∷◌, map, length}
use Rattle.ranges.specs.declared.Range.{Range}
use Rattle.ranges.specs.Points.{range, Upright}
use Rattle.carrying.specs.Lists.{keep}
use Rattle.carrying.specs.Carried.{ends_of, live_pieces}
use Rattle.areas.specs.Blocks.{Graph, top, bottom, whole, bounds, until, cover}
use Rattle.areas.specs.Pieces.{clips, throughs, span}
use Rattle.areas.specs.Slots.{moved}
use Rattle.areas.specs.Job.{Job, graph_of, touches_in}

-- of one local: its touches clipped to their first and last block, the between-pieces, the spans whatever the bits, whole blocks, the covers, the arrivals
pub record UprightOf (G : Graph) (ts : List Range) (es : List ℕ) : Type 0 where
  pub clipped : (k : ℕ) → Upright (clips G ts k)
  pub betweens : Upright (throughs G ts)
  pub spans : (k : ℕ) (from to : Bool) → k < length G.blocks → Upright (span G k from to (clips G ts k))
  pub wholes : (k : ℕ) → k < length G.blocks → Upright (whole G k ∷ [])
  pub covers : (k : ℕ) → Upright (map (cover G es k) (keep (bounds G k) ts))
  pub arrivals : (k : ℕ) → k < length G.blocks → Upright (range (top G k) (until es (top G k) (bottom G k)) ∷ [])

-- of a job: those of every local, the live pieces of every register, and the covers of every slot's moves
pub record UprightIn (J : Job) : Type 0 where
  pub locals : (l : ℕ) → UprightOf (graph_of J) (touches_in J l) (ends_of J.code l)
  pub pieces : (r : ℕ) → Upright (live_pieces J.pieces r)
  pub moves : (s : ℕ) → Upright (moved J.points J.blocks J.code.insts J.moves s)
