-- What private functions promise each other. No public promise names these.
use Rattle.std.specs.Prelude.{ℕ, ◌+◌, ◌*◌, ◌≤◌, ◌<◌, ◌≡◌, List, get_or, length}
use Rattle.words.specs.Widths.{block_count, end_count}
use Rattle.graph.specs.Paths.{Edge}
use Rattle.graph.specs.Inner.Work.{Within}
use Rattle.carrying.specs.Carried.{Code, pieces_of, kind_of, touches_of, ends_of}
use Rattle.areas.specs.Blocks.{Graph, touched, leaves, passes, AllInLine}
use Rattle.reach.specs.declared.Lay.{Lay}
use Rattle.reach.specs.Prepared.{code_of}
use Rattle.reach.specs.Inner.{Prepared}
use Rattle.follow.specs.declared.Sizes.{Sizes}
use Rattle.spots.specs.Spots.{line_of}
use Rattle.area_flow.specs.declared.Grid.{Grid}
use Rattle.job_spots.specs.declared.Places.{Places}
use Rattle.local_marks.specs.Inner.{is_plain, is_ending, Marking, Marks}
use Rattle.graph.specs.Line.{blocks_of, Sound}
use Rattle.job_spots.specs.Inner as fetching

-- local l's marks by its kind, its touches and its ends
abbrev pub MarkingOf : Graph → List ℕ → Code → Grid → ℕ → ℕ → List ℕ → List ℕ → Type 0
MarkingOf G pieces C g n l w₀ w =
    Marking g n l (is_plain (kind_of C l)) (is_ending (kind_of C l)) (touched G (touches_of C (pieces_of pieces) l))
    (leaves G (touches_of C (pieces_of pieces) l) (ends_of C l)) (passes G (ends_of C l)) w₀ w

-- local l is marked
pub record MarkedOne (blocks insts addresses ends pieces : List ℕ) (lay : Lay) (p : Places) (z : Sizes) (g : Grid) (l : ℕ) (w₀ w : List ℕ) : Type 0 where
  pub kept : Within lay.queue (g.passes + block_count blocks * g.words) w₀ w
  pub chains_kept : (i : ℕ) → p.heads ≤ i → i < p.at → get_or w i 0 ≡ get_or w₀ i 0
  pub marks : (operands crossings : List ℕ) → Prepared (code_of z.v insts operands crossings addresses ends) lay w₀ z.locals z.edges
      → (es : List Edge) → MarkingOf (line_of blocks es) pieces (code_of z.v insts operands crossings addresses ends) g (block_count blocks) l w₀ w

-- The marks of all locals of a job.

-- what the pass reads, and behind it the rows of the places; every touch is in the line
pub record Ready (blocks insts addresses ends pieces : List ℕ) (lay : Lay) (p : Places) (z : Sizes) (g : Grid) (w : List ℕ) : Type 0 where
  pub line : Sound (blocks_of blocks)
  pub locals : fetching.Ready insts addresses ends pieces lay p z w
  pub in_line : (l : ℕ) → l < z.locals → AllInLine (blocks_of blocks) (touches_of (code_of z.v insts locals.operands locals.crossings addresses ends) (pieces_of pieces) l)
  pub counted : g.locals ≡ z.locals
  pub long : g.locals ≤ g.words * 64
  pub apart : p.ends + end_count ends ≤ g.touched
  pub touched_fits : g.touched + block_count blocks * g.words ≤ g.leaves
  pub leaves_fit : g.leaves + block_count blocks * g.words ≤ g.passes
  pub passes_fit : g.passes + block_count blocks * g.words ≤ length w

-- the marks of all locals of a code
abbrev pub MarksOf : List ℕ → List ℕ → Code → Grid → List ℕ → List Edge → Type 0
MarksOf blocks pieces C g w es = Marks (line_of blocks es) (kind_of C) (touches_of C (pieces_of pieces)) (ends_of C) g (block_count blocks) w

-- all locals are marked, for whatever code the tables were prepared; nothing has changed but the queue, the regions of one local, what follows them, and the rows
pub record MarkedAll (blocks insts addresses ends pieces : List ℕ) (lay : Lay) (p : Places) (z : Sizes) (g : Grid) (w₀ w : List ℕ) : Type 0 where
  pub kept : Within lay.queue (g.passes + block_count blocks * g.words) w₀ w
  pub chains_kept : (i : ℕ) → p.heads ≤ i → i < p.at → get_or w i 0 ≡ get_or w₀ i 0
  pub marks : (operands crossings : List ℕ) → Prepared (code_of z.v insts operands crossings addresses ends) lay w₀ z.locals z.edges
      → (es : List Edge) → MarksOf blocks pieces (code_of z.v insts operands crossings addresses ends) g w es
