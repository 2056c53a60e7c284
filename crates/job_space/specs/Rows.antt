-- Document 01, "the job text": what a job's call is lent, as one record.
use Rattle.std.specs.Prelude.{ℕ, List}
use Rattle.std.specs.Borrow.{Bor}
use denote.Triple.Both.{Both}

-- `H`'s points and V, and the rows of each group, in the job text's group order
pub record Rows : Type 0 where
  pub points : ℕ
  pub v : ℕ
  pub blocks : List ℕ
  pub edges : List ℕ
  pub insts : List ℕ
  pub operands : List ℕ
  pub crossings : List ℕ
  pub locals : List ℕ
  pub slots : List ℕ
  pub addresses : List ℕ
  pub ends : List ℕ
  pub pieces : List ℕ
  pub assigned : List ℕ
  pub moves : List ℕ

-- a list that a function is lent, as its `ensures` names it: at entry and at exit
abbrev pub Slice : Type 0
Slice = Both (Bor (List ℕ)) (Bor (List ℕ))

-- what a function is lent
abbrev pub lent_rows : ℕ → ℕ → Slice → Slice → Slice → Slice → Slice → Slice → Slice → Slice → Slice → Slice → Slice → Slice → Rows
lent_rows points v blocks edges insts operands crossings locals slots addresses ends pieces assigned moves = record {
  points = points;
  v = v;
  blocks = blocks.entry.now;
  edges = edges.entry.now;
  insts = insts.entry.now;
  operands = operands.entry.now;
  crossings = crossings.entry.now;
  locals = locals.entry.now;
  slots = slots.entry.now;
  addresses = addresses.entry.now;
  ends = ends.entry.now;
  pieces = pieces.entry.now;
  assigned = assigned.entry.now;
  moves = moves.entry.now;
}

-- the record of these numbers and lists
abbrev pub rows_of : ℕ → ℕ → List ℕ → List ℕ → List ℕ → List ℕ → List ℕ → List ℕ → List ℕ → List ℕ → List ℕ → List ℕ → List ℕ → List ℕ → Rows
rows_of points v blocks edges insts operands crossings locals slots addresses ends pieces assigned moves = record {
  points = points;
  v = v;
  blocks = blocks;
  edges = edges;
  insts = insts;
  operands = operands;
  crossings = crossings;
  locals = locals;
  slots = slots;
  addresses = addresses;
  ends = ends;
  pieces = pieces;
  assigned = assigned;
  moves = moves;
}
