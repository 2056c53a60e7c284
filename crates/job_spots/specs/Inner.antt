-- What the functions here promise each other. No public promise names these.
use Rattle.std.specs.Prelude.{ℕ, ◌+◌, ◌*◌, ◌≤◌, ◌<◌, ◌≡◌, ◌≢◌, Bool, true, false, List, ◌++◌, length, get_or}
use Rattle.words.specs.Sort.{sort_of}
use Rattle.words.specs.Widths.{inst_count, mention_width, address_count, end_count, piece_count}
use Rattle.ranges.specs.Merged.{Permuted}
use Rattle.graph.specs.Inner.Work.{Within}
use Rattle.carrying.specs.declared.Kind.{Kind}
use Rattle.carrying.specs.declared.Kind.TheVariants.{Unfollowed, Plain, Ending}
use Rattle.carrying.specs.Carried.{Code, Piece, pieces_of, kind_of, touches_of, ends_of, live_pieces}
use Rattle.reach.specs.declared.Lay.{Lay}
use Rattle.reach.specs.Prepared.{code_of}
use Rattle.reach.specs.Inner.{Prepared, row_local}
use Rattle.follow.specs.declared.Sizes.{Sizes}
use Rattle.chains.specs.Inner.{Chain}
use Rattle.live.specs.Inner.{InOrder}
use Rattle.spots.specs.Inner.{touches_at, ends_at, Stand}
use Rattle.job_spots.specs.declared.Places.{Places}
use Rattle.job_spots.specs.declared.JobLocal.{JobLocal}
use Rattle.words.specs.Inner.{part, Rising}
use Rattle.ranges.specs.declared.Range.{Range}
use Rattle.ranges.specs.Inner.{unpacked}
use Rattle.carrying.specs.Lists.{gather}
use Rattle.touches.specs.Inner.{down_by, entry_at, end_at}
use Rattle.follow.specs.Inner as following

-- One local of a job: its kind, and its touches and ends in the work space.

-- the local's address is not followed
abbrev pub is_unfollowed : Kind → Bool
is_unfollowed Unfollowed = true
is_unfollowed Plain = false
is_unfollowed Ending = false

-- the regions, each past the one before
pub record Laid (insts addresses ends pieces : List ℕ) (lay : Lay) (p : Places) (z : Sizes) (w : List ℕ) : Type 0 where
  pub keys_fit : p.keys + piece_count pieces ≤ lay.escapes
  pub entries_fit : lay.nexts + address_count addresses ≤ lay.ended
  pub queue_fit : lay.queue + z.insts ≤ p.heads
  pub heads_fit : p.heads + z.locals ≤ p.nexts
  pub nexts_fit : p.nexts + end_count ends ≤ p.at
  pub at_fits : p.at + (piece_count pieces + piece_count pieces + address_count addresses) ≤ p.ends
  pub ends_fit : p.ends + end_count ends ≤ length w
  pub few_pieces : piece_count pieces ≤ 65536
  pub insts_are : z.insts ≡ inst_count insts
  pub ends_found : (k : ℕ) → k < end_count ends → get_or ends (mention_width * k) 0 < inst_count insts

-- all that fetching reads; the tables were prepared for some operands and crossings
pub record Ready (insts addresses ends pieces : List ℕ) (lay : Lay) (p : Places) (z : Sizes) (w : List ℕ) : Type 0 where
  pub laid : Laid insts addresses ends pieces lay p z w
  pub walks : following.Ready lay z insts addresses w
  pub keys : InOrder pieces p.keys w
  pub stops : Chain (row_local ends) (end_count ends) z.locals p.heads p.nexts w
  pub operands : List ℕ
  pub crossings : List ℕ
  pub prepared : Prepared (code_of z.v insts operands crossings addresses ends) lay w z.locals z.edges

-- the local's kind, and unless it is unfollowed its touches, in some order, and its ends, rising
pub record FetchedTo (C : Code) (ps : List Piece) (l : ℕ) (w : List ℕ) (r : JobLocal) : Type 0 where
  pub kind : r.kind ≡ kind_of C l
  pub touches : r.kind ≢ Unfollowed → Permuted (touches_at r.spots w) (touches_of C ps l)
  pub ends : r.kind ≢ Unfollowed → ends_at r.spots w ≡ sort_of (ends_of C l)

-- for whatever code the tables were prepared; nothing has changed but the queue and the local's own regions
pub record FetchedAny (insts addresses ends pieces : List ℕ) (lay : Lay) (p : Places) (z : Sizes) (l : ℕ) (w₀ w : List ℕ) (r : JobLocal) : Type 0 where
  pub kept : Within lay.queue (p.ends + end_count ends) w₀ w
  pub chains_kept : (i : ℕ) → p.heads ≤ i → i < p.at → get_or w i 0 ≡ get_or w₀ i 0
  pub stand : Stand r.spots w
  pub at_is : r.spots.at ≡ p.at
  pub ends_is : r.spots.ends ≡ p.ends
  pub few : r.spots.count ≤ piece_count pieces + address_count addresses
  pub few_ends : r.spots.stops ≤ end_count ends
  pub code : (operands crossings : List ℕ) → Prepared (code_of z.v insts operands crossings addresses ends) lay w₀ z.locals z.edges
      → FetchedTo (code_of z.v insts operands crossings addresses ends) (pieces_of pieces) l w r

-- One local's touches and ends in the work space, by what its registers and rows give.

-- the points of the local's listed instructions, the last first
abbrev pub listed_points : List ℕ → List ℕ → ℕ → List Range
listed_points insts addresses l = unpacked (down_by (row_local addresses) l (entry_at insts addresses) (address_count addresses))

-- the local's touches stand from `to` on, those of the registers from `from` on first
pub record TouchesIn (insts addresses pieces : List ℕ) (from count l to : ℕ) (w₀ w : List ℕ) (r : ℕ) : Type 0 where
  pub kept : Within to (to + r) w₀ w
  pub count_le : r ≤ piece_count pieces + address_count addresses
  pub is : unpacked (part to r w) ≡ gather (live_pieces (pieces_of pieces)) (part from count w₀) ++ listed_points insts addresses l

-- the local's ends stand from `to` on, rising
pub record EndsIn (insts ends : List ℕ) (l to : ℕ) (w₀ w : List ℕ) (r : ℕ) : Type 0 where
  pub kept : Within to (to + r) w₀ w
  pub count_le : r ≤ end_count ends
  pub is : part to r w ≡ sort_of (down_by (row_local ends) l (end_at insts ends) (end_count ends))
  pub rising : Rising (λ i. get_or w (to + i) 0) r
