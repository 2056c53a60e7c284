-- What the functions here promise each other. No public promise names these.
use Rattle.std.specs.Prelude.{ℕ, ◌+◌, ◌≤◌, ◌<◌, suc, ◌-◌, ◌*◌, ◌^◌, ◌≡◌, ◌≢◌, ◌⊎◌, Bool, true, cond, ◌||◌, false, not, ◌&&◌, List, get_or, length, eqb, ltb}
use Rattle.graph.specs.Inner.Work.{Within}
use Rattle.carrying.specs.declared.Kind.{Kind}
use Rattle.carrying.specs.declared.Kind.TheVariants.{Unfollowed, Plain, Ending}
use Rattle.carrying.specs.Carried.{Code, Carries, kind_of}
use Rattle.reach.specs.declared.Lay.{Lay}
use Rattle.reach.specs.Prepared.{code_of}
use Rattle.reach.specs.Inner.{Prepared, Laid, key, latest, row_local}
use Rattle.follow.specs.declared.Sizes.{Sizes}
use Rattle.follow.specs.declared.Followed.{Followed}
use Rattle.queue.specs.Inner.{queued, def_at, Listed, Grew}
use Rattle.words.specs.Regions.{row_words}
use Rattle.words.specs.Rows.{tabulate}
use Rattle.words.specs.Inner.{Rising, Splits, inst_lea}
use Rattle.words.specs.Widths.{inst_count, mention_width, address_count}
use Rattle.bits.specs.Bits.{bit}
use Rattle.carrying.specs.Lists.{any}
use Rattle.carrying.specs.Insts.{is_set}
use Rattle.follow.specs.declared.Begun.{Begun}
use Rattle.follow.specs.declared.Walk.{Walk}

-- What following a local promises, by the definitions of carrying.

-- the kind of a local: no address entry, lost or dead, escaping, without a placed end
abbrev pub kind_by : Bool → Bool → Bool → Bool → Kind
kind_by none bad escapes endless = cond (none || bad) Unfollowed (cond escapes (cond endless Unfollowed Ending) Plain)

-- no register is seen
pub record Empty (lay : Lay) (v : ℕ) (w : List ℕ) : Type 0 where
  pub unseen : (k : ℕ) → k < row_words v → get_or w (lay.seen + k) 0 ≡ 0

-- the local's kind, and the registers that carry its address, each once, in the queue's region; of an unfollowed local all of them only if the walk is to be whole
pub record FollowedTo (C : Code) (lay : Lay) (z : Sizes) (l : ℕ) (whole : Bool) (w : List ℕ) (r : Followed) : Type 0 where
  pub kind : r.kind ≡ kind_of C l
  pub few : r.count ≤ z.insts
  pub only : (k : ℕ) → k < r.count → Carries C l (queued lay w k)
  pub all : (whole ≡ true) ⊎ (r.kind ≢ Unfollowed) → (q : ℕ) → Carries C l q → (k : ℕ) × (k < r.count) × (queued lay w k ≡ q)
  pub once : (j k : ℕ) → j < k → k < r.count → queued lay w j ≢ queued lay w k

-- for whatever code the tables were prepared; nothing has changed but the queue's region
pub record FollowsAny (insts addresses : List ℕ) (lay : Lay) (z : Sizes) (l : ℕ) (whole : Bool) (w₀ w : List ℕ) (r : Followed) : Type 0 where
  pub kept : Within lay.queue (lay.queue + z.insts) w₀ w
  pub code : (operands crossings ends : List ℕ) → Prepared (code_of z.v insts operands crossings addresses ends) lay w₀ z.locals z.edges
      → FollowedTo (code_of z.v insts operands crossings addresses ends) lay z l whole w r

-- What the steps of a walk ask and promise, by the tables in the work space.

-- tables that a walk can read: edges in order, each of a numbered register and an instruction with a def, and the first edge of each def
pub record Walkable (lay : Lay) (z : Sizes) (w : List ℕ) : Type 0 where
  pub operands : ℕ
  pub addresses : ℕ
  pub few : z.edges ≤ operands
  pub laid : Laid lay z.v z.insts operands z.locals addresses (length w)
  pub registers : z.v ≤ 65535
  pub few_insts : z.insts ≤ 65536
  pub def_le : (i : ℕ) → i < z.insts → def_at lay w i ≤ z.v
  pub rising : Rising (λ k. get_or w (lay.edges + k) 0) z.edges
  pub keys : (k : ℕ) → k < z.edges → (q : ℕ) × (j : ℕ) × (q < z.v) × (j < z.insts) × (0 < def_at lay w j) × (get_or w (lay.edges + k) 0 ≡ key q j)
  pub first : (i q : ℕ) → i < z.insts → def_at lay w i ≡ suc q → Splits (λ k. ltb (get_or w (lay.edges + k) 0) (q * 2 ^ 32)) z.edges (get_or w (lay.firsts + i) 0)

-- one of the edges leads from register q to instruction j
pub record Edge (lay : Lay) (z : Sizes) (w : List ℕ) (q j : ℕ) : Type 0 where
  pub place : ℕ
  pub within : place < z.edges
  pub small : j < z.insts
  pub is : get_or w (lay.edges + place) 0 ≡ key q j

-- each instruction that an edge leads to from register q is in the queue, or another with its def
pub record Grown (lay : Lay) (z : Sizes) (w₀ w : List ℕ) (q n₀ n : ℕ) : Type 0 where
  pub grew : Grew z.v z.insts lay w₀ w n₀ n (Edge lay z w₀ q)
  pub all : (j : ℕ) → Edge lay z w₀ q j → Listed lay w n (def_at lay w j)

-- an address entry of local l at instruction i, which is `lea`
pub record Entry (insts addresses : List ℕ) (l i : ℕ) : Type 0 where
  pub place : ℕ
  pub within : place < address_count addresses
  pub local : row_local addresses place ≡ l
  pub inst : get_or addresses (mention_width * place) 0 ≡ i
  pub lea : inst_lea insts i ≡ 1

-- the chain of the address entries of local l
pub record Chain (lay : Lay) (z : Sizes) (insts addresses : List ℕ) (l : ℕ) (w : List ℕ) : Type 0 where
  pub rows : z.insts ≡ inst_count insts
  pub here : l < z.locals
  pub fits : lay.nexts + address_count addresses ≤ lay.ended
  pub found : (a : ℕ) → a < address_count addresses → get_or addresses (mention_width * a) 0 < z.insts
  pub head : get_or w (lay.heads + l) 0 ≡ latest (row_local addresses) l (address_count addresses)
  pub next : (a : ℕ) → a < address_count addresses → row_local addresses a ≡ l → get_or w (lay.nexts + a) 0 ≡ latest (row_local addresses) l a

-- all locals can be followed, one after another
pub record Ready (lay : Lay) (z : Sizes) (insts addresses w : List ℕ) : Type 0 where
  pub tables : Walkable lay z w
  pub unseen : Empty lay z.v w
  pub chain : (l : ℕ) → l < z.locals → Chain lay z insts addresses l w

-- one entry at instruction i
pub record Took (lay : Lay) (z : Sizes) (insts : List ℕ) (w₀ w : List ℕ) (i : ℕ) (b₀ b : Begun) : Type 0 where
  pub grew : Grew z.v z.insts lay w₀ w b₀.count b.count (λ j. (j ≡ i) × (inst_lea insts i ≡ 1))
  pub has : inst_lea insts i ≡ 1 → 0 < def_at lay w₀ i → Listed lay w b.count (def_at lay w i)
  pub lost : b.lost ≡ (b₀.lost || (is_set (inst_lea insts i) && eqb (def_at lay w₀ i) 0))

-- the defs of all entries of local l stand in the queue, and whether one has none
pub record Began (lay : Lay) (z : Sizes) (insts addresses : List ℕ) (l : ℕ) (w₀ w : List ℕ) (b : Begun) : Type 0 where
  pub grew : Grew z.v z.insts lay w₀ w 0 b.count (Entry insts addresses l)
  pub all : (i : ℕ) → Entry insts addresses l i → 0 < def_at lay w i → Listed lay w b.count (def_at lay w i)
  pub lost : b.lost ≡ true → (i : ℕ) × Entry insts addresses l i × (def_at lay w i ≡ 0)
  pub kept : b.lost ≡ false → (i : ℕ) → Entry insts addresses l i → 0 < def_at lay w i

-- the register at k in the queue
abbrev pub register_at : Lay → List ℕ → ℕ → ℕ
register_at lay w k = def_at lay w (queued lay w k) - 1

-- one register of the queue was looked at
pub record Stepped (lay : Lay) (z : Sizes) (w₀ w : List ℕ) (h : ℕ) (s₀ s : Walk) : Type 0 where
  pub grown : Grown lay z w₀ w (register_at lay w₀ h) s₀.count s.count
  pub escapes : s.escapes ≡ (s₀.escapes || bit w₀ lay.escapes (register_at lay w₀ h))
  pub bad : s.bad ≡ (s₀.bad || bit w₀ lay.dead (register_at lay w₀ h))

-- after the first h of the queue were looked at
pub record Walking (lay : Lay) (z : Sizes) (w₀ w : List ℕ) (b : Begun) (h : ℕ) (s : Walk) : Type 0 where
  pub grew : Grew z.v z.insts lay w₀ w b.count s.count (λ j. j < z.insts)
  pub h_le : h ≤ s.count
  pub from : (k : ℕ) → b.count ≤ k → k < s.count → (x : ℕ) × (x < k) × Edge lay z w₀ (register_at lay w x) (queued lay w k)
  pub closed : (k j : ℕ) → k < h → Edge lay z w₀ (register_at lay w k) j → Listed lay w s.count (def_at lay w j)
  pub escapes : s.escapes ≡ any (λ k. bit w₀ lay.escapes (register_at lay w k)) (tabulate h (λ k. k))
  pub bad : s.bad ≡ (b.lost || any (λ k. bit w₀ lay.dead (register_at lay w k)) (tabulate h (λ k. k)))

-- the walk went to the end of the queue, or stopped at something bad
pub record Walked (lay : Lay) (z : Sizes) (w₀ w : List ℕ) (b : Begun) (whole : Bool) (s : Walk) : Type 0 where
  pub upto : ℕ
  pub walking : Walking lay z w₀ w b upto s
  pub done : (s.bad && not whole) ≡ false → s.count ≤ upto

-- no register is seen, and the queue has the registers themselves
pub record Unseen (lay : Lay) (z : Sizes) (w₀ w : List ℕ) (n : ℕ) : Type 0 where
  pub len : length w ≡ length w₀
  pub outside : (k : ℕ) → (k < lay.seen) ⊎ (lay.seen + row_words z.v ≤ k) → (k < lay.queue) ⊎ (lay.queue + n ≤ k) → get_or w k 0 ≡ get_or w₀ k 0
  pub seen : (k : ℕ) → k < row_words z.v → get_or w (lay.seen + k) 0 ≡ 0
  pub registers : (k : ℕ) → k < n → suc (queued lay w k) ≡ def_at lay w₀ (queued lay w₀ k)

-- what taking the instruction at k out of the queue asks: it is there, and its def is a numbered register
pub record Forgetting (lay : Lay) (z : Sizes) (w : List ℕ) (k : ℕ) : Type 0 where
  pub seen_fits : lay.seen + row_words z.v ≤ lay.defs
  pub defs_fits : lay.defs + z.insts ≤ lay.queue
  pub queue_fits : lay.queue + z.insts ≤ length w
  pub room : k < z.insts
  pub low : queued lay w k < z.insts
  pub has_def : 0 < def_at lay w (queued lay w k)
  pub small : def_at lay w (queued lay w k) ≤ z.v
