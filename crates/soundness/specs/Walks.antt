-- Document 01, demand 3: a walk, the marks of its two runs, and the claim about the whole list of steps.
-- Everything about a walk is said by places in the list: `at n` is where step n is made, `private n` and `shared n` are the marks just before it.
use Rattle.std.specs.Prelude.{ℕ, zero, suc, ◌≤◌, ◌<◌, ◌≡◌, ◌↔◌, ◌≢◌, ◌⊎◌, Bool, true, false, cond, not, ◌&&◌, List, length, get_or, eqb}
use Rattle.std.proofs.Math.Option.{Option, some, none}
use Rattle.std.proofs.Math.ListN.{get_elem?}
use Rattle.ranges.specs.declared.Range.{Range}
use Rattle.ranges.specs.Points.{Point, inside}
use Rattle.graph.specs.Paths.{Edge, edge}
use Rattle.carrying.specs.Lists.{any}
use Rattle.areas.specs.Blocks.{Graph, top, bottom}

-- what an item is to a walk: a local of one of the three kinds, with its touches and its ends, or a slot
pub data Access : Type 0 where
  unfollowed : Access
  plain : List Range → Access
  ending : List Range → List ℕ → Access
  slot : Access

-- what a walk goes through: the blocks and edges, and of each item how it is used, its size and its area
pub record Frame : Type 0 where
  pub graph : Graph
  pub items : ℕ
  pub access : ℕ → Access
  pub size : ℕ → ℕ
  pub area : ℕ → Option (List Range)

-- "steps, go, read and write": go to the next point, go over an edge, a byte of an item
pub data Step : Type 0 where
  next : Step
  over : ℕ → Step
  read : ℕ → ℕ → Step
  write : ℕ → ℕ → Step

-- where a walk stands: a block's place and a point in it
pub record Position : Type 0 where
  pub place : ℕ
  pub point : ℕ

-- the step is a go
abbrev pub goes : Option Step → Bool
goes none = false
goes (some next) = true
goes (some (over e)) = true
goes (some (read i b)) = false
goes (some (write i b)) = false

-- the step writes byte b of unit c: in the private run each item is a unit, in the shared run "the item's cell in the plan"
abbrev pub wrote : (ℕ → ℕ) → Option Step → ℕ → ℕ → Bool
wrote unit none c b = false
wrote unit (some next) c b = false
wrote unit (some (over e)) c b = false
wrote unit (some (read j d)) c b = false
wrote unit (some (write j d)) c b = eqb (unit j) c && eqb d b

-- "go empties each ending local that has a placed end at the point left, and each slot with an area that lacks the point reached"
abbrev pub emptied : Access → Option (List Range) → ℕ → ℕ → Bool
emptied unfollowed area left reached = false
emptied (plain ts) area left reached = false
emptied (ending ts es) area left reached = any (eqb left) es
emptied slot none left reached = false
emptied slot (some rs) left reached = not (inside reached rs)

-- a byte's mark before step n, "at first none": a write puts its place in the list there, an emptying takes it away, "nothing else changes marks"
unfoldable pub mark : (ℕ → Bool) → (ℕ → Bool) → ℕ → Option ℕ
mark writes empties zero = none
mark writes empties (suc n) = cond (writes n) (some n) (cond (empties n) none (mark writes empties n))

module _ (G : Graph) where
  -- the edge that a step names
  abbrev pub edge_at : ℕ → Edge
  edge_at e = get_or G.edges e (edge 0 0)

  -- "the block's next point or, from its last, over an edge that the step names to the first point of the block entered"
  abbrev pub moved : Option Step → Position → Position
  moved none p = p
  moved (some next) p = record { place = p.place; point = suc p.point }
  moved (some (over e)) p = record { place = (edge_at e).dst; point = top G (edge_at e).dst }
  moved (some (read i b)) p = p
  moved (some (write i b)) p = p

-- a list of steps "from some block's top"
module _ (F : Frame) (first : ℕ) (w : List Step) where
  -- where step n is made
  unfoldable pub at : ℕ → Position
  at zero = record { place = first; point = top F.graph first }
  at (suc n) = moved F.graph (get_elem? w n) (at n)

  abbrev pub point : ℕ → ℕ
  point n = (at n).point

  abbrev pub place : ℕ → ℕ
  place n = (at n).place

  -- "unfollowed items and slots without area: anywhere. Plain: at touches. Ending: at a touch, or later with none of its ends visited from
  -- that touch up to but not including this point. A slot with area: in its area"; visited is left by a go
  abbrev pub Permits : Access → Option (List Range) → ℕ → Type 0
  Permits unfollowed area n = Unit {0}
  Permits (plain ts) area n = Point ts (point n)
  Permits (ending ts es) area n =
      (m : ℕ) × (m ≤ n) × Point ts (point m)
      × ((l : ℕ) → m ≤ l → l < n → goes (get_elem? w l) ≡ true → any (eqb (point l)) es ≡ false)
  Permits slot none n = Unit {0}
  Permits slot (some rs) n = Point rs (point n)

  -- "a read or write takes one byte, below the size, of an item permitted there"
  pub record Uses (i b n : ℕ) : Type 0 where
    pub item : i < F.items
    pub byte : b < F.size i
    pub there : Permits (F.access i) (F.area i) n

  -- an edge is taken from the last point of the block that it leaves
  pub record Crosses (e n : ℕ) : Type 0 where
    pub listed : e < length F.graph.edges
    pub here : (edge_at F.graph e).src ≡ place n
    pub last : point n ≡ bottom F.graph (place n)

  abbrev pub LegalStep : Option Step → ℕ → Type 0
  LegalStep none n = Unit {0}
  LegalStep (some next) n = point n < bottom F.graph (place n)
  LegalStep (some (over e)) n = Crosses e n
  LegalStep (some (read i b)) n = Uses i b n
  LegalStep (some (write i b)) n = Uses i b n

  -- a walk
  pub record Legal : Type 0 where
    pub begins : first < length F.graph.blocks
    pub steps : (n : ℕ) → LegalStep (get_elem? w n) n

  -- step n empties item i
  abbrev pub empties : ℕ → ℕ → Bool
  empties i n = goes (get_elem? w n) && emptied (F.access i) (F.area i) (point n) (point (suc n))

  -- the mark of byte b of item i, in the private run
  abbrev pub private : ℕ → ℕ → ℕ → Option ℕ
  private n i b = mark (λ q. wrote (λ j. j) (get_elem? w q) i b) (empties i) n

  -- "that byte of the item was written earlier and not emptied since"
  abbrev pub Kept : ℕ → ℕ → ℕ → Type 0
  Kept n i b =
      (q : ℕ) × (q < n) × (get_elem? w q ≡ some (write i b)) × ((m : ℕ) → q < m → m < n → empties i m ≡ false)

  module _ (cell : ℕ → ℕ) where
    -- the mark of byte b of cell c, in the shared run: nothing empties a cell
    abbrev pub shared : ℕ → ℕ → ℕ → Option ℕ
    shared n c b = mark (λ q. wrote cell (get_elem? w q) c b) (λ q. false) n

    -- "nothing has yet written that byte of the cell"
    abbrev pub Unwritten : ℕ → ℕ → ℕ → Type 0
    Unwritten n c b = (q j : ℕ) → q < n → get_elem? w q ≡ some (write j b) → cell j ≢ c

    -- the claim about the whole list: at every read the two marks are alike exactly when the byte is kept, or its cell's byte unwritten
    abbrev pub Alike : Type 0
    Alike =
        (n i b : ℕ) → get_elem? w n ≡ some (read i b)
        → (private n i b ≡ shared n (cell i) b) ↔ (Kept n i b ⊎ Unwritten n (cell i) b)
