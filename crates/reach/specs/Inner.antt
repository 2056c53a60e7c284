-- What the functions here promise each other. No public promise names these.
use Rattle.std.specs.Prelude.{ℕ, zero, suc, ◌+◌, ◌*◌, ◌^◌, ◌≤◌, ◌<◌, ◌≡◌, Bool, true, false, cond, ◌&&◌, not, ◌||◌, List, length, get_or, eqb, ltb, ◌⊎◌}
use Rattle.std.proofs.Math.Option.{some}
use Rattle.words.specs.Inner.{Rising, Splits, mention_local}
use Rattle.words.specs.Regions.{row_words}
use Rattle.bits.specs.Bits.{bit}
use Rattle.graph.specs.Inner.Work.{Within}
use Rattle.carrying.specs.Insts.{Inst, inst_at, def_of, is_set, reads, addressed, Operand, inst_of, is_use, each_address}
use Rattle.carrying.specs.Carried.{Code, Mention, is_none, stuck, escapes, ends_of, empty}
use Rattle.carrying.specs.Checks.{mention_at}
use Rattle.reach.specs.declared.Lay.{Lay}
use Rattle.operands.specs.Inner.{def_number, addressing}
use Rattle.words.specs.Rows.{tabulate, field}
use Rattle.words.specs.Widths.{inst_width, inst_operands}
use Rattle.carrying.specs.Lists.{any}
use Rattle.insts.specs.Counts.{offset}
use Rattle.insts.specs.Inner.{operands_from}

-- the regions stand one after another, gaps allowed, in n words: v registers, i instructions, o operands, l locals, a addresses
pub record Laid (lay : Lay) (v i o l a n : ℕ) : Type 0 where
  pub escapes_fits : lay.escapes + row_words v ≤ lay.dead
  pub dead_fits : lay.dead + row_words v ≤ lay.seen
  pub seen_fits : lay.seen + row_words v ≤ lay.defs
  pub defs_fits : lay.defs + i ≤ lay.firsts
  pub firsts_fits : lay.firsts + i ≤ lay.edges
  pub edges_fits : lay.edges + o ≤ lay.heads
  pub heads_fits : lay.heads + l ≤ lay.nexts
  pub nexts_fits : lay.nexts + a ≤ lay.ended
  pub ended_fits : lay.ended + l ≤ lay.queue
  pub queue_fits : lay.queue + i ≤ n

-- a register and an instruction that hands it on, in one word
abbrev pub key : ℕ → ℕ → ℕ
key q j = q * 2 ^ 32 + j

-- of the first k values of f the last that is l: its index plus 1, or 0
unfoldable pub latest : (ℕ → ℕ) → ℕ → ℕ → ℕ
latest f l zero = 0
latest f l (suc k) = cond (eqb (f k) l) (suc k) (latest f l k)

abbrev pub local_of : List Mention → ℕ → ℕ
local_of ms a = (mention_at ms a).local

-- an addressed `lea` reader, as `hands` has it
abbrev pub lea_reader : Inst → ℕ → Bool
lea_reader x r = reads x r && (addressed x r && is_set x.lea)

-- of the instructions, j hands register q, of v, on to its one def
pub record Hands (v : ℕ) (is : List Inst) (q j : ℕ) : Type 0 where
  pub numbered : q < v
  pub listed : j < length is
  pub handing : lea_reader (inst_at is j) q ≡ true
  pub has_def : is_none (def_of v (inst_at is j)) ≡ false

module _ (C : Code) (lay : Lay) (w : List ℕ) where
  -- bits over the registers: "any other reader, or a crossing register, makes it escape", and "no such def makes the local unfollowed"; and the one def of each instruction
  pub record Tables : Type 0 where
    pub escaping : (r : ℕ) → r < C.numbered → bit w lay.escapes r ≡ escapes C r
    pub sticking : (r : ℕ) → r < C.numbered → bit w lay.dead r ≡ stuck C r
    pub defined : (i : ℕ) → i < length C.insts → get_or w (lay.defs + i) 0 ≡ def_number (def_of C.numbered (inst_at C.insts i))

  -- the n edges of registers, in order, and at each instruction the first of its def
  pub record Sorted (n : ℕ) : Type 0 where
    pub rising : Rising (λ k. get_or w (lay.edges + k) 0) n
    pub only : (k : ℕ) → k < n → (q : ℕ) × (j : ℕ) × Hands C.numbered C.insts q j × (get_or w (lay.edges + k) 0 ≡ key q j)
    pub has : (q j : ℕ) → Hands C.numbered C.insts q j → (k : ℕ) × (k < n) × (get_or w (lay.edges + k) 0 ≡ key q j)

  pub record Edges (n : ℕ) : Type 0 where
    pub sorted : Sorted n
    pub first : (i q : ℕ) → i < length C.insts → def_of C.numbered (inst_at C.insts i) ≡ some q
        → Splits (λ k. ltb (get_or w (lay.edges + k) 0) (q * 2 ^ 32)) n (get_or w (lay.firsts + i) 0)

  -- the address entries of each of l locals as a chain, last first, and whether it has a placed end
  pub record Chains (l : ℕ) : Type 0 where
    pub head : (m : ℕ) → m < l → get_or w (lay.heads + m) 0 ≡ latest (local_of C.addresses) m (length C.addresses)
    pub next : (a : ℕ) → a < length C.addresses → local_of C.addresses a < l
        → get_or w (lay.nexts + a) 0 ≡ latest (local_of C.addresses) (local_of C.addresses a) a

  pub record Ended (l : ℕ) : Type 0 where
    pub ended : (m : ℕ) → m < l → eqb (get_or w (lay.ended + m) 0) 0 ≡ empty (ends_of C m)

  -- all of it, with an empty set of seen registers
  pub record Prepared (l n : ℕ) : Type 0 where
    pub tables : Tables
    pub edges : Edges n
    pub chains : Chains l
    pub ends : Ended l
    pub unseen : (k : ℕ) → k < row_words C.numbered → get_or w (lay.seen + k) 0 ≡ 0

-- what the pass leaves of the registers, in the words below the locals' regions
pub record Registered (C : Code) (lay : Lay) (o n : ℕ) (w₀ w : List ℕ) : Type 0 where
  pub kept : Within lay.escapes lay.heads w₀ w
  pub few : n ≤ o
  pub tables : Tables C lay w
  pub edges : Edges C lay w n

-- the preparation: nothing else has changed but the words from the first region up to the queue
pub record Readied (C : Code) (lay : Lay) (o l n : ℕ) (w₀ w : List ℕ) : Type 0 where
  pub kept : Within lay.escapes lay.queue w₀ w
  pub few : n ≤ o
  pub prepared : Prepared C lay w l n

-- What the steps of the pass over the code promise of the work space.

-- bits of v registers: those that pass f are set too, and nothing else has changed
pub record Marked (w₀ w : List ℕ) (row v : ℕ) (f : ℕ → Bool) : Type 0 where
  pub kept : Within row (row + row_words v) w₀ w
  pub bits : (r : ℕ) → r < v → bit w row r ≡ (bit w₀ row r || f r)

-- the registers that operands use other than as the base or the index, and those of which each use is one of the two
abbrev pub escapes_in : ℕ → ℕ → ℕ → List Operand → ℕ → Bool
escapes_in mem base index os r = any (is_use r) os && not (is_set mem && each_address (addressing base index) r 0 os)

abbrev pub hands_in : ℕ → ℕ → List Operand → ℕ → Bool
hands_in base index os r = any (is_use r) os && each_address (addressing base index) r 0 os

-- the keys of instruction j with the registers that pass f stand from `at + n₀` on, up to `at + n`, at most m of them; nothing else has changed
pub record Linked (w₀ w : List ℕ) (at v j m n₀ n : ℕ) (f : ℕ → Bool) : Type 0 where
  pub kept : Within (at + n₀) (at + n) w₀ w
  pub more : n₀ ≤ n
  pub few : n ≤ n₀ + m
  pub only : (k : ℕ) → n₀ ≤ k → k < n → (q : ℕ) × (q < v) × (f q ≡ true) × (get_or w (at + k) 0 ≡ key q j)
  pub has : (q : ℕ) → q < v → f q ≡ true → (k : ℕ) × (n₀ ≤ k) × (k < n) × (get_or w (at + k) 0 ≡ key q j)

-- instruction i with the operands from `from` on
abbrev pub row_of : List ℕ → List ℕ → ℕ → ℕ → Inst
row_of insts operands i from = inst_of (field inst_width insts i) (operands_from operands from (inst_operands insts i))

-- a reader other than an addressed one
abbrev pub stray_reader : Inst → ℕ → Bool
stray_reader x r = reads x r && not (addressed x r)

-- what instruction i, which is x, adds to the dead registers and to the n₀ edges
pub record Handing (w₀ w : List ℕ) (lay : Lay) (v : ℕ) (x : Inst) (i m n₀ n : ℕ) : Type 0 where
  pub len : length w ≡ length w₀
  pub outside : (k : ℕ) → (k < lay.dead) ⊎ (lay.dead + row_words v ≤ k) → (k < lay.edges + n₀) ⊎ (lay.edges + n ≤ k) → get_or w k 0 ≡ get_or w₀ k 0
  pub dead : (r : ℕ) → r < v → bit w lay.dead r ≡ (bit w₀ lay.dead r || (lea_reader x r && is_none (def_of v x)))
  pub more : n₀ ≤ n
  pub few : n ≤ n₀ + m
  pub only : (k : ℕ) → n₀ ≤ k → k < n → (q : ℕ) × (q < v) × (lea_reader x q ≡ true) × (is_none (def_of v x) ≡ false) × (get_or w (lay.edges + k) 0 ≡ key q i)
  pub has : (q : ℕ) → q < v → lea_reader x q ≡ true → is_none (def_of v x) ≡ false → (k : ℕ) × (n₀ ≤ k) × (k < n) × (get_or w (lay.edges + k) 0 ≡ key q i)

-- the same with its one def, and with the registers that escape through it
pub record Added (w₀ w : List ℕ) (lay : Lay) (v : ℕ) (x : Inst) (i m n₀ n : ℕ) : Type 0 where
  pub kept : Within lay.escapes (lay.edges + n) w₀ w
  pub escaping : (r : ℕ) → r < v → bit w lay.escapes r ≡ (bit w₀ lay.escapes r || stray_reader x r)
  pub sticking : (r : ℕ) → r < v → bit w lay.dead r ≡ (bit w₀ lay.dead r || (lea_reader x r && is_none (def_of v x)))
  pub here : get_or w (lay.defs + i) 0 ≡ def_number (def_of v x)
  pub earlier : (j : ℕ) → j < i → get_or w (lay.defs + j) 0 ≡ get_or w₀ (lay.defs + j) 0
  pub edges : (k : ℕ) → k < n₀ → get_or w (lay.edges + k) 0 ≡ get_or w₀ (lay.edges + k) 0
  pub more : n₀ ≤ n
  pub few : n ≤ n₀ + m
  pub only : (k : ℕ) → n₀ ≤ k → k < n → (q : ℕ) × (q < v) × (lea_reader x q ≡ true) × (is_none (def_of v x) ≡ false) × (get_or w (lay.edges + k) 0 ≡ key q i)
  pub has : (q : ℕ) → q < v → lea_reader x q ≡ true → is_none (def_of v x) ≡ false → (k : ℕ) × (n₀ ≤ k) × (k < n) × (get_or w (lay.edges + k) 0 ≡ key q i)

-- after i of the instructions: n edges, not yet in order
pub record Scanning (v : ℕ) (is : List Inst) (insts : List ℕ) (lay : Lay) (w₀ w : List ℕ) (i n : ℕ) : Type 0 where
  pub kept : Within lay.escapes lay.heads w₀ w
  pub few : n ≤ offset insts i
  pub escaping : (r : ℕ) → r < v → bit w lay.escapes r ≡ any (λ x. stray_reader x r) (tabulate i (inst_at is))
  pub sticking : (r : ℕ) → r < v → bit w lay.dead r ≡ any (λ x. lea_reader x r && is_none (def_of v x)) (tabulate i (inst_at is))
  pub defined : (j : ℕ) → j < i → get_or w (lay.defs + j) 0 ≡ def_number (def_of v (inst_at is j))
  pub only : (k : ℕ) → k < n → (q : ℕ) × (j : ℕ) × (j < i) × Hands v is q j × (get_or w (lay.edges + k) 0 ≡ key q j)
  pub has : (q j : ℕ) → j < i → Hands v is q j → (k : ℕ) × (k < n) × (get_or w (lay.edges + k) 0 ≡ key q j)

-- what the pass asks: no register escapes or is dead yet
pub record Blank (v : ℕ) (lay : Lay) (w : List ℕ) : Type 0 where
  pub escaping : (r : ℕ) → r < v → bit w lay.escapes r ≡ false
  pub sticking : (r : ℕ) → r < v → bit w lay.dead r ≡ false

-- Rows of an instruction and a local.

-- the local of row a
abbrev pub row_local : List ℕ → ℕ → ℕ
row_local s a = mention_local s a
