-- The places of the work space that a walk reads and writes, each bound as the code asks for it.
use Prim.Native.Nat.{ℕ, suc, ◌+◌, ◌-◌, ◌*◌, ◌/◌, ◌^◌, ◌≤◌, ◌<◌}
use mathlib.Core.Path.{◌≡◌}
use mathlib.Core.List.{List}
use mir.Syntax.{w64}
use mir.Val.{Fits}
use native.Mathlib.Omega.{arith}
use lib.ListN.{length, get_or}
use Rattle.words.specs.Widths.{inst_width, inst_count, mention_width}
use Rattle.words.proofs.FitLaws.{Word, word}
use Rattle.reach.specs.declared.Lay.{Lay}
use Rattle.follow.specs.declared.Sizes.{Sizes}
use Rattle.follow.specs.declared.Begun.{Begun}
use Rattle.queue.specs.Inner.{def_at, queued, Held}
use Rattle.follow.specs.Inner.{Walkable, register_at, Forgetting}
use Rattle.follow.proofs.WalkLaws.{Growing, Unseeing, unsee_back}
use Rattle.follow.proofs.BeginLaws.{Beginning, begin_found}

pub less_left : (n k : ℕ) → k < n → n - (k + 1) < n - k
less_left n k h = omega arith

-- of n that are at most m
pub less_in : (m n k : ℕ) → k < n → n ≤ m → m - (k + 1) < m - k
less_in m n k h f = omega arith

pub more_in : (m n k : ℕ) → k < n → n ≤ m → m ≤ 65536 → Fits w64 (k + 1)
more_in m n k h f g = omega arith

-- ---- the tables

module _ {lay : Lay} {z : Sizes} {w : List ℕ} (t : Walkable lay z w) (r : length w * 8 < 2 ^ 63) where
  pub def_at_lem : (i : ℕ) → i < z.insts → Word (lay.defs + i) (length w)
  def_at_lem i h = let l = t.laid in word _ (length w) (omega arith) r

  pub first_at : (i : ℕ) → i < z.insts → Word (lay.firsts + i) (length w)
  first_at i h = let l = t.laid in word _ (length w) (omega arith) r

  pub head_at_lem : (l : ℕ) → l < z.locals → Word (lay.heads + l) (length w)
  head_at_lem l h = let q = t.laid in word _ (length w) (omega arith) r

  pub ended_at : (l : ℕ) → l < z.locals → Word (lay.ended + l) (length w)
  ended_at l h = let q = t.laid in word _ (length w) (omega arith) r

  -- the register at h in the queue
  pub record Looking (h : ℕ) : Type 0 where
    pub queue : Word (lay.queue + h) (length w)
    pub low : queued lay w h < z.insts
    pub def : Word (lay.defs + queued lay w h) (length w)
    pub has_def : 0 < def_at lay w (queued lay w h)
    pub escapes : lay.escapes + register_at lay w h / 64 < length w
    pub dead : lay.dead + register_at lay w h / 64 < length w

  pub looking : {n : ℕ} (h : ℕ) → Held z.v z.insts lay w n → h < n → Looking h
  looking h d l =
      let q = t.laid in
      let a = d.low h l in
      let b = d.n_le in
      let f = d.defined h l in
      let e = d.def_le (queued lay w h) a in
      record {
        queue = word _ (length w) (omega arith) r;
        low = a;
        def = word _ (length w) (omega arith) r;
        has_def = f;
        escapes = omega arith;
        dead = omega arith;
      }

-- an instruction's def, by what is held
pub held_def : {v m : ℕ} {lay : Lay} {w : List ℕ} {n : ℕ} → Held v m lay w n → length w * 8 < 2 ^ 63 → (i : ℕ) → i < m → Word (lay.defs + i) (length w)
held_def {w = w} d r i h = let a = d.defs_fits in let b = d.queue_fits in word _ (length w) (omega arith) r

-- the fifth field of an instruction's row
pub record Field (i n : ℕ) : Type 0 where
  pub row : Fits w64 (inst_width * i)
  pub at : Fits w64 (inst_width * i + 4)
  pub in_bytes : Fits w64 ((inst_width * i + 4) * 4)
  pub inside : inst_width * i + 4 < n

pub row_field : (i n : ℕ) → i < n / 9 → n * 4 < 2 ^ 63 → Field i n
row_field i n h r = record { row = omega arith; at = omega arith; in_bytes = omega arith; inside = omega arith }

-- ---- the loops

pub record AtEdge (lay : Lay) (w : List ℕ) (x : ℕ) : Type 0 where
  pub key : Word (lay.edges + x) (length w)
  pub more : Fits w64 (x + 1)

pub edge_at : {lay : Lay} {z : Sizes} {w₀ : List ℕ} {q first n₀ : ℕ} {w : List ℕ} {n x : ℕ} → Growing lay z w₀ q first n₀ w n x → length w₀ * 8 < 2 ^ 63 → x < z.edges → AtEdge lay w x
edge_at {w = w} d r h =
    let l = d.tables.laid in
    let f = d.tables.few in
    let e = d.grew.len in
    record { key = word _ (length w) (omega arith) (omega arith); more = omega arith }

-- the entry c - 1 of a local's chain
pub record AtEntry (lay : Lay) (insts addresses : List ℕ) (m : ℕ) (w : List ℕ) (c : ℕ) : Type 0 where
  pub is : c ≡ suc (c - 1)
  pub twice : Fits w64 (mention_width * (c - 1))
  pub in_bytes : Fits w64 (mention_width * (c - 1) * 4)
  pub inside : mention_width * (c - 1) < length addresses
  pub listed : get_or addresses (mention_width * (c - 1)) 0 < inst_count insts
  pub low : get_or addresses (mention_width * (c - 1)) 0 < m
  pub inst : Fits w64 (get_or addresses (mention_width * (c - 1)) 0)
  pub next : Word (lay.nexts + (c - 1)) (length w)

pub entry_at : {lay : Lay} {z : Sizes} {insts addresses : List ℕ} {l : ℕ} {w₀ w : List ℕ} {b : Begun} {c : ℕ} → Beginning lay z insts addresses l w₀ w b c
    → length addresses * 4 < 2 ^ 63 → length w₀ * 8 < 2 ^ 63 → 0 < c → AtEntry lay insts addresses z.insts w c
entry_at {addresses = addresses} {w = w} {c = c} d s r h =
    let q = d.tables.laid in
    let f = d.chain.fits in
    let o = d.chain.rows in
    let a = d.c_le in
    let e = d.grew.len in
    let p : c ≡ suc (c - 1) = omega arith in
    let g = begin_found d (c - 1) p in
    let k = d.tables.few_insts in
    record {
      is = p;
      twice = omega arith;
      in_bytes = omega arith;
      inside = omega arith;
      listed = omega arith;
      low = g;
      inst = omega arith;
      next = word _ (length w) (omega arith) (omega arith);
    }

-- ---- the way back

pub to_forget : {lay : Lay} {z : Sizes} {w₀ w : List ℕ} {n k : ℕ} → Unseeing lay z.v z.insts w₀ w n k → k < n → Forgetting lay z w k
to_forget d h =
    let b = unsee_back d h in
    let a = d.held.n_le in
    let e = b.def in
    let o = b.inst in
    let i = b.low in
    let j = b.has_def in
    let s = b.small in
    record {
      seen_fits = d.held.seen_fits;
      defs_fits = d.held.defs_fits;
      queue_fits = b.fits;
      room = omega arith;
      low = omega arith;
      has_def = omega arith;
      small = omega arith;
    }

pub more_back : {lay : Lay} {v m : ℕ} {w₀ w : List ℕ} {n k : ℕ} → Unseeing lay v m w₀ w n k → length w₀ * 8 < 2 ^ 63 → k < n → Fits w64 (k + 1)
more_back d r h = let a = d.held.n_le in let b = d.held.queue_fits in omega arith

-- the words of a queue's place, of its instruction's def, and of the register's mark
pub record Forgotten (lay : Lay) (w : List ℕ) (k : ℕ) : Type 0 where
  pub queue : Word (lay.queue + k) (length w)
  pub def : Word (lay.defs + queued lay w k) (length w)
  pub mark : Word (lay.seen + register_at lay w k / 64) (length w)

pub forgotten : {lay : Lay} {z : Sizes} {w : List ℕ} {k : ℕ} → Forgetting lay z w k → length w * 8 < 2 ^ 63 → Forgotten lay w k
forgotten {w = w} f r =
    let a = f.seen_fits in
    let b = f.defs_fits in
    let c = f.queue_fits in
    let d = f.room in
    let e = f.low in
    let g = f.has_def in
    let h = f.small in
    record {
      queue = word _ (length w) (omega arith) r;
      def = word _ (length w) (omega arith) r;
      mark = word _ (length w) (omega arith) r;
    }
