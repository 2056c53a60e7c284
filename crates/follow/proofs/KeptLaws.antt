-- The preparation makes all locals ready, and they stay so while only the queue changes.
use Prim.Native.Nat.{ℕ, ◌+◌, ◌*◌, ◌^◌, ◌≤◌, ◌<◌}
use native.Mathlib.Omega.{arith}
use mathlib.Core.Path.{◌≡◌, sym, ap, ◌∙◌}
use mathlib.Core.Bool.{false, true≢false}
use mathlib.Core.Option.{Option, some, none}
use mathlib.Core.List.{List}
use lib.ListN.{length, get_or}
use lib.Dec.{eqb, ltb}
use Rattle.words.specs.Widths.{inst_count, mention_width, address_count}
use Rattle.words.specs.Regions.{row_words}
use Rattle.graph.specs.Inner.Work.{Within}
use Rattle.carrying.specs.Insts.{insts_of, inst_at, def_of}
use Rattle.carrying.specs.Carried.{Code, is_none, mentions_of}
use Rattle.insts.proofs.DealtLaws.{insts_length}
use Rattle.reach.specs.declared.Lay.{Lay}
use Rattle.operands.specs.Inner.{def_number}
use Rattle.reach.specs.Inner.{Laid, latest, local_of, Prepared, Readied, row_local}
use Rattle.reach.specs.Prepared.{code_of}
use Rattle.reach.proofs.StepLaws.{splits_same}
use Rattle.reach.proofs.ReadyLaws.{latest_same, local_is, mentions_count, def_small}
use Rattle.reach.proofs.ScanLaws.{same_bit, number_is}
use Rattle.follow.specs.declared.Sizes.{Sizes}
use Rattle.queue.specs.Inner.{def_at}
use Rattle.follow.specs.Inner.{Walkable, Ready}

-- ---- after the preparation

has_number : (o : Option ℕ) → is_none o ≡ false → 0 < def_number o
has_number none e = absurd (true≢false e)
has_number (some r) e = omega arith

module _ (insts operands crossings addresses ends : List ℕ) (lay : Lay) (z : Sizes) (o : ℕ) {w₀ w : List ℕ}
    (r : Readied (code_of z.v insts operands crossings addresses ends) lay o z.locals z.edges w₀ w)
    (rows : z.insts ≡ inst_count insts) (laid : Laid lay z.v z.insts o z.locals (address_count addresses) (length w₀))
    (few : z.v ≤ 65535) (few_insts : z.insts ≤ 65536) (found : (a : ℕ) → a < address_count addresses → get_or addresses (mention_width * a) 0 < z.insts) where
  number : (i : ℕ) → i < z.insts → def_at lay w i ≡ def_number (def_of z.v (inst_at (insts_of insts operands) i))
  number i h = r.prepared.tables.defined i (let n = insts_length insts operands in omega arith)

  pub made_ready : Ready lay z insts addresses w
  made_ready = record {
    tables = record {
      operands = o;
      addresses = address_count addresses;
      few = r.few;
      laid = rw r.kept.len laid;
      registers = few;
      few_insts = few_insts;
      def_le = λ i h. let e = number i h in let d = def_small z.v (inst_at (insts_of insts operands) i) in omega arith;
      rising = r.prepared.edges.sorted.rising;
      keys = λ k h.
          let (q, j, f, e) = r.prepared.edges.sorted.only k h in
          let l : j < z.insts = (let n = insts_length insts operands in let g = f.listed in omega arith) in
          let d = number j l in
          let g = has_number (def_of z.v (inst_at (insts_of insts operands) j)) f.has_def in
          (q, j, f.numbered, l, omega arith, e);
      first = λ i q h e. r.prepared.edges.first i q (let n = insts_length insts operands in omega arith) (number_is _ q (sym (number i h) ∙ e));
    };
    unseen = record { unseen = r.prepared.unseen };
    chain = λ l h. record {
      rows = rows;
      here = h;
      fits = laid.nexts_fits;
      found = found;
      head = r.prepared.chains.head l h ∙ ap (latest (local_of (mentions_of addresses)) l) (mentions_count addresses)
          ∙ sym (latest_same (row_local addresses) (local_of (mentions_of addresses)) l (address_count addresses) (local_is addresses));
      next = λ a g e.
          let i : row_local addresses a ≡ local_of (mentions_of addresses) a = local_is addresses a g in
          r.prepared.chains.next a (let n = mentions_count addresses in omega arith) (omega arith)
          ∙ ap (λ (x : ℕ). latest (local_of (mentions_of addresses)) x a) (sym i ∙ e)
          ∙ sym (latest_same (row_local addresses) (local_of (mentions_of addresses)) l a (λ b y. local_is addresses b (omega arith)));
    };
  }

-- ---- while the tables stand

-- from lo up to hi nothing has changed
pub record Stays (lo hi : ℕ) (w₀ w : List ℕ) : Type 0 where
  pub len : length w ≡ length w₀
  pub same : (i : ℕ) → lo ≤ i → i < hi → get_or w i 0 ≡ get_or w₀ i 0

module _ {lay : Lay} {z : Sizes} {w₀ w : List ℕ} (t : Walkable lay z w₀) (k : Stays lay.escapes lay.queue w₀ w) where
  same_at : (i : ℕ) → lay.escapes ≤ i → i < lay.queue → get_or w i 0 ≡ get_or w₀ i 0
  same_at i a h = k.same i a h

  edge_at : (x : ℕ) → x < z.edges → get_or w (lay.edges + x) 0 ≡ get_or w₀ (lay.edges + x) 0
  edge_at x h = same_at (lay.edges + x) (let l = t.laid in omega arith) (let l = t.laid in let f = t.few in omega arith)

  def_at_lem : (i : ℕ) → i < z.insts → def_at lay w i ≡ def_at lay w₀ i
  def_at_lem i h = same_at (lay.defs + i) (let l = t.laid in omega arith) (let l = t.laid in omega arith)

  first_at : (i : ℕ) → i < z.insts → get_or w (lay.firsts + i) 0 ≡ get_or w₀ (lay.firsts + i) 0
  first_at i h = same_at (lay.firsts + i) (let l = t.laid in omega arith) (let l = t.laid in omega arith)

  tables_kept : Walkable lay z w
  tables_kept = record {
    operands = t.operands;
    addresses = t.addresses;
    few = t.few;
    laid = rw k.len t.laid;
    registers = t.registers;
    few_insts = t.few_insts;
    def_le = λ i h. let e = def_at_lem i h in let q = t.def_le i h in omega arith;
    rising = λ x h. let a = edge_at x (omega arith) in let b = edge_at (x + 1) h in let r = t.rising x h in omega arith;
    keys = λ x h.
        let (q, j, a, b, c, d) = t.keys x h in
        let e = def_at_lem j b in
        (q, j, a, b, omega arith, edge_at x h ∙ d);
    first = λ i q h e.
        let f = first_at i h in
        rw f (splits_same (t.first i q h (sym (def_at_lem i h) ∙ e)) (λ x l. ap (λ (y : ℕ). ltb y (q * 2 ^ 32)) (edge_at x l)));
  }

  pub prepared_stays : (C : Code) → C.numbered ≡ z.v → length C.insts ≡ z.insts → lay.nexts + length C.addresses ≤ lay.ended
      → Prepared C lay w₀ z.locals z.edges → Prepared C lay w z.locals z.edges
  prepared_stays C ev ei ea p = record {
    tables = record {
      escaping = λ r h. same_bit w₀ w lay.escapes z.v r (omega arith) (λ x a b. same_at x (let l = t.laid in omega arith) (let l = t.laid in omega arith)) ∙ p.tables.escaping r h;
      sticking = λ r h. same_bit w₀ w lay.dead z.v r (omega arith) (λ x a b. same_at x (let l = t.laid in omega arith) (let l = t.laid in omega arith)) ∙ p.tables.sticking r h;
      defined = λ i h. def_at_lem i (omega arith) ∙ p.tables.defined i h;
    };
    edges = record {
      sorted = record {
        rising = tables_kept.rising;
        only = λ x h.
            let (q, j, f, e) = p.edges.sorted.only x h in
            (q, j, f, edge_at x h ∙ e);
        has = λ q j f.
            let (x, h, e) = p.edges.sorted.has q j f in
            (x, h, edge_at x h ∙ e);
      };
      first = λ i q h e.
          let f = first_at i (omega arith) in
          rw f (splits_same (p.edges.first i q h e) (λ x l. ap (λ (y : ℕ). ltb y (q * 2 ^ 32)) (edge_at x l)));
    };
    chains = record {
      head = λ m h. same_at (lay.heads + m) (let l = t.laid in omega arith) (let l = t.laid in omega arith) ∙ p.chains.head m h;
      next = λ a h g. same_at (lay.nexts + a) (let l = t.laid in omega arith) (let l = t.laid in omega arith) ∙ p.chains.next a h g;
    };
    ends = record { ended = λ m h. ap (λ (x : ℕ). eqb x 0) (same_at (lay.ended + m) (let l = t.laid in omega arith) (let l = t.laid in omega arith)) ∙ p.ends.ended m h };
    unseen = λ x h. same_at (lay.seen + x) (let l = t.laid in omega arith) (let l = t.laid in let y : row_words C.numbered ≡ row_words z.v = ap row_words ev in omega arith) ∙ p.unseen x h;
  }

pub ready_stays : {lay : Lay} {z : Sizes} {insts addresses : List ℕ} {w₀ w : List ℕ} → Ready lay z insts addresses w₀ → Stays lay.escapes lay.queue w₀ w → Ready lay z insts addresses w
ready_stays {lay} {z} {insts} {addresses} {w₀} {w} r k = record {
  tables = tables_kept r.tables k;
  unseen = record { unseen = λ x h. k.same (lay.seen + x) (let l = r.tables.laid in omega arith) (let l = r.tables.laid in omega arith) ∙ r.unseen.unseen x h };
  chain = λ l h. let c = r.chain l h in record {
    rows = c.rows;
    here = c.here;
    fits = c.fits;
    found = c.found;
    head = k.same (lay.heads + l) (let q = r.tables.laid in omega arith) (let q = r.tables.laid in omega arith) ∙ c.head;
    next = λ a g e. k.same (lay.nexts + a) (let q = r.tables.laid in omega arith) (let q = r.tables.laid in let f = c.fits in omega arith) ∙ c.next a g e;
  };
}

-- ---- while only words from the queue on change

within_stays : {lo q hi : ℕ} {w₀ w : List ℕ} → Within q hi w₀ w → Stays lo q w₀ w
within_stays k = record { len = k.len; same = λ i a h. k.below i h }

pub prepared_kept : {lay : Lay} {z : Sizes} {hi : ℕ} {w₀ w : List ℕ} (t : Walkable lay z w₀) (k : Within lay.queue hi w₀ w) (C : Code) → C.numbered ≡ z.v → length C.insts ≡ z.insts → lay.nexts + length C.addresses ≤ lay.ended
    → Prepared C lay w₀ z.locals z.edges → Prepared C lay w z.locals z.edges
prepared_kept t k = prepared_stays t (within_stays k)

pub ready_kept : {lay : Lay} {z : Sizes} {insts addresses : List ℕ} {hi : ℕ} {w₀ w : List ℕ} → Ready lay z insts addresses w₀ → Within lay.queue hi w₀ w → Ready lay z insts addresses w
ready_kept r k = ready_stays r (within_stays k)
