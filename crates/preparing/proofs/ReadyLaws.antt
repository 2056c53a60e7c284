-- The preparation put together: rows lent are the records of the definitions.
use Prim.Native.Nat.{ℕ, ◌+◌, ◌*◌, ◌/◌, ◌%◌, ◌^◌, ◌≤◌, ◌<◌}
use native.Mathlib.Omega.{arith}
use native.Mathlib.Nat.{add-zero}
use mathlib.Core.Path.{◌≡◌, refl, sym, ap, ◌∙◌}
use mathlib.Core.Logic.{◌⊎◌, inl, inr}
use mathlib.Core.Bool.{Bool, true, false, not, ◌&&◌, ◌||◌}
use mathlib.Core.List.{List, [], ◌∷◌, map, Memᴰ}
use lib.ListN.{length, get_or}
use lib.Dec.{eqb, ltb}
use Rattle.words.specs.Rows.{tabulate}
use Rattle.words.specs.Sort.{sort_of}
use Rattle.words.specs.Inner.{Region, part, mention_inst, mention_local}
use Rattle.words.specs.Regions.{row_words}
use Rattle.words.specs.Widths.{inst_count, operand_count, mention_width, address_count, end_count}
use Rattle.words.proofs.RowLaws.{tabulate_get_d}
use Rattle.words.proofs.SortLaws.{sorted_rising, mem_sort, mem_of_sort, length_sort}
use Rattle.words.proofs.RegionLaws.{length_part, get_d_part}
use Rattle.bits.specs.Bits.{bit_of}
use Rattle.bits.proofs.DigitLaws.{bit_zero}
use Rattle.graph.proofs.Within.{within_trans, within_wider, region_within}
use Rattle.graph.proofs.Line.{mem_at, at_mem}
use Rattle.carrying.specs.Lists.{any, keep}
use Rattle.carrying.specs.Insts.{Inst, insts_of, inst_at, def_of, is_set}
use Rattle.carrying.specs.Carried.{Code, mentions_of, mentions, mentioned, is_none, ends_of, empty}
use Rattle.insts.specs.Rows.{AddsUp}
use Rattle.insts.proofs.DealtLaws.{insts_length, placed_is}
use Rattle.reach.specs.declared.Lay.{Lay}
use Rattle.operands.specs.Inner.{def_number}
use Rattle.reach.specs.Prepared.{code_of}
use Rattle.reach.specs.Inner.{Laid, latest, local_of, lea_reader, Tables, Sorted, Registered, Readied, Marked, stray_reader, Scanning, Blank, row_local}
use Rattle.chains.specs.Inner.{Linked}
use Rattle.preparing.specs.Inner.{Indexed, placed_end, Ends, Cleared, Emptied, ByLocal}
use Rattle.reach.proofs.UseLaws.{Some}
use Rattle.reach.proofs.StepLaws.{splits_same}
use Rattle.reach.proofs.ReadyLaws.{def_small, latest_same, local_is, mentions_count, empty_keep, any_keep, any_rows}
use Rattle.reach.proofs.ScanLaws.{same_bit}

-- ---- zeros

pub cleared_two : (lay : Lay) (words : ℕ) {w₀ w₁ w : List ℕ} → lay.escapes + words ≤ lay.dead
    → Region w₀ w₁ lay.escapes words (λ _. 0) → Region w₁ w lay.dead words (λ _. 0) → Cleared lay words w₀ w
cleared_two lay words h a b = record {
  kept = within_trans (within_wider lay.escapes (lay.dead + words) (omega arith) (omega arith) (region_within a))
      (within_wider lay.escapes (lay.dead + words) (omega arith) (omega arith) (region_within b));
  first = λ k l. b.before (lay.escapes + k) (omega arith) ∙ a.inside (lay.escapes + k) k refl l;
  second = λ k l. b.inside (lay.dead + k) k refl l;
}

pub cleared_blank : (lay : Lay) (v words : ℕ) {w₀ w : List ℕ} → words ≡ row_words v → Cleared lay words w₀ w → Blank v lay w
cleared_blank lay v words e c = record {
  escaping = λ r l. ap (λ (y : ℕ). bit_of y (r % 64)) (c.first (r / 64) (omega arith)) ∙ bit_zero (r % 64);
  sticking = λ r l. ap (λ (y : ℕ). bit_of y (r % 64)) (c.second (r / 64) (omega arith)) ∙ bit_zero (r % 64);
}

pub emptied_three : (lay : Lay) (words l : ℕ) {w₀ w₁ w₂ w : List ℕ} → lay.seen + words ≤ lay.heads → lay.heads + l ≤ lay.ended
    → Region w₀ w₁ lay.seen words (λ _. 0) → Region w₁ w₂ lay.heads l (λ _. 0) → Region w₂ w lay.ended l (λ _. 0) → Emptied lay words l w₀ w
emptied_three lay words l {w₀} {w₁} {w₂} {w} h g a b c = record {
  len = c.len ∙ b.len ∙ a.len;
  seen = λ k q. c.before (lay.seen + k) (omega arith) ∙ b.before (lay.seen + k) (omega arith) ∙ a.inside (lay.seen + k) k refl q;
  heads = λ m q. c.before (lay.heads + m) (omega arith) ∙ b.inside (lay.heads + m) m refl q;
  ended = λ m q. c.inside (lay.ended + m) m refl q;
  outside = out;
}
  where
    out : (k : ℕ) → (k < lay.seen) ⊎ (lay.seen + words ≤ k) → (k < lay.heads) ⊎ (lay.ended + l ≤ k) → get_or w k 0 ≡ get_or w₀ k 0
    out k (inl p) (inl q) = c.before k (omega arith) ∙ b.before k (omega arith) ∙ a.before k p
    out k (inr p) (inl q) = c.before k (omega arith) ∙ b.before k (omega arith) ∙ a.after k p
    out k (inl p) (inr q) = c.after k q ∙ b.after k (omega arith) ∙ a.before k p
    out k (inr p) (inr q) = c.after k q ∙ b.after k (omega arith) ∙ a.after k p

-- ---- the registers

or_comm : (a b : Bool) → (a || b) ≡ (b || a)
or_comm true true = refl
or_comm true false = refl
or_comm false true = refl
or_comm false false = refl

module _ (v : ℕ) (insts operands crossings : List ℕ) (lay : Lay) where
  abbrev Is : List Inst
  Is = insts_of insts operands

  abbrev Half : Code
  Half = code_of v insts operands crossings [] []

  all_of : tabulate (inst_count insts) (inst_at Is) ≡ Is
  all_of = ap (λ (n : ℕ). tabulate n (inst_at Is)) (sym (insts_length insts operands)) ∙ tabulate_get_d Is _

  module _ (adds : AddsUp insts operands) (fits₁ : lay.escapes + row_words v ≤ lay.dead) (fits₂ : lay.dead + row_words v ≤ lay.defs)
      (fits₃ : lay.defs + inst_count insts ≤ lay.firsts) (fits₄ : lay.firsts + inst_count insts ≤ lay.edges) (fits₅ : lay.edges + operand_count operands ≤ lay.heads) where
    module _ {w₀ w₁ w₂ w₃ : List ℕ} {n words : ℕ} (ew : words ≡ row_words v) (room : lay.heads ≤ length w₀) (a : Cleared lay words w₀ w₁)
        (b : Scanning v Is insts lay w₁ w₂ (inst_count insts) n) (c : Marked w₂ w₃ lay.escapes v (λ r. any (eqb r) crossings)) where
      pub edges_few : n ≤ operand_count operands
      edges_few = let q = b.few in omega arith

      pub defs_small : v ≤ 65535 → (i : ℕ) → i < inst_count insts → get_or w₃ (lay.defs + i) 0 ≤ 65536
      defs_small h i l =
          let e = c.kept.past (lay.defs + i) (omega arith) in
          let d = b.defined i l in
          let z = def_small v (inst_at Is i) in
          omega arith

      pub lengths : length w₃ ≡ length w₀
      lengths = c.kept.len ∙ b.kept.len ∙ a.kept.len

      pub index_room : (lay.defs + inst_count insts ≤ lay.firsts) × (lay.firsts + inst_count insts ≤ lay.edges) × (lay.edges + n ≤ length w₃)
      index_room = (fits₃, fits₄, omega (arith, lengths, edges_few))

      module _ {w : List ℕ} (d : Indexed lay (inst_count insts) n w₃ w) where
        same_low : (k : ℕ) → k < lay.firsts → get_or w k 0 ≡ get_or w₃ k 0
        same_low k h = d.kept.below k h

        tables : Tables Half lay w
        tables = record {
          escaping = λ r l.
              same_bit w₃ w lay.escapes v r l (λ k p q. same_low k (omega arith)) ∙ c.bits r l
              ∙ ap (λ (t : Bool). t || any (eqb r) crossings) (b.escaping r l ∙ ap (any (λ x. stray_reader x r)) all_of) ∙ or_comm (any (λ x. stray_reader x r) Is) (any (eqb r) crossings);
          sticking = λ r l.
              same_bit w₃ w lay.dead v r l (λ k p q. same_low k (omega arith)) ∙ same_bit w₂ w₃ lay.dead v r l (λ k p q. c.kept.past k (omega arith))
              ∙ b.sticking r l ∙ ap (any (λ x. lea_reader x r && is_none (def_of v x))) all_of;
          defined = λ i l.
              let h : i < inst_count insts = rw (insts_length insts operands) at l in
              same_low (lay.defs + i) (omega arith) ∙ c.kept.past (lay.defs + i) (omega arith) ∙ b.defined i h;
        }

        -- the edges before they were put in order
        old : (k : ℕ) → get_or w₃ (lay.edges + k) 0 ≡ get_or w₂ (lay.edges + k) 0
        old k = c.kept.past (lay.edges + k) (omega arith)

        inside : lay.edges + n ≤ length w₃
        inside = let l = lengths in let f = edges_few in omega arith

        sorted : Sorted Half lay w n
        sorted = record {
          rising = sorted_rising (part lay.edges n w₃) w lay.edges n (let q = length_part lay.edges n w₃ inside in omega arith) d.edges;
          only = λ k l.
              let p : Memᴰ (get_or (sort_of (part lay.edges n w₃)) k 0) (part lay.edges n w₃) = mem_of_sort (part lay.edges n w₃)
              (mem_at (sort_of (part lay.edges n w₃)) k 0 (rw (length_sort (part lay.edges n w₃), length_part lay.edges n w₃ inside) l)) in
              let (j, h, z) = at_mem (part lay.edges n w₃) (get_or (sort_of (part lay.edges n w₃)) k 0) 0 p in
              let g : j < n = rw (length_part lay.edges n w₃ inside) at h in
              let (q, x, _, f, y) = b.only j g in
              (q, x, f, d.edges k l ∙ sym z ∙ get_d_part lay.edges n w₃ j g ∙ old j ∙ y);
          has = λ q j f.
              let (k, l, y) = b.has q j (rw (insts_length insts operands) at f.listed) f in
              let p : Memᴰ (get_or (part lay.edges n w₃) k 0) (sort_of (part lay.edges n w₃)) = mem_sort (part lay.edges n w₃)
              (mem_at (part lay.edges n w₃) k 0 (rw (length_part lay.edges n w₃ inside) l)) in
              let (i, h, z) = at_mem (sort_of (part lay.edges n w₃)) (get_or (part lay.edges n w₃) k 0) 0 p in
              let g : i < n = rw (length_sort (part lay.edges n w₃), length_part lay.edges n w₃ inside) at h in
              (i, g, d.edges i g ∙ z ∙ get_d_part lay.edges n w₃ k l ∙ old k ∙ y);
        }

        pub registered : Registered Half lay (operand_count operands) n w₀ w
        registered = record {
          kept = within_trans (within_wider lay.escapes lay.heads (omega arith) (omega arith) a.kept)
              (within_trans b.kept (within_trans (within_wider lay.escapes lay.heads (omega arith) (omega arith) c.kept)
              (within_wider lay.escapes lay.heads (omega arith) (let f = edges_few in omega arith) d.kept)));
          few = edges_few;
          tables = tables;
          edges = record {
            sorted = sorted;
            first = λ i q l e.
                let h : i < inst_count insts = rw (insts_length insts operands) at l in
                d.first i q h (c.kept.past (lay.defs + i) (omega arith) ∙ b.defined i h ∙ ap def_number e ∙ omega arith);
          };
        }

-- ---- the locals

pub by_local : (lay : Lay) (words : ℕ) (insts addresses ends : List ℕ) (l : ℕ) {w₀ w₁ w₂ w : List ℕ}
    → lay.seen + words ≤ lay.heads → lay.heads + l ≤ lay.nexts → lay.nexts + address_count addresses ≤ lay.ended
    → Emptied lay words l w₀ w₁ → Linked (row_local addresses) (address_count addresses) l lay.heads lay.nexts w₁ w₂ → Ends lay insts ends l (end_count ends) w₂ w
    → ByLocal lay words insts addresses ends l w₀ w
by_local lay words insts addresses ends l {w₀} {w₁} {w₂} {w} f g h a b c = record {
  len = c.kept.len ∙ b.len ∙ a.len;
  outside = λ k p q. out k p q;
  seen = λ k q. c.kept.below (lay.seen + k) (omega arith) ∙ b.outside (lay.seen + k) (inl (omega arith)) (inl (omega arith)) ∙ a.seen k q;
  head = λ m q. c.kept.below (lay.heads + m) (omega arith) ∙ b.chain.head m q;
  next = λ k q r. c.kept.below (lay.nexts + k) (omega arith) ∙ b.chain.next k q r;
  ended = c.ended;
}
  where
    out : (k : ℕ) → (k < lay.seen) ⊎ (lay.seen + words ≤ k) → (k < lay.heads) ⊎ (lay.ended + l ≤ k) → get_or w k 0 ≡ get_or w₀ k 0
    out k p (inl q) = c.kept.below k (omega arith) ∙ b.outside k (inl q) (inl (omega arith)) ∙ a.outside k p (inl q)
    out k p (inr q) = c.kept.past k q ∙ b.outside k (inr (omega arith)) (inr (omega arith)) ∙ a.outside k p (inr q)

empty_map : {A B : Type 0} (f : A → B) (l : List A) → empty (map f l) ≡ empty l
empty_map f [] = refl
empty_map f (a ∷ l) = refl

module _ (v : ℕ) (insts operands crossings addresses ends : List ℕ) (lay : Lay) (l : ℕ)
    (found : (k : ℕ) → k < end_count ends → get_or ends (mention_width * k) 0 < inst_count insts) where
  abbrev C : Code
  C = code_of v insts operands crossings addresses ends

  ends_empty : (m : ℕ) → empty (ends_of C m) ≡ not (Some (end_count ends) (placed_end insts ends m))
  ends_empty m =
      empty_map (λ x. (mentioned C x).early) (keep (λ x. is_set (mentioned C x).placed) (mentions C.ends m))
      ∙ empty_keep (λ x. is_set (mentioned C x).placed) (mentions C.ends m)
      ∙ ap not (any_keep (λ x. is_set (mentioned C x).placed) (λ x. eqb x.local m) C.ends
      ∙ any_rows (λ x. eqb x.local m && is_set (mentioned C x).placed) ends (placed_end insts ends m) row)
    where
      row : (k : ℕ) → k < end_count ends → eqb (mention_local ends k) m && is_set (inst_at (insts_of insts operands) (mention_inst ends k)).placed ≡ placed_end insts ends m k
      row k h =
          let z : mention_inst ends k ≡ get_or ends (mention_width * k) 0 = ap (λ (i : ℕ). get_or ends i 0) (add-zero (mention_width * k)) in
          ap (λ (x : ℕ). eqb (mention_local ends k) m && is_set (inst_at (insts_of insts operands) x).placed) z
          ∙ ap (λ (x : ℕ). eqb (mention_local ends k) m && is_set x) (placed_is insts operands (get_or ends (mention_width * k) 0) (found k h))

  pub readied : {w₀ w₁ w : List ℕ} {words o n : ℕ} → words ≡ row_words v → Laid lay v (inst_count insts) o l (address_count addresses) (length w₀)
      → Registered (code_of v insts operands crossings [] []) lay o n w₀ w₁ → ByLocal lay words insts addresses ends l w₁ w → Readied C lay o l n w₀ w
  readied {w₀} {w₁} {w} {words} {o} {n} e d a b = record {
    kept = record {
      len = b.len ∙ a.kept.len;
      below = λ k h. b.outside k (inl (omega arith)) (inl (omega arith)) ∙ a.kept.below k h;
      past = λ k h. b.outside k (inr (omega arith)) (inr (omega arith)) ∙ a.kept.past k (omega arith);
    };
    few = a.few;
    prepared = record {
      tables = record {
        escaping = λ r h. same_bit w₁ w lay.escapes v r h (λ k p q. b.outside k (inl (omega arith)) (inl (omega arith))) ∙ a.tables.escaping r h;
        sticking = λ r h. same_bit w₁ w lay.dead v r h (λ k p q. b.outside k (inl (omega arith)) (inl (omega arith))) ∙ a.tables.sticking r h;
        defined = λ i h.
            let g : i < inst_count insts = rw (insts_length insts operands) at h in
            b.outside (lay.defs + i) (inr (omega arith)) (inl (omega arith)) ∙ a.tables.defined i h;
      };
      edges = record {
        sorted = record {
          rising = λ k h.
              let x = edge k (omega arith) in
              let y = edge (k + 1) h in
              let z = a.edges.sorted.rising k h in
              omega arith;
          only = λ k h.
              let (q, j, f, z) = a.edges.sorted.only k h in
              (q, j, f, edge k h ∙ z);
          has = λ q j f.
              let (k, h, z) = a.edges.sorted.has q j f in
              (k, h, edge k h ∙ z);
        };
        first = λ i q h f.
            let g : i < inst_count insts = rw (insts_length insts operands) at h in
            let z : get_or w (lay.firsts + i) 0 ≡ get_or w₁ (lay.firsts + i) 0 = b.outside (lay.firsts + i) (inr (omega arith)) (inl (omega arith)) in
            rw z (splits_same (a.edges.first i q h f) (λ k p. ap (λ (x : ℕ). ltb x (q * 2 ^ 32)) (edge k p)));
      };
      chains = record {
        head = λ m h. b.head m h ∙ latest_same (row_local addresses) (local_of (mentions_of addresses)) m (address_count addresses) (local_is addresses)
            ∙ ap (latest (local_of (mentions_of addresses)) m) (sym (mentions_count addresses));
        next = λ x h g.
            let p : x < address_count addresses = rw (mentions_count addresses) at h in
            let z = local_is addresses x p in
            b.next x p (omega arith) ∙ latest_same (row_local addresses) (local_of (mentions_of addresses)) (row_local addresses x) x (λ y q. local_is addresses y (omega arith))
            ∙ ap (λ (y : ℕ). latest (local_of (mentions_of addresses)) y x) z;
      };
      ends = record { ended = λ m h. b.ended m h ∙ sym (ends_empty m) };
      unseen = λ k h. b.seen k (omega arith);
    };
  }
    where
      edge : (k : ℕ) → k < n → get_or w (lay.edges + k) 0 ≡ get_or w₁ (lay.edges + k) 0
      edge k h = b.outside (lay.edges + k) (inr (omega arith)) (inl (let f = a.few in omega arith))
