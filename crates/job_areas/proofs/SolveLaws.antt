-- All items of a job: the slots' phase stands behind the locals', and both together are the areas of document 01.
use Prim.Native.Nat.{ℕ, ◌+◌, ◌-◌, ◌*◌, ◌/◌, ◌^◌, ◌≤◌, ◌<◌}
use native.Mathlib.Nat.{mul-le-mul_left}
use native.Mathlib.Omega.{arith}
use mathlib.Core.Path.{◌≡◌, refl, sym, ap, subst, ◌∙◌}
use mathlib.Core.Bool.{Bool, cond}
use mathlib.Core.List.{List}
use lib.ListN.{length, get_or}
use lib.Dec.{leb}
use borrow.Author.Tests.{lt-ltb, le-ltb, leb-false}
use Rattle.words.specs.Widths.{local_width, local_count, piece_count, range_width, slot_count}
use Rattle.words.proofs.RowLaws.{length_records}
use Rattle.refusals.specs.declared.Refusal.TheVariants.{Piece as PieceWord}
use Rattle.refusals.proofs.Laws.{scan_fine}
use Rattle.graph.proofs.Within.{within_wider}
use Rattle.graph.specs.Line.{blocks_of}
use Rattle.graph.proofs.Line.{at_mem}
use Rattle.carrying.specs.Carried.{pieces_of}
use Rattle.areas.specs.Slots.{Assigned, assigned_of, moves_of, spilled, slot_area}
use Rattle.spill_checks.proofs.OperandLaws.{moved_whatever}
use Rattle.areas.specs.Job.{Job, local_area, slot_area_in, item_area}
use Rattle.live.specs.Inner.{PutInOrder}
use Rattle.slot_spots.specs.declared.Places.{Places}
use Rattle.slot_spots.specs.Inner.{held_word}
use Rattle.area_measure.specs.Inner.Locals.{word_of, ListedBy}
use Rattle.slot_measure.specs.Inner.{most_for}
use Rattle.job_space.specs.declared.Sizes.{Sizes}
use Rattle.job_space.specs.Space.{sizes_of, space_of}
use Rattle.job_checks.specs.Job.{job_of}
use Rattle.job_layout.specs.declared.Regions.{Regions}
use Rattle.job_layout.specs.Inner.{Placed, SlotsFrom, most_of_local, most_of_slot}
use Rattle.job_layout.proofs.FitLaws.{slots_in_order, slots_laid, slots_within}
use Rattle.area_tables.specs.Inner.{listing}
use Rattle.job_areas.specs.Inner.{SlotsAsked, SlotsIn, Lent, LocalsDone, SlotsDue, SlotsDone, Solved}
use Rattle.job_areas.proofs.KeptLaws.{held_bound}
use Rattle.job_space.specs.Rows.{Rows}

-- ---- the slots' phase

module _ (points : ℕ) (blocks insts pieces assigned moves : List ℕ) (z : Sizes) (r : Regions) (total : ℕ) {w₀ : List ℕ} (D : SlotsDue points blocks insts pieces assigned moves z r total w₀) {p : Places}
    (Q : SlotsFrom z r.free p) where
  ranges_few : total + p.slots * most_for moves pieces < 2 ^ 32
  ranges_few =
      let S = D.small in
      let a : z.locals * most_of_local z ≤ z.locals * 397312 = mul-le-mul_left z.locals (omega (arith, S.few_pieces, S.few_addresses, S.few_blocks)) in
      let b : z.slots * most_for moves pieces ≤ z.slots * 196609 = mul-le-mul_left z.slots (omega (arith, D.pieces_are, D.moves_are, S.few_pieces, S.few_moves)) in
      let e : p.slots * most_for moves pieces ≡ z.slots * most_for moves pieces = ap (λ (k : ℕ). k * most_for moves pieces) Q.slots_are in
      omega (arith, a, b, e, D.most, S.few_locals, S.few_slots)

  room : p.to + most_of_slot z ≤ space_of z
  room = slots_within z r p D.placed Q

  pub slots_asked : SlotsAsked blocks insts moves pieces assigned p r.keys r.free (listing z.room r.items) z.locals total w₀
  slots_asked =
      let o = slots_in_order D.placed Q in
      let L = slots_laid D.placed Q w₀ (omega (arith, room, D.space)) in
      record {
        sound = D.sound;
        fine = D.fine;
        registers = D.registers;
        order = D.order;
        few_pieces = omega (arith, D.pieces_are, D.small.few_pieces);
        few_moves = omega (arith, D.moves_are, D.small.few_moves);
        areas_fit = omega (arith, D.placed.items_at);
        items_fit = o.items_fit;
        keys_fit = omega (arith, o.keys_fit, D.pieces_are);
        held_fits = o.held_fits;
        laid = record {
          table_fits = omega (arith, L.table_fits, D.blocks_are);
          heads_fit = L.heads_fit;
          nexts_fit = omega (arith, L.nexts_fit, D.moves_are);
          fits = omega (arith, L.fits, D.moves_are);
        };
        fits = omega (arith, room, D.space, D.pieces_are, D.moves_are);
        few = ranges_few;
      }

  pub slots_done : {w : List ℕ} {n : ℕ} → SlotsIn points blocks insts moves pieces assigned p r.keys r.free (listing z.room r.items) z.locals total w₀ w n
      → SlotsDone points blocks insts pieces assigned moves z r total w₀ w n
  slots_done {w} {n} I = record {
    kept = within_wider 0 (space_of z) (omega arith) (omega (arith, room, D.pieces_are, D.moves_are)) I.kept;
    listed = λ A B E. subst (λ (k : ℕ). ListedBy word_of (listing z.room r.items) A (z.locals + k) n w) Q.slots_are (I.listed A (λ s h. B s (omega (arith, Q.slots_are))) E);
  }

-- ---- both

-- an item is a local, or else a slot
pub local_item : (J : Job) (i : ℕ) → i < length J.locals → item_area J i ≡ local_area J i
local_item J i h = ap (λ (t : Bool). cond t (local_area J i) (slot_area_in J (i - length J.locals))) (lt-ltb i (length J.locals) h)

pub slot_item : (J : Job) (s : ℕ) → item_area J (length J.locals + s) ≡ slot_area_in J s
slot_item J s =
    ap (λ (t : Bool). cond t (local_area J (length J.locals + s)) (slot_area_in J (length J.locals + s - length J.locals))) (le-ltb (length J.locals + s) (length J.locals) (omega arith))
    ∙ ap (slot_area_in J) (omega arith)

pub lent_after : {R : Rows} {areas : ℕ} {w₀ w : List ℕ}
    → Lent R areas w₀ → length w ≡ length w₀ → Lent R areas w
lent_after N e = record { passed = N.passed; space = omega (arith, N.space) }

module _ (R : Rows) (areas : ℕ) (r : Regions) {w₀ w₁ : List ℕ}
    (N : Lent R areas w₀)
    (P : Placed (sizes_of R areas) r) (O : PutInOrder R.pieces r.keys w₀ w₁) where
  abbrev z : Sizes
  z = sizes_of R areas

  abbrev J : Job
  J = job_of R

  registers_small : (s : ℕ) → held_word (spilled (assigned_of R.assigned) s) ≤ 4294967296
  registers_small s = held_bound 4294967296 (assigned_of R.assigned) s
      (λ a m.
      let (k, h, e) = at_mem (assigned_of R.assigned) a (record { register = 0; slot = 0 }) m in
      let f = scan_fine PieceWord (λ n. leb R.v (get_or (assigned_of R.assigned) n (record { register = 0; slot = 0 })).register) (length (assigned_of R.assigned)) N.passed.assigned_fine k h in
      let g = leb-false R.v (get_or (assigned_of R.assigned) k (record { register = 0; slot = 0 })).register f in
      let x : (get_or (assigned_of R.assigned) k (record { register = 0; slot = 0 })).register ≡ a.register = ap (λ (b : Assigned). b.register) e in
      omega (arith, g, x, N.passed.small.registers))

  module _ {w₂ : List ℕ} {total : ℕ} (L : LocalsDone R areas r w₁ w₂ total) where
    pub slots_due : SlotsDue R.points R.blocks R.insts R.pieces R.assigned R.moves z r total w₂
    slots_due = record {
      small = N.passed.small;
      placed = P;
      blocks_are = refl;
      pieces_are = refl;
      moves_are = refl;
      sound = N.passed.sound;
      fine = N.passed.moves_fine;
      registers = registers_small;
      order = record { keys = λ k h. L.keys (r.keys + k) (omega arith) (omega (arith, P.free_at)) ∙ O.order.keys k h };
      space = omega (arith, N.space, O.kept.len, L.len);
      most = L.most;
    }

    pub solved : {w : List ℕ} {n : ℕ} → SlotsDone R.points R.blocks R.insts R.pieces R.assigned R.moves z r total w₂ w n
        → Solved R areas w₀ w n
    solved {w} {n} D = record {
      kept = record {
        len = D.kept.len ∙ L.len ∙ O.kept.len;
        below = λ i h. absurd (omega arith);
        past = λ i h. D.kept.past i h ∙ L.past i h ∙ O.kept.past i (omega (arith, keys_in));
      };
      listed =
          subst (λ (k : ℕ). ListedBy word_of (listing (areas / range_width) (areas / range_width)) (item_area J) (k + slot_count R.slots) n w) (sym many)
          (subst (λ (k : ℕ). ListedBy word_of (listing (areas / range_width) k) (item_area J) (local_count R.locals + slot_count R.slots) n w) P.items_at
          (D.listed (item_area J) (λ s h. subst (λ (k : ℕ). item_area J (k + s) ≡ slot_area_in J s) many (slot_item J s) ∙ sym (ap (slot_area (pieces_of R.pieces) (spilled (assigned_of R.assigned) s)) (moved_whatever (blocks_of R.blocks) R.insts R.operands R.points s (moves_of R.moves))))
          (L.listed (item_area J) (λ i h. local_item J i (omega (arith, many))))));
    }
      where
        many : length J.locals ≡ local_count R.locals
        many = length_records local_width (λ f. record { size = f 0; align = f 1 }) R.locals

        keys_in : r.keys + piece_count R.pieces ≤ space_of z
        keys_in = omega (arith, P.items_at, P.keys_at)

-- ---- the same, by counts that are the records'

module _ (R : Rows) (areas : ℕ) (r : Regions) {w₀ : List ℕ}
    (N : Lent R areas w₀) (y : Sizes) (by-sizes : y ≡ sizes_of R areas) (P : Placed y r) where
  placed : Placed (sizes_of R areas) r
  placed = subst (λ (x : Sizes). Placed x r) by-sizes P

  pub keys_room : r.keys + piece_count R.pieces ≤ length w₀
  keys_room = let p = placed in omega (arith, p.items_at, p.keys_at, N.space)

  module _ {w₁ : List ℕ} (O : PutInOrder R.pieces r.keys w₀ w₁) {w₂ : List ℕ} {total : ℕ} (L : LocalsDone R areas r w₁ w₂ total) where
    pub due_for : SlotsDue R.points R.blocks R.insts R.pieces R.assigned R.moves y r total w₂
    due_for = subst (λ (x : Sizes). SlotsDue R.points R.blocks R.insts R.pieces R.assigned R.moves x r total w₂) (sym by-sizes) (slots_due R areas r N placed O L)

    pub solved_for : {w : List ℕ} {n : ℕ} → SlotsDone R.points R.blocks R.insts R.pieces R.assigned R.moves y r total w₂ w n → Solved R areas w₀ w n
    solved_for {w} {n} D = solved R areas r N placed O L (subst (λ (x : Sizes). SlotsDone R.points R.blocks R.insts R.pieces R.assigned R.moves x r total w₂ w n) by-sizes D)
