-- What an instruction of the lent rows does with a register, and what the pass has after some of them.
use Prim.Native.Nat.{ℕ, suc, ◌+◌, ◌/◌, ◌%◌, ◌≤◌, ◌<◌}
use native.Mathlib.Omega.{arith}
use mathlib.Core.Path.{◌≡◌, refl, sym, ap, ◌∙◌, subst}
use mathlib.Core.Logic.{◌≢◌, ◌⊎◌, inl, inr}
use mathlib.Core.Bool.{Bool, true, false, not, ◌&&◌, ◌||◌, true≢false, or-false, and-false, and-true}
use mathlib.Core.Option.{Option, some, none}
use mathlib.Core.List.{List, [], ◌∷◌}
use lib.ListN.{length, get_or, set, length-set}
use lib.Seq.{get_or-set_same, get_or-set_other}
use borrow.Author.Tests.{not-true, not-false}
use Rattle.words.specs.Rows.{field}
use Rattle.words.specs.Widths.{inst_width, inst_count, inst_operands, operand_count}
use Rattle.words.specs.Inner.{inst_placed, inst_lea, inst_mem, inst_base, inst_index}
use Rattle.words.specs.Regions.{row_words}
use Rattle.words.proofs.Points.{cut, same}
use Rattle.bits.specs.Bits.{bit, bit_of}
use Rattle.graph.proofs.Within.{within_refl, within_trans, within_wider}
use Rattle.graph.proofs.Sums.{sum_next}
use Rattle.carrying.specs.Lists.{any}
use Rattle.carrying.specs.Insts.{Operand, Inst, inst_of, insts_of, inst_at, def_of, is_set, is_use, address_position, each_address}
use Rattle.carrying.specs.Carried.{is_none}
use Rattle.insts.specs.Counts.{offset}
use Rattle.insts.specs.Inner.{operands_from}
use Rattle.insts.specs.Rows.{AddsUp}
use Rattle.insts.proofs.DealtLaws.{any_none, any_next, inst_at_lem, insts_length, operands_within}
use Rattle.reach.specs.declared.Lay.{Lay}
use Rattle.operands.specs.Inner.{def_number, addressing}
use Rattle.reach.specs.Inner.{key, lea_reader, Hands, Marked, Linked, escapes_in, hands_in, row_of, stray_reader, Handing, Added, Scanning, Blank}

pub none_number : (o : Option ℕ) → def_number o ≡ 0 → is_none o ≡ true
none_number none e = refl
none_number (some r) e = absurd (omega arith)

pub number_is : (o : Option ℕ) (r : ℕ) → def_number o ≡ suc r → o ≡ some r
number_is none r e = absurd (omega arith)
number_is (some s) r e = let z : s ≡ r = omega arith in ap some z

pub some_number : (o : Option ℕ) → def_number o ≢ 0 → is_none o ≡ false
some_number none e = absurd (e refl)
some_number (some r) e = refl

-- bits of a row of which no word has changed
pub same_bit : (w₀ w : List ℕ) (row v r : ℕ) → r < v → ((k : ℕ) → row ≤ k → k < row + row_words v → get_or w k 0 ≡ get_or w₀ k 0) → bit w row r ≡ bit w₀ row r
same_bit w₀ w row v r h f = ap (λ (y : ℕ). bit_of y (r % 64)) (f (row + r / 64) (omega arith) (omega arith))

lea_no : (p l m a e : Bool) → (p && (l && m)) ≡ false → ((p && a) && ((m && e) && l)) ≡ false
lea_no false l m a e h = refl
lea_no true false m a e h = ap (λ (t : Bool). a && t) (and-false (m && e)) ∙ and-false a
lea_no true true false a e h = and-false a
lea_no true true true a e h = absurd (true≢false h)

lea_yes : (p l m a e : Bool) → (p && (l && m)) ≡ true → (a && e) ≡ ((p && a) && ((m && e) && l))
lea_yes false l m a e h = absurd (true≢false (sym h))
lea_yes true false m a e h = absurd (true≢false (sym h))
lea_yes true true false a e h = absurd (true≢false (sym h))
lea_yes true true true a e h = ap (λ (t : Bool). a && t) (sym (and-true e))

-- ---- the rows' instructions

each_row : (f : ℕ → ℕ) (ps : List Operand) (r p : ℕ) (os : List Operand) → each_address (inst_of f ps) r p os ≡ each_address (addressing (f 6) (f 7)) r p os
unfolding each_address
each_row f ps r p [] = refl
each_row f ps r p (o ∷ os) = ap (λ (t : Bool). (not (is_use r o) || address_position (addressing (f 6) (f 7)) p) && t) (each_row f ps r (suc p) os)

module _ (insts operands : List ℕ) (i from : ℕ) where
  pub unplaced_stray : not (is_set (inst_placed insts i)) ≡ true → (r : ℕ) → stray_reader (row_of insts operands i from) r ≡ false
  unplaced_stray e r = rw (not-true (is_set (inst_placed insts i)) e)

  pub placed_stray : not (is_set (inst_placed insts i)) ≡ false → (n : ℕ) → n ≡ inst_operands insts i → (r : ℕ)
      → escapes_in (inst_mem insts i) (inst_base insts i) (inst_index insts i) (operands_from operands from n) r ≡ stray_reader (row_of insts operands i from) r
  placed_stray e n q r =
      ap (λ (k : ℕ). escapes_in (inst_mem insts i) (inst_base insts i) (inst_index insts i) (operands_from operands from k) r) q
      ∙ rw (not-false (is_set (inst_placed insts i)) e) (ap (λ (t : Bool). any (is_use r) (operands_from operands from (inst_operands insts i)) && not (is_set (inst_mem insts i) && t))
      (sym (each_row (field inst_width insts i) (operands_from operands from (inst_operands insts i)) r 0 (operands_from operands from (inst_operands insts i)))))

  pub no_lea : (is_set (inst_placed insts i) && (is_set (inst_lea insts i) && is_set (inst_mem insts i))) ≡ false → (r : ℕ) → lea_reader (row_of insts operands i from) r ≡ false
  no_lea e r = lea_no (is_set (inst_placed insts i)) (is_set (inst_lea insts i)) (is_set (inst_mem insts i)) _ _ e

  pub placed_lea : (is_set (inst_placed insts i) && (is_set (inst_lea insts i) && is_set (inst_mem insts i))) ≡ true → (n : ℕ) → n ≡ inst_operands insts i → (r : ℕ)
      → hands_in (inst_base insts i) (inst_index insts i) (operands_from operands from n) r ≡ lea_reader (row_of insts operands i from) r
  placed_lea e n q r =
      ap (λ (k : ℕ). hands_in (inst_base insts i) (inst_index insts i) (operands_from operands from k) r) q
      ∙ ap (λ (t : Bool). any (is_use r) (operands_from operands from (inst_operands insts i)) && t)
      (sym (each_row (field inst_width insts i) (operands_from operands from (inst_operands insts i)) r 0 (operands_from operands from (inst_operands insts i))))
      ∙ lea_yes (is_set (inst_placed insts i)) (is_set (inst_lea insts i)) (is_set (inst_mem insts i)) _ _ e

-- ---- one instruction

pub marked_none : (w : List ℕ) (row v : ℕ) (f : ℕ → Bool) → ((r : ℕ) → f r ≡ false) → Marked w w row v f
marked_none w row v f e = record { kept = within_refl row _ w; bits = λ r l. sym (ap (λ (b : Bool). bit w row r || b) (e r) ∙ or-false (bit w row r)) }

pub marked_same : {w₀ w : List ℕ} {row v : ℕ} {f : ℕ → Bool} → Marked w₀ w row v f → (g : ℕ → Bool) → ((r : ℕ) → f r ≡ g r) → Marked w₀ w row v g
marked_same {w₀} {w} {row} m g e = record { kept = m.kept; bits = λ r l. m.bits r l ∙ ap (λ (b : Bool). bit w₀ row r || b) (e r) }

module _ (lay : Lay) (v : ℕ) (x : Inst) (i m : ℕ) where
  pub hand_none : (w : List ℕ) (n : ℕ) → ((r : ℕ) → lea_reader x r ≡ false) → Handing w w lay v x i m n n
  hand_none w n e = record {
    len = refl;
    outside = λ k a b. refl;
    dead = λ r l. sym (ap (λ (b : Bool). bit w lay.dead r || (b && is_none (def_of v x))) (e r) ∙ or-false _);
    more = omega arith;
    few = omega arith;
    only = λ k l h. absurd (omega arith);
    has = λ q l h. absurd (true≢false (sym h ∙ e q));
  }

  pub hand_stuck : {w₀ w : List ℕ} {f : ℕ → Bool} → Marked w₀ w lay.dead v f → (n : ℕ) → ((r : ℕ) → f r ≡ lea_reader x r) → is_none (def_of v x) ≡ true → Handing w₀ w lay v x i m n n
  hand_stuck {w₀} {w} {f} k n e d = record {
    len = k.kept.len;
    outside = λ j a b. beside j a;
    dead = λ r l. k.bits r l ∙ ap (λ (b : Bool). bit w₀ lay.dead r || b) (e r ∙ sym (and-true (lea_reader x r)) ∙ ap (λ (b : Bool). lea_reader x r && b) (sym d));
    more = omega arith;
    few = omega arith;
    only = λ k l h. absurd (omega arith);
    has = λ q l h z. absurd (true≢false (sym d ∙ z));
  }
    where
      beside : (j : ℕ) → (j < lay.dead) ⊎ (lay.dead + row_words v ≤ j) → get_or w j 0 ≡ get_or w₀ j 0
      beside j (inl h) = k.kept.below j h
      beside j (inr h) = k.kept.past j h

  pub hand_linked : {w₀ w : List ℕ} {m' n₀ n : ℕ} {f : ℕ → Bool} → Linked w₀ w lay.edges v i m' n₀ n f → m' ≡ m → lay.dead + row_words v ≤ lay.edges
      → ((r : ℕ) → f r ≡ lea_reader x r) → is_none (def_of v x) ≡ false → Handing w₀ w lay v x i m n₀ n
  hand_linked {w₀} {w} {m'} {n₀} {n} {f} k em fits e d = record {
    len = k.kept.len;
    outside = λ j a b. beside j b;
    dead = λ r l.
        same_bit w₀ w lay.dead v r l (λ j a b. k.kept.below j (omega arith))
        ∙ sym (ap (λ (b : Bool). bit w₀ lay.dead r || (lea_reader x r && b)) d ∙ ap (λ (b : Bool). bit w₀ lay.dead r || b) (and-false (lea_reader x r)) ∙ or-false _);
    more = k.more;
    few = let q = k.few in omega arith;
    only = λ j l h.
        let (q, a, b, z) = k.only j l h in
        (q, a, sym (e q) ∙ b, d, z);
    has = λ q l h z. k.has q l (e q ∙ h);
  }
    where
      beside : (j : ℕ) → (j < lay.edges + n₀) ⊎ (lay.edges + n ≤ j) → get_or w j 0 ≡ get_or w₀ j 0
      beside j (inl h) = k.kept.below j h
      beside j (inr h) = k.kept.past j h

  -- the def is stored, the escaping registers are marked, the edges put down
  pub added : {w₀ w₂ w : List ℕ} {n₀ n : ℕ} (at d : ℕ) → at ≡ lay.defs + i → d ≡ def_number (def_of v x)
      → lay.escapes + row_words v ≤ lay.dead → lay.dead + row_words v ≤ lay.defs → lay.defs + i < lay.edges → lay.edges ≤ length w₀
      → Marked (set w₀ at d) w₂ lay.escapes v (stray_reader x) → Handing w₂ w lay v x i m n₀ n → Added w₀ w lay v x i m n₀ n
  added {w₀} {w₂} {w} {n₀} {n} at d ea ed fe fd fi room k h = record {
    kept = record {
      len = h.len ∙ k.kept.len ∙ length-set w₀ at d;
      below = λ j l. h.outside j (inl (omega arith)) (inl (omega arith)) ∙ k.kept.below j l ∙ get_or-set_other w₀ at j d 0 (λ e. absurd (omega arith));
      past = λ j l. let q = h.more in h.outside j (inr (omega arith)) (inr (omega arith)) ∙ k.kept.past j (omega arith) ∙ get_or-set_other w₀ at j d 0 (λ e. absurd (omega arith));
    };
    escaping = λ r l.
        same_bit w₂ w lay.escapes v r l (λ j a b. h.outside j (inl (omega arith)) (inl (omega arith)))
        ∙ k.bits r l
        ∙ ap (λ (b : Bool). b || stray_reader x r) (same_bit w₀ (set w₀ at d) lay.escapes v r l (λ j a b. get_or-set_other w₀ at j d 0 (λ e. absurd (omega arith))));
    sticking = λ r l.
        h.dead r l
        ∙ ap (λ (b : Bool). b || (lea_reader x r && is_none (def_of v x)))
        (same_bit w₀ w₂ lay.dead v r l (λ j a b. k.kept.past j (omega arith) ∙ get_or-set_other w₀ at j d 0 (λ e. absurd (omega arith))));
    here =
        h.outside (lay.defs + i) (inr (omega arith)) (inl (omega arith)) ∙ k.kept.past (lay.defs + i) (omega arith)
        ∙ ap (λ (j : ℕ). get_or (set w₀ at d) j 0) (sym ea) ∙ get_or-set_same w₀ at d 0 (omega arith) ∙ ed;
    earlier = λ j l.
        h.outside (lay.defs + j) (inr (omega arith)) (inl (omega arith)) ∙ k.kept.past (lay.defs + j) (omega arith) ∙ get_or-set_other w₀ at (lay.defs + j) d 0 (λ e. absurd (omega arith));
    edges = λ j l.
        h.outside (lay.edges + j) (inr (omega arith)) (inl (omega arith)) ∙ k.kept.past (lay.edges + j) (omega arith) ∙ get_or-set_other w₀ at (lay.edges + j) d 0 (λ e. absurd (omega arith));
    more = h.more;
    few = h.few;
    only = h.only;
    has = h.has;
  }

-- ---- all of them

module _ (v : ℕ) (insts operands : List ℕ) (lay : Lay) where
  pub scan_start : (w : List ℕ) → Blank v lay w → Scanning v (insts_of insts operands) insts lay w w 0 0
  scan_start w b = record {
    kept = within_refl _ _ w;
    few = omega arith;
    escaping = λ r l. b.escaping r l ∙ sym (any_none (λ x. stray_reader x r) (inst_at (insts_of insts operands)));
    sticking = λ r l. b.sticking r l ∙ sym (any_none (λ x. lea_reader x r && is_none (def_of v x)) (inst_at (insts_of insts operands)));
    defined = λ j l. absurd (omega arith);
    only = λ k l. absurd (omega arith);
    has = λ q j l. absurd (omega arith);
  }

  module _ (adds : AddsUp insts operands) (fits : lay.edges + operand_count operands ≤ lay.heads) where
    pub scan_more : {w₀ w w' : List ℕ} {i n n' : ℕ} → Scanning v (insts_of insts operands) insts lay w₀ w i n → i < inst_count insts → (from : ℕ) → from ≡ offset insts i
        → Added w w' lay v (row_of insts operands i from) i (inst_operands insts i) n n' → Scanning v (insts_of insts operands) insts lay w₀ w' (i + 1) n'
    scan_more {w₀} {w} {w'} {i} {n} {n'} s h from e a = record {
      kept = within_trans s.kept (within_wider lay.escapes lay.heads (omega arith) within b.kept);
      few = few;
      escaping = λ r l. b.escaping r l ∙ ap (λ (t : Bool). t || stray_reader (inst_at is i) r) (s.escaping r l) ∙ sym (any_next (λ x. stray_reader x r) (inst_at is) i);
      sticking = λ r l.
          b.sticking r l ∙ ap (λ (t : Bool). t || (lea_reader (inst_at is i) r && is_none (def_of v (inst_at is i)))) (s.sticking r l)
          ∙ sym (any_next (λ x. lea_reader x r && is_none (def_of v x)) (inst_at is) i);
      defined = λ j l. same j i
          (λ z. rw z b.here)
          (λ z. b.earlier j (omega arith) ∙ s.defined j (omega arith));
      only = λ k l. cut n k
          (λ g.
          let (q, u, f, d, z) = b.only k g l in
          (q, i, omega arith, record { numbered = u; listed = listed; handing = f; has_def = d }, z))
          (λ g.
          let (q, j, u, f, z) = s.only k g in
          (q, j, omega arith, f, b.edges k g ∙ z));
      has = λ q j l f. same j i
          (λ z.
          let g : Hands v is q i = subst (λ (k : ℕ). Hands v is q k) z f in
          let (k, _, d, y) = b.has q g.numbered g.handing g.has_def in
          (k, d, y ∙ ap (key q) (sym z)))
          (λ z.
          let (k, u, y) = s.has q j (omega arith) f in
          (k, (let p = b.more in omega arith), b.edges k u ∙ y));
    }
      where
        is : List Inst
        is = insts_of insts operands

        b : Added w w' lay v (inst_at is i) i (inst_operands insts i) n n'
        b = subst (λ (x : Inst). Added w w' lay v x i (inst_operands insts i) n n')
            (ap (λ (k : ℕ). row_of insts operands i k) e ∙ sym (inst_at_lem insts operands adds i h)) a

        listed : i < length is
        listed = rw (insts_length insts operands) h

        few : n' ≤ offset insts (i + 1)
        few = let p = b.few in let q = s.few in let z = sum_next (λ k. inst_operands insts k) i in omega arith

        within : lay.edges + n' ≤ lay.heads
        within = let p = b.few in let q = s.few in let z = operands_within insts operands adds i h in omega arith
