-- The checks of the entries: their order, and what no refusal says.
use Prim.Native.Nat.{ℕ, ◌*◌, ◌^◌, ◌≤◌, ◌<◌}
use native.Mathlib.Nat.{mul-le-mul_left}
use native.Mathlib.Omega.{arith}
use mathlib.Core.Path.{◌≡◌, sym, ap, ◌∙◌}
use mathlib.Core.Bool.{false, not, ◌||◌, true≢false}
use mathlib.Core.List.{List, [], ◌∷◌}
use lib.ListN.{length, get_or}
use borrow.Author.Tests.{le-leb}
use Rattle.refusals.specs.declared.Refusal.{Refusal}
use Rattle.refusals.specs.declared.Refusal.TheVariants.{Stray}
use Rattle.refusals.specs.Verdicts.{first, in_order, room_verdict, Bad, Fine, Verdict}
use Rattle.refusals.proofs.Laws.{first_fine, first_bad, first_left, first_right, first_assoc, scan_fine, bad_fine, check_last}
use Rattle.words.proofs.Points.{cut}
use Rattle.words.proofs.Bools.{or_neither}
use Rattle.carrying.specs.Insts.{insts_of, inst_at, is_set}
use Rattle.carrying.specs.Carried.{mentions_of}
use Rattle.carrying.specs.Checks.{crossing_verdict, address_verdict, end_verdict, absent, mention_at}
use Rattle.insts.specs.Counts.{rows_verdict, most_verdict, block_counts, inst_counts, code_counts}
use Rattle.insts.specs.Rows.{AddsUp}
use Rattle.insts.proofs.DealtLaws.{insts_length}
use Rattle.insts.proofs.CheckLaws.{most_few, rows_few, blocks_few, blocks_some, insts_counted, inst_is, address_whatever, end_whatever}
use Rattle.reach.proofs.ReadyLaws.{mentions_count}
use Rattle.refusals.proofs.RoomLaws.{room_answer, room_work}
use Rattle.carry_checks.specs.Checks.{carry_counts, carry_space, carry_verdict}
use Rattle.carry_checks.specs.Inner.{place_verdict, stray_verdict, Checked}
use Rattle.words.specs.Widths.{block_count, inst_count, operand_count, local_width, local_count, mention_width, address_count, end_count}
use Rattle.words.specs.Regions.{row_words}

-- ---- number 7

module _ (lent most work words : ℕ) where
  room_told : room_verdict lent most work words ≡ Fine → (most ≤ lent) × (words ≤ work)
  room_told e =
      let p = cut {A = most ≤ lent} most lent (λ h. h) (λ h. absurd (bad_fine (room_answer lent most work words h ∙ e))) in
      (p, cut words work (λ h. h) (λ h. absurd (bad_fine (room_work lent most work words p h ∙ e))))

-- the rows of any 32-bit numbers of blocks and locals are far below 64 bits
pub rows_fit : (b l : ℕ) → b < 2 ^ 32 → l < 2 ^ 32 → b * row_words l < 2 ^ 59
rows_fit b l h k =
    let w : row_words l ≤ 67108864 = omega arith in
    let m = mul-le-mul_left b w in
    omega arith

-- ---- number 1

module _ (v : ℕ) (blocks insts operands crossings locals addresses ends : List ℕ) where
  pub counts_chain : {a b r : Verdict} → a ≡ block_counts blocks → b ≡ code_counts v insts operands crossings locals addresses ends → r ≡ first a b
      → r ≡ carry_counts v blocks insts operands crossings locals addresses ends
  unfolding carry_counts
  counts_chain ea eb er = cc

  pub record Counted : Type 0 where
    pub registers : v ≤ 65535
    pub some : 1 ≤ block_count blocks
    pub few : block_count blocks ≤ 4096
    pub few_insts : inst_count insts ≤ 65536
    pub few_operands : operand_count operands ≤ 262144
    pub few_crossings : length crossings ≤ 65536
    pub few_locals : local_count locals ≤ 2048
    pub few_addresses : address_count addresses ≤ 65536
    pub few_ends : end_count ends ≤ 65536
    pub adds : AddsUp insts operands

  pub counted : carry_counts v blocks insts operands crossings locals addresses ends ≡ Fine → Counted
  unfolding carry_counts code_counts
  counted e =
      let b = first_left (block_counts blocks) _ e in
      let c = first_right (block_counts blocks) _ e in
      let d = first_right (most_verdict 65535 v) _ c in
      let i = insts_counted insts operands (first_left (inst_counts insts operands) _ d) in
      let f = first_right (inst_counts insts operands) _ d in
      let g = first_right (most_verdict 65536 (length crossings)) _ f in
      let h = first_right (rows_verdict local_width 2048 (length locals)) _ g in
      record {
        registers = most_few 65535 v (first_left _ _ c);
        some = blocks_some blocks b;
        few = blocks_few blocks b;
        few_insts = i.few;
        few_operands = i.few_operands;
        few_crossings = most_few 65536 (length crossings) (first_left _ _ f);
        few_locals = rows_few local_width 2048 (length locals) (first_left _ _ g);
        few_addresses = rows_few mention_width 65536 (length addresses) (first_left _ _ h);
        few_ends = rows_few mention_width 65536 (length ends) (first_right (rows_verdict mention_width 65536 (length addresses)) _ h);
        adds = i.adds;
      }

-- ---- number 5

module _ (insts operands addresses ends : List ℕ) where
  pub stray_whatever : stray_verdict insts [] addresses ends ≡ stray_verdict insts operands addresses ends
  stray_whatever =
      ap (λ (x : Verdict). first x (end_verdict (insts_of insts []) (mentions_of ends))) (address_whatever insts operands addresses)
      ∙ ap (first (address_verdict (insts_of insts operands) (mentions_of addresses))) (end_whatever insts operands ends)

  present : (n : ℕ) → absent (insts_of insts operands) n ≡ false → n < inst_count insts
  present n e = cut (inst_count insts) n
      (λ h. absurd (true≢false (sym (le-leb (length (insts_of insts operands)) n (let q = insts_length insts operands in omega arith)) ∙ e)))
      (λ h. h)

  pub addresses_found : stray_verdict insts operands addresses ends ≡ Fine → (a : ℕ) → a < address_count addresses → get_or addresses (mention_width * a) 0 < inst_count insts
  addresses_found e a h =
      let f = first_left (address_verdict (insts_of insts operands) (mentions_of addresses)) _ e in
      let t = scan_fine Stray (λ n. absent (insts_of insts operands) (mention_at (mentions_of addresses) n).inst || not (is_set (inst_at (insts_of insts operands) (mention_at (mentions_of addresses) n).inst).placed))
      (length (mentions_of addresses)) f a (let q = mentions_count addresses in omega arith) in
      let z = inst_is insts operands addresses a h in
      let g = present (mention_at (mentions_of addresses) a).inst (or_neither _ _ t).0 in
      omega arith

  pub ends_found : stray_verdict insts operands addresses ends ≡ Fine → (k : ℕ) → k < end_count ends → get_or ends (mention_width * k) 0 < inst_count insts
  ends_found e k h =
      let f = first_right (address_verdict (insts_of insts operands) (mentions_of addresses)) _ e in
      let t = scan_fine Stray (λ n. absent (insts_of insts operands) (mention_at (mentions_of ends) n).inst) (length (mentions_of ends)) f k (let q = mentions_count ends in omega arith) in
      let z = inst_is insts operands ends k h in
      let g = present (mention_at (mentions_of ends) k).inst t in
      omega arith

-- ---- in order

-- the checks in the order in which the code joins them
joined : (c l i x a k r : Verdict) → in_order (c ∷ l ∷ i ∷ x ∷ a ∷ k ∷ r ∷ []) ≡ first c (first (first l i) (first x (first (first a k) r)))
unfolding in_order
joined c l i x a k r =
    ap (first c) (ap (λ (z : Verdict). first l (first i (first x (first a (first k z))))) (check_last r)
    ∙ sym (first_assoc l i (first x (first a (first k r)))) ∙ ap (first (first l i)) (ap (first x) (sym (first_assoc a k r))))

module _ (points v : ℕ) (blocks insts operands crossings locals addresses ends : List ℕ) (lent most work : ℕ) where
  all_checks : carry_verdict points v blocks insts operands crossings locals addresses ends lent most work
      ≡ first (carry_counts v blocks insts operands crossings locals addresses ends) (first (place_verdict points v blocks insts operands)
      (first (crossing_verdict v crossings) (first (stray_verdict insts operands addresses ends) (room_verdict lent most work (carry_space v blocks insts operands crossings locals addresses ends)))))
  unfolding carry_verdict
  all_checks = joined _ _ _ _ _ _ _

  pub by_counts : (r : Refusal) (i : ℕ) → carry_counts v blocks insts operands crossings locals addresses ends ≡ Bad r i
      → Bad r i ≡ carry_verdict points v blocks insts operands crossings locals addresses ends lent most work
  by_counts r i e = sym (all_checks ∙ first_bad _ _ r i e)

  pub by_place : (r : Refusal) (i : ℕ) → carry_counts v blocks insts operands crossings locals addresses ends ≡ Fine → place_verdict points v blocks insts operands ≡ Bad r i
      → Bad r i ≡ carry_verdict points v blocks insts operands crossings locals addresses ends lent most work
  by_place r i e f = sym (all_checks ∙ first_fine _ _ e ∙ first_bad _ _ r i f)

  pub by_rest : {x a b s r : Verdict} → carry_counts v blocks insts operands crossings locals addresses ends ≡ Fine → place_verdict points v blocks insts operands ≡ Fine
      → x ≡ crossing_verdict v crossings → a ≡ stray_verdict insts [] addresses ends → b ≡ room_verdict lent most work (carry_space v blocks insts operands crossings locals addresses ends)
      → s ≡ first a b → r ≡ first x s → r ≡ carry_verdict points v blocks insts operands crossings locals addresses ends lent most work
  by_rest {x} {a} {b} {s} {r} e f k p q y z =
      let w = p ∙ stray_whatever insts operands addresses ends in
      let u : r ≡ first (crossing_verdict v crossings) (first (stray_verdict insts operands addresses ends) (room_verdict lent most work (carry_space v blocks insts operands crossings locals addresses ends))) = cc in
      u ∙ sym (all_checks ∙ first_fine _ _ e ∙ first_fine _ _ f)

  pub record Fit : Type 0 where
    pub counts : Counted v blocks insts operands crossings locals addresses ends
    pub checked : Checked v insts operands locals addresses ends work
    pub answer : most ≤ lent
    pub space : carry_space v blocks insts operands crossings locals addresses ends ≤ work

  pub fit : carry_verdict points v blocks insts operands crossings locals addresses ends lent most work ≡ Fine → Fit
  fit e =
      let a = first_left (carry_counts v blocks insts operands crossings locals addresses ends) _ (sym all_checks ∙ e) in
      let b = first_right (carry_counts v blocks insts operands crossings locals addresses ends) _ (sym all_checks ∙ e) in
      let d = first_right (place_verdict points v blocks insts operands) _ b in
      let k = counted v blocks insts operands crossings locals addresses ends a in
      let x = first_right (crossing_verdict v crossings) _ d in
      let s = first_left (stray_verdict insts operands addresses ends) _ x in
      let r = room_told lent most work (carry_space v blocks insts operands crossings locals addresses ends) (first_right (stray_verdict insts operands addresses ends) _ x) in
      record {
        counts = k;
        checked = record {
          adds = k.adds;
          few_insts = k.few_insts;
          few_operands = k.few_operands;
          few_locals = k.few_locals;
          few_addresses = k.few_addresses;
          registers = k.registers;
          found = addresses_found insts operands addresses ends s;
          ended = ends_found insts operands addresses ends s;
          room = (let q = r.1 in omega arith);
        };
        answer = r.0;
        space = r.1;
      }
