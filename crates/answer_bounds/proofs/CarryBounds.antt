-- Carrying, moves and slots: the index of each refusal fits its 32 bits, and so does each count.
use Prim.Native.Nat.{ℕ, ◌+◌, ◌*◌, ◌%◌, ◌^◌, ◌≤◌, ◌<◌}
use native.Mathlib.Omega.{arith}
use mathlib.Core.Path.{◌≡◌}
use mathlib.Core.Bool.{Bool, true, false, cond, not, ◌||◌}
use mathlib.Core.Option.{some, none, none-ne-some, some-injective}
use mathlib.Core.List.{List, [], ◌∷◌, ◌++◌}
use lib.ListN.{length, length-append}
use lib.Dec.{eqb, ltb}
use Rattle.refusals.specs.declared.Refusal.TheVariants.{Count, Space}
use Rattle.refusals.specs.Verdicts.{in_order, Fine}
use Rattle.refusals.proofs.Laws.{first_left, first_right}
use Rattle.words.specs.Widths.{local_count, mention_width, address_count, end_count, assigned_width, assigned_count, move_width, move_count}
use Rattle.words.proofs.RowLaws.{length_records}
use Rattle.ranges.specs.declared.Range.{Range}
use Rattle.graph.specs.Line.{Stretch, blocks_of}
use Rattle.graph.proofs.Line.{blocks_length}
use Rattle.carrying.specs.Lists.{gather}
use Rattle.carrying.specs.Insts.{Inst, insts_of}
use Rattle.carrying.specs.Carried.{Code, mentions_of, carried}
use Rattle.insts.specs.Counts.{most_verdict}
use Rattle.insts.proofs.DealtLaws.{insts_length}
use Rattle.insts.proofs.CheckLaws.{rows_few, most_few}
use Rattle.areas.specs.Slots.{Move, moves_of, assigned_of, around, position, covering, moved}
use Rattle.carry_checks.specs.Checks.{carry_space, carry_verdict}
use Rattle.carry_checks.proofs.CheckLaws.{counted}
use Rattle.carried_registers.specs.Carried.{count_of}
use Rattle.carried_registers.proofs.CarriedLaws.{carried_length}
use Rattle.moved_ranges.specs.Moved.{moved_counts, moved_space, moved_verdict}
use Rattle.moved_ranges.proofs.MovedEntry.{counted as moved-counted}
use Rattle.spilled_registers.specs.Spilled.{spilled_counts, spilled_space, spilled_verdict}
use Rattle.codes.specs.Inner.{Fits}
use Rattle.codes.proofs.IndexLaws.{check_fits, first_fits}
use Rattle.answer_bounds.proofs.Steps.{no_more, order_fit, next_fits, rows_fits, most_fits, blocks_fit, insts_fit, carry_counts_fit, line_fits, inst_fits, crossing_fits, address_fits, end_fits, move_fits, assigned_fits}

-- ---- `reach` and `carried`

module _ (points v : ℕ) (blocks insts operands crossings locals addresses ends : List ℕ) (lent most work : ℕ) where
  pub carry_fits : Fits (carry_verdict points v blocks insts operands crossings locals addresses ends lent most work)
  unfolding carry_verdict
  carry_fits =
      order_fit
      (next_fits (carry_counts_fit v blocks insts operands crossings locals addresses ends)
      (λ e. let c = counted v blocks insts operands crossings locals addresses ends e in
      let a : length (mentions_of addresses) ≡ address_count addresses = length_records mention_width (λ f. record { inst = f 0; local = f 1 }) addresses in
      let b : length (mentions_of ends) ≡ end_count ends = length_records mention_width (λ f. record { inst = f 0; local = f 1 }) ends in
      next_fits (line_fits (blocks_of blocks) points (omega (arith, c.few, blocks_length blocks)))
      (λ _. next_fits (inst_fits (blocks_of blocks) v (insts_of insts operands) (omega (arith, c.few_insts, insts_length insts operands)))
      (λ _. next_fits (crossing_fits v crossings c.few_crossings)
      (λ _. next_fits (address_fits (insts_of insts operands) (mentions_of addresses) (omega (arith, c.few_addresses, a)))
      (λ _. next_fits (end_fits (insts_of insts operands) (mentions_of ends) (omega (arith, c.few_ends, b)))
      (λ _. next_fits (check_fits Space (ltb lent most || ltb work (carry_space v blocks insts operands crossings locals addresses ends)))
      (λ _. no_more))))))))

  carry_counted : carry_verdict points v blocks insts operands crossings locals addresses ends lent most work ≡ Fine → (local_count locals ≤ 2048) × (v ≤ 65535)
  unfolding carry_verdict in_order
  carry_counted e = let c = counted v blocks insts operands crossings locals addresses ends (first_left _ _ e) in (c.few_locals, c.registers)

  -- `reach` answers how many locals there are
  pub few_locals : carry_verdict points v blocks insts operands crossings locals addresses ends lent most work ≡ Fine → local_count locals < 2 ^ 32
  few_locals e = let c = (carry_counted e).0 in omega arith

  pub few_registers : carry_verdict points v blocks insts operands crossings locals addresses ends lent most work ≡ Fine → v ≤ 65535
  few_registers e = (carry_counted e).1

pub carried_few : (C : Code) (locals l c : ℕ) → C.numbered ≤ 65535 → count_of C locals l ≡ some c → c < 2 ^ 32
carried_few C locals l c h e = go (ltb l locals) e
  where
    go : (t : Bool) → cond t (some (length (carried C l))) none ≡ some c → c < 2 ^ 32
    go true q = let z : length (carried C l) ≡ c = some-injective _ c q in omega (arith, carried_length C l)
    go false q = absurd (none-ne-some c q)

-- ---- `moved`

module _ (points v : ℕ) (blocks insts operands moves : List ℕ) (lent work : ℕ) where
  moved_counts_fit : Fits (moved_counts v blocks insts operands moves lent)
  unfolding moved_counts
  moved_counts_fit =
      first_fits _ _ (most_fits 65535 v)
      (λ _. first_fits _ _ (blocks_fit blocks) (λ _. first_fits _ _ (insts_fit insts operands) (λ _. first_fits _ _ (rows_fits move_width 65536 (length moves)) (λ _. check_fits Count (not (eqb (lent % 2) 0))))))

  pub moved_fits : Fits (moved_verdict points v blocks insts operands moves lent work)
  unfolding moved_verdict
  moved_fits =
      order_fit
      (next_fits moved_counts_fit
      (λ e. let c = moved-counted v blocks insts operands moves lent e in
      let m : length (moves_of moves) ≡ move_count moves = length_records move_width (λ f. record { kind = f 0; number = f 1; to = f 2; from = f 3 }) moves in
      next_fits (line_fits (blocks_of blocks) points (omega (arith, c.few, blocks_length blocks)))
      (λ _. next_fits (inst_fits (blocks_of blocks) v (insts_of insts operands) (omega (arith, c.few_insts, insts_length insts operands)))
      (λ _. next_fits (move_fits (blocks_of blocks) (insts_of insts operands) (moves_of moves) (omega (arith, c.few_moves, m)))
      (λ _. next_fits (check_fits Space (ltb lent (4 * move_count moves) || ltb work (moved_space v blocks insts operands moves))) (λ _. no_more))))))

  few_moves : moved_verdict points v blocks insts operands moves lent work ≡ Fine → move_count moves ≤ 65536
  unfolding moved_verdict in_order
  few_moves e = (moved-counted v blocks insts operands moves lent (first_left _ _ e)).few_moves

-- at most two ranges to a move
one_at_most : (b : Bool) (r : Range) → length (cond b (r ∷ []) []) ≤ 1
one_at_most true r = omega arith
one_at_most false r = omega arith

both_at_most : (a b : Bool) (r : Range) → length (cond a (r ∷ []) [] ++ cond b (r ∷ []) []) ≤ 2
both_at_most a b r = omega (arith, one_at_most a r, one_at_most b r, length-append (cond a (r ∷ []) []) (cond b (r ∷ []) []))

covers_two : (points : ℕ) (bs : List Stretch) (is : List Inst) (s : ℕ) (m : Move) → length (covering points bs is s m) ≤ 2
covers_two points bs is s m = both_at_most (eqb m.to s) (eqb m.from s) (around points (position bs is m.kind m.number))

moved_two : (points : ℕ) (bs : List Stretch) (is : List Inst) (ms : List Move) (s : ℕ) → length (moved points bs is ms s) ≤ 2 * length ms
unfolding gather
moved_two points bs is [] s = omega arith
moved_two points bs is (m ∷ ms) s =
    omega (arith, covers_two points bs is s m, moved_two points bs is ms s, length-append (covering points bs is s m) (moved points bs is ms s))

pub moved_few : (points v : ℕ) (blocks insts operands moves : List ℕ) (s lent work : ℕ) → moved_verdict points v blocks insts operands moves lent work ≡ Fine
    → length (moved points (blocks_of blocks) (insts_of insts operands) (moves_of moves) s) < 2 ^ 32
moved_few points v blocks insts operands moves s lent work e =
    let m : length (moves_of moves) ≡ move_count moves = length_records move_width (λ f. record { kind = f 0; number = f 1; to = f 2; from = f 3 }) moves in
    omega (arith, m, few_moves points v blocks insts operands moves lent work e, moved_two points (blocks_of blocks) (insts_of insts operands) (moves_of moves) s)

-- ---- `spilled`

module _ (v slots : ℕ) (assigned : List ℕ) (lent work : ℕ) where
  spilled_counts_fit : Fits (spilled_counts v slots assigned)
  unfolding spilled_counts
  spilled_counts_fit = first_fits _ _ (most_fits 65535 v) (λ _. first_fits _ _ (most_fits 2048 slots) (λ _. rows_fits assigned_width 65536 (length assigned)))

  spilled_counted : spilled_counts v slots assigned ≡ Fine → (slots ≤ 2048) × (assigned_count assigned ≤ 65536)
  unfolding spilled_counts
  spilled_counted e =
      let a = first_right (most_verdict 65535 v) _ e in
      (most_few 2048 slots (first_left (most_verdict 2048 slots) _ a), rows_few assigned_width 65536 (length assigned) (first_right (most_verdict 2048 slots) _ a))

  pub spilled_fits : Fits (spilled_verdict v slots assigned lent work)
  unfolding spilled_verdict
  spilled_fits =
      order_fit
      (next_fits spilled_counts_fit
      (λ e. let m : length (assigned_of assigned) ≡ assigned_count assigned = length_records assigned_width (λ f. record { register = f 0; slot = f 1 }) assigned in
      next_fits (assigned_fits v (assigned_of assigned) (omega (arith, m, (spilled_counted e).1)))
      (λ _. next_fits (check_fits Space (ltb lent slots || ltb work (spilled_space v assigned))) (λ _. no_more))))

  pub spilled_few : spilled_verdict v slots assigned lent work ≡ Fine → slots < 2 ^ 32
  unfolding spilled_verdict in_order
  spilled_few e = let c = (spilled_counted (first_left _ _ e)).0 in omega arith
