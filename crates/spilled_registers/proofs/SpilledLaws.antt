-- Laws of `spilled`: one assignment more, and the entry's two ways out.
use Rattle.std.specs.Prelude.{Ok, Err}
use Prim.Native.Nat.{ℕ, ◌+◌, ◌≤◌, ◌<◌}
use native.Mathlib.Omega.{arith}
use mathlib.Core.Path.{◌≡◌, refl, sym, ap, ◌∙◌}
use mathlib.Core.List.{List, [], ◌∷◌, ◌++◌}
use lib.ListN.{length, get_or, set, length-set, drop, replicate, length-replicate}
use lib.Seq.{get_or-set_same, get_or-set_other}
use Rattle.refusals.specs.declared.Refusal.{Refusal}
use Rattle.refusals.specs.Verdicts.{first, in_order, Bad, Fine, Verdict}
use Rattle.refusals.proofs.Laws.{first_fine, first_bad, first_left, first_right, bad_fine, check_last}
use Rattle.words.specs.Rows.{tabulate}
use Rattle.words.specs.Inner.{Region}
use Rattle.words.specs.Regions.{cleared}
use Rattle.words.specs.Widths.{assigned_width, assigned_count}
use Rattle.words.proofs.RowLaws.{length_tabulate}
use Rattle.words.proofs.Points.{cut, same}
use Rattle.words.proofs.RegionLaws.{region_front}
use Rattle.insts.specs.Counts.{rows_verdict, most_verdict}
use Rattle.insts.proofs.CheckLaws.{rows_few}
use Rattle.refusals.proofs.RoomLaws.{room_answer, room_work}
use Rattle.areas.specs.Slots.{Assigned, assigned_of, spilled, assigned_verdict}
use Rattle.spill_checks.proofs.AssignedLaws.{next_same, next_other}
use Rattle.spilled_registers.specs.Spilled.{spilled_counts, spilled_space, spilled_room, spilled_verdict, register_or, registers, SpilledTo}

-- ---- one assignment more

module _ (g : ℕ → Assigned) where
  -- the answer list after some assignments
  abbrev pub Held : List ℕ → List ℕ → ℕ → ℕ → Type 0
  Held a₀ a n i = Region a₀ a 0 n (λ s. register_or (get_or a₀ s 0) (spilled (tabulate i g) s))

  pub held_start : (a : List ℕ) (n : ℕ) → Held a a n 0
  unfolding spilled tabulate
  held_start a n = record { len = refl; inside = λ x i e h. ap (λ (k : ℕ). get_or a k 0) (e ∙ zero_plus i); before = λ i h. refl; after = λ i h. refl }
    where
      zero_plus : (i : ℕ) → 0 + i ≡ i
      zero_plus i = omega arith

  module _ {a₀ a : List ℕ} {n i : ℕ} (d : Held a₀ a n i) where
    pub held_store : (s v : ℕ) → s < n → n ≤ length a₀ → (g i).slot ≡ s → v ≡ (g i).register → Held a₀ (set a s v) n (i + 1)
    held_store s v h l e f = record {
      len = length-set a s v ∙ d.len;
      inside = λ x k p q.
          let z : x ≡ k = omega arith in
          same x s
          (λ t. ap (λ (y : ℕ). get_or (set a s v) y 0) t ∙ get_or-set_same a s v 0 (let y = d.len in omega arith) ∙ f
          ∙ sym (ap (register_or (get_or a₀ k 0)) (next_same g i k (e ∙ sym t ∙ z))))
          (λ t. get_or-set_other a s x v 0 t ∙ d.inside x k p q
          ∙ sym (ap (register_or (get_or a₀ k 0)) (next_other g i k (λ y. t (z ∙ sym y ∙ e)))));
      before = λ k q. absurd (omega arith);
      after = λ k q. get_or-set_other a s k v 0 (λ y. let w = y in omega arith) ∙ d.after k q;
    }

    pub held_skip : n ≤ (g i).slot → Held a₀ a n (i + 1)
    held_skip h = record {
      len = d.len;
      inside = λ x k p q. d.inside x k p q ∙ sym (ap (register_or (get_or a₀ k 0)) (next_other g i k (λ y. let w = y in omega arith)));
      before = λ k q. absurd (omega arith);
      after = d.after;
    }

-- ---- the checks

pub counts_chain : (v slots : ℕ) (assigned : List ℕ) {a b c d r : Verdict} → a ≡ most_verdict 65535 v → b ≡ most_verdict 2048 slots → c ≡ rows_verdict assigned_width 65536 (length assigned)
    → d ≡ first b c → r ≡ first a d → r ≡ spilled_counts v slots assigned
unfolding spilled_counts
counts_chain v slots assigned ea eb ec ed er = cc

pub few_assigned : (v slots : ℕ) (assigned : List ℕ) → spilled_counts v slots assigned ≡ Fine → assigned_count assigned ≤ 65536
unfolding spilled_counts
few_assigned v slots assigned e =
    rows_few assigned_width 65536 (length assigned) (first_right (most_verdict 2048 slots) _ (first_right (most_verdict 65535 v) _ e))

-- the checks in the order in which the code joins them
joined : (c p r : Verdict) → in_order (c ∷ p ∷ r ∷ []) ≡ first c (first p r)
unfolding in_order
joined c p r = ap (λ (x : Verdict). first c (first p x)) (check_last r)

module _ (v slots : ℕ) (assigned : List ℕ) (lent work : ℕ) where
  all_checks : spilled_verdict v slots assigned lent work
      ≡ first (spilled_counts v slots assigned) (first (assigned_verdict v (assigned_of assigned)) (spilled_room lent slots work (spilled_space v assigned)))
  unfolding spilled_verdict
  all_checks = joined _ _ _

  pub by_counts : (r : Refusal) (i : ℕ) → spilled_counts v slots assigned ≡ Bad r i → Bad r i ≡ spilled_verdict v slots assigned lent work
  by_counts r i e = sym (all_checks ∙ first_bad _ _ r i e)

  pub by_rest : {a b r : Verdict} → spilled_counts v slots assigned ≡ Fine → a ≡ assigned_verdict v (assigned_of assigned)
      → b ≡ spilled_room lent slots work (spilled_space v assigned) → r ≡ first a b → r ≡ spilled_verdict v slots assigned lent work
  by_rest {a} {b} {r} e p q z =
      z ∙ ap (λ (x : Verdict). first x b) p ∙ ap (first (assigned_verdict v (assigned_of assigned))) q ∙ sym (all_checks ∙ first_fine _ _ e)

  -- what no refusal says
  pub record Fit : Type 0 where
    pub few : assigned_count assigned ≤ 65536
    pub answer : slots ≤ lent
    pub space : spilled_space v assigned ≤ work

  pub fit : spilled_verdict v slots assigned lent work ≡ Fine → Fit
  fit e =
      let k = first_left (spilled_counts v slots assigned) _ (sym all_checks ∙ e) in
      let b = first_right (spilled_counts v slots assigned) _ (sym all_checks ∙ e) in
      let s = first_right (assigned_verdict v (assigned_of assigned)) (spilled_room lent slots work (spilled_space v assigned)) b in
      let p = cut {A = slots ≤ lent} slots lent (λ h. h) (λ h. absurd (bad_fine (room_answer lent slots work (spilled_space v assigned) h ∙ s))) in
      record {
        few = few_assigned v slots assigned k;
        answer = p;
        space = cut (spilled_space v assigned) work (λ h. h) (λ h. absurd (bad_fine (room_work lent slots work (spilled_space v assigned) p h ∙ s)));
      }

-- ---- the two ways out

module _ (v slots : ℕ) (assigned answer₀ work₀ : List ℕ) where
  pub spilled_refused : (r : Refusal) (i : ℕ) → spilled_verdict v slots assigned (length answer₀) (length work₀) ≡ Bad r i
      → SpilledTo v slots assigned answer₀ work₀ (Err (r, i)) answer₀ work₀
  spilled_refused r i e = record { outcome = rw e; list = rw e; space = rw e }

  pub spilled_given : {filled answer work : List ℕ} → spilled_verdict v slots assigned (length answer₀) (length work₀) ≡ Fine → Region answer₀ filled 0 slots (λ s. v)
      → Region filled answer 0 slots (λ s. register_or (get_or filled s 0) (spilled (assigned_of assigned) s))
      → (words : ℕ) → words ≡ spilled_space v assigned → work ≡ cleared words work₀ → SpilledTo v slots assigned answer₀ work₀ (Ok slots) answer work
  spilled_given {filled} {answer} {work} e p q words d c = record {
    outcome = rw e;
    list = rw e (region_front whole (fit v slots assigned (length answer₀) (length work₀) e).answer ∙ tidy);
    space = rw e (c ∙ ap (λ (x : ℕ). cleared x work₀) d
        ∙ ap (λ (x : ℕ). replicate (spilled_space v assigned) 0 ++ drop x work₀) (sym (length-replicate (spilled_space v assigned) 0)));
  }
    where
      whole : Region answer₀ answer 0 slots (λ s. register_or v (spilled (assigned_of assigned) s))
      whole = record {
        len = q.len ∙ p.len;
        inside = λ x i t h. q.inside x i t h ∙ ap (λ (d : ℕ). register_or d (spilled (assigned_of assigned) i)) (p.inside i i (omega arith) h);
        before = λ i h. absurd (omega arith);
        after = λ i h. q.after i h ∙ p.after i h;
      }

      tidy : registers v assigned slots ++ drop slots answer₀ ≡ registers v assigned slots ++ drop (length (registers v assigned slots)) answer₀
      tidy = ap (λ (n : ℕ). registers v assigned slots ++ drop n answer₀) (sym (length_tabulate slots _))
