-- The operands of instructions do not matter to moves.
use Prim.Native.Nat.{ℕ, zero, suc, ◌≤◌}
use native.Mathlib.Omega.{arith}
use mathlib.Core.Path.{◌≡◌, refl, sym, ap, ◌∙◌}
use mathlib.Core.Bool.{cond}
use mathlib.Core.List.{List, [], ◌∷◌, ◌++◌}
use lib.ListN.{length, get_or-eq_default}
use lib.Dec.{eqb}
use Rattle.refusals.specs.declared.Refusal.TheVariants.{Stray}
use Rattle.words.specs.Widths.{inst_count}
use Rattle.words.proofs.Points.{cut}
use Rattle.ranges.specs.declared.Range.{Range}
use Rattle.graph.specs.Line.{Stretch}
use Rattle.carrying.specs.Lists.{gather}
use Rattle.carrying.specs.Insts.{Inst, insts_of, inst_at}
use Rattle.carrying.specs.Inner.{no_inst}
use Rattle.insts.proofs.DealtLaws.{scan_same, insts_length, early_is, late_is}
use Rattle.insts.proofs.CheckLaws.{unplaced_same}
use Rattle.areas.specs.Slots.{Move, moves_of, position, around, covering, moved, bad_move, move_at, move_verdict}

module _ (bs : List Stretch) (insts operands : List ℕ) where
  bad_same : (k n : ℕ) → bad_move bs (insts_of insts []) k n ≡ bad_move bs (insts_of insts operands) k n
  bad_same zero n = sym (unplaced_same insts [] [] n) ∙ unplaced_same insts operands [] n
  bad_same (suc zero) n = sym (unplaced_same insts [] [] n) ∙ unplaced_same insts operands [] n
  bad_same (suc (suc zero)) n = refl
  bad_same (suc (suc (suc zero))) n = refl
  bad_same (suc (suc (suc (suc k)))) n = refl

  pub moves_whatever : (s : List ℕ) → move_verdict bs (insts_of insts []) (moves_of s) ≡ move_verdict bs (insts_of insts operands) (moves_of s)
  moves_whatever s = scan_same Stray _ _ (length (moves_of s)) (λ i h. bad_same (move_at (moves_of s) i).kind (move_at (moves_of s) i).number)

  past : (os : List ℕ) (n : ℕ) → inst_count insts ≤ n → inst_at (insts_of insts os) n ≡ no_inst
  past os n h = get_or-eq_default (insts_of insts os) no_inst (let q = insts_length insts os in omega arith)

  early_same : (n : ℕ) → (inst_at (insts_of insts []) n).early ≡ (inst_at (insts_of insts operands) n).early
  early_same n =
      cut (inst_count insts) n
      (λ h. ap (λ (i : Inst). i.early) (past [] n h ∙ sym (past operands n h)))
      (λ h. early_is insts [] n h ∙ sym (early_is insts operands n h))

  late_same : (n : ℕ) → (inst_at (insts_of insts []) n).late ≡ (inst_at (insts_of insts operands) n).late
  late_same n =
      cut (inst_count insts) n
      (λ h. ap (λ (i : Inst). i.late) (past [] n h ∙ sym (past operands n h)))
      (λ h. late_is insts [] n h ∙ sym (late_is insts operands n h))

  position_same : (k n : ℕ) → position bs (insts_of insts []) k n ≡ position bs (insts_of insts operands) k n
  position_same zero n = early_same n
  position_same (suc zero) n = late_same n
  position_same (suc (suc zero)) n = refl
  position_same (suc (suc (suc k))) n = refl

  covering_same : (points s : ℕ) (m : Move) → covering points bs (insts_of insts []) s m ≡ covering points bs (insts_of insts operands) s m
  covering_same points s m =
      ap (λ (p : ℕ). cond (eqb m.to s) (around points p ∷ []) [] ++ cond (eqb m.from s) (around points p ∷ []) []) (position_same m.kind m.number)

  gather_same : (f g : Move → List Range) → ((m : Move) → f m ≡ g m) → (ms : List Move) → gather f ms ≡ gather g ms
  unfolding gather
  gather_same f g h [] = refl
  gather_same f g h (m ∷ ms) = rw (h m, gather_same f g h ms)

  pub moved_whatever : (points s : ℕ) (ms : List Move) → moved points bs (insts_of insts []) ms s ≡ moved points bs (insts_of insts operands) ms s
  moved_whatever points s ms = gather_same _ _ (covering_same points s) ms
