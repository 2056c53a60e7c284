-- Where the last line stands at the instructions' place, the lines end in an instruction and its operands.
use Prim.Native.Nat.{ℕ, zero, suc, ◌≤◌, ◌<◌}
use native.Mathlib.Omega.{arith}
use mathlib.Core.Path.{◌≡◌, ap, sym, ◌∙◌}
use mathlib.Core.Logic.{⊎_elim}
use mathlib.Core.Bool.{true, false, ◌&&◌}
use mathlib.Core.List.{List, []}
use lib.ListN.{length, get_or, take}
use lib.Seq.{take-suc, take-length}
use lib.Dec.{leb, ltb}
use borrow.Author.Tests.{eq-eqb, ltb-true, leb-true, not-false}
use Rattle.words.proofs.Bools.{and_both}
use Rattle.refusals.specs.declared.Refusal.TheVariants.{Text as TextRefused}
use Rattle.refusals.proofs.Laws.{scan_fine}
use Rattle.text_grammar.specs.Groups.{group_count, may_follow, operand_group}
use Rattle.text_grammar.specs.Lines.{line_group}
use Rattle.text_grammar.specs.Text.{place_before, malformed, bad_line}
use Rattle.text_grammar.proofs.TableLaws.{open_place}
use Rattle.text_grammar.proofs.OperandLaws.{opens, open_inst, open_operand}
use Rattle.text_grammar.proofs.OrderLaws.{so_far}
use Rattle.refusals.specs.Verdicts.{Fine}

-- a line that is not malformed has a group that may follow
pub follows_of : (p : ℕ) (l : List ℕ) → malformed p l ≡ false → (line_group l < group_count) × (may_follow p (line_group l) ≡ true)
follows_of p l e =
    let r = and_both (ltb (line_group l) group_count) (may_follow p (line_group l)) (not-false (ltb (line_group l) group_count && may_follow p (line_group l)) e) in
    (ltb-true (line_group l) group_count r.0, r.1)

operand_place : (p : ℕ) → may_follow p operand_group ≡ true → p ≡ 4
operand_place p e = let r = and_both (leb 4 p) (leb p 4) e in omega (arith, leb-true 4 p r.0, leb-true p 4 r.1)

bad_not : (ls : List (List ℕ)) → so_far ls ≡ Fine → (n : ℕ) → n < length ls → malformed (place_before ls n) (get_or ls n []) ≡ false
unfolding bad_line
bad_not ls e n h = scan_fine TextRefused (bad_line ls) (length ls) e n h

opens_at : (ls : List (List ℕ)) → so_far ls ≡ Fine → (n : ℕ) → n ≤ length ls → place_before ls n ≡ 4 → opens (take n ls) ≡ true
opens_at ls f zero h e = absurd (let z : ◌≡◌ {A = ℕ} 0 4 = e in omega arith)
opens_at ls f (suc n) h e = go (follows_of (place_before ls n) (get_or ls n []) (bad_not ls f n h)) (opens_at ls f n (omega arith))
  where
    go : (line_group (get_or ls n []) < group_count) × (may_follow (place_before ls n) (line_group (get_or ls n [])) ≡ true) → (place_before ls n ≡ 4 → opens (take n ls) ≡ true) → opens (take (suc n) ls) ≡ true
    go w r =
        ap opens (take-suc ls n [] h)
        ∙ ⊎_elim (λ q. open_inst (get_or ls n []) q (take n ls))
        (λ q. open_operand (get_or ls n []) (eq-eqb (line_group (get_or ls n [])) operand_group q) (take n ls)
        (r (operand_place (place_before ls n) (sym (ap (may_follow (place_before ls n)) q) ∙ w.1))))
        (open_place (line_group (get_or ls n [])) w.0 e)

pub opens_last : (ls : List (List ℕ)) → so_far ls ≡ Fine → place_before ls (length ls) ≡ 4 → opens ls ≡ true
opens_last ls f e = ap opens (sym (take-length ls)) ∙ opens_at ls f (length ls) (omega arith) e

-- behind which an operand may stand
pub operand_opens : (ls : List (List ℕ)) → so_far ls ≡ Fine → may_follow (place_before ls (length ls)) operand_group ≡ true → opens ls ≡ true
operand_opens ls f e = opens_last ls f (operand_place (place_before ls (length ls)) e)
