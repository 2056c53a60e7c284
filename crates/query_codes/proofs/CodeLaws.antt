-- A shared area's part is told, or that there is none, or a refusal.
use Prim.Native.Nat.{ℕ, ◌≤◌}
use native.Mathlib.Omega.{arith}
use mathlib.Core.Path.{◌≡◌, refl, sym, ap, subst, ◌∙◌}
use mathlib.Core.Option.{Option}
use mathlib.Core.List.{List, [], ◌∷◌}
use lib.ListN.{length, set, drop}
use Rattle.refusals.specs.declared.Refusal.{Refusal}
use Rattle.refusals.specs.Verdicts.{number_of, Bad, Verdict, Found}
use Rattle.refusals.specs.Outcomes.{Outcome, unless, found}
use Rattle.query_checks.specs.Checks.{told_verdict}
use Rattle.query_checks.proofs.CheckLaws.{told_room}
use Rattle.queries.specs.Shares.{shared_part, shared_of}
use Rattle.codes.specs.Codes.{refusal_code, absent_code}
use Rattle.query_codes.specs.Codes.{told_of, part_code, part_after, PartTold}
use Rattle.std.specs.Prelude.{Ok, Err, Some, None}
use Rattle.queries.specs.declared.Stretch.{Stretch}

-- two stores at the front
two_stored : (part : List ℕ) (x y : ℕ) → 2 ≤ length part → set (set part 0 x) 1 y ≡ x ∷ y ∷ drop 2 part
two_stored [] x y h = absurd (omega arith)
two_stored (a ∷ []) x y h = absurd (omega arith)
two_stored (a ∷ b ∷ l) x y h = refl

module _ {part : List ℕ} {s : Found Stretch} where
  pub part_told : {part' : List ℕ} {f c : ℕ} → 2 ≤ length part → s ≡ Ok (Some (record { first = f; count = c })) → part' ≡ set (set part 0 f) 1 c → PartTold (found s) part 0 part'
  part_told {part'} {f} {c} l e h =
      record {
        answer = ap (λ (x : Found Stretch). part_code (found x)) (sym e);
        in_part = h ∙ two_stored part f c l ∙ ap (λ (x : Found Stretch). part_after (found x) part) (sym e);
      }

  pub part_absent : s ≡ (Ok None) → PartTold (found s) part absent_code part
  part_absent e =
      record {
        answer = ap (λ (x : Found Stretch). part_code (found x)) (sym e);
        in_part = ap (λ (x : Found Stretch). part_after (found x) part) (sym e);
      }

  pub part_refused : {n i : ℕ} {k : Refusal} → s ≡ Err (k, i) → n ≡ refusal_code (number_of k) i → PartTold (found s) part n part
  part_refused e h =
      record {
        answer = h ∙ ap (λ (x : Found Stretch). part_code (found x)) (sym e);
        in_part = ap (λ (x : Found Stretch). part_after (found x) part) (sym e);
      }

-- the outcome, by the length of the list
module _ (cells items areas : List ℕ) (locals i : ℕ) (part : List ℕ) where
  -- refused for it, or before it
  pub told_refused : {n : ℕ} (r : Refusal) (k : ℕ) → Bad r k ≡ told_verdict cells items areas locals (length part) → n ≡ refusal_code (number_of r) k
      → PartTold (told_of cells items areas locals i (length part)) part n part
  told_refused {n} r k e h =
      subst (λ (v : Verdict). PartTold (unless v (shared_part cells items locals i)) part n part) e (record { answer = h; in_part = refl })

  -- there is room for the two numbers
  pub told_as : (s : Found Stretch) {n : ℕ} {part' : List ℕ} → 2 ≤ length part → found s ≡ shared_of cells items areas locals i → PartTold (found s) part n part'
      → PartTold (told_of cells items areas locals i (length part)) part n part'
  told_as s {n} {part'} h e t =
      subst (λ (o : Outcome (Option Stretch)). PartTold o part n part')
      (e ∙ ap (λ (v : Verdict). unless v (shared_part cells items locals i)) (told_room cells items areas locals (length part) h)) t
