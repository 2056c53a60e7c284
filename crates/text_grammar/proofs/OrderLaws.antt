-- Number 11 of lines, and one line more.
use Prim.Native.Nat.{ℕ, zero, suc, ◌+◌, ◌≤◌, ◌<◌, max}
use native.Mathlib.Omega.{arith}
use native.Mathlib.Numerals.{add-one}
use mathlib.Core.Path.{◌≡◌, refl, ap, ◌∙◌}
use mathlib.Core.Bool.{Bool, true, false, cond, not, ◌&&◌}
use mathlib.Core.List.{List, [], ◌∷◌, ◌++◌}
use lib.ListN.{length, get_or, get_or-append, length-append}
use lib.Seq.{get_or-append_seam}
use lib.Dec.{ltb}
use Rattle.refusals.specs.declared.Refusal.TheVariants.{Text as TextRefused}
use Rattle.refusals.specs.Verdicts.{first, scan, Bad, Fine, Verdict}
use Rattle.refusals.proofs.Laws.{scan_miss, scan_hit}
use Rattle.text_grammar.specs.Groups.{group_at, group_count, may_follow}
use Rattle.text_grammar.specs.Lines.{line_group, well_formed}
use Rattle.text_grammar.specs.Text.{place_before, malformed, bad_line, lines_verdict}

-- tests that agree below n give the same first offending record
scan_alike : (t u : ℕ → Bool) (n : ℕ) → ((i : ℕ) → i < n → t i ≡ u i) → scan TextRefused t n ≡ scan TextRefused u n
unfolding scan
scan_alike t u zero h = refl
scan_alike t u (suc n) h =
    ap (λ (v : Verdict). first v (cond (t n) (Bad TextRefused n) Fine)) (scan_alike t u n (λ i l. h i (omega arith)))
    ∙ ap (λ (b : Bool). first (scan TextRefused u n) (cond b (Bad TextRefused n) Fine)) (h n (omega arith))

-- the verdict of the lines so far
abbrev pub so_far : List (List ℕ) → Verdict
so_far ls = scan TextRefused (bad_line ls) (length ls)

module _ (ls : List (List ℕ)) (l : List ℕ) where
  at_same : (i : ℕ) → i < length ls → get_or (ls ++ (l ∷ [])) i [] ≡ get_or ls i []
  at_same i h = get_or-append ls (l ∷ []) [] i h

  place_same : (i : ℕ) → i ≤ length ls → place_before (ls ++ (l ∷ [])) i ≡ place_before ls i
  place_same zero h = refl
  place_same (suc i) h = ap (λ (m : List ℕ). (group_at (line_group m)).place) (at_same i h)

  bad_same : (i : ℕ) → i < length ls → bad_line (ls ++ (l ∷ [])) i ≡ bad_line ls i
  unfolding bad_line
  bad_same i h =
      ap (λ (p : ℕ). malformed p (get_or (ls ++ (l ∷ [])) i [])) (place_same i (omega arith)) ∙ ap (malformed (place_before ls i)) (at_same i h)

  bad_last : bad_line (ls ++ (l ∷ [])) (length ls) ≡ malformed (place_before ls (length ls)) l
  unfolding bad_line
  bad_last =
      ap (λ (p : ℕ). malformed p (get_or (ls ++ (l ∷ [])) (length ls) [])) (place_same (length ls) (omega arith))
      ∙ ap (malformed (place_before ls (length ls))) (get_or-append_seam ls l [] [])

  pub length_more : length (ls ++ (l ∷ [])) ≡ length ls + 1
  length_more = length-append ls (l ∷ [])

  before : scan TextRefused (bad_line (ls ++ (l ∷ []))) (length ls) ≡ so_far ls
  before = scan_alike (bad_line (ls ++ (l ∷ []))) (bad_line ls) (length ls) bad_same

  pub far_bad : (i : ℕ) → so_far ls ≡ Bad TextRefused i → so_far (ls ++ (l ∷ [])) ≡ Bad TextRefused i
  unfolding scan first
  far_bad i e = ap (scan TextRefused (bad_line (ls ++ (l ∷ [])))) (length_more ∙ add-one (length ls)) ∙ ap (λ (v : Verdict). first v (cond (bad_line (ls ++ (l ∷ [])) (length ls)) (Bad TextRefused (length ls)) Fine)) (before ∙ e)

  pub far_fine : so_far ls ≡ Fine → malformed (place_before ls (length ls)) l ≡ false → so_far (ls ++ (l ∷ [])) ≡ Fine
  far_fine e m =
      ap (scan TextRefused (bad_line (ls ++ (l ∷ [])))) length_more
      ∙ scan_miss TextRefused (bad_line (ls ++ (l ∷ []))) (length ls) (before ∙ e) (bad_last ∙ m)

  pub far_found : so_far ls ≡ Fine → malformed (place_before ls (length ls)) l ≡ true → so_far (ls ++ (l ∷ [])) ≡ Bad TextRefused (length ls)
  far_found e m =
      scan_hit TextRefused (bad_line (ls ++ (l ∷ []))) (length ls) (length (ls ++ (l ∷ []))) (before ∙ e) (bad_last ∙ m) (omega (arith, length_more))

  pub place_last : place_before (ls ++ (l ∷ [])) (length (ls ++ (l ∷ []))) ≡ (group_at (line_group l)).place
  place_last =
      ap (place_before (ls ++ (l ∷ []))) (length_more ∙ add-one (length ls)) ∙ ap (λ (m : List ℕ). (group_at (line_group m)).place) (get_or-append_seam ls l [] [])

no_line : line_group [] ≡ group_count
unfolding line_group well_formed
no_line = refl

-- the whole text's verdict: that of its lines, or a missing first line
pub verdict_none : lines_verdict [] ≡ Bad TextRefused 0
unfolding scan first bad_line
verdict_none = ap (λ (k : ℕ). cond (not (ltb k group_count && may_follow 0 k)) (Bad TextRefused 0) Fine) no_line

pub verdict_some : (ls : List (List ℕ)) → 0 < length ls → lines_verdict ls ≡ so_far ls
verdict_some ls h = ap (scan TextRefused (bad_line ls)) (most (length ls) h)
  where
    most : (n : ℕ) → 0 < n → max 1 n ≡ n
    most n h = omega arith
