-- A text read piece by piece, and what it is answered where it ends.
use Prim.Native.Nat.{ℕ, zero, suc, ◌+◌, ◌-◌, ◌*◌, ◌≤◌, ◌<◌}
use native.Mathlib.Omega.{arith}
use native.Mathlib.Nat.{not-suc-le-zero, le_of_suc-le-suc}
use native.Mathlib.Numerals.{add-one}
use native.Mathlib.Decide.{ℕ_discrete}
use mathlib.Core.Path.{◌≡◌, refl, ap, sym, subst, ◌∙◌}
use mathlib.Core.Bool.{Bool, true, false, cond, ◌&&◌, ◌||◌, not}
use mathlib.Core.List.{List, [], ◌∷◌, ◌++◌, append_assoc, append-nil}
use lib.ListN.{length, get_or, take, length-append, length-take, get_or-append}
use lib.Seq.{take-suc, take-length}
use lib.Dec.{T, eqb, leb, ltb, lit<, leb-suc-zero}
use borrow.Author.Tests.{eq-eqb, ne_eqb, lt-ltb, le-ltb, eqb-true, ltb-false}
use Rattle.refusals.specs.declared.Refusal.TheVariants.{Count, Text as TextRefused}
use Rattle.refusals.specs.Verdicts.{first, scan, check, Bad, Fine, Verdict}
use Rattle.refusals.proofs.Laws.{scan_fine, first_right, check_told}
use Rattle.words.specs.Rows.{flat}
use Rattle.words.specs.Inner.{part}
use Rattle.words.proofs.RegionLaws.{get_d_part}
use Rattle.words.proofs.Points.{cut}
use Rattle.words.proofs.Bools.{or_right, or_neither, never}
use Rattle.text_grammar.specs.Groups.{group_at, base_at, group_count, may_follow, head_group}
use Rattle.text_grammar.specs.Lines.{newline, lines_of, group_of, ended, body, formed, well_formed, line_group, line_fields}
use Rattle.text_grammar.specs.Text.{place_before, malformed, bad_line, lines_verdict, rows_in, row_with, operands_after, count_of, registers, crowded, too_many, read_verdict}
use Rattle.text_grammar.proofs.RowLaws.{group_fits, length_row}
use Rattle.text_grammar.proofs.OrderLaws.{so_far, far_bad, far_found, verdict_none, verdict_some}
use Rattle.text_grammar.proofs.OpenLaws.{follows_of}
use Rattle.text_grammar.proofs.TableLaws.{at}
use Rattle.text_lines.specs.declared.job_rows.Reader.{Reader}
use Rattle.text_lines.specs.Inner.{Stored, unbroken, Reading, Ready, Records, Feeds}
use Rattle.text_lines.proofs.ByteLaws.{lines_open}

-- ---- a piece, byte by byte

module _ {r : Reader} {n : ℕ} {line fields rows counts : List ℕ} where
  pub fed_none : Feeds [] r n line fields rows counts r n line fields rows counts
  fed_none = record {
    feeds = λ t d. subst (λ (x : List ℕ). Reading x r n line rows counts) (sym (append-nil t)) d;
    line_kept = refl;
    fields_kept = refl;
    rows_kept = refl;
    counts_kept = refl;
  }

  module _ {r' : Reader} {n' : ℕ} {line' fields' rows' counts' : List ℕ} (piece : List ℕ) (i : ℕ) (h : i < length piece) (f : Feeds (take i piece) r n line fields rows counts r' n' line' fields' rows' counts') where
    pub fed_more : {r'' : Reader} {n'' : ℕ} {line'' fields'' rows'' counts'' : List ℕ} → Feeds (get_or piece i 0 ∷ []) r' n' line' fields' rows' counts' r'' n'' line'' fields'' rows'' counts''
        → Feeds (take (i + 1) piece) r n line fields rows counts r'' n'' line'' fields'' rows'' counts''
    fed_more {r''} {n''} {line''} {fields''} {rows''} {counts''} g = record {
      feeds = λ t d. subst (λ (x : List ℕ). Reading x r'' n'' line'' rows'' counts'')
          (append_assoc t (take i piece) (get_or piece i 0 ∷ []) ∙ ap (λ (x : List ℕ). t ++ x) (sym (ap (λ (m : ℕ). take m piece) (add-one i) ∙ take-suc piece i 0 h)))
          (g.feeds (t ++ take i piece) (f.feeds t d));
      line_kept = g.line_kept ∙ f.line_kept;
      fields_kept = g.fields_kept ∙ f.fields_kept;
      rows_kept = g.rows_kept ∙ f.rows_kept;
      counts_kept = g.counts_kept ∙ f.counts_kept;
    }

    pub ready_more : Ready r n line rows counts (length piece) → Ready r' n' line' rows' counts' 1
    ready_more y = record {
      text = y.text ++ take i piece;
      reading = f.feeds y.text y.reading;
      short = let a = length-append y.text (take i piece) in let b = length-take i piece in let c = y.short in omega arith;
    }

  pub fed_all : {r' : Reader} {n' : ℕ} {line' fields' rows' counts' : List ℕ} (piece : List ℕ) (i : ℕ) → i ≡ length piece → Feeds (take i piece) r n line fields rows counts r' n' line' fields' rows' counts'
      → Feeds piece r n line fields rows counts r' n' line' fields' rows' counts'
  fed_all {r'} {n'} {line'} {fields'} {rows'} {counts'} piece i e f =
      subst (λ (x : List ℕ). Feeds x r n line fields rows counts r' n' line' fields' rows' counts') (ap (λ (m : ℕ). take m piece) e ∙ take-length piece) f

-- ---- the groups' counts

over_found : (ls : List (List ℕ)) (k n : ℕ) → k < n → (group_at k).room < count_of k ls → crowded n ls ≡ true
unfolding crowded
over_found ls k zero h o = absurd (not-suc-le-zero h)
over_found ls k (suc n) h o =
    elim (ℕ_discrete k n) [
      | yes e ↦ or_right (crowded n ls) _ (ap (λ (m : ℕ). ltb (group_at m).room (count_of m ls)) (sym e) ∙ lt-ltb (group_at k).room (count_of k ls) o)
      | no d ↦ ap (λ (t : Bool). t || ltb (group_at n).room (count_of n ls)) (over_found ls k n (cut n k (λ a. absurd (d (omega arith))) (λ a. a)) o)
    ]

none_over : (ls : List (List ℕ)) (n : ℕ) → ((k : ℕ) → k < n → count_of k ls ≤ (group_at k).room) → crowded n ls ≡ false
unfolding crowded
none_over ls zero f = refl
none_over ls (suc n) f =
    ap (λ (t : Bool). t || ltb (group_at n).room (count_of n ls)) (none_over ls n (λ k h. f k (omega arith))) ∙ le-ltb (group_at n).room (count_of n ls) (f n (omega arith))

pub not_crowded : (ls : List (List ℕ)) (n k : ℕ) → crowded n ls ≡ false → k < n → count_of k ls ≤ (group_at k).room
unfolding crowded
not_crowded ls zero k e h = absurd (not-suc-le-zero h)
not_crowded ls (suc n) k e h =
    let p = or_neither (crowded n ls) (ltb (group_at n).room (count_of n ls)) e in
    elim (ℕ_discrete k n) [
      | yes q ↦ rw q (ltb-false (group_at n).room (count_of n ls) p.1)
      | no d ↦ not_crowded ls n k p.0 (cut n k (λ a. absurd (d (omega arith))) (λ a. a))
    ]

-- an accepted text has no more records of a group than there are rows
pub accepted_few : (text : List ℕ) → read_verdict text ≡ Fine → (k : ℕ) → k < group_count → count_of k (lines_of text) ≤ (group_at k).room
accepted_few text e k h =
    let t = check_told Count (too_many (lines_of text)) (first_right (lines_verdict (lines_of text)) _ e) in
    not_crowded (lines_of text) group_count k (or_neither (crowded group_count (lines_of text)) (ltb 64 (registers (lines_of text))) t).0 h

-- ---- `H` comes first

head_entry : ℕ → Bool
head_entry k = eqb k 0 || leb 1 (group_at k).least

head_only : (k : ℕ) → k < group_count → may_follow 0 k ≡ true → k ≡ 0
unfolding head_entry
head_only k h e = go (eqb k 0) refl (group_at k).least refl (at group_count head_entry tt k h) e
  where
    go : (t : Bool) → eqb k 0 ≡ t → (m : ℕ) → (group_at k).least ≡ m → T (t || leb 1 m) → (leb m 0 && leb 0 (group_at k).most) ≡ true → k ≡ 0
    go true p m q x y = eqb-true k 0 p
    go false p zero q x y = absurd x
    go false p (suc m) q x y = never (sym (ap (λ (t : Bool). t && leb 0 (group_at k).most) (leb-suc-zero m)) ∙ y)

first_fine : (l : List ℕ) (ls : List (List ℕ)) → so_far (l ∷ ls) ≡ Fine → malformed 0 l ≡ false
unfolding bad_line
first_fine l ls e = scan_fine TextRefused (bad_line (l ∷ ls)) (length (l ∷ ls)) e 0 (omega arith)

head_rows : (l : List ℕ) (ls : List (List ℕ)) → so_far (l ∷ ls) ≡ Fine → rows_in head_group (l ∷ ls) ≡ row_with head_group (line_fields l) (operands_after ls) ∷ rows_in head_group ls
unfolding rows_in
head_rows l ls e =
    let w = follows_of 0 l (first_fine l ls e) in
    ap (λ (t : Bool). cond t (row_with head_group (line_fields l) (operands_after ls) ∷ rows_in head_group ls) (rows_in head_group ls)) (eq-eqb (line_group l) 0 (head_only (line_group l) w.0 w.1))

head_length : (l : List ℕ) (ls : List (List ℕ)) → so_far (l ∷ ls) ≡ Fine → length (row_with head_group (line_fields l) (operands_after ls)) ≡ 3
head_length l ls e =
    let w = follows_of 0 l (first_fine l ls e) in
    let g = head_only (line_group l) w.0 w.1 in
    length_row 0 (line_fields l) (operands_after ls) (lit< tt) (rw g at (group_fits l w.0))

flat_first : (x : List ℕ) (xs : List (List ℕ)) (i : ℕ) → i < length x → get_or (flat (x ∷ xs)) i 0 ≡ get_or x i 0
unfolding flat
flat_first x xs i h = get_or-append x (flat xs) 0 i h

-- V stands in the second number of the rows
registers_at : (ls : List (List ℕ)) (rows counts : List ℕ) → 0 < length ls → so_far ls ≡ Fine → Stored ls rows counts → get_or rows 1 0 ≡ registers ls
registers_at [] rows counts h e s = absurd (not-suc-le-zero h)
registers_at (l ∷ ls) rows counts h e s =
    let c : count_of head_group (l ∷ ls) ≡ suc (count_of head_group ls) = ap length (head_rows l ls e) in
    sym (get_d_part 0 (3 * count_of head_group (l ∷ ls)) rows 1 (omega arith))
    ∙ ap (λ (x : List ℕ). get_or x 1 0) (s.rows_are 0 (lit< tt) ∙ ap flat (head_rows l ls e))
    ∙ flat_first (row_with head_group (line_fields l) (operands_after ls)) (rows_in head_group ls) 1 (let n = head_length l ls e in omega arith)
    ∙ ap (λ (x : List (List ℕ)). get_or (get_or x 0 []) 1 0) (sym (head_rows l ls e))

-- ---- a line that has not ended

not_newline : (s : List ℕ) → unbroken s ≡ true → (i : ℕ) → i < length s → get_or s i 0 ≡ newline → ⊥
unfolding unbroken
not_newline [] e i h q = not-suc-le-zero h
not_newline (b ∷ s) e zero h q = never (sym (ap (λ (t : Bool). cond t false (unbroken s)) (eq-eqb b newline q)) ∙ e)
not_newline (b ∷ s) e (suc i) h q = go (eqb b newline) e (λ u. not_newline s u i (le_of_suc-le-suc h) q)
  where
    go : (t : Bool) → cond t false (unbroken s) ≡ true → (unbroken s ≡ true → ⊥) → ⊥
    go true e r = never e
    go false e r = r e

open_line : (l : List ℕ) → unbroken l ≡ true → 0 < length l → line_group l ≡ group_count
unfolding line_group well_formed
open_line l e h = ap (λ (t : Bool). cond t (group_of (body l)) group_count) (go (leb (length l) 128))
  where
    go : (t : Bool) → (t && (ended l && formed (body l))) ≡ false
    go true = ap (λ (x : Bool). x && formed (body l)) (ne_eqb (get_or l (length l - 1) 0) newline (not_newline l e (length l - 1) (omega arith)))
    go false = refl

none_malformed : (p : ℕ) (l : List ℕ) → line_group l ≡ group_count → malformed p l ≡ true
none_malformed p l e = ap (λ (k : ℕ). not (ltb k group_count && may_follow p k)) e

-- ---- the answer

fine_first : (v : Verdict) (t : Bool) → v ≡ Fine → first v (check Count t) ≡ check Count t
unfolding first
fine_first v t e = ap (λ (x : Verdict). first x (check Count t)) e

bad_first : (v : Verdict) (t : Bool) (i : ℕ) → v ≡ Bad TextRefused i → first v (check Count t) ≡ Bad TextRefused i
unfolding first
bad_first v t i e = ap (λ (x : Verdict). first x (check Count t)) e

verdict_as : (text : List ℕ) (ls : List (List ℕ)) → lines_of text ≡ ls → read_verdict text ≡ first (lines_verdict ls) (check Count (too_many ls))
verdict_as text ls e = ap (λ (l : List (List ℕ)). first (lines_verdict l) (check Count (too_many l))) e

not_fine : {A : Type 0} {i : ℕ} → ◌≡◌ {A = Verdict} Fine (Bad TextRefused i) → A
not_fine e = absurd (let z : ◌≡◌ {A = ℕ} 0 1 = cc in omega arith)

some : (ls : List (List ℕ)) (i : ℕ) → so_far ls ≡ Bad TextRefused i → 0 < length ls
unfolding scan
some [] i q = not_fine q
some (x ∷ ls) i q = omega arith

module _ {text line rows counts : List ℕ} {r : Reader} {n : ℕ} (d : Reading text r n line rows counts) where
  lines_all : lines_of text ≡ d.done ++ lines_of d.rest
  lines_all = ap lines_of (sym (append-nil text)) ∙ d.split [] ∙ ap (λ (x : List ℕ). d.done ++ lines_of x) (append-nil d.rest)

  no_lines : lines_of [] ≡ []
  unfolding lines_of
  no_lines = refl

  so_far_lem : (b : Bool) → r.bad ≡ b → so_far d.done ≡ cond b (Bad TextRefused r.at) Fine
  so_far_lem b e = d.held.taken.verdict ∙ ap (λ (x : Bool). cond x (Bad TextRefused r.at) Fine) e

  rest_none : n ≡ 0 → d.rest ≡ []
  rest_none e = go d.rest (let c = d.held.counted in omega arith)
    where
      go : (l : List ℕ) → length l ≡ 0 → l ≡ []
      go [] h = refl
      go (x ∷ l) h = absurd (omega arith)

  lines_done : n ≡ 0 → lines_of text ≡ d.done
  lines_done e = lines_all ∙ ap (λ (x : List ℕ). d.done ++ lines_of x) (rest_none e) ∙ ap (λ (x : List (List ℕ)). d.done ++ x) no_lines ∙ append-nil d.done

  lines_rest : 0 < n → lines_of text ≡ d.done ++ (d.rest ∷ [])
  lines_rest h = lines_all ∙ ap (λ (x : List (List ℕ)). d.done ++ x) (go d.rest d.held.unended (let c = d.held.counted in omega arith))
    where
      go : (l : List ℕ) → unbroken l ≡ true → 0 < length l → lines_of l ≡ l ∷ []
      go [] u q = absurd (not-suc-le-zero q)
      go (b ∷ l) u q = lines_open b l u

  answered_bad : (ls : List (List ℕ)) (i : ℕ) → lines_of text ≡ ls → so_far ls ≡ Bad TextRefused i → Bad TextRefused i ≡ read_verdict text
  answered_bad ls i e q = sym (verdict_as text ls e ∙ bad_first (lines_verdict ls) (too_many ls) i (verdict_some ls (some ls i q) ∙ q))

  pub end_bad : r.bad ≡ true → Bad TextRefused r.at ≡ read_verdict text
  end_bad e =
      cut 1 n (λ h. answered_bad (d.done ++ (d.rest ∷ [])) r.at (lines_rest h) (far_bad d.done d.rest r.at (so_far_lem true e)))
      (λ h. answered_bad d.done r.at (lines_done (omega arith)) (so_far_lem true e))

  pub end_open : r.bad ≡ false → 0 < n → Bad TextRefused r.lines ≡ read_verdict text
  end_open e h =
      ap (Bad TextRefused) d.held.taken.lines
      ∙ answered_bad (d.done ++ (d.rest ∷ [])) (length d.done) (lines_rest h)
      (far_found d.done d.rest (so_far_lem false e)
      (none_malformed (place_before d.done (length d.done)) d.rest (open_line d.rest d.held.unended (let c = d.held.counted in omega arith))))

  pub end_none : n ≡ 0 → r.lines ≡ 0 → Bad TextRefused 0 ≡ read_verdict text
  end_none e z =
      sym (verdict_as text [] (lines_done e ∙ go d.done (sym d.held.taken.lines ∙ z)) ∙ bad_first (lines_verdict []) (too_many []) 0 verdict_none)
    where
      go : (l : List (List ℕ)) → length l ≡ 0 → l ≡ []
      go [] h = refl
      go (x ∷ l) h = absurd (omega arith)

  module _ (b : r.bad ≡ false) (e : n ≡ 0) (z : r.lines ≡ 0 → ⊥) where
    done_some : 0 < length d.done
    done_some = cut 1 (length d.done) (λ a. a) (λ a. absurd (z (d.held.taken.lines ∙ (let y : length d.done ≡ 0 = omega arith in y))))

    counts_verdict : read_verdict text ≡ check Count (too_many d.done)
    counts_verdict = verdict_as text d.done (lines_done e) ∙ fine_first (lines_verdict d.done) (too_many d.done) (verdict_some d.done done_some ∙ so_far_lem false b)

    pub end_full : r.full ≡ true → Bad Count 0 ≡ read_verdict text
    end_full f =
        let o = d.held.taken.over b f in
        sym (counts_verdict ∙ ap (λ (t : Bool). check Count (t || ltb 64 (registers d.done))) (over_found d.done o.group group_count o.known o.over))

    module _ (f : r.full ≡ false) where
      held : Stored d.done rows counts
      held = d.held.taken.stored b f

      registers-verdict : read_verdict text ≡ check Count (ltb 64 (get_or rows 1 0))
      registers-verdict =
          counts_verdict ∙ ap (λ (t : Bool). check Count (t || ltb 64 (registers d.done))) (none_over d.done group_count held.fitting)
          ∙ ap (λ (v : ℕ). check Count (ltb 64 v)) (sym (registers_at d.done rows counts done_some (so_far_lem false b) held))

      pub end_registers : 64 < get_or rows 1 0 → Bad Count 0 ≡ read_verdict text
      end_registers h = sym (registers-verdict ∙ ap (check Count) (lt-ltb 64 (get_or rows 1 0) h))

      pub end_fine : get_or rows 1 0 ≤ 64 → Fine ≡ read_verdict text
      end_fine h = sym (registers-verdict ∙ ap (check Count) (le-ltb 64 (get_or rows 1 0) h))

      pub end_records : Records text rows counts
      end_records = record {
        counted = λ k h. held.counted k h ∙ ap (count_of k) (sym (lines_done e));
        rows_are = λ k h. ap (λ (ls : List (List ℕ)). part (base_at k) ((group_at k).width * count_of k ls) rows) (lines_done e) ∙ held.rows_are k h ∙ ap (λ (ls : List (List ℕ)). flat (rows_in k ls)) (sym (lines_done e));
      }

-- an accepted text has its head
pub head_counted : (ls : List (List ℕ)) → lines_verdict ls ≡ Fine → 0 < count_of head_group ls
head_counted [] e = not_fine (sym e ∙ verdict_none)
head_counted (l ∷ ls) e =
    let c : count_of head_group (l ∷ ls) ≡ suc (count_of head_group ls) = ap length (head_rows l ls (sym (verdict_some (l ∷ ls) (omega arith)) ∙ e)) in
    omega arith

-- ---- for programs that read pieces in a loop

pub ready_start : {r : Reader} {n : ℕ} {line rows counts : List ℕ} → Reading [] r n line rows counts → (more : ℕ) → more ≤ 18446744073709551615 → Ready r n line rows counts more
ready_start d more h = record { text = []; reading = d; short = omega arith }

pub ready_less : {r : Reader} {n : ℕ} {line rows counts : List ℕ} {m : ℕ} → Ready r n line rows counts m → (k : ℕ) → k ≤ m → Ready r n line rows counts k
ready_less y k h = record { text = y.text; reading = y.reading; short = let s = y.short in omega arith }

pub ready_fed : {r r' : Reader} {n n' : ℕ} {line fields rows counts line' fields' rows' counts' : List ℕ} {m : ℕ} {piece : List ℕ} → Ready r n line rows counts m
    → Feeds piece r n line fields rows counts r' n' line' fields' rows' counts' → (k : ℕ) → length piece + k ≤ m → Ready r' n' line' rows' counts' k
ready_fed {piece = piece} y f k h = record {
  text = y.text ++ piece;
  reading = f.feeds y.text y.reading;
  short = let s = y.short in let e = length-append y.text piece in omega arith;
}
