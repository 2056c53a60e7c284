-- The answer of a whole text: its refusals in their order, and what an accepted one leaves in the lent lists.
use Prim.Native.Nat.{ℕ, zero, suc, ◌+◌, ◌-◌, ◌*◌, ◌≤◌, ◌<◌}
use native.Mathlib.Omega.{arith}
use native.Mathlib.Nat.{mul-le-mul_left, le_of_suc-le-suc, not-suc-le-zero}
use mathlib.Core.Path.{◌≡◌, refl, ap, sym, ◌∙◌}
use mathlib.Core.Bool.{Bool, false, ◌||◌}
use mathlib.Core.List.{List, [], ◌∷◌, ◌++◌, append_assoc, Memᴰ}
use lib.ListN.{length, get_or, take, drop, replicate, length-append, length-replicate, get_or-append, get_or-eq_default}
use lib.Seq.{take-take, take-append_seam, drop-append-add}
use lib.Dec.{ltb}
use borrow.Author.Tests.{lt-ltb, le-ltb, ltb-false}
use Rattle.refusals.specs.declared.Refusal.{Refusal}
use Rattle.refusals.specs.declared.Refusal.TheVariants.{Count, Space, Text as TextRefused}
use Rattle.refusals.specs.Verdicts.{first, in_order, check, rank_of, Bad, Fine, Verdict}
use Rattle.refusals.specs.Outcomes.{unless, numbered, after}
use Rattle.refusals.specs.Orders.{Ordered}
use Rattle.refusals.proofs.Laws.{first_fine, first_assoc, first_left, first_right, check_last, check_told, first_last}
use Rattle.refusals.proofs.Orders.{check_gives, scan_gives, lowest_wins}
use Rattle.refusals.proofs.Numbers.{numbered_same}
use Rattle.words.specs.Rows.{tabulate, flat}
use Rattle.words.specs.Inner.{part}
use Rattle.words.proofs.Bools.{or_left, or_right, or_neither}
use Rattle.words.proofs.RowLaws.{length_tabulate, get_d_tabulate, tabulate_eq, tabulate_add, tabulate_get_d, tabulate_replicate}
use Rattle.text_grammar.specs.Groups.{group_at, base_at, group_count, row_numbers}
use Rattle.text_grammar.specs.Lines.{lines_of}
use Rattle.text_grammar.specs.Text.{bad_line, rows_in, count_of, text_verdict, too_many, read_verdict}
use Rattle.text_grammar.proofs.RowLaws.{length_rows}
use Rattle.text_lines.specs.Inner.{Records, Finished, padded, Copyable, Copied}
use Rattle.text_lines.specs.Read.{read_checks, group_rows, rows_for, counts_for, TextRead}
use Rattle.text_lines.proofs.EndLaws.{accepted_few}
use Rattle.text_lines.proofs.CopyLaws.{starts, before_all, flat_before}
use Rattle.std.specs.Result.{result_and}
use Rattle.std.specs.Prelude.{Ok, Err}

-- the library's `and` of two verdicts is the first that refuses
pub and_first : (v w : Verdict) → result_and v w ≡ first v w
unfolding first
and_first (Ok u) w = refl
and_first (Err e) w = refl

-- ---- the refusals, 11 first

pub read_ordered : (text : List ℕ) (rows counts : ℕ) → Ordered rank_of (TextRefused ∷ Count ∷ Space ∷ []) (read_checks text rows counts)
read_ordered text rows counts = record { gives = (scan_gives TextRefused (bad_line (lines_of text)) _, (check_gives Count (too_many (lines_of text)), (check_gives Space (ltb rows row_numbers || ltb counts group_count), tt))); rises = refl }

-- of all refusals that a text and its lists have the first in the order 11, 1, 7 is given
pub read_lowest : (text : List ℕ) (rows counts : ℕ) (r s : Refusal) (i j : ℕ) → in_order (read_checks text rows counts) ≡ Bad r i → Memᴰ (Bad s j) (read_checks text rows counts) → rank_of r ≤ rank_of s
read_lowest text rows counts = lowest_wins rank_of _ _ (read_ordered text rows counts)

-- the lists' check comes behind those of the text
pub read_checks_lem : (text : List ℕ) (rows counts : ℕ) → in_order (read_checks text rows counts) ≡ first (read_verdict text) (check Space (ltb rows row_numbers || ltb counts group_count))
unfolding in_order
read_checks_lem text rows counts =
    ap (λ (v : Verdict). first (text_verdict text) (first (check Count (too_many (lines_of text))) v)) (check_last (check Space (ltb rows row_numbers || ltb counts group_count)))
    ∙ sym (first_assoc (text_verdict text) (check Count (too_many (lines_of text))) (check Space (ltb rows row_numbers || ltb counts group_count)))

verdict_is : (text : List ℕ) {v : Verdict} {held counted : List ℕ} → Finished text v held counted → v ≡ read_verdict text
verdict_is text {v} F = numbered_same v (read_verdict text) F.verdict

pub text_fine : (text : List ℕ) {v : Verdict} {held counted : List ℕ} → Finished text v held counted → v ≡ Fine → read_verdict text ≡ Fine
text_fine text F e = sym (verdict_is text F) ∙ e

module _ (text rows counts : List ℕ) where
  refuses : (r : Refusal) (i : ℕ) → in_order (read_checks text (length rows) (length counts)) ≡ Bad r i → TextRead text rows counts (Bad r i) rows counts
  refuses r i e = record {
    answer = ap numbered (sym e);
    in_rows = ap (λ (v : Verdict). after (unless v text) rows_for rows) (sym e);
    in_counts = ap (λ (v : Verdict). after (unless v text) counts_for counts) (sym e);
  }

  module _ {v w : Verdict} {held counted : List ℕ} (F : Finished text v held counted) (e : w ≡ first v (check Space (ltb (length rows) row_numbers || ltb (length counts) group_count))) where
    all_checks : in_order (read_checks text (length rows) (length counts)) ≡ w
    all_checks = read_checks_lem text (length rows) (length counts) ∙ ap (λ (x : Verdict). first x (check Space (ltb (length rows) row_numbers || ltb (length counts) group_count))) (sym (verdict_is text F)) ∙ sym e

    pub read_refused : (r : Refusal) (i : ℕ) → w ≡ Bad r i → TextRead text rows counts (Bad r i) rows counts
    read_refused r i q = refuses r i (all_checks ∙ q)

    module _ (q : w ≡ Fine) where
      pub text_taken : read_verdict text ≡ Fine
      text_taken = text_fine text F (first_left v _ (sym e ∙ q))

      roomy : (ltb (length rows) row_numbers || ltb (length counts) group_count) ≡ false
      roomy = check_told Space _ (first_right v _ (sym e ∙ q))

      pub rows_roomy : row_numbers ≤ length rows
      rows_roomy = ltb-false (length rows) row_numbers (or_neither (ltb (length rows) row_numbers) (ltb (length counts) group_count) roomy).0

      pub counts_roomy : group_count ≤ length counts
      counts_roomy = ltb-false (length counts) group_count (or_neither (ltb (length rows) row_numbers) (ltb (length counts) group_count) roomy).1

-- the list's length by the code's tests
pub space_rows : (rows counts : ℕ) → rows < row_numbers → Bad Space 0 ≡ check Space (ltb rows row_numbers || ltb counts group_count)
space_rows rows counts h = ap (check Space) (sym (or_left (ltb rows row_numbers) (ltb counts group_count) (lt-ltb rows row_numbers h)))

pub space_counts : (rows counts : ℕ) → counts < group_count → Bad Space 0 ≡ check Space (ltb rows row_numbers || ltb counts group_count)
space_counts rows counts h = ap (check Space) (sym (or_right (ltb rows row_numbers) (ltb counts group_count) (lt-ltb counts group_count h)))

pub space_fine : (rows counts : ℕ) → row_numbers ≤ rows → group_count ≤ counts → Fine ≡ check Space (ltb rows row_numbers || ltb counts group_count)
space_fine rows counts h k = ap (check Space) (sym (ap (λ (t : Bool). t || ltb counts group_count) (le-ltb rows row_numbers h) ∙ le-ltb counts group_count k))

-- ---- an accepted text's numbers

filled : (l : List ℕ) (n : ℕ) → length l ≤ n → tabulate n (λ j. get_or l j 0) ≡ l ++ replicate (n - length l) 0
filled l n h =
    let e : n ≡ length l + (n - length l) = omega arith in
    ap (λ (m : ℕ). tabulate m (λ j. get_or l j 0)) e ∙ tabulate_add (length l) (n - length l) (λ j. get_or l j 0)
    ∙ ap (λ (x : List ℕ). x ++ tabulate (n - length l) (λ i. get_or l (length l + i) 0)) (tabulate_get_d l 0)
    ∙ ap (λ (x : List ℕ). l ++ x) (tabulate_eq (n - length l) _ (λ _. 0) (λ i q. get_or-eq_default l 0 (omega arith)) ∙ tabulate_replicate (n - length l) 0)

-- a row among rows one after another
flat_part : (row : ℕ → List ℕ) (more : List ℕ) (n k : ℕ) → k < n → part (length (flat (tabulate k row))) (length (row k)) (flat (tabulate n row) ++ more) ≡ row k
unfolding flat tabulate
flat_part row more zero k h = absurd (not-suc-le-zero h)
flat_part row more (suc n) zero h =
    ap (take (length (row 0))) (append_assoc (row 0) (flat (tabulate n (λ i. row (suc i)))) more) ∙ take-append_seam (row 0) (flat (tabulate n (λ i. row (suc i))) ++ more)
flat_part row more (suc n) (suc k) h =
    ap (take (length (row (suc k))))
    (ap (λ (m : ℕ). drop m ((row 0 ++ flat (tabulate n (λ i. row (suc i)))) ++ more)) (length-append (row 0) (flat (tabulate k (λ i. row (suc i)))))
    ∙ ap (drop (length (row 0) + length (flat (tabulate k (λ i. row (suc i)))))) (append_assoc (row 0) (flat (tabulate n (λ i. row (suc i)))) more)
    ∙ drop-append-add (row 0) (flat (tabulate n (λ i. row (suc i))) ++ more) (length (flat (tabulate k (λ i. row (suc i))))))
    ∙ flat_part (λ i. row (suc i)) more n k (le_of_suc-le-suc h)

module _ (text : List ℕ) (fine : read_verdict text ≡ Fine) where
  abbrev ls : List (List ℕ)
  ls = lines_of text

  rows_fit : (k : ℕ) → k < group_count → length (flat (rows_in k ls)) ≤ (group_at k).width * (group_at k).room
  rows_fit k h = let e = length_rows k h ls in let m = mul-le-mul_left (group_at k).width (accepted_few text fine k h) in omega arith

  group_long : (k : ℕ) → k < group_count → length (group_rows k ls) ≡ (group_at k).width * (group_at k).room
  group_long k h =
      let l = rows_fit k h in
      length-append (flat (rows_in k ls)) (replicate ((group_at k).width * (group_at k).room - length (flat (rows_in k ls))) 0)
      ∙ ap (λ (n : ℕ). length (flat (rows_in k ls)) + n) (length-replicate ((group_at k).width * (group_at k).room - length (flat (rows_in k ls))) 0)
      ∙ (let z : length (flat (rows_in k ls)) + ((group_at k).width * (group_at k).room - length (flat (rows_in k ls))) ≡ (group_at k).width * (group_at k).room = omega arith in z)

  rows_long : length (rows_for text) ≡ row_numbers
  rows_long = flat_before (λ k. group_rows k ls) group_count group_long ∙ before_all

  counts_long : length (counts_for text) ≡ group_count
  counts_long = length_tabulate group_count (λ k. count_of k ls)

  -- the records stand where their group's place is
  pub records_at : (more over : List ℕ) → Records text (rows_for text ++ more) (counts_for text ++ over)
  records_at more over = record {
    counted = λ k h. get_or-append (counts_for text) over 0 k (rw counts_long h) ∙ get_d_tabulate group_count (λ i. count_of i ls) k 0 h;
    rows_are = λ k h.
        let l = rows_fit k h in
        let e = group_long k h in
        let m : length (flat (rows_in k ls)) ≤ length (group_rows k ls) = omega arith in
        ap (λ (b : ℕ). part b ((group_at k).width * count_of k ls) (rows_for text ++ more)) (sym (flat_before (λ i. group_rows i ls) k (λ i q. group_long i (omega arith)) ∙ starts k h))
        ∙ ap (λ (n : ℕ). part (length (flat (tabulate k (λ i. group_rows i ls)))) n (rows_for text ++ more)) (sym (length_rows k h ls))
        ∙ sym (take-take (length (flat (rows_in k ls))) (length (group_rows k ls)) (drop (length (flat (tabulate k (λ i. group_rows i ls)))) (rows_for text ++ more)) m)
        ∙ ap (take (length (flat (rows_in k ls)))) (flat_part (λ i. group_rows i ls) more group_count k h)
        ∙ take-append_seam (flat (rows_in k ls)) _;
  }

  module _ {held counted : List ℕ} (R : Records text held counted) where
    group_is : (k : ℕ) → k < group_count → padded held counted k ≡ group_rows k ls
    group_is k h =
        ap (λ (l : List ℕ). tabulate ((group_at k).width * (group_at k).room) (λ j. get_or l j 0)) (ap (λ (n : ℕ). part (base_at k) ((group_at k).width * n) held) (R.counted k h) ∙ R.rows_are k h)
        ∙ filled (flat (rows_in k ls)) ((group_at k).width * (group_at k).room) (rows_fit k h)

    pub copyable : {rows counts : List ℕ} → length held ≡ row_numbers → length counted ≡ group_count → row_numbers ≤ length rows → group_count ≤ length counts → Copyable held counted rows counts
    copyable hl cl rr cr = record { held_length = hl; counted_length = cl; rows_room = rr; counts_room = cr; fitting = λ k h. rw (R.counted k h) (accepted_few text fine k h) }

    pub read_fine : {rows counts : List ℕ} {w : Verdict} {rows' counts' : List ℕ} → w ≡ Fine → row_numbers ≤ length rows → group_count ≤ length counts → Copied held counted rows counts rows' counts' → TextRead text rows counts w rows' counts'
    read_fine {rows} {counts} q rr cr C =
        let e : in_order (read_checks text (length rows) (length counts)) ≡ Fine =
        read_checks_lem text (length rows) (length counts) ∙ first_fine (read_verdict text) _ fine ∙ sym (space_fine (length rows) (length counts) rr cr) in
        record {
          answer = ap numbered (q ∙ sym e);
          in_rows = C.in_rows ∙ ap (λ (l : List (List ℕ)). flat l ++ drop row_numbers rows) (tabulate_eq group_count _ _ group_is) ∙ ap (λ (n : ℕ). rows_for text ++ drop n rows) (sym rows_long)
              ∙ ap (λ (v : Verdict). after (unless v text) rows_for rows) (sym e);
          in_counts = C.in_counts ∙ ap (λ (l : List ℕ). l ++ drop group_count counts) (tabulate_eq group_count _ _ R.counted) ∙ ap (λ (n : ℕ). counts_for text ++ drop n counts) (sym counts_long)
              ∙ ap (λ (v : Verdict). after (unless v text) counts_for counts) (sym e);
        }

-- a text that was read into lists of the reader's own lengths
pub read_finished : {text rows counts : List ℕ} {v : Verdict} {rows' counts' : List ℕ} → row_numbers ≤ length rows → group_count ≤ length counts → TextRead text rows counts v rows' counts' → Finished text v rows' counts'
read_finished {text} {rows} {counts} {v} {rows'} {counts'} rr cr T =
    let e : in_order (read_checks text (length rows) (length counts)) ≡ read_verdict text =
    read_checks_lem text (length rows) (length counts) ∙ ap (first (read_verdict text)) (sym (space_fine (length rows) (length counts) rr cr)) ∙ first_last (read_verdict text) in
    record {
      verdict = T.answer ∙ ap numbered e;
      records = λ fine.
          rw (T.in_rows ∙ ap (λ (w : Verdict). after (unless w text) rows_for rows) (e ∙ fine), T.in_counts ∙ ap (λ (w : Verdict). after (unless w text) counts_for counts) (e ∙ fine))
          (records_at text fine (drop (length (rows_for text)) rows) (drop (length (counts_for text)) counts));
    }
