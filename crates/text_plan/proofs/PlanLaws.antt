-- The text of a whole plan, and what is answered.
use Rattle.std.specs.Prelude.{Err, Ok, Some, None, Option as Maybe}
use Prim.Native.Nat.{ℕ, ◌+◌, ◌*◌, ◌≤◌, ◌<◌}
use native.Mathlib.Omega.{arith}
use native.Mathlib.Nat.{zero-add}
use mathlib.Core.Path.{◌≡◌, refl, ap, sym, subst, ◌∙◌}
use mathlib.Core.Bool.{Bool, true, false, cond, not, ◌||◌}
use mathlib.Core.Option.{Option}
use mathlib.Core.List.{List, [], ◌∷◌, ◌++◌, Memᴰ}
use lib.ListN.{length, drop}
use lib.Seq.{sets-eq}
use lib.Dec.{lit≤, ltb}
use borrow.Author.Tests.{ltb-false, lt-ltb, le-ltb}
use Rattle.refusals.specs.declared.Refusal.{Refusal}
use Rattle.refusals.specs.declared.Refusal.TheVariants.{Count, Space, Want as WantRefused}
use Rattle.refusals.specs.Verdicts.{number_of, first, in_order, check, Bad, Fine, Verdict, Found}
use Rattle.refusals.specs.Orders.{Gives, Ordered}
use Rattle.refusals.specs.Outcomes.{Outcome, given, refused, unless, found}
use Rattle.refusals.proofs.Laws.{bad_fine, first_fine, check_last}
use Rattle.refusals.proofs.Orders.{check_gives, scan_gives, order_append, lowest_wins}
use Rattle.words.specs.Rows.{whole_rows}
use Rattle.words.specs.Widths.{cell_count, item_row_count, range_width, range_count}
use Rattle.words.proofs.Bools.{or_right, or_neither}
use Rattle.queries.specs.Shares.{shared_part, shared_of}
use Rattle.query_checks.specs.Checks.{bad_count, bad_areas, bad_item, parts_verdict, surplus, shared_verdict}
use Rattle.query_checks.proofs.CheckLaws.{parts_count, shared_sound}
use Rattle.text_plan.specs.Inner.{Puts, Alike}
use Rattle.text_plan.specs.Printed.{cell_line, cell_lines, item_line, item_lines, printed, refusal_text, room_checks, in_room, plan_checks, print_verdict, print_rank, PrintedTo, plan_text, no_text}
use Rattle.text_plan.proofs.LineLaws.{line_length, rows_length}
use Rattle.queries.specs.declared.Stretch.{Stretch}

-- ---- a plan that is not refused

pub record Whole (cells items areas : List ℕ) (locals : ℕ) : Type 0 where
  pub locals_in : locals ≤ item_row_count items
  pub few : item_row_count items ≤ 4096
  pub enough : cell_count cells ≤ item_row_count items
  pub ranges : range_count areas ≤ 65536

pub whole_of : (cells items areas : List ℕ) (locals : ℕ) → shared_verdict cells items areas locals ≡ Fine → Whole cells items areas locals
whole_of cells items areas locals e =
    let s = shared_sound cells items areas locals e in
    record { locals_in = s.whole.0; few = s.whole.1; enough = s.enough; ranges = go (bad_areas areas) refl }
  where
    go : (t : Bool) → bad_areas areas ≡ t → range_count areas ≤ 65536
    go true q = bad_fine (parts_count cells items areas locals (or_right (bad_count cells items locals) (bad_areas areas) q) ∙ e)
    go false q = ltb-false 65536 (range_count areas) (or_neither (not (whole_rows range_width areas)) _ q).1

pub cells_length : (cells : List ℕ) → length (cell_lines cells) ≤ 128 * cell_count cells
cells_length cells = rows_length (cell_line cells) 128 (λ i. line_length 67 _ (lit≤ tt)) (cell_count cells)

pub items_length : (letter : ℕ) (items : List ℕ) (base n : ℕ) → length (item_lines letter items base n) ≤ 128 * n
items_length letter items base n = rows_length (item_line letter items base) 128 (λ i. line_length letter _ (lit≤ tt)) n

-- ---- the plan's verdict

module _ (v : Verdict) (o : Option Stretch) where
  given_fine : {x : Option Stretch} → given x ≡ unless v o → v ≡ Fine
  given_fine {x} e = go v e
    where
      go : (w : Verdict) → given x ≡ unless w o → w ≡ Fine
      go Fine q = refl
      go (Err e) q = absurd (let z : ◌≡◌ {A = ℕ} 0 1 = cc in omega arith)

  refused_alike : (r : Refusal) (k : ℕ) → refused (number_of r) k ≡ unless v o → Alike (Bad r k) v
  refused_alike r k e = go v e
    where
      go : (w : Verdict) → refused (number_of r) k ≡ unless w o → Alike (Bad r k) w
      go Fine q = absurd (let z : ◌≡◌ {A = ℕ} 0 1 = cc in omega arith)
      go (Err e) q = let a : number_of r ≡ number_of e.0 = cc in let b : k ≡ e.1 = cc in record { outcome = λ l. ap (λ (n : ℕ). refused n k) a ∙ ap (refused (number_of e.0)) b }

fine_alike : (v : Verdict) → v ≡ Fine → Alike Fine v
fine_alike v e = record { outcome = λ l. ap (λ (w : Verdict). unless w l) (sym e) }

module _ (cells items areas : List ℕ) (locals : ℕ) {s : Found Stretch} (a : found s ≡ shared_of cells items areas locals 0) where
  pub found_alike : (o : Maybe Stretch) → s ≡ Ok o → Alike Fine (shared_verdict cells items areas locals)
  found_alike (Some x) e = fine_alike (shared_verdict cells items areas locals) (given_fine (shared_verdict cells items areas locals) (shared_part cells items locals 0) (ap found (sym e) ∙ a))
  found_alike None e = fine_alike (shared_verdict cells items areas locals) (given_fine (shared_verdict cells items areas locals) (shared_part cells items locals 0) (ap found (sym e) ∙ a))

  pub bad_alike : (r : Refusal) (k : ℕ) → s ≡ Err (r, k) → Alike (Bad r k) (shared_verdict cells items areas locals)
  bad_alike r k e = refused_alike (shared_verdict cells items areas locals) (shared_part cells items locals 0) r k (ap found (sym e) ∙ a)

pub alike_fine : (v w : Verdict) → Alike v w → v ≡ Fine → w ≡ Fine
alike_fine v w a e = go w (ap (λ (x : Verdict). unless x []) (sym e) ∙ a.outcome [])
  where
    go : (u : Verdict) → ◌≡◌ {A = Outcome (List ℕ)} (given []) (unless u []) → u ≡ Fine
    go Fine q = refl
    go (Err e) q = absurd (let z : ◌≡◌ {A = ℕ} 0 1 = cc in omega arith)

-- ---- the answer

pub room_told : (text : List ℕ) (room : ℕ) (t : Bool) → ltb room (length text) ≡ t → in_room text room ≡ unless (check Space t) text
room_told text room t e = ap (λ (v : Verdict). unless v text) (check_last (check Space (ltb room (length text))) ∙ ap (check Space) e)

first_alike : (v w : Verdict) (r : Refusal) (k : ℕ) (x : Verdict) → Alike v w → v ≡ Bad r k → (l : List ℕ) → refused (number_of r) k ≡ unless (first w x) l
unfolding first
first_alike v w r k x a e l = go w (ap (λ (u : Verdict). unless u l) (sym e) ∙ a.outcome l)
  where
    go : (u : Verdict) → refused (number_of r) k ≡ unless u l → refused (number_of r) k ≡ unless (first u x) l
    go Fine q = absurd (let z : ◌≡◌ {A = ℕ} 0 1 = cc in omega arith)
    go (Err e) q = q

surplus_gives : (t : Bool) (n : ℕ) → Gives WantRefused (cond t (Bad WantRefused n) Fine)
surplus_gives true n = refl
surplus_gives false n = tt

refuses : {o : Outcome (List ℕ)} {out : List ℕ} (r : Refusal) (k : ℕ) → refused (number_of r) k ≡ o → PrintedTo o out (Err (r, k)) out
refuses {o} {out} r k e = subst (λ (x : Outcome (List ℕ)). PrintedTo x out (Err (r, k)) out) e (record { answer = refl; in_out = refl })

writes : {o : Outcome (List ℕ)} {out out' : List ℕ} (text : List ℕ) (n m : ℕ) → given text ≡ o → n ≡ 0 + length text → n ≤ length out → Puts text out 0 out' m → PrintedTo o out (Ok n) out'
writes {o} {out} {out'} text n m e ne h p =
    subst (λ (x : Outcome (List ℕ)). PrintedTo x out (Ok n) out') e
    (record { answer = ap given (ne ∙ zero-add (length text)); in_out = p.written ∙ sets-eq text out 0 (omega arith) ∙ ap (λ (k : ℕ). text ++ drop k out) (zero-add (length text)) })

module _ (cells items areas : List ℕ) (locals probes depth room : ℕ) where
  -- the list is checked behind the plan
  print_checks : print_verdict cells items areas locals probes depth room ≡ first (shared_verdict cells items areas locals) (in_order (room_checks (printed cells items areas locals probes depth) room))
  unfolding print_verdict shared_verdict
  print_checks =
      order_append (check Count (bad_count cells items locals || bad_areas areas) ∷ parts_verdict cells items (range_count areas) ∷ surplus cells items ∷ []) (room_checks (printed cells items areas locals probes depth) room)

  -- a plan that is not refused is refused only for the list
  pub plan_in_room : shared_verdict cells items areas locals ≡ Fine → plan_text cells items areas locals probes depth room ≡ in_room (printed cells items areas locals probes depth) room
  plan_in_room e = ap (λ (v : Verdict). unless v (printed cells items areas locals probes depth)) (print_checks ∙ first_fine (shared_verdict cells items areas locals) _ e)

  pub print_ordered : Ordered print_rank (Count ∷ WantRefused ∷ WantRefused ∷ Space ∷ []) (plan_checks cells items areas locals probes depth room)
  print_ordered = record {
    gives = (
      check_gives Count (bad_count cells items locals || bad_areas areas),
      (
        scan_gives WantRefused (bad_item cells items (range_count areas)) (item_row_count items),
        (surplus_gives (ltb (item_row_count items) (cell_count cells)) (item_row_count items), (check_gives Space (ltb room (length (printed cells items areas locals probes depth))), tt)),
      ),
    );
    rises = refl;
  }

  -- of all refusals that a plan and its list have the first in the order 1, 10, 7 is given
  pub print_lowest : (r s : Refusal) (i j : ℕ) → print_verdict cells items areas locals probes depth room ≡ Bad r i → Memᴰ (Bad s j) (plan_checks cells items areas locals probes depth room) → print_rank r ≤ print_rank s
  unfolding print_verdict
  print_lowest = lowest_wins print_rank _ _ print_ordered

module _ (cells items areas : List ℕ) (locals probes depth : ℕ) (out : List ℕ) where
  pub plan_refused : (v : Verdict) (r : Refusal) (k : ℕ) → Alike v (shared_verdict cells items areas locals) → v ≡ Bad r k → PrintedTo (plan_text cells items areas locals probes depth (length out)) out (Err (r, k)) out
  plan_refused v r k a e =
      refuses r k (first_alike v (shared_verdict cells items areas locals) r k _ a e (printed cells items areas locals probes depth)
      ∙ ap (λ (w : Verdict). unless w (printed cells items areas locals probes depth)) (sym (print_checks cells items areas locals probes depth (length out))))

  module _ (fine : shared_verdict cells items areas locals ≡ Fine) {scratch scratch' : List ℕ} {n : ℕ} (c : Puts (printed cells items areas locals probes depth) scratch 0 scratch' n) where
    pub plan_long : length out < n → PrintedTo (plan_text cells items areas locals probes depth (length out)) out (Err (Space, 0)) out
    plan_long h =
        refuses Space 0 (sym (plan_in_room cells items areas locals probes depth (length out) fine ∙ room_told (printed cells items areas locals probes depth) (length out) true
        (lt-ltb (length out) (length (printed cells items areas locals probes depth)) (let p = c.place in omega arith))))

    pub plan_written : {out' : List ℕ} {m : ℕ} → n ≤ length out → Puts (printed cells items areas locals probes depth) out 0 out' m → PrintedTo (plan_text cells items areas locals probes depth (length out)) out (Ok n) out'
    plan_written {out'} {m} h p =
        writes (printed cells items areas locals probes depth) n m
        (sym (plan_in_room cells items areas locals probes depth (length out) fine ∙ room_told (printed cells items areas locals probes depth) (length out) false
        (le-ltb (length out) (length (printed cells items areas locals probes depth)) (let q = c.place in omega arith)))) c.place h p

module _ (number index : ℕ) (out : List ℕ) {scratch scratch' : List ℕ} {n : ℕ} (c : Puts (refusal_text number index) scratch 0 scratch' n) where
  pub refusal_long : length out < n → PrintedTo (no_text number index (length out)) out (Err (Space, 0)) out
  refusal_long h = refuses Space 0 (sym (room_told (refusal_text number index) (length out) true (lt-ltb (length out) (length (refusal_text number index)) (let p = c.place in omega arith))))

  pub refusal_written : {out' : List ℕ} {m : ℕ} → n ≤ length out → Puts (refusal_text number index) out 0 out' m → PrintedTo (no_text number index (length out)) out (Ok n) out'
  refusal_written {out'} {m} h p =
      writes (refusal_text number index) n m (sym (room_told (refusal_text number index) (length out) false (le-ltb (length out) (length (refusal_text number index)) (let q = c.place in omega arith)))) c.place h p

-- a text in a list has the one refusal 7
pub room_ordered : (text : List ℕ) (room : ℕ) → Ordered number_of (Space ∷ []) (room_checks text room)
room_ordered text room = record { gives = (check_gives Space (ltb room (length text)), tt); rises = refl }
