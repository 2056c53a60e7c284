-- What the reader knows after one line more.
use Prim.Native.Nat.{ℕ, ◌+◌, ◌<◌}
use native.Mathlib.Omega.{arith}
use mathlib.Core.Path.{◌≡◌, refl, ap, sym, subst, ◌∙◌}
use mathlib.Core.Bool.{Bool, true, false, cond, ◌&&◌, ◌||◌, not}
use mathlib.Core.List.{List, [], ◌∷◌, ◌++◌}
use lib.ListN.{length, get_or, drop}
use lib.Dec.{ltb, leb}
use borrow.Author.Tests.{eq-eqb, leb-true, leb-false, not-true, ltb-true}
use Rattle.words.proofs.Bools.{and_both, or_neither, never}
use Rattle.refusals.specs.declared.Refusal.TheVariants.{Text as TextRefused}
use Rattle.text_grammar.specs.Groups.{group_at, group_count, may_follow, operand_group}
use Rattle.text_grammar.specs.Lines.{line_group, line_fields}
use Rattle.text_grammar.specs.Text.{place_before, malformed, row_with, count_of}
use Rattle.text_grammar.proofs.RowLaws.{count_more}
use Rattle.text_grammar.proofs.OrderLaws.{so_far, far_bad, far_fine, far_found, length_more, place_last}
use Rattle.text_grammar.proofs.OperandLaws.{opens}
use Rattle.text_grammar.proofs.OpenLaws.{operand_opens}
use Rattle.text_lines.specs.Inner.{on_front, Meant, Storable, Put, Stored, Over, Taken, Reads, Takes, Refuses, accepts, crowds}
use Rattle.text_lines.specs.declared.job_rows.Reader.{Reader}
use Rattle.text_lines.proofs.PutLaws.{front_meant, front_row}
use Rattle.text_lines.proofs.TakeLaws.{storable, stored_more, lengths_more}
use Rattle.refusals.specs.Verdicts.{Bad, Fine}

-- more lines than rows stay more
over_more : {ls : List (List ℕ)} (l : List ℕ) → Over ls → Over (ls ++ (l ∷ []))
over_more {ls} l o = record { group = o.group; known = o.known; over = let c = count_more l o.group ls in let d = o.over in omega arith }

module _ {ls : List (List ℕ)} {r : Reader} {rows counts : List ℕ} (t : Taken ls r rows counts) (l : List ℕ) where
  -- ---- a malformed line

  refused_place : accepts r (line_group l) ≡ false → r.bad ≡ false → malformed (place_before ls (length ls)) l ≡ true
  refused_place e b =
      ap (λ (p : ℕ). malformed p l) (sym (t.order b))
      ∙ ap not (sym (ap (λ (x : Bool). not x && (ltb (line_group l) group_count && may_follow r.place (line_group l))) b) ∙ e)

  pub taken_malformed : (q : Reader) → accepts r (line_group l) ≡ false → Refuses r q → Taken (ls ++ (l ∷ [])) q rows counts
  taken_malformed q e f = record {
    rows_length = t.rows_length;
    counts_length = t.counts_length;
    lines = f.lines ∙ ap (λ (n : ℕ). n + 1) t.lines ∙ sym (length_more ls l);
    verdict = go r.bad refl ∙ sym (ap (λ (b : Bool). cond b (Bad TextRefused q.at) Fine) f.bad);
    order = λ b. never (sym b ∙ f.bad);
    stored = λ b. never (sym b ∙ f.bad);
    over = λ b. never (sym b ∙ f.bad);
  }
    where
      go : (b : Bool) → r.bad ≡ b → so_far (ls ++ (l ∷ [])) ≡ Bad TextRefused q.at
      go true b =
          far_bad ls l r.at (t.verdict ∙ ap (λ (x : Bool). cond x (Bad TextRefused r.at) Fine) b)
          ∙ ap (Bad TextRefused) (sym (f.at ∙ ap (λ (x : Bool). cond x r.at r.lines) b))
      go false b =
          far_found ls l (t.verdict ∙ ap (λ (x : Bool). cond x (Bad TextRefused r.at) Fine) b) (refused_place e b)
          ∙ ap (Bad TextRefused) (sym (f.at ∙ ap (λ (x : Bool). cond x r.at r.lines) b ∙ t.lines))

  -- ---- a line that is well formed and in order

  module _ (ok : accepts r (line_group l) ≡ true) where
    fine_so_far : r.bad ≡ false
    fine_so_far = not-true r.bad (and_both (not r.bad) _ ok).0

    right : (ltb (line_group l) group_count && may_follow r.place (line_group l)) ≡ true
    right = (and_both (not r.bad) _ ok).1

    pub known : line_group l < group_count
    known = ltb-true (line_group l) group_count (and_both (ltb (line_group l) group_count) _ right).0

    may_follow_lem : may_follow (place_before ls (length ls)) (line_group l) ≡ true
    may_follow_lem = ap (λ (p : ℕ). may_follow p (line_group l)) (sym (t.order fine_so_far)) ∙ (and_both (ltb (line_group l) group_count) _ right).1

    so_far_lem : so_far ls ≡ Fine
    so_far_lem = t.verdict ∙ ap (λ (x : Bool). cond x (Bad TextRefused r.at) Fine) fine_so_far

    next_verdict : so_far (ls ++ (l ∷ [])) ≡ Fine
    next_verdict = far_fine ls l so_far_lem (ap (λ (p : ℕ). malformed p l) (sym (t.order fine_so_far)) ∙ ap not right)

    may_open : line_group l ≡ operand_group → opens ls ≡ true
    may_open e = operand_opens ls so_far_lem (ap (may_follow (place_before ls (length ls))) (sym e) ∙ may_follow_lem)

    module _ (q : Reader) (ql : q.lines ≡ r.lines + 1) (qb : q.bad ≡ false) (qp : q.place ≡ (group_at (line_group l)).place) where
      -- there is no room for its row
      pub taken_full : crowds r (group_at (line_group l)).room (get_or counts (line_group l) 0) ≡ true → q.full ≡ true → Taken (ls ++ (l ∷ [])) q rows counts
      taken_full e qf = record {
        rows_length = t.rows_length;
        counts_length = t.counts_length;
        lines = ql ∙ ap (λ (n : ℕ). n + 1) t.lines ∙ sym (length_more ls l);
        verdict = next_verdict ∙ sym (ap (λ (b : Bool). cond b (Bad TextRefused q.at) Fine) qb);
        order = λ _. qp ∙ sym (place_last ls l);
        stored = λ _ f. never (sym f ∙ qf);
        over = λ _ _. go r.full refl e;
      }
        where
          go : (b : Bool) → r.full ≡ b → (b || leb (group_at (line_group l)).room (get_or counts (line_group l) 0)) ≡ true → Over (ls ++ (l ∷ []))
          go true b e = over_more l (t.over fine_so_far b)
          go false b e = record {
            group = line_group l;
            known = known;
            over = let c = (t.stored fine_so_far b).counted (line_group l) known in
                let d = count_more l (line_group l) ls ∙ ap (λ (x : Bool). count_of (line_group l) ls + cond x 1 0) (eq-eqb (line_group l) (line_group l) refl) in
                let m = leb-true (group_at (line_group l)).room (get_or counts (line_group l) 0) e in omega arith;
          }

    module _ (e : crowds r (group_at (line_group l)).room (get_or counts (line_group l) 0) ≡ false) where
      held : Stored ls rows counts
      held = t.stored fine_so_far (or_neither r.full _ e).0

      has_room : count_of (line_group l) ls < (group_at (line_group l)).room
      has_room = let c = held.counted (line_group l) known in let m = leb-false (group_at (line_group l)).room (get_or counts (line_group l) 0) (or_neither r.full _ e).1 in omega arith

      pub store_ready : (fields out : List ℕ) → fields ≡ on_front (line_fields l) out → Storable (line_group l) fields rows counts
      store_ready fields out f =
          storable held t.rows_length t.counts_length l known has_room may_open fields
          (subst (λ (x : List ℕ). Meant (line_group l) x) (sym f) (front_meant l known (drop (length (line_fields l)) out)))

      module _ (fields out rows' counts' : List ℕ) (f : fields ≡ on_front (line_fields l) out) (p : Put (line_group l) fields rows counts rows' counts') where
        same_row : row_with (line_group l) fields 0 ≡ row_with (line_group l) (line_fields l) 0
        same_row = ap (λ (x : List ℕ). row_with (line_group l) x 0) f ∙ front_row l known (drop (length (line_fields l)) out) 0

        pub taken_stored : (q : Reader) → q.lines ≡ r.lines + 1 → q.bad ≡ false → q.place ≡ (group_at (line_group l)).place → q.full ≡ false → Taken (ls ++ (l ∷ [])) q rows' counts'
        taken_stored q ql qb qp qf = record {
          rows_length = (lengths_more held t.rows_length t.counts_length l known has_room may_open p same_row).0;
          counts_length = (lengths_more held t.rows_length t.counts_length l known has_room may_open p same_row).1;
          lines = ql ∙ ap (λ (n : ℕ). n + 1) t.lines ∙ sym (length_more ls l);
          verdict = next_verdict ∙ sym (ap (λ (b : Bool). cond b (Bad TextRefused q.at) Fine) qb);
          order = λ _. qp ∙ sym (place_last ls l);
          stored = λ _ _. stored_more held t.rows_length t.counts_length l known has_room may_open p same_row;
          over = λ _ g. never (sym qf ∙ g);
        }

-- ---- a line of group k, whatever was taken before

module _ {r : Reader} {rows counts : List ℕ} (b : Reads r rows counts) (l : List ℕ) {k : ℕ} (ke : k ≡ line_group l) where
  pub line_malformed : {q : Reader} → accepts r k ≡ false → Refuses r q → Takes l r rows counts q rows counts
  line_malformed {q} e f = record { takes = λ ls t. taken_malformed t l q (ap (accepts r) (sym ke) ∙ e) f; rows_kept = refl; counts_kept = refl }

  module _ (ok : accepts r k ≡ true) where
    accepted_is : accepts r (line_group l) ≡ true
    accepted_is = ap (accepts r) (sym ke) ∙ ok

    pub line_known : k < group_count
    line_known = rw ke (known b.taken l accepted_is)

    crowds_is : (t : Bool) (room : ℕ) → room ≡ (group_at k).room → crowds r room (get_or counts k 0) ≡ t → crowds r (group_at (line_group l)).room (get_or counts (line_group l) 0) ≡ t
    crowds_is t room re e = ap (λ (n : ℕ). crowds r (group_at n).room (get_or counts n 0)) (sym ke) ∙ ap (λ (m : ℕ). crowds r m (get_or counts k 0)) (sym re) ∙ e

    module _ (room : ℕ) (re : room ≡ (group_at k).room) where
      pub line_full : (q : Reader) → q.lines ≡ r.lines + 1 → q.bad ≡ false → q.place ≡ (group_at k).place → crowds r room (get_or counts k 0) ≡ true → q.full ≡ true → Takes l r rows counts q rows counts
      line_full q ql qb qp e qf = record {
        takes = λ ls t. taken_full t l accepted_is q ql qb (qp ∙ ap (λ (n : ℕ). (group_at n).place) ke) (crowds_is true room re e) qf;
        rows_kept = refl;
        counts_kept = refl;
      }

      module _ (e : crowds r room (get_or counts k 0) ≡ false) (fields out : List ℕ) (f : fields ≡ on_front (line_fields l) out) where
        pub line_ready : Storable k fields rows counts
        line_ready = subst (λ (n : ℕ). Storable n fields rows counts) (sym ke) (store_ready b.taken l accepted_is (crowds_is false room re e) fields out f)

        pub line_stored : {rows' counts' : List ℕ} → Put k fields rows counts rows' counts' → (q : Reader) → q.lines ≡ r.lines + 1 → q.bad ≡ false → q.place ≡ (group_at k).place → q.full ≡ false → Takes l r rows counts q rows' counts'
        line_stored {rows'} {counts'} p q ql qb qp qf = record {
          takes = λ ls t. now-taken t;
          rows_kept = (now-taken b.taken).rows_length ∙ sym b.taken.rows_length;
          counts_kept = (now-taken b.taken).counts_length ∙ sym b.taken.counts_length;
        }
          where
            now-taken : {ls : List (List ℕ)} → Taken ls r rows counts → Taken (ls ++ (l ∷ [])) q rows' counts'
            now-taken t =
                taken_stored t l accepted_is (crowds_is false room re e) fields out rows' counts' f (subst (λ (n : ℕ). Put n fields rows counts rows' counts') ke p) q ql qb
                (qp ∙ ap (λ (n : ℕ). (group_at n).place) ke) qf
