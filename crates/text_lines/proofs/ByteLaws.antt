-- One byte more of a text.
use Prim.Native.Nat.{ℕ, ◌+◌, ◌≤◌, ◌<◌}
use native.Mathlib.Omega.{arith}
use native.Mathlib.Numerals.{add-one}
use mathlib.Core.Path.{◌≡◌, refl, ap, sym, subst, ◌∙◌}
use mathlib.Core.Bool.{Bool, true, false, cond, ◌&&◌, not}
use mathlib.Core.List.{List, [], ◌∷◌, ◌++◌, append_assoc}
use lib.ListN.{length, get_or, take, set, length-set, length-append}
use lib.Seq.{take-suc-set, take_all, take-append-le}
use lib.Dec.{eqb}
use borrow.Author.Tests.{ne_eqb, lt-leb}
use native.Mathlib.Nat.{mul-zero}
use Rattle.refusals.specs.declared.Refusal.TheVariants.{Text as TextRefused}
use Rattle.refusals.specs.Verdicts.{scan, Bad, Fine}
use Rattle.words.specs.Rows.{flat}
use Rattle.words.specs.Inner.{part}
use Rattle.words.proofs.Bools.{never}
use Rattle.text_grammar.specs.Groups.{group_at, base_at, group_count, row_numbers}
use Rattle.text_grammar.specs.Text.{rows_in}
use Rattle.text_grammar.specs.Lines.{newline, onto, lines_of, group_of, ended, body, formed, well_formed, line_group}
use Rattle.text_lines.specs.declared.job_rows.Reader.{Reader}
use Rattle.text_lines.specs.Inner.{Stored, Taken, Takes, Refuses, accepts, unbroken, Held, Reading}
use Rattle.text_lines.proofs.ReaderLaws.{taken_malformed}

-- ---- lines of bytes without a newline

pub lines_end : (s more : List ℕ) → unbroken s ≡ true → lines_of (s ++ (newline ∷ more)) ≡ (s ++ (newline ∷ [])) ∷ lines_of more
unfolding lines_of unbroken
lines_end [] more e = refl
lines_end (b ∷ s) more e = go (eqb b newline) e (lines_end s more)
  where
    go : (t : Bool) → cond t false (unbroken s) ≡ true → (unbroken s ≡ true → lines_of (s ++ (newline ∷ more)) ≡ (s ++ (newline ∷ [])) ∷ lines_of more)
        → cond t ((b ∷ []) ∷ lines_of (s ++ (newline ∷ more))) (onto b (lines_of (s ++ (newline ∷ more)))) ≡ (b ∷ (s ++ (newline ∷ []))) ∷ lines_of more
    go true e r = never e
    go false e r = ap (onto b) (r e)

pub lines_open : (b : ℕ) (s : List ℕ) → unbroken (b ∷ s) ≡ true → lines_of (b ∷ s) ≡ (b ∷ s) ∷ []
unfolding lines_of unbroken
lines_open b [] e = go (eqb b newline) e
  where
    go : (t : Bool) → cond t false true ≡ true → cond t ((b ∷ []) ∷ []) ((b ∷ []) ∷ []) ≡ (b ∷ []) ∷ []
    go true e = refl
    go false e = refl
lines_open b (c ∷ s) e = go (eqb b newline) e (lines_open c s)
  where
    go : (t : Bool) → cond t false (unbroken (c ∷ s)) ≡ true → (unbroken (c ∷ s) ≡ true → lines_of (c ∷ s) ≡ (c ∷ s) ∷ [])
        → cond t ((b ∷ []) ∷ lines_of (c ∷ s)) (onto b (lines_of (c ∷ s))) ≡ (b ∷ c ∷ s) ∷ []
    go true e r = never e
    go false e r = ap (onto b) (r e)

unbroken_more : (s : List ℕ) (b : ℕ) → unbroken s ≡ true → (b ≡ newline → ⊥) → unbroken (s ++ (b ∷ [])) ≡ true
unfolding unbroken
unbroken_more [] b e d = ap (λ (t : Bool). cond t false true) (ne_eqb b newline d)
unbroken_more (c ∷ s) b e d = go (eqb c newline) e (λ q. unbroken_more s b q d)
  where
    go : (t : Bool) → cond t false (unbroken s) ≡ true → (unbroken s ≡ true → unbroken (s ++ (b ∷ [])) ≡ true) → cond t false (unbroken (s ++ (b ∷ []))) ≡ true
    go true e r = never e
    go false e r = r e

unbroken_none : unbroken [] ≡ true
unfolding unbroken
unbroken_none = refl

-- a line of more than 128 bytes has no group
long_line : (l : List ℕ) → 128 < length l → line_group l ≡ group_count
unfolding line_group well_formed
long_line l h = ap (λ (t : Bool). cond (t && (ended l && formed (body l))) (group_of (body l)) group_count) (lt-leb (length l) 128 h)

none_accepted : (r : Reader) (k : ℕ) → k ≡ group_count → accepts r k ≡ false
none_accepted r k e = ap (accepts r) e ∙ go (not r.bad)
  where
    go : (t : Bool) → (t && false) ≡ false
    go true = refl
    go false = refl

-- ---- a byte more

module _ {text line rows counts : List ℕ} {r : Reader} {n : ℕ} (d : Reading text r n line rows counts) (b : ℕ) where
  length_open : length (d.rest ++ (b ∷ [])) ≡ length d.rest + 1
  length_open = length-append d.rest (b ∷ [])

  length_text : length (text ++ (b ∷ [])) ≡ length text + 1
  length_text = length-append text (b ∷ [])

  split_on : (more : List ℕ) → lines_of ((text ++ (b ∷ [])) ++ more) ≡ d.done ++ lines_of (d.rest ++ (b ∷ more))
  split_on more = ap lines_of (append_assoc text (b ∷ []) more) ∙ d.split (b ∷ more)

  -- of a line that goes on
  going_on : {n' : ℕ} {line' : List ℕ} → Held d.done (d.rest ++ (b ∷ [])) r n' line' rows counts → Reading (text ++ (b ∷ [])) r n' line' rows counts
  going_on h = record {
    done = d.done;
    rest = d.rest ++ (b ∷ []);
    held = h;
    split = λ more. split_on more ∙ ap (λ (x : List ℕ). d.done ++ lines_of x) (sym (append_assoc d.rest (b ∷ []) more));
    few = let x = d.few in let y = length_open in let z = length_text in omega arith;
  }

  open_short : n < 128 → length d.rest ≡ n
  open_short h = let c = d.held.counted in omega arith

  pub byte_kept : (b ≡ newline → ⊥) → n < 128 → Reading (text ++ (b ∷ [])) r (n + 1) (set line n b) rows counts
  byte_kept q h =
      going_on
      (record {
        taken = d.held.taken;
        buffer = length-set line n b ∙ d.held.buffer;
        unended = unbroken_more d.rest b d.held.unended q;
        counted = let c = open_short h in let y = length_open in omega arith;
        bytes =
            let c = open_short h in
            let y = length_open in
            let z : n < length line = (let x = d.held.buffer in omega arith) in
            let w : length d.rest ≤ 128 = omega arith in
            let v : length (d.rest ++ (b ∷ [])) ≤ 128 = omega arith in
            ap (λ (i : ℕ). take i (set line n b)) (add-one n) ∙ take-suc-set line n b z
            ∙ ap (λ (x : List ℕ). x ++ (b ∷ [])) (d.held.bytes ∙ take_all 128 d.rest w)
            ∙ sym (take_all 128 (d.rest ++ (b ∷ [])) v);
      })

  pub byte_past : (b ≡ newline → ⊥) → 128 ≤ n → Reading (text ++ (b ∷ [])) r n line rows counts
  byte_past q h =
      let c = d.held.counted in
      let y = length_open in
      let w : 128 ≤ length d.rest = omega arith in
      going_on
      (record {
        taken = d.held.taken;
        buffer = d.held.buffer;
        unended = unbroken_more d.rest b d.held.unended q;
        counted = omega arith;
        bytes = d.held.bytes ∙ sym (take-append-le 128 d.rest (b ∷ []) w);
      })

  -- of a line that ends
  module _ (e : b ≡ newline) where
    ending : {q : Reader} {line' rows' counts' : List ℕ} → length line' ≡ 128 → Taken (d.done ++ ((d.rest ++ (b ∷ [])) ∷ [])) q rows' counts' → Reading (text ++ (b ∷ [])) q 0 line' rows' counts'
    ending l t = record {
      done = d.done ++ ((d.rest ++ (b ∷ [])) ∷ []);
      rest = [];
      held = record { taken = t; buffer = l; unended = unbroken_none; counted = refl; bytes = refl };
      split = λ more. split_on more
          ∙ ap (λ (x : List (List ℕ)). d.done ++ x)
          (ap (λ (c : ℕ). lines_of (d.rest ++ (c ∷ more))) e ∙ lines_end d.rest more d.held.unended ∙ ap (λ (c : ℕ). (d.rest ++ (c ∷ [])) ∷ lines_of more) (sym e))
          ∙ sym (append_assoc d.done ((d.rest ++ (b ∷ [])) ∷ []) (lines_of more));
      few = let x = d.few in let y = length-append d.done ((d.rest ++ (b ∷ [])) ∷ []) in let z = length_text in omega arith;
    }

    pub byte_long : {q : Reader} → 128 ≤ n → Refuses r q → Reading (text ++ (b ∷ [])) q 0 line rows counts
    byte_long {q} h f =
        ending d.held.buffer
        (taken_malformed d.held.taken (d.rest ++ (b ∷ [])) q
        (none_accepted r (line_group (d.rest ++ (b ∷ []))) (long_line (d.rest ++ (b ∷ [])) (let c = d.held.counted in let y = length_open in omega arith))) f)

    pub byte_ends : {q : Reader} {rows' counts' : List ℕ} (l : List ℕ) → n < 128 → l ≡ take (n + 1) (set line n b) → Takes l r rows counts q rows' counts' → Reading (text ++ (b ∷ [])) q 0 (set line n b) rows' counts'
    byte_ends {q} {rows'} {counts'} l h le t =
        ending (length-set line n b ∙ d.held.buffer)
        (subst (λ (x : List ℕ). Taken (d.done ++ (x ∷ [])) q rows' counts') line_is (t.takes d.done d.held.taken))
      where
        line_is : l ≡ d.rest ++ (b ∷ [])
        line_is =
            let c = open_short h in
            let z : n < length line = (let x = d.held.buffer in omega arith) in
            let w : length d.rest ≤ 128 = omega arith in
            le ∙ ap (λ (i : ℕ). take i (set line n b)) (add-one n) ∙ take-suc-set line n b z ∙ ap (λ (x : List ℕ). x ++ (b ∷ [])) (d.held.bytes ∙ take_all 128 d.rest w)

  pub lines_few : r.lines ≤ length text
  lines_few = let x = d.few in let y = d.held.taken.lines in omega arith

-- ---- nothing is read yet

none_stored : (rows counts : List ℕ) → ((k : ℕ) → k < group_count → get_or counts k 0 ≡ 0) → Stored [] rows counts
unfolding rows_in flat
none_stored rows counts z = record {
  fitting = λ k h. omega arith;
  counted = z;
  rows_are = λ k h. ap (λ (n : ℕ). part (base_at k) n rows) (mul-zero (group_at k).width);
}

pub reading_none : {line rows counts : List ℕ} {r : Reader} → length line ≡ 128 → length rows ≡ row_numbers → length counts ≡ group_count → ((k : ℕ) → k < group_count → get_or counts k 0 ≡ 0)
    → r.lines ≡ 0 → r.place ≡ 0 → r.bad ≡ false → r.full ≡ false → Reading [] r 0 line rows counts
unfolding scan
reading_none {line} {rows} {counts} {r} ll rl cl z rn rp rb rf = record {
  done = [];
  rest = [];
  held = record {
    taken = record {
      rows_length = rl;
      counts_length = cl;
      lines = rn;
      verdict = sym (ap (λ (b : Bool). cond b (Bad TextRefused r.at) Fine) rb);
      order = λ _. rp;
      stored = λ _ _. none_stored rows counts z;
      over = λ _ f. never (sym rf ∙ f);
    };
    buffer = ll;
    unended = unbroken_none;
    counted = refl;
    bytes = refl;
  };
  split = λ more. refl;
  few = omega arith;
}
