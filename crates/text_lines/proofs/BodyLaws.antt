-- A line as its letter and its fields: which of the ways out of the code is which case of the grammar.
use Prim.Native.Nat.{ℕ, suc, ◌-◌, ◌≤◌, ◌<◌}
use native.Mathlib.Omega.{arith}
use mathlib.Core.Path.{◌≡◌, refl, ap, sym, ◌∙◌}
use mathlib.Core.Bool.{Bool, true, false, cond, ◌&&◌}
use mathlib.Core.List.{List, [], ◌∷◌, map}
use lib.ListN.{length, get_or, take, drop}
use lib.Seq.{get_or-take, length-take-le}
use lib.Dec.{eqb, ltb, leb, ltb→lt}
use borrow.Author.Tests.{eq-eqb, ne_eqb, lt-ltb, le-leb, lt-leb}
use Rattle.words.proofs.Points.{cut}
use Rattle.text_grammar.specs.Numerals.{field_of}
use Rattle.text_grammar.specs.Groups.{index_of, group_at, letters, group_count}
use Rattle.text_grammar.specs.Lines.{comma, newline, parts, group_of, fields_of, fits, formed, ended, body, well_formed, line_group}
use Rattle.text_grammar.proofs.PartLaws.{index_within, parts_split, parts_last, parts_more, fits_fewer}
use Rattle.text_grammar.proofs.TableLaws.{at}
use Rattle.words.proofs.Bools.{and_not}
use Rattle.text_lines.specs.Inner.{on_front, fields_in, FieldsRead, BodyRead, LineRead}

some_entry : ℕ → Bool
some_entry k = ltb 0 (length (group_at k).dashes)

-- every group has a field
some_fields : (k : ℕ) → k < group_count → 0 < length (group_at k).dashes
unfolding some_entry
some_fields k h = ltb→lt 0 (length (group_at k).dashes) (at group_count some_entry tt k h)

no_letter : index_of 0 letters ≡ group_count
unfolding index_of
no_letter = refl

pub group_within : (x k : ℕ) → k ≡ index_of x letters → (k ≡ group_count → ⊥) → k < group_count
group_within x k e d = cut_off (index_within x letters)
  where
    cut_off : index_of x letters ≤ 13 → k < group_count
    cut_off h = less k (omega arith) d
      where
        less : (n : ℕ) → n ≤ 13 → (n ≡ 13 → ⊥) → n < 13
        less n h d = cut n 12 (λ a. omega arith) (λ a. absurd (d (omega arith)))

module _ (b : List ℕ) where
  first_length : length (get_or (parts comma b) 0 []) ≡ index_of comma b
  first_length = ap (λ (l : List (List ℕ)). length (get_or l 0 [])) (parts_split comma b) ∙ length-take-le (index_of comma b) b (index_within comma b)

  pub group_not : (index_of comma b ≡ 1 → ⊥) → group_of b ≡ group_count
  unfolding group_of
  group_not d =
      ap (λ (t : Bool). index_of (cond t (get_or (get_or (parts comma b) 0 []) 0 0) 0) letters)
      (ap (λ (n : ℕ). eqb n 1) first_length ∙ ne_eqb (index_of comma b) 1 d)
      ∙ no_letter

  module _ (one : index_of comma b ≡ 1) where
    pub group_is : group_of b ≡ index_of (get_or b 0 0) letters
    unfolding group_of
    group_is =
        ap (λ (t : Bool). index_of (cond t (get_or (get_or (parts comma b) 0 []) 0 0) 0) letters)
        (ap (λ (n : ℕ). eqb n 1) first_length ∙ eq-eqb (index_of comma b) 1 one)
        ∙ ap (λ (x : ℕ). index_of x letters)
        (ap (λ (l : List (List ℕ)). get_or (get_or l 0 []) 0 0) (parts_split comma b) ∙ ap (λ (n : ℕ). get_or (take n b) 0 0) one ∙ get_or-take 1 b 0 0 (omega arith))

    pub fields_none : length b ≡ 1 → fields_of b ≡ []
    unfolding fields_of
    fields_none e = ap (λ (l : List (List ℕ)). map field_of (drop 1 l)) (parts_last comma b (one ∙ sym e))

    pub fields_are : 1 < length b → fields_of b ≡ fields_in (drop 2 b)
    unfolding fields_of
    fields_are h = ap (λ (l : List (List ℕ)). map field_of (drop 1 l)) (parts_more comma b (omega arith)) ∙ ap (λ (n : ℕ). fields_in (drop (suc n) b)) one

  formed_not : group_of b ≡ group_count → formed b ≡ false
  unfolding formed
  formed_not e = ap (λ (k : ℕ). ltb k group_count && fits (group_at k).dashes (fields_of b)) e

  formed_is : group_of b < group_count → formed b ≡ fits (group_at (group_of b)).dashes (fields_of b)
  unfolding formed
  formed_is h = rw (lt-ltb (group_of b) group_count h)

  module _ (out out' : List ℕ) (kept : length out' ≡ length out) where
    no_body : formed b ≡ false → BodyRead b out group_count out'
    no_body e = record { answer = sym (ap (λ (t : Bool). cond t (group_of b) group_count) e); kept = kept; fields = λ h. absurd (omega arith) }

    pub body_without : group_of b ≡ group_count → BodyRead b out group_count out'
    body_without e = no_body (formed_not e)

    pub body_alone : (k : ℕ) → k ≡ group_of b → k < group_count → fields_of b ≡ [] → BodyRead b out group_count out'
    body_alone k ke h e =
        no_body
        (formed_is (rw ke at h) ∙ ap (fits (group_at (group_of b)).dashes) e ∙ fits_fewer (group_at (group_of b)).dashes (some_fields (group_of b) (rw ke at h)))

    -- the fields behind the letter, lent as t
    module _ (k : ℕ) (ke : k ≡ group_of b) (h : k < group_count) (t : List ℕ) (r : Bool) (fe : fields_of b ≡ fields_in t) (f : FieldsRead k t out r out') where
      formed-r : formed b ≡ r
      formed-r =
          formed_is (rw ke at h) ∙ ap (λ (n : ℕ). fits (group_at n).dashes (fields_of b)) (sym ke)
          ∙ ap (fits (group_at k).dashes) fe ∙ sym f.answer

      pub body_refused : r ≡ false → BodyRead b out group_count out'
      body_refused e = no_body (formed-r ∙ e)

      pub body_read : r ≡ true → BodyRead b out k out'
      body_read e = record {
        answer = ke ∙ sym (ap (λ (x : Bool). cond x (group_of b) group_count) (formed-r ∙ e));
        kept = kept;
        fields = λ _. f.fields e ∙ ap (λ (l : List ℕ). on_front l out) (sym fe);
      }

-- ---- a line with its newline

module _ (l out : List ℕ) where
  no_line : well_formed l ≡ false → LineRead l out group_count out
  unfolding line_group
  no_line e = record { answer = sym (ap (λ (t : Bool). cond t (group_of (body l)) group_count) e); kept = refl; fields = λ h. absurd (omega arith) }

  pub line_long : 128 < length l → LineRead l out group_count out
  unfolding well_formed
  line_long h = no_line (rw (lt-leb (length l) 128 h))

  -- no line, or one without its newline
  pub line_open : (get_or l (length l - 1) 0 ≡ newline → ⊥) → LineRead l out group_count out
  unfolding well_formed
  line_open d = no_line (and_not (leb (length l) 128) (ended l && formed (body l)) (rw (ne_eqb (get_or l (length l - 1) 0) newline d)))

  pub line_empty : length l ≡ 0 → LineRead l out group_count out
  line_empty e = line_open (λ q. absurd (nothing l e q))
    where
      nothing : (m : List ℕ) → length m ≡ 0 → get_or m (length m - 1) 0 ≡ newline → ⊥
      nothing [] p q = let z : ◌≡◌ {A = ℕ} 0 10 = q in omega arith
      nothing (x ∷ m) p q = omega arith

  well : length l ≤ 128 → get_or l (length l - 1) 0 ≡ newline → well_formed l ≡ formed (body l)
  unfolding well_formed
  well h e = rw (le-leb (length l) 128 h, eq-eqb (get_or l (length l - 1) 0) newline e)

  pub line_read : (b : List ℕ) (k : ℕ) (out' : List ℕ) → length l ≤ 128 → get_or l (length l - 1) 0 ≡ newline → b ≡ body l → BodyRead b out k out' → LineRead l out k out'
  unfolding well_formed line_group
  line_read b k out' h e q r = record {
    answer = r.answer ∙ ap (λ (x : List ℕ). cond (formed x) (group_of x) group_count) q
        ∙ ap (λ (t : Bool). cond t (group_of (body l)) group_count) (sym (well h e));
    kept = r.kept;
    fields = λ n. r.fields n ∙ ap (λ (x : List ℕ). on_front (fields_of x) out) q;
  }
