-- The fields of a line, one after another: the first j of them are read, and the next one starts at `at`.
use Prim.Native.Nat.{ℕ, zero, suc, ◌+◌, ◌-◌, ◌≤◌, ◌<◌}
use native.Mathlib.Omega.{arith}
use native.Mathlib.Numerals.{add-one}
use mathlib.Core.Path.{◌≡◌, refl, ap, sym, ◌∙◌}
use mathlib.Core.Bool.{Bool, true, false, cond}
use mathlib.Core.List.{List, [], ◌∷◌, ◌++◌, map, append_assoc}
use lib.ListN.{length, get_or, take, drop, set, length-set, length-drop, drop_of_length-le}
use lib.Seq.{drop-cons, drop-drop, take-suc, take_all, take-length, set_at, length-take-le}
use lib.Dec.{eqb, ltb}
use borrow.Author.Tests.{eq-eqb, ne_eqb, lt-ltb, le-ltb, ltb-true, ltb-false}
use Rattle.words.proofs.Points.{cut, same}
use Rattle.words.proofs.Bools.{never}
use Rattle.text_grammar.specs.Numerals.{field_of, limit}
use Rattle.text_grammar.specs.Groups.{index_of, group_at}
use Rattle.text_grammar.specs.Lines.{comma, parts, meant, fits}
use Rattle.text_grammar.proofs.PartLaws.{index_within, parts_after, parts_split, fits_head, fits_not, fits_none, fits_more, fits_fewer, get_d_step}
use Rattle.text_lines.specs.Inner.{on_front, fields_in, FieldsRead}

-- ---- a list that is filled from its front

fill_next : (m d s : List ℕ) (j v : ℕ) → s ≡ take j m ++ drop j d → j < length m → j < length d → v ≡ get_or m j 0 → set s j v ≡ take (suc j) m ++ drop (suc j) d
fill_next m d s j v e h l q =
    ap (λ (x : List ℕ). set x j v) (e ∙ ap (λ (x : List ℕ). take j m ++ x) (drop-cons d j 0 l))
    ∙ set_at (take j m) (get_or d j 0) (drop (suc j) d) v j (length-take-le j m (omega arith))
    ∙ ap (λ (x : ℕ). take j m ++ (x ∷ drop (suc j) d)) q
    ∙ sym (ap (λ (x : List ℕ). x ++ drop (suc j) d) (take-suc m j 0 h) ∙ append_assoc (take j m) (get_or m j 0 ∷ []) (drop (suc j) d))

drop_next : {A : Type 0} (l : List A) (j : ℕ) (x : A) (r : List A) → drop j l ≡ x ∷ r → drop (suc j) l ≡ r
drop_next [] zero x r e = absurd (let z : ◌≡◌ {A = ℕ} 0 1 = cc in omega arith)
drop_next [] (suc j) x r e = absurd (let z : ◌≡◌ {A = ℕ} 0 1 = cc in omega arith)
drop_next (y ∷ l) zero x r e = cc
drop_next (y ∷ l) (suc j) x r e = drop_next l j x r e

length_of_drop : {A : Type 0} (l : List A) (j : ℕ) → drop j l ≡ [] → length l ≤ j
length_of_drop [] j e = omega arith
length_of_drop (y ∷ l) zero e = absurd (let z : ◌≡◌ {A = ℕ} 0 1 = cc in omega arith)
length_of_drop (y ∷ l) (suc j) e = let h : length l ≤ j = length_of_drop l j e in omega arith

-- ---- the fields

pub record Taking (s ds out₀ out : List ℕ) (at j : ℕ) : Type 0 where
  pub at_le : at ≤ length s
  pub j_le : j ≤ length ds
  pub room : length ds ≤ length out₀
  pub len : length out ≡ length out₀
  pub rest : drop j (fields_in s) ≡ fields_in (drop at s)
  pub so_far_lem : fits ds (fields_in s) ≡ fits (drop j ds) (drop j (fields_in s))
  pub filled : out ≡ take j (fields_in s) ++ drop j out₀

pub taking_start : (s ds out : List ℕ) → length ds ≤ length out → Taking s ds out out 0 0
taking_start s ds out h = record { at_le = omega arith; j_le = omega arith; room = h; len = refl; rest = refl; so_far_lem = refl; filled = refl }

-- the parts that are lent: what starts at `at`, and its first part
pub part_found : (s : List ℕ) (at p n : ℕ) → n ≡ length s - at → p ≡ index_of comma (take n (drop at s)) → p ≡ index_of comma (drop at s)
part_found s at p n e q = q ∙ ap (index_of comma) (take_all n (drop at s) (let h : length (drop at s) ≡ length s - at = length-drop at s in omega arith))

pub refused : {k : ℕ} {s out₀ out : List ℕ} → length out ≡ length out₀ → false ≡ fits (group_at k).dashes (fields_in s) → FieldsRead k s out₀ false out
refused l e = record { answer = e; kept = l; fields = never }

module _ {s ds out₀ out : List ℕ} {at j : ℕ} (t : Taking s ds out₀ out at j) where
  pub taking_all : length ds ≤ j → false ≡ fits ds (fields_in s)
  taking_all h =
      sym
      (t.so_far_lem ∙ ap (λ (l : List ℕ). fits l (drop j (fields_in s))) (drop_of_length-le ds h)
      ∙ ap (fits []) (t.rest ∙ ap (map field_of) (parts_split comma (drop at s))) ∙ fits_more _ _)

  module _ (p f d : ℕ) (h : j < length ds) (pe : p ≡ index_of comma (drop at s)) (fe : f ≡ field_of (take p (drop at s))) (de : d ≡ get_or ds j 0) where
    after : List ℕ
    after = map field_of (parts_after comma (drop at s) (index_of comma (drop at s)))

    next_is : drop j (fields_in s) ≡ f ∷ after
    unfolding after
    next_is =
        t.rest ∙ ap (map field_of) (parts_split comma (drop at s))
        ∙ ap (λ (x : ℕ). x ∷ after) (sym (fe ∙ ap (λ (n : ℕ). field_of (take n (drop at s))) pe))

    now_is : fits ds (fields_in s) ≡ fits (d ∷ drop (suc j) ds) (f ∷ after)
    now_is =
        t.so_far_lem ∙ ap (λ (l : List ℕ). fits l (drop j (fields_in s))) (drop-cons ds j 0 h ∙ ap (λ (x : ℕ). x ∷ drop (suc j) ds) (sym de))
        ∙ ap (fits (d ∷ drop (suc j) ds)) next_is

    pub taking_not : ltb (meant d f) limit ≡ false → false ≡ fits ds (fields_in s)
    taking_not q = sym (now_is ∙ fits_not d f (drop (suc j) ds) after (ltb-false (meant d f) limit q))

    module _ (q : ltb (meant d f) limit ≡ true) where
      go_on : fits ds (fields_in s) ≡ fits (drop (suc j) ds) after
      go_on = now_is ∙ fits_head d f (drop (suc j) ds) after (ltb-true (meant d f) limit q)

      filled_on : set out j f ≡ take (suc j) (fields_in s) ++ drop (suc j) out₀
      filled_on =
          let g = get_d_step (fields_in s) j f after next_is in
          fill_next (fields_in s) out₀ out j f t.filled g.1 (omega (arith, t.room)) (sym g.0)

      within : p ≤ length s - at
      within = let l : length (drop at s) ≡ length s - at = length-drop at s in omega (arith, index_within comma (drop at s))

      module _ (last : at + p ≡ length s) where
        none_after : after ≡ []
        unfolding after
        none_after =
            let l : length (drop at s) ≡ length s - at = length-drop at s in
            ap (λ (x : Bool). map field_of (cond x (parts comma (drop (suc (index_of comma (drop at s))) (drop at s))) []))
            (le-ltb (index_of comma (drop at s)) (length (drop at s)) (omega arith))

        all_taken : drop (suc j) (fields_in s) ≡ []
        all_taken = drop_next (fields_in s) j f after next_is ∙ none_after

        answer_is : eqb (j + 1) (length ds) ≡ fits ds (fields_in s)
        answer_is =
            same (j + 1) (length ds)
            (λ e. eq-eqb (j + 1) (length ds) e
            ∙ sym (go_on ∙ ap (fits (drop (suc j) ds)) none_after ∙ ap (λ (l : List ℕ). fits l []) (let g : length ds ≤ suc j = omega arith in drop_of_length-le ds g) ∙ fits_none))
            (λ e. ne_eqb (j + 1) (length ds) e
            ∙ sym (go_on ∙ ap (fits (drop (suc j) ds)) none_after ∙ fits_fewer (drop (suc j) ds) (let l : length (drop (suc j) ds) ≡ length ds - suc j = length-drop (suc j) ds in let g : j + 1 < length ds = less e in omega arith)))
          where
            less : ((j + 1 ≡ length ds) → ⊥) → j + 1 < length ds
            less e = cut (length ds) (j + 1) (λ a. absurd (e (omega arith))) (λ a. a)

        pub taking_last : (k n : ℕ) → (group_at k).dashes ≡ ds → n ≡ length ds → FieldsRead k s out₀ (eqb (j + 1) n) (set out j f)
        taking_last k n ke ne = record {
          answer = ap (eqb (j + 1)) ne ∙ answer_is ∙ ap (λ (l : List ℕ). fits l (fields_in s)) (sym ke);
          kept = length-set out j f ∙ t.len;
          fields = λ _. filled_on ∙ ends;
        }
          where
            ends : take (suc j) (fields_in s) ++ drop (suc j) out₀ ≡ on_front (fields_in s) out₀
            ends =
                let g : length (fields_in s) ≡ suc j = omega (arith, length_of_drop (fields_in s) (suc j) all_taken, (get_d_step (fields_in s) j f after next_is).1) in
                ap (λ (n : ℕ). take n (fields_in s) ++ drop n out₀) (sym g) ∙ ap (λ (l : List ℕ). l ++ drop (length (fields_in s)) out₀) (take-length (fields_in s))

      module _ (more : (at + p ≡ length s) → ⊥) where
        not_last : at + p < length s
        not_last = cut (length s) (at + p) (λ a. absurd (more (omega (arith, within, t.at_le)))) (λ a. a)

        more-after : after ≡ fields_in (drop (at + p + 1) s)
        unfolding after
        more-after =
            let l : length (drop at s) ≡ length s - at = length-drop at s in
            ap (λ (x : Bool). map field_of (cond x (parts comma (drop (suc (index_of comma (drop at s))) (drop at s))) []))
            (lt-ltb (index_of comma (drop at s)) (length (drop at s)) (omega (arith, not_last)))
            ∙ ap fields_in (drop-drop (suc (index_of comma (drop at s))) at s ∙ (let g : at + suc (index_of comma (drop at s)) ≡ at + p + 1 = omega arith in ap (λ (n : ℕ). drop n s) g))

        pub taking_more : Taking s ds out₀ (set out j f) (at + p + 1) (j + 1)
        taking_more = record {
          at_le = omega (arith, not_last);
          j_le = omega arith;
          room = t.room;
          len = length-set out j f ∙ t.len;
          rest = ap (λ (n : ℕ). drop n (fields_in s)) (add-one j) ∙ drop_next (fields_in s) j f after next_is ∙ more-after;
          so_far_lem =
              go_on ∙ ap (fits (drop (suc j) ds)) (sym (drop_next (fields_in s) j f after next_is))
              ∙ ap (λ (n : ℕ). fits (drop n ds) (drop n (fields_in s))) (sym (add-one j));
          filled = filled_on ∙ ap (λ (n : ℕ). take n (fields_in s) ++ drop n out₀) (sym (add-one j));
        }
