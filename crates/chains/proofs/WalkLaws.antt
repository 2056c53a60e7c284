-- Laws of a walk along a chain, from a number's last row back: the rows' words come out in lent order.
use Prim.Native.Nat.{ℕ, zero, suc, ◌+◌, ◌-◌, ◌≤◌, ◌<◌}
use native.Mathlib.Omega.{arith}
use native.Mathlib.Nat.{add-zero}
use mathlib.Core.Path.{◌≡◌, refl, sym, ap, ◌∙◌, subst}
use mathlib.Core.Bool.{Bool, true, false, cond}
use mathlib.Core.List.{List, [], ◌∷◌, ◌++◌}
use lib.ListN.{length, get_or, set, length-set}
use lib.Seq.{get_or-set_same, get_or-set_other}
use lib.Dec.{eqb}
use borrow.Author.Tests.{eqb-true, eq-eqb}
use Rattle.words.specs.Rows.{tabulate}
use Rattle.words.specs.Inner.{part}
use Rattle.words.proofs.RegionLaws.{length_part, get_d_part, part_is}
use Rattle.graph.specs.Inner.Work.{Within}
use Rattle.graph.proofs.Within.{within_refl, within_set}
use Rattle.carrying.specs.Lists.{gather}
use Rattle.reach.specs.Inner.{latest}
use Rattle.chains.specs.Inner.{Walkable, words_of, Walked}

-- a word put before a part
part_push : (w : List ℕ) (at n x : ℕ) → at + n < length w → part at (suc n) (set w at x) ≡ x ∷ part (at + 1) n w
part_push w at n x h = part_is at (suc n) (set w at x) (x ∷ part (at + 1) n w) (simp length-set (omega arith)) (ap suc (length_part (at + 1) n w (omega arith))) each
  where
    each : (i : ℕ) → i < suc n → get_or (set w at x) (at + i) 0 ≡ get_or (x ∷ part (at + 1) n w) i 0
    each zero l = ap (λ (j : ℕ). get_or (set w at x) j 0) (add-zero at) ∙ get_or-set_same w at x 0 (omega arith)
    each (suc i) l =
        let e : at + suc i ≡ at + 1 + i = omega arith in
        get_or-set_other w at (at + suc i) x 0 (λ z. absurd (omega arith)) ∙ ap (λ (j : ℕ). get_or w j 0) e ∙ sym (get_d_part (at + 1) n w i (omega arith))

-- row i has the number f i and the word v i
module _ (l : ℕ) where
  -- the words of the number's rows among the first k, before those of later rows
  unfoldable pub collect : (ℕ → ℕ) → (ℕ → ℕ) → ℕ → List ℕ → List ℕ
  collect f v zero acc = acc
  collect f v (suc k) acc = collect f v k (cond (eqb (f k) l) (v k ∷ acc) acc)

  collect_front : (f v : ℕ → ℕ) (k : ℕ) (acc : List ℕ) → collect f v (suc k) acc ≡ cond (eqb (f 0) l) (v 0 ∷ []) [] ++ collect (λ i. f (suc i)) (λ i. v (suc i)) k acc
  unfolding collect
  collect_front f v zero acc = go (eqb (f 0) l)
    where
      go : (t : Bool) → cond t (v 0 ∷ acc) acc ≡ cond t (v 0 ∷ []) [] ++ acc
      go true = refl
      go false = refl
  collect_front f v (suc k) acc = collect_front f v k (cond (eqb (f (suc k)) l) (v (suc k) ∷ acc) acc)

  -- what is gathered from each row
  collect_is : {A : Type 0} (g : A → List ℕ) (r : ℕ → A) (f v : ℕ → ℕ) (k : ℕ) → ((i : ℕ) → cond (eqb (f i) l) (v i ∷ []) [] ≡ g (r i)) → collect f v k [] ≡ gather g (tabulate k r)
  unfolding collect gather tabulate
  collect_is g r f v zero e = refl
  collect_is g r f v (suc k) e =
      collect_front f v k []
      ∙ ap (λ (z : List ℕ). cond (eqb (f 0) l) (v 0 ∷ []) [] ++ z) (collect_is g (λ i. r (suc i)) (λ i. f (suc i)) (λ i. v (suc i)) k (λ i. e (suc i)))
      ∙ ap (λ (z : List ℕ). z ++ gather g (tabulate k (λ i. r (suc i)))) (e 0)

  pub words_are : {A : Type 0} (g : A → List ℕ) (r : ℕ → A) (f v : ℕ → ℕ) (k : ℕ) → ((i : ℕ) → cond (eqb (f i) l) (v i ∷ []) [] ≡ g (r i)) → words_of f v l k ≡ gather g (tabulate k r)
  words_are g r f v k e = sym (collect_is (λ i. cond (eqb (f i) l) (v i ∷ []) []) (λ i. i) f v k (λ i. refl)) ∙ collect_is g r f v k e

  collect_none : (f v : ℕ → ℕ) (acc : List ℕ) → collect f v 0 acc ≡ acc
  unfolding collect
  collect_none f v acc = refl

  collect_step : (f v : ℕ → ℕ) (k : ℕ) (acc : List ℕ) → collect f v (suc k) acc ≡ collect f v k (cond (eqb (f k) l) (v k ∷ acc) acc)
  unfolding collect
  collect_step f v k acc = refl

  -- among the first k rows the number's last is row q - 1; with 0 there is none
  record Last (f v : ℕ → ℕ) (k q : ℕ) : Type 0 where
    pub at_most : q ≤ k
    pub named : (i : ℕ) → q ≡ suc i → f i ≡ l
    pub rest : (acc : List ℕ) → collect f v k acc ≡ collect f v q acc

  last : (f v : ℕ → ℕ) (k : ℕ) → Last f v k (latest f l k)
  unfolding latest
  last f v zero = record { at_most = omega arith; named = λ i e. absurd (omega arith); rest = λ acc. refl }
  last f v (suc k) = go (eqb (f k) l) refl (last f v k)
    where
      go : (t : Bool) → eqb (f k) l ≡ t → Last f v k (latest f l k) → Last f v (suc k) (cond t (suc k) (latest f l k))
      go true e d = record {
        at_most = omega arith;
        named = λ i z. let y : k ≡ i = omega arith in subst (λ (j : ℕ). f j ≡ l) y (eqb-true _ _ e);
        rest = λ acc. refl;
      }
      go false e d = record {
        at_most = let q = d.at_most in omega arith;
        named = d.named;
        rest = λ acc. collect_step f v k acc ∙ ap (λ (t : Bool). collect f v k (cond t (v k ∷ acc) acc)) e ∙ d.rest acc;
      }

-- the words of the rows from row `next` on stand from `to` up to top
pub record Walking (f v : ℕ → ℕ) (n l nexts top : ℕ) (w₀ w : List ℕ) (next to : ℕ) : Type 0 where
  pub low : nexts + n + n ≤ top
  pub high : top ≤ length w₀
  pub kept : Within (top - n) top w₀ w
  pub room : top + next ≤ to + n
  pub to_le : to ≤ top
  pub named : (i : ℕ) → next ≡ suc i → f i ≡ l
  pub rest : collect l f v next (part to (top - to) w) ≡ collect l f v n []

pub walk_start : {f : ℕ → ℕ} (v : ℕ → ℕ) {n l heads nexts top : ℕ} {w : List ℕ} → Walkable f n l heads nexts top w → (next : ℕ) → next ≡ get_or w (heads + l) 0
    → Walking f v n l nexts top w w next top
walk_start {f} v {n} {l} {heads} {nexts} {top} {w} W next e =
    let z : next ≡ latest f l n = e ∙ W.head in
    let q = last l f v n in
    let none : top - top ≡ 0 = omega arith in
    record {
      low = W.nexts_fit;
      high = W.top_fits;
      kept = within_refl _ _ w;
      room = let a = q.at_most in omega arith;
      to_le = omega arith;
      named = λ i y. q.named i (sym z ∙ y);
      rest = ap (λ (k : ℕ). collect l f v next (part top k w)) none ∙ ap (λ (k : ℕ). collect l f v k []) z ∙ sym (q.rest []);
    }

module _ {f v : ℕ → ℕ} {n l nexts top : ℕ} {w₀ w : List ℕ} {next to : ℕ} (d : Walking f v n l nexts top w₀ w next to) where
  pub walk_row : (i : ℕ) → next ≡ i + 1 → i < n
  walk_row i e = let a = d.room in let b = d.to_le in omega arith

  walk_next : (x i at : ℕ) → next ≡ i + 1 → at + 1 ≡ to → get_or (set w at x) (nexts + i) 0 ≡ get_or w₀ (nexts + i) 0
  walk_next x i at e g =
      let a = d.room in let b = d.to_le in let c = d.low in
      get_or-set_other w at (nexts + i) x 0 (λ z. absurd (omega arith)) ∙ d.kept.below (nexts + i) (omega arith)

  pub walk_less : (i next' : ℕ) → next ≡ i + 1 → next' ≡ latest f l i → next' < next
  walk_less i next' e z = let q = (last l f v i).at_most in omega arith

  pub walk_more : (x i at next' : ℕ) → next ≡ i + 1 → at + 1 ≡ to → x ≡ v i → next' ≡ latest f l i
      → Walking f v n l nexts top w₀ (set w at x) next' at
  walk_more x i at next' e p u z =
      let a = d.room in let b = d.to_le in let c = d.low in let h = d.high in let k = d.kept.len in
      let y : next ≡ suc i = omega arith in
      let q = last l f v i in
      let m : top - at ≡ suc (top - to) = omega arith in
      record {
        low = d.low;
        high = d.high;
        kept = within_set d.kept at x (omega arith) (omega arith);
        room = let s = q.at_most in omega arith;
        to_le = omega arith;
        named = λ j g. q.named j (sym z ∙ g);
        rest =
            ap (λ (s : ℕ). collect l f v s (part at (top - at) (set w at x))) z
            ∙ sym (q.rest (part at (top - at) (set w at x)))
            ∙ ap (λ (s : ℕ). collect l f v i (part at s (set w at x))) m
            ∙ ap (collect l f v i) (part_push w at (top - to) x (omega arith) ∙ ap (λ (s : ℕ). x ∷ part s (top - to) w) p ∙ ap (λ (s : ℕ). s ∷ part to (top - to) w) u)
            ∙ sym (collect_step l f v i (part to (top - to) w) ∙ ap (λ (t : Bool). collect l f v i (cond t (v i ∷ part to (top - to) w) (part to (top - to) w))) (eq-eqb (f i) l (d.named i y)))
            ∙ ap (λ (s : ℕ). collect l f v s (part to (top - to) w)) (sym y)
            ∙ d.rest;
      }

-- the row before row i in the chain
pub walk_back : {f v : ℕ → ℕ} {n l heads nexts top : ℕ} {w₀ w : List ℕ} {next to : ℕ} → Walkable f n l heads nexts top w₀ → Walking f v n l nexts top w₀ w next to
    → (x i at : ℕ) → next ≡ i + 1 → at + 1 ≡ to → get_or (set w at x) (nexts + i) 0 ≡ latest f l i
walk_back W d x i at e h = walk_next d x i at e h ∙ W.next i (walk_row d i e) (d.named i (let y : _ ≡ suc i = omega arith in y))

pub walk_done : {f v : ℕ → ℕ} {n l nexts top : ℕ} {w₀ w : List ℕ} {next to : ℕ} → Walking f v n l nexts top w₀ w next to → next ≡ 0 → Walked f v n l top w₀ w (top - to)
walk_done {f} {v} {n} {l} {nexts} {top} {w₀} {w} {next} {to} d e =
    let a = d.room in let b = d.to_le in
    let z : top - (top - to) ≡ to = omega arith in
    record {
      kept = d.kept;
      few = omega arith;
      words = ap (λ (s : ℕ). part s (top - to) w) z
          ∙ sym (ap (λ (s : ℕ). collect l f v s (part to (top - to) w)) e ∙ collect_none l f v (part to (top - to) w))
          ∙ d.rest ∙ collect_is l (λ i. cond (eqb (f i) l) (v i ∷ []) []) (λ i. i) f v n (λ i. refl);
    }
