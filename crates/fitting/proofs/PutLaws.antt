-- Each item of a plan stands in the lowest fitting cell of those that there were when it was put in; and a plan has no more cells than items.
use Prim.Native.Nat.{ℕ, suc, ◌+◌, ◌-◌, ◌≤◌, ◌<◌}
use native.Mathlib.Omega.{arith}
use mathlib.Core.Path.{◌≡◌, refl, ap, sym, subst, ◌∙◌}
use mathlib.Core.Logic.{◌≢◌, inl, inr}
use mathlib.Core.Option.{Option, some, none}
use mathlib.Core.List.{List, [], ◌∷◌, ◌++◌, Memᴰ}
use lib.ListN.{length, length-append, length-set}
use borrow.Author.Tests.{eq-eqb, ne_eqb}
use Rattle.words.specs.Sort.{Distinct}
use Rattle.ranges.specs.declared.Range.{Range}
use Rattle.fitting.specs.Wants.{Want, want_at, Names}
use Rattle.fitting.specs.Plan.{Plan, nothing, lowest, assign, settled, placed_by, put, fit, plan_of}
use Rattle.fitting.specs.Inner.{cell_of}
use Rattle.fitting.specs.Lowest.{PutAt, PutLowest}
use Rattle.fitting.proofs.SearchLaws.{lowest_found, lowest_none}

-- ---- cells and items

put_few : (budget : ℕ) (w : Want) (a : Option (List Range)) (i : ℕ) (p : Plan) → length (placed_by budget w a i p).cells ≤ suc (length p.cells)
put_few budget w none i p = let e : length (placed_by budget w none i p).cells ≡ length p.cells + 1 = length-append p.cells (cell_of w ∷ []) in omega arith
put_few budget w (some a) i p = go (lowest p.cells (budget - p.probes) a)
  where
    go : (o : Option ℕ) → length (settled w i a (budget - p.probes) o p).cells ≤ suc (length p.cells)
    go none = let e : length (settled w i a (budget - p.probes) none p).cells ≡ length p.cells + 1 = length-append p.cells (cell_of w ∷ []) in omega arith
    go (some n) =
        let e : length (settled w i a (budget - p.probes) (some n) p).cells ≡ length p.cells = length-set p.cells n _ in
        omega arith

fit_few : (ws : List Want) (budget : ℕ) (order : List ℕ) (p : Plan) → length (fit ws budget order p).cells ≤ length order + length p.cells
unfolding fit
fit_few ws budget [] p = omega arith
fit_few ws budget (i ∷ order) p =
    let a = fit_few ws budget order (put ws budget i p) in
    let b = put_few budget (want_at ws i) (want_at ws i).area i p in
    omega arith

pub plan_few : (ws : List Want) (budget : ℕ) (order : List ℕ) → length (plan_of ws budget order).cells ≤ length order
plan_few ws budget order = let a = fit_few ws budget order nothing in omega arith

-- ---- the cell that an item is put to

module _ (ws : List Want) (budget : ℕ) where
  put_at : (i : ℕ) (p : Plan) → PutAt p.cells (budget - p.probes) (want_at ws i).area ((put ws budget i p).cell i)
  put_at i p = go (want_at ws i).area
    where
      mine : (n : ℕ) → assign i n p.cell i ≡ n
      mine n = rw (eq-eqb i i refl)

      fitted : (a : List Range) (left : ℕ) (o : Option ℕ) → lowest p.cells left a ≡ o → PutAt p.cells left (some a) ((settled (want_at ws i) i a left o p).cell i)
      fitted a left none e = inr (lowest_none a p.cells left e, mine (length p.cells))
      fitted a left (some n) e = inl (rw (mine n) (lowest_found a p.cells left n e))

      go : (o : Option (List Range)) → PutAt p.cells (budget - p.probes) o ((placed_by budget (want_at ws i) o i p).cell i)
      go none = mine (length p.cells)
      go (some a) = fitted a (budget - p.probes) (lowest p.cells (budget - p.probes) a) refl

  put_other : (i j : ℕ) (p : Plan) → j ≢ i → (put ws budget i p).cell j ≡ p.cell j
  put_other i j p d = go (want_at ws i).area
    where
      other : (n : ℕ) → assign i n p.cell j ≡ p.cell j
      other n = rw (ne_eqb j i d)

      fitted : (a : List Range) (left : ℕ) (o : Option ℕ) → (settled (want_at ws i) i a left o p).cell j ≡ p.cell j
      fitted a left none = other (length p.cells)
      fitted a left (some n) = other n

      go : (o : Option (List Range)) → (placed_by budget (want_at ws i) o i p).cell j ≡ p.cell j
      go none = other (length p.cells)
      go (some a) = fitted a (budget - p.probes) (lowest p.cells (budget - p.probes) a)

  -- an item that is not put again keeps its cell
  fit_keeps : (order : List ℕ) (j : ℕ) (p : Plan) → (Memᴰ j order → ⊥) → (fit ws budget order p).cell j ≡ p.cell j
  unfolding fit
  fit_keeps [] j p f = refl
  fit_keeps (i ∷ order) j p f =
      fit_keeps order j (put ws budget i p) (λ m. f (Memᴰ.tail m)) ∙ put_other i j p (λ e. f (Memᴰ.head e))

  fit_at : (earlier : List ℕ) (i : ℕ) (later : List ℕ) (p : Plan) → Distinct (earlier ++ (i ∷ later))
      → PutAt (fit ws budget earlier p).cells (budget - (fit ws budget earlier p).probes) (want_at ws i).area ((fit ws budget (earlier ++ (i ∷ later)) p).cell i)
  unfolding fit
  fit_at [] i later p d = rw (fit_keeps later i (put ws budget i p) d.0) (put_at i p)
  fit_at (j ∷ earlier) i later p d = fit_at earlier i later (put ws budget j p) d.1

-- in any order that names each item once, whatever holds the plan's cells
pub put_lowest : (ws : List Want) (budget n : ℕ) (order : List ℕ) → Names n order → (cell : ℕ → ℕ) → ((i : ℕ) → i < n → cell i ≡ (plan_of ws budget order).cell i) → PutLowest ws budget order cell
put_lowest ws budget n order N cell same = record {
  stands = λ earlier i later e.
      let known : i < n = N.known i (subst (λ (l : List ℕ). Memᴰ i l) (sym e) (between earlier i later)) in
      subst (λ (c : ℕ). PutAt (plan_of ws budget earlier).cells (budget - (plan_of ws budget earlier).probes) (want_at ws i).area c)
      (sym (same i known ∙ ap (λ (l : List ℕ). (plan_of ws budget l).cell i) e))
      (fit_at ws budget earlier i later nothing (subst Distinct e N.once));
}
  where
    between : (earlier : List ℕ) (i : ℕ) (later : List ℕ) → Memᴰ i (earlier ++ (i ∷ later))
    between [] i later = Memᴰ.head refl
    between (j ∷ earlier) i later = Memᴰ.tail (between earlier i later)
