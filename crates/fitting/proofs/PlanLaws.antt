-- What holds of a plan, at any budget and over any order that names each item once. Of ranges only laws about points are used.
use Prim.Native.Nat.{ℕ, ◌+◌, ◌-◌, ◌≤◌, ◌<◌}
use native.Mathlib.Omega.{arith}
use native.Mathlib.Decide.{ℕ_discrete}
use native.Mathlib.Nat.{le_of_eq}
use mathlib.Core.Path.{◌≡◌, refl, ap, sym, ◌∙◌}
use mathlib.Core.Logic.{◌≢◌, ◌⊎◌, inl, inr}
use mathlib.Core.Bool.{true, false, false≢true}
use mathlib.Core.Option.{Option, some, none, some-ne-none, some-injective}
use mathlib.Core.List.Memᴰ
use mathlib.Core.List.{List, [], ◌∷◌, ◌++◌, Memᴰ}
use lib.ListN.{length, set, length-set, length-append, get_or-append}
use lib.Seq.{get_or-set_same, get_or-set_other, get_or-append_seam}
use borrow.Author.Tests.{eq-eqb, ne_eqb, not-true}
use Rattle.ranges.specs.declared.Range.{Range}
use Rattle.ranges.specs.Points.{Point, listed}
use Rattle.ranges.specs.Merged.{union, clashes}
use Rattle.ranges.proofs.MergeLaws.{union_left, union_right}
use Rattle.ranges.proofs.ClashLaws.{apart_points}
use Rattle.fitting.specs.Wants.{Want, want_at, Names}
use Rattle.words.specs.Sort.{Distinct}
use Rattle.fitting.specs.Plan.{Cell, cell_at, joinable, lowest, spent, Plan, nothing, assign, opened, widened, entered, settled, placed_by, put, fit, plan_of}
use Rattle.fitting.proofs.SearchLaws.{lowest_found, spent_le}

abbrev no_cell : Cell
no_cell = record { size = 0; align = 0; area = none }

-- a cell that takes an item has an area, which does not clash with the item's
taken : (o : Option (List Range)) (a : List Range) → joinable o a ≡ true → (h : List Range) × (o ≡ some h) × (clashes h a ≡ false)
taken none a t = absurd (false≢true t)
taken (some h) a t = (h, refl, not-true (clashes h a) t)

module _ (ws : List Want) where
  -- two items that may share: both have areas, without a common point
  pub record Clear (i j : ℕ) : Type 0 where
    pub one : List Range
    pub two : List Range
    pub one_is : (want_at ws i).area ≡ some one
    pub two_is : (want_at ws j).area ≡ some two
    pub no_common : (x : ℕ) → Point one x → Point two x → ⊥

  clear_sym : (i j : ℕ) → Clear i j → Clear j i
  clear_sym i j c = record { one = c.two; two = c.one; one_is = c.two_is; two_is = c.one_is; no_common = λ x a b. c.no_common x b a }

  -- the cell's area has every point of a
  record Holds (cs : List Cell) (n : ℕ) (a : List Range) : Type 0 where
    held : List Range
    is : (cell_at cs n).area ≡ some held
    within : (x : ℕ) → Point a x → Point held x

  -- of the items done so far
  record Good (done : List ℕ) (p : Plan) : Type 0 where
    known : (i : ℕ) → Memᴰ i done → p.cell i < length p.cells
    sized : (i : ℕ) → Memᴰ i done → (want_at ws i).size ≤ (cell_at p.cells (p.cell i)).size
    aligned : (i : ℕ) → Memᴰ i done → (want_at ws i).align ≤ (cell_at p.cells (p.cell i)).align
    holds : (i : ℕ) → Memᴰ i done → (a : List Range) → (want_at ws i).area ≡ some a → Holds p.cells (p.cell i) a
    lone : (i : ℕ) → Memᴰ i done → (want_at ws i).area ≡ none → (cell_at p.cells (p.cell i)).area ≡ none
    clear : (i j : ℕ) → Memᴰ i done → Memᴰ j done → i ≢ j → p.cell i ≡ p.cell j → Clear i j

  -- what is to be shown of the cells after one item more, for an item that keeps its cell
  record Stays (cs ds : List Cell) (n j : ℕ) : Type 0 where
    size : (cell_at cs n).size ≤ (cell_at ds n).size
    align : (cell_at cs n).align ≤ (cell_at ds n).align
    some_area : (h : List Range) → (cell_at cs n).area ≡ some h → Holds ds n h
    no_area : (want_at ws j).area ≡ none → (cell_at cs n).area ≡ none → (cell_at ds n).area ≡ none

  -- one new item i, put to cell n of the cells ds
  module _ (done : List ℕ) (p : Plan) (G : Good done p) (i : ℕ) (new : Memᴰ i done → ⊥) (ds : List Cell) (n probes : ℕ) where
    abbrev after : Plan
    after = record { cells = ds; cell = assign i n p.cell; probes = probes }

    mine : after.cell i ≡ n
    mine = rw (eq-eqb i i refl)

    other : (j : ℕ) → Memᴰ j done → after.cell j ≡ p.cell j
    other j m = elim (ℕ_discrete j i) [ yes e ↦ absurd (new (rw e at m)) | no d ↦ rw (ne_eqb j i d) ]

    extend : n < length ds → length p.cells ≤ length ds
        → (want_at ws i).size ≤ (cell_at ds n).size → (want_at ws i).align ≤ (cell_at ds n).align
        → ((a : List Range) → (want_at ws i).area ≡ some a → Holds ds n a)
        → ((want_at ws i).area ≡ none → (cell_at ds n).area ≡ none)
        → ((j : ℕ) → Memᴰ j done → Stays p.cells ds (p.cell j) j)
        → ((j : ℕ) → Memᴰ j done → p.cell j ≡ n → Clear i j)
        → Good (i ∷ done) after
    extend in-range longer roomy even here alone stay free = record {
      known = λ j m. known' j (Memᴰ.cases_cons m);
      sized = λ j m. sized' j (Memᴰ.cases_cons m);
      aligned = λ j m. aligned' j (Memᴰ.cases_cons m);
      holds = λ j m a e. holds' j (Memᴰ.cases_cons m) a e;
      lone = λ j m e. lone' j (Memᴰ.cases_cons m) e;
      clear = λ j k m l d e. clear' j k (Memᴰ.cases_cons m) (Memᴰ.cases_cons l) d e;
    }
      where
        known' : (j : ℕ) → (j ≡ i) ⊎ Memᴰ j done → after.cell j < length ds
        known' j (inl e) = rw (e, mine) in-range
        known' j (inr m) = rw (other j m) (omega (arith, G.known j m))

        sized' : (j : ℕ) → (j ≡ i) ⊎ Memᴰ j done → (want_at ws j).size ≤ (cell_at ds (after.cell j)).size
        sized' j (inl e) = rw (e, mine) roomy
        sized' j (inr m) = rw (other j m) (omega (arith, G.sized j m, (stay j m).size))

        aligned' : (j : ℕ) → (j ≡ i) ⊎ Memᴰ j done → (want_at ws j).align ≤ (cell_at ds (after.cell j)).align
        aligned' j (inl e) = rw (e, mine) even
        aligned' j (inr m) = rw (other j m) (omega (arith, G.aligned j m, (stay j m).align))

        holds' : (j : ℕ) → (j ≡ i) ⊎ Memᴰ j done → (a : List Range) → (want_at ws j).area ≡ some a → Holds ds (after.cell j) a
        holds' j (inl e) a z = rw (e, mine) (here a (rw e at z))
        holds' j (inr m) a z =
            let h = G.holds j m a z in
            let k = (stay j m).some_area h.held h.is in
            rw (other j m) (record { held = k.held; is = k.is; within = λ x q. k.within x (h.within x q) })

        lone' : (j : ℕ) → (j ≡ i) ⊎ Memᴰ j done → (want_at ws j).area ≡ none → (cell_at ds (after.cell j)).area ≡ none
        lone' j (inl e) z = rw (e, mine) (alone (rw e at z))
        lone' j (inr m) z = rw (other j m) ((stay j m).no_area z (G.lone j m z))

        clear' : (j k : ℕ) → (j ≡ i) ⊎ Memᴰ j done → (k ≡ i) ⊎ Memᴰ k done → j ≢ k → after.cell j ≡ after.cell k → Clear j k
        clear' j k (inl e) (inl f) d z = absurd (d (e ∙ sym f))
        clear' j k (inl e) (inr l) d z = rw e (free k l (sym (other k l) ∙ sym z ∙ ap after.cell e ∙ mine))
        clear' j k (inr m) (inl f) d z = rw f (clear_sym i j (free j m (sym (other j m) ∙ z ∙ ap after.cell f ∙ mine)))
        clear' j k (inr m) (inr l) d z = G.clear j k m l d (sym (other j m) ∙ z ∙ other k l)

  good_open : (done : List ℕ) (p : Plan) → Good done p → (i : ℕ) → (Memᴰ i done → ⊥) → (probes : ℕ)
      → Good (i ∷ done) (opened (want_at ws i) i probes p)
  good_open done p G i new probes =
      extend done p G i new (p.cells ++ (c ∷ [])) (length p.cells) (p.probes + probes)
      longer (omega (arith, longer))
      (le_of_eq (sym (ap (λ (k : Cell). k.size) seat))) (le_of_eq (sym (ap (λ (k : Cell). k.align) seat)))
      (λ a e. record { held = a; is = ap (λ (k : Cell). k.area) seat ∙ e; within = λ x q. q })
      (λ e. ap (λ (k : Cell). k.area) seat ∙ e)
      (λ j m. record {
        size = le_of_eq (sym (ap (λ (k : Cell). k.size) (old j m)));
        align = le_of_eq (sym (ap (λ (k : Cell). k.align) (old j m)));
        some_area = λ h e. record { held = h; is = ap (λ (k : Cell). k.area) (old j m) ∙ e; within = λ x q. q };
        no_area = λ z e. ap (λ (k : Cell). k.area) (old j m) ∙ e;
      })
      (λ j m e. absurd (omega (arith, G.known j m)))
    where
      c : Cell
      c = record { size = (want_at ws i).size; align = (want_at ws i).align; area = (want_at ws i).area }

      longer : length p.cells < length (p.cells ++ (c ∷ []))
      longer = simp length-append (omega arith)

      seat : cell_at (p.cells ++ (c ∷ [])) (length p.cells) ≡ c
      seat = get_or-append_seam p.cells c [] no_cell

      old : (j : ℕ) → Memᴰ j done → cell_at (p.cells ++ (c ∷ [])) (p.cell j) ≡ cell_at p.cells (p.cell j)
      old j m = get_or-append p.cells (c ∷ []) no_cell (p.cell j) (G.known j m)

  good_enter : (done : List ℕ) (p : Plan) → Good done p → (i : ℕ) → (Memᴰ i done → ⊥) → (a : List Range) → (want_at ws i).area ≡ some a
      → (n : ℕ) → n < length p.cells → (held : List Range) → (cell_at p.cells n).area ≡ some held → clashes held a ≡ false
      → (probes : ℕ) → Good (i ∷ done) (entered (want_at ws i) i a n probes p)
  good_enter done p G i new a z n there held is_held_lem no-clash probes =
      extend done p G i new (set p.cells n c) n (p.probes + probes)
      (rw (length-set p.cells n c) there) (rw (length-set p.cells n c) (omega arith))
      (rw (ap (λ (k : Cell). k.size) seat) (omega arith)) (rw (ap (λ (k : Cell). k.align) seat) (omega arith))
      (λ d e. record { held = union held a; is = area-seat; within = λ x q. union_right held a x (rw (some-injective d a (sym e ∙ z)) at q) })
      (λ e. absurd (some-ne-none a (sym z ∙ e)))
      (λ j m. stay j m (ℕ_discrete (p.cell j) n))
      (λ j m e. free j m e (want_at ws j).area refl)
    where
      c : Cell
      c = widened (cell_at p.cells n) (want_at ws i) a

      seat : cell_at (set p.cells n c) n ≡ c
      seat = get_or-set_same p.cells n c no_cell there

      area-seat : (cell_at (set p.cells n c) n).area ≡ some (union held a)
      area-seat = ap (λ (k : Cell). k.area) seat ∙ ap (λ (o : Option (List Range)). some (union (listed o) a)) is_held_lem

      old : (m : ℕ) → m ≢ n → cell_at (set p.cells n c) m ≡ cell_at p.cells m
      old m d = get_or-set_other p.cells n m c no_cell d

      stay : (j : ℕ) → Memᴰ j done → Dec (p.cell j ≡ n) → Stays p.cells (set p.cells n c) (p.cell j) j
      stay j m (yes f) = rw f (record {
        size = rw (ap (λ (k : Cell). k.size) seat) (omega arith);
        align = rw (ap (λ (k : Cell). k.align) seat) (omega arith);
        some_area = λ h e. record { held = union held a; is = area-seat; within = λ x q. union_left held a x (rw (some-injective h held (sym e ∙ is_held_lem)) at q) };
        no_area = λ w e. absurd (some-ne-none held (sym is_held_lem ∙ e));
      })
      stay j m (no f) = record {
        size = le_of_eq (sym (ap (λ (k : Cell). k.size) (old (p.cell j) f)));
        align = le_of_eq (sym (ap (λ (k : Cell). k.align) (old (p.cell j) f)));
        some_area = λ h e. record { held = h; is = ap (λ (k : Cell). k.area) (old (p.cell j) f) ∙ e; within = λ x q. q };
        no_area = λ w e. ap (λ (k : Cell). k.area) (old (p.cell j) f) ∙ e;
      }

      free : (j : ℕ) → Memᴰ j done → p.cell j ≡ n → (o : Option (List Range)) → (want_at ws j).area ≡ o → Clear i j
      free j m e none o = absurd (some-ne-none held (sym is_held_lem ∙ ap (λ (k : ℕ). (cell_at p.cells k).area) (sym e) ∙ G.lone j m o))
      free j m e (some d) o =
          let h = G.holds j m d o in
          let k : h.held ≡ held = some-injective _ _ (sym h.is ∙ ap (λ (k : ℕ). (cell_at p.cells k).area) e ∙ is_held_lem) in
          record { one = a; two = d; one_is = z; two_is = o; no_common = λ x q r. apart_points held a no-clash x (rw k at (h.within x r)) q }

  module _ (budget : ℕ) where
    good_put : (done : List ℕ) (p : Plan) → Good done p → (i : ℕ) → (Memᴰ i done → ⊥) → Good (i ∷ done) (put ws budget i p)
    good_put done p G i new = go (want_at ws i).area refl
      where
        fitted : (a : List Range) → (want_at ws i).area ≡ some a → (left : ℕ) → (f : Option ℕ) → lowest p.cells left a ≡ f → Good (i ∷ done) (settled (want_at ws i) i a left f p)
        fitted a z left none e = good_open done p G i new _
        fitted a z left (some n) e =
            let r = lowest_found a p.cells left n e in
            let (h, is, free) = taken (cell_at p.cells n).area a r.fits in
            good_enter done p G i new a z n r.there h is free _

        go : (o : Option (List Range)) → (want_at ws i).area ≡ o → Good (i ∷ done) (placed_by budget (want_at ws i) o i p)
        go none z = good_open done p G i new 0
        go (some a) z = fitted a z (budget - p.probes) (lowest p.cells (budget - p.probes) a) refl

    -- every item of the order is among those done
    record Done (order done : List ℕ) (p : Plan) : Type 0 where
      all : List ℕ
      each : (i : ℕ) → Memᴰ i order ⊎ Memᴰ i done → Memᴰ i all
      good : Good all (fit ws budget order p)

    good_fit : (order done : List ℕ) (p : Plan) → Good done p → Distinct order → ((i : ℕ) → Memᴰ i order → Memᴰ i done → ⊥) → Done order done p
    unfolding fit
    good_fit [] done p G d f = record { all = done; each = in-done; good = G }
      where
        in-done : (i : ℕ) → Memᴰ i [] ⊎ Memᴰ i done → Memᴰ i done
        in-done i (inl m) = absurd (Memᴰ.not-nil m)
        in-done i (inr m) = m
    good_fit (k ∷ order) done p G d f =
        let r = good_fit order (k ∷ done) (put ws budget k p) (good_put done p G k (f k (Memᴰ.head refl))) d.1 (λ l a b. sep l a (Memᴰ.cases_cons b)) in
        record { all = r.all; each = λ i m. r.each i (shift i m); good = r.good }
      where
        sep : (l : ℕ) → Memᴰ l order → (l ≡ k) ⊎ Memᴰ l done → ⊥
        sep l a (inl z) = d.0 (rw z at a)
        sep l a (inr b) = f l (Memᴰ.tail a) b

        head : (l : ℕ) → (l ≡ k) ⊎ Memᴰ l order → Memᴰ l order ⊎ Memᴰ l (k ∷ done)
        head l (inl z) = inr (Memᴰ.head z)
        head l (inr b) = inl b

        shift : (l : ℕ) → Memᴰ l (k ∷ order) ⊎ Memᴰ l done → Memᴰ l order ⊎ Memᴰ l (k ∷ done)
        shift l (inl a) = head l (Memᴰ.cases_cons a)
        shift l (inr b) = inr (Memᴰ.tail b)

    finished : (order : List ℕ) → Distinct order → Done order [] nothing
    finished order d =
        good_fit order [] nothing
        (record {
          known = λ l m. absurd (Memᴰ.not-nil m);
          sized = λ l m. absurd (Memᴰ.not-nil m);
          aligned = λ l m. absurd (Memᴰ.not-nil m);
          holds = λ l m. absurd (Memᴰ.not-nil m);
          lone = λ l m. absurd (Memᴰ.not-nil m);
          clear = λ l o m. absurd (Memᴰ.not-nil m);
        })
        d (λ l m n. Memᴰ.not-nil n)

    -- ---- probes

    probes_put : (i : ℕ) (p : Plan) → p.probes ≤ budget → (put ws budget i p).probes ≤ budget
    probes_put i p h = go (want_at ws i).area
      where
        fitted : (a : List Range) (left : ℕ) (o : Option ℕ) → p.probes + left ≤ budget → spent p.cells left o ≤ left → (settled (want_at ws i) i a left o p).probes ≤ budget
        fitted a left none b s = omega arith
        fitted a left (some n) b s = omega arith

        go : (o : Option (List Range)) → (placed_by budget (want_at ws i) o i p).probes ≤ budget
        go none = omega arith
        go (some a) = fitted a (budget - p.probes) (lowest p.cells (budget - p.probes) a) (omega arith) (spent_le a p.cells (budget - p.probes))

    probes_fit : (order : List ℕ) (p : Plan) → p.probes ≤ budget → (fit ws budget order p).probes ≤ budget
    unfolding fit
    probes_fit [] p h = h
    probes_fit (i ∷ order) p h = probes_fit order (put ws budget i p) (probes_put i p h)

-- what every reader of a plan may rest on
pub record Facts (ws : List Want) (budget n : ℕ) (p : Plan) : Type 0 where
  -- every item has a cell below the cell count, which is as large and as aligned
  pub known : (i : ℕ) → i < n → p.cell i < length p.cells
  pub sized : (i : ℕ) → i < n → (want_at ws i).size ≤ (cell_at p.cells (p.cell i)).size
  pub aligned : (i : ℕ) → i < n → (want_at ws i).align ≤ (cell_at p.cells (p.cell i)).align
  -- two different items of one cell both have areas, without a common point
  pub clear : (i j : ℕ) → i < n → j < n → i ≢ j → p.cell i ≡ p.cell j → Clear ws i j
  -- an item without area is alone
  pub alone : (i j : ℕ) → i < n → j < n → (want_at ws i).area ≡ none → p.cell i ≡ p.cell j → i ≡ j
  pub frugal : p.probes ≤ budget

pub facts : (ws : List Want) (budget n : ℕ) (order : List ℕ) → Names n order → Facts ws budget n (plan_of ws budget order)
facts ws budget n order N = record {
  known = λ i h. r.good.known i (at i h);
  sized = λ i h. r.good.sized i (at i h);
  aligned = λ i h. r.good.aligned i (at i h);
  clear = λ i j h k d e. r.good.clear i j (at i h) (at j k) d e;
  alone = λ i j h k z e. alone' i j h k z e (ℕ_discrete i j);
  frugal = probes_fit ws budget order nothing (omega arith);
}
  where
    r : Done ws budget order [] nothing
    r = finished ws budget order N.once

    at : (i : ℕ) → i < n → Memᴰ i r.all
    at i h = r.each i (inl (N.each i h))

    alone' : (i j : ℕ) → i < n → j < n → (want_at ws i).area ≡ none → (plan_of ws budget order).cell i ≡ (plan_of ws budget order).cell j → Dec (i ≡ j) → i ≡ j
    alone' i j h k z e (yes q) = q
    alone' i j h k z e (no q) =
        let c = r.good.clear i j (at i h) (at j k) q e in
        absurd (some-ne-none c.one (sym c.one_is ∙ z))
