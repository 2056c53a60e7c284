-- A plan with one item more: its cell has the item's area, and no cell takes what it did not take before.
use Prim.Native.Nat.{ℕ, suc, ◌+◌, ◌-◌, ◌≤◌, ◌<◌}
use native.Mathlib.Omega.{arith}
use mathlib.Core.Path.{◌≡◌, refl, ap, sym, ◌∙◌}
use mathlib.Core.Logic.{◌≢◌}
use mathlib.Core.Bool.{Bool, true, false, not, ◌&&◌}
use mathlib.Core.Option.{Option, some, none}
use mathlib.Core.List.{List, [], ◌∷◌, ◌++◌}
use lib.ListN.{length, set, length-set, length-append, get_or-append}
use lib.Seq.{get_or-set_same, get_or-set_other, get_or-append_seam}
use borrow.Author.Tests.{eq-eqb}
use Rattle.words.proofs.Points.{same as same_or}
use Rattle.words.proofs.Bools.{and_not}
use Rattle.ranges.specs.declared.Range.{Range}
use Rattle.ranges.specs.Points.{Upright, Apart}
use Rattle.ranges.proofs.PointLaws.{apart_upright}
use Rattle.ranges.specs.Merged.{clashes}
use Rattle.fitting.specs.Wants.{Want, want_at}
use Rattle.fitting.specs.Plan.{Cell, cell_at, joinable, lowest, Plan, opened, widened, entered, put}
use Rattle.fitting.specs.Inner.{cell_of}
use Rattle.fitting.proofs.SearchLaws.{lowest_found}
use Rattle.fitting.proofs.CellLaws.{Neat}
use Rattle.fit_cells.proofs.PutLaws.{put_none, put_miss, put_hit, join_area}

-- q is p with the item i put, into cell m
pub record Grew (x : Want) (i : ℕ) (p q : Plan) (m : ℕ) : Type 0 where
  pub is : q.cell i ≡ m
  pub there : m < length q.cells
  pub fresh : length p.cells ≤ m → m ≡ length p.cells
  pub below : (c : ℕ) → c < length q.cells → c ≢ m → c < length p.cells
  pub old : (c : ℕ) → c < length p.cells → (a : List Range) → Upright a → joinable (cell_at p.cells c).area a ≡ false → joinable (cell_at q.cells c).area a ≡ false
  pub item : (a : List Range) → Upright a → ((rs : List Range) → x.area ≡ some rs → clashes rs a ≡ true) → joinable (cell_at q.cells m).area a ≡ false

abbrev no_cell : Cell
no_cell = record { size = 0; align = 0; area = none }

join_none : (o : Option (List Range)) (a : List Range) → ((rs : List Range) → o ≡ some rs → clashes rs a ≡ true) → joinable o a ≡ false
join_none none a f = refl
join_none (some rs) a f = ap not (f rs refl)

grew_open : (x : Want) (i probes : ℕ) (p : Plan) → Grew x i p (opened x i probes p) (length p.cells)
grew_open x i probes p = record {
  is = rw (eq-eqb i i refl);
  there = rw longer (omega arith);
  fresh = λ h. refl;
  below = λ c h d. omega (arith, longer);
  old = λ c h a u e. ap (λ (z : Cell). joinable z.area a) (get_or-append p.cells (cell_of x ∷ []) no_cell c h) ∙ e;
  item = λ a u f. ap (λ (z : Cell). joinable z.area a) (get_or-append_seam p.cells (cell_of x) [] no_cell) ∙ join_none x.area a f;
}
  where
    longer : length (p.cells ++ (cell_of x ∷ [])) ≡ length p.cells + 1
    longer = simp length-append (omega arith)

grew_enter : (x : Want) (i probes : ℕ) (p : Plan) (rs : List Range) (m : ℕ) → x.area ≡ some rs → m < length p.cells → joinable (cell_at p.cells m).area rs ≡ true
    → Neat p.cells → Upright rs → Grew x i p (entered x i rs m probes p) m
grew_enter x i probes p rs m e h f neat v = record {
  is = rw (eq-eqb i i refl);
  there = rw (length-set p.cells m wide) h;
  fresh = λ l. absurd (omega arith);
  below = λ c l d. rw (length-set p.cells m wide) at l;
  old = λ c l a u g. same_or c m
      (λ q. rw q (seat a u ∙ and_not (joinable (some rs) a) (joinable (cell_at p.cells m).area a) (ap (λ (k : ℕ). joinable (cell_at p.cells k).area a) (sym q) ∙ g)))
      (λ d. ap (λ (z : Cell). joinable z.area a) (get_or-set_other p.cells m c wide no_cell d) ∙ g);
  item = λ a u g. seat a u ∙ ap (λ (t : Bool). not t && joinable (cell_at p.cells m).area a) (g rs e);
}
  where
    wide : Cell
    wide = widened (cell_at p.cells m) x rs

    seat : (a : List Range) → Upright a → joinable (cell_at (set p.cells m wide) m).area a ≡ joinable (some rs) a && joinable (cell_at p.cells m).area a
    seat a u =
        ap (λ (z : Cell). joinable z.area a) (get_or-set_same p.cells m wide no_cell h)
        ∙ join_area (cell_at p.cells m).area rs a f (λ ts g. apart_upright ts (neat m ts g)) v u

pub grew : (ws : List Want) (budget i : ℕ) (p : Plan) → Neat p.cells → ((rs : List Range) → (want_at ws i).area ≡ some rs → Apart rs)
    → (m : ℕ) × Grew (want_at ws i) i p (put ws budget i p) m
grew ws budget i p neat tidy = go (want_at ws i).area refl
  where
    look : (rs : List Range) → (want_at ws i).area ≡ some rs → (o : Option ℕ) → lowest p.cells (budget - p.probes) rs ≡ o → (m : ℕ) × Grew (want_at ws i) i p (put ws budget i p) m
    look rs e none f = (length p.cells, rw (put_miss ws budget i p rs e f) (grew_open (want_at ws i) i _ p))
    look rs e (some m) f =
        let l = lowest_found rs p.cells (budget - p.probes) m f in
        (m, rw (put_hit ws budget i p rs m e f) (grew_enter (want_at ws i) i (suc m) p rs m e l.there l.fits neat (apart_upright rs (tidy rs e))))

    go : (o : Option (List Range)) → (want_at ws i).area ≡ o → (m : ℕ) × Grew (want_at ws i) i p (put ws budget i p) m
    go none e = (length p.cells, rw (put_none ws budget i p e) (grew_open (want_at ws i) i 0 p))
    go (some rs) e = look rs e (lowest p.cells (budget - p.probes) rs) refl
