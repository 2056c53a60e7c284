-- What each way out of the checks comes to, and what is left where none refuses.
use Prim.Native.Nat.{ℕ, ◌+◌, ◌*◌, ◌/◌, ◌%◌, ◌≤◌, ◌<◌}
use native.Mathlib.Omega.{arith}
use mathlib.Core.Path.{◌≡◌, ap, ◌∙◌}
use mathlib.Core.Bool.{true, false, ◌||◌}
use mathlib.Core.List.{List}
use lib.ListN.{length}
use lib.Dec.{ltb}
use borrow.Author.Tests.{lt-ltb, le-ltb, ltb-false}
use Rattle.words.proofs.Bools.{or_neither}
use Rattle.refusals.specs.declared.Refusal.{Refusal}
use Rattle.refusals.specs.declared.Refusal.TheVariants.{Count, Space}
use Rattle.refusals.specs.Verdicts.{check, Bad, Fine, Verdict}
use Rattle.refusals.proofs.Laws.{check_told}
use Rattle.job_space.specs.declared.Sizes.{Sizes}
use Rattle.job_space.specs.Space.{sizes_of, space_of, bad_shape}
use Rattle.job_checks.specs.Job.{count_verdict}
use Rattle.job_checks.proofs.CheckLaws.{whole_areas, placed_of, by_own, by_counts as records-counts, by_placed as records-placed, by_space as records-space, lent_counted, lent_passed, lent_space}
use Rattle.job_areas.specs.Inner.{Lent}
use Rattle.job.specs.Inner.{space_verdict}
use Rattle.job.specs.Entry.{lent_verdict}
use Rattle.job_space.specs.Rows.{Rows}
use Rattle.fitting.specs.declared.Terms.{Terms}
use Rattle.words.specs.Widths.{cell_width, item_width, range_width}

-- ---- number 7

module _ (z : Sizes) (cells items offsets work : ℕ) where
  pub short_work : work < space_of z → Bad Space 0 ≡ space_verdict z cells items offsets work
  short_work h = simp (lt-ltb work (space_of z) h)

  module _ (h : space_of z ≤ work) where
    pub short_cells : cells / cell_width < z.locals + z.slots → Bad Space 0 ≡ space_verdict z cells items offsets work
    short_cells m = simp (le-ltb work (space_of z) h, lt-ltb (cells / cell_width) (z.locals + z.slots) m)

    module _ (l : z.locals + z.slots ≤ cells / cell_width) where
      pub short_items : items / item_width < z.locals + z.slots → Bad Space 0 ≡ space_verdict z cells items offsets work
      short_items m = simp (le-ltb work (space_of z) h, le-ltb (cells / cell_width) (z.locals + z.slots) l, lt-ltb (items / item_width) (z.locals + z.slots) m)

      module _ (k : z.locals + z.slots ≤ items / item_width) where
        pub short_offsets : offsets < z.locals + z.slots → Bad Space 0 ≡ space_verdict z cells items offsets work
        short_offsets m = simp (le-ltb work (space_of z) h, le-ltb (cells / cell_width) (z.locals + z.slots) l, le-ltb (items / item_width) (z.locals + z.slots) k, lt-ltb offsets (z.locals + z.slots) m)

        pub enough : z.locals + z.slots ≤ offsets → Fine ≡ space_verdict z cells items offsets work
        enough m = simp (le-ltb work (space_of z) h, le-ltb (cells / cell_width) (z.locals + z.slots) l, le-ltb (items / item_width) (z.locals + z.slots) k, le-ltb offsets (z.locals + z.slots) m)

-- ---- all of them

module _ (R : Rows) (t : Terms) (cells items areas offsets work : ℕ) where
  abbrev shape : Verdict
  shape = check Count (bad_shape t cells items)

  abbrev space : Verdict
  space = space_verdict (sizes_of R areas) cells items offsets work

  pub by_shape : bad_shape t cells items ≡ true → Bad Count 0 ≡ lent_verdict R t cells items areas offsets work
  unfolding lent_verdict
  by_shape e = by_own R areas shape space Count 0 (ap (check Count) e)

  pub by_counts : (r : Refusal) (i : ℕ) → bad_shape t cells items ≡ false → count_verdict R areas ≡ Bad r i → Bad r i ≡ lent_verdict R t cells items areas offsets work
  unfolding lent_verdict
  by_counts r i e f = records-counts R areas shape space r i (ap (check Count) e) f

  pub by_placed : (r : Refusal) (i : ℕ) → bad_shape t cells items ≡ false → count_verdict R areas ≡ Fine → placed_of R ≡ Bad r i → Bad r i ≡ lent_verdict R t cells items areas offsets work
  unfolding lent_verdict
  by_placed r i e f g = records-placed R areas shape space r i (ap (check Count) e) f g

  pub by_space : {x : Verdict} (z : Sizes) → bad_shape t cells items ≡ false → count_verdict R areas ≡ Fine → placed_of R ≡ Fine → z ≡ sizes_of R areas
      → x ≡ space_verdict z cells items offsets work → x ≡ lent_verdict R t cells items areas offsets work
  unfolding lent_verdict
  by_space z e f g s h = records-space R areas shape space (ap (check Count) e) f g (h ∙ ap (λ (y : Sizes). space_verdict y cells items offsets work) s)

-- where nothing is refused: what measuring asks, and room in the cell, the item and the offset list
pub record Granted (R : Rows) (cells items areas offsets : ℕ) (w : List ℕ) : Type 0 where
  pub lent : Lent R areas w
  pub in_cells : cell_width * ((sizes_of R areas).locals + (sizes_of R areas).slots) ≤ cells
  pub in_items : item_width * ((sizes_of R areas).locals + (sizes_of R areas).slots) ≤ items
  pub in_offsets : (sizes_of R areas).locals + (sizes_of R areas).slots ≤ offsets

module _ (R : Rows) (t : Terms) (cells items areas offsets : ℕ) (w : List ℕ) where
  pub granted : lent_verdict R t cells items areas offsets (length w) ≡ Fine → Granted R cells items areas offsets w
  unfolding lent_verdict
  granted e =
      let shape = check Count (bad_shape t cells items) in
      let z = sizes_of R areas in
      let space = space_verdict z cells items offsets (length w) in
      let s = check_told Space (ltb (length w) (space_of z) || (ltb (cells / cell_width) (z.locals + z.slots) || (ltb (items / item_width) (z.locals + z.slots) || ltb offsets (z.locals + z.slots)))) (lent_space R areas shape space e) in
      let (a, b) = or_neither (ltb (length w) (space_of z)) _ s in
      let (c, d) = or_neither (ltb (cells / cell_width) (z.locals + z.slots)) _ b in
      let q = ltb-false (cells / cell_width) (z.locals + z.slots) c in
      let (f, g) = or_neither (ltb (items / item_width) (z.locals + z.slots)) _ d in
      let u = ltb-false (items / item_width) (z.locals + z.slots) f in
      record { lent = record { passed = lent_passed R areas shape space e; space = ltb-false (length w) (space_of z) a }; in_cells = omega arith; in_items = omega arith; in_offsets = ltb-false offsets (z.locals + z.slots) g }

  -- the area list is whole rows
  pub whole_list : lent_verdict R t cells items areas offsets (length w) ≡ Fine → areas % range_width ≡ 0
  unfolding lent_verdict
  whole_list e = whole_areas R areas (lent_counted R areas (check Count (bad_shape t cells items)) (space_verdict (sizes_of R areas) cells items offsets (length w)) e)
