-- What each way out of the checks comes to, and what is left where none refuses.
use Prim.Native.Nat.{ℕ, ◌+◌, ◌*◌, ◌/◌, ◌≤◌, ◌<◌}
use native.Mathlib.Omega.{arith}
use mathlib.Core.Path.{◌≡◌, ap, ◌∙◌}
use mathlib.Core.Bool.{◌||◌}
use mathlib.Core.List.{List}
use lib.ListN.{length}
use lib.Dec.{ltb}
use borrow.Author.Tests.{lt-ltb, le-ltb, ltb-false}
use Rattle.words.proofs.Bools.{or_neither}
use Rattle.refusals.specs.declared.Refusal.{Refusal}
use Rattle.refusals.specs.declared.Refusal.TheVariants.{Space}
use Rattle.refusals.proofs.Laws.{check_told}
use Rattle.insts.specs.Counts.{rows_verdict}
use Rattle.job_space.specs.declared.Sizes.{Sizes}
use Rattle.job_space.specs.Space.{sizes_of, space_of}
use Rattle.job_checks.proofs.CheckLaws.{placed_of, by_own, by_counts as records-counts, by_placed as records-placed, by_space as records-space, lent_passed, lent_space}
use Rattle.job_areas.specs.Inner.{Lent}
use Rattle.item_areas.specs.Entry.{space_verdict, lent_verdict}
use Rattle.job_space.specs.Rows.{Rows}
use Rattle.job_checks.specs.Job.{count_verdict}
use Rattle.words.specs.Widths.{part_width}
use Rattle.refusals.specs.Verdicts.{Bad, Fine, Verdict}

-- ---- number 7

module _ (z : Sizes) (items work : ℕ) where
  pub short_work : work < space_of z → Bad Space 0 ≡ space_verdict z items work
  short_work h = simp (lt-ltb work (space_of z) h)

  pub short_items : space_of z ≤ work → items / part_width < z.locals + z.slots → Bad Space 0 ≡ space_verdict z items work
  short_items h m = simp (le-ltb work (space_of z) h, lt-ltb (items / part_width) (z.locals + z.slots) m)

  pub enough : space_of z ≤ work → z.locals + z.slots ≤ items / part_width → Fine ≡ space_verdict z items work
  enough h m = simp (le-ltb work (space_of z) h, le-ltb (items / part_width) (z.locals + z.slots) m)

-- ---- all of them

module _ (R : Rows) (areas items work : ℕ) where
  abbrev whole : Verdict
  whole = rows_verdict part_width items items

  abbrev space : Verdict
  space = space_verdict (sizes_of R areas) items work

  pub by_whole : (r : Refusal) (i : ℕ) → whole ≡ Bad r i → Bad r i ≡ lent_verdict R areas items work
  unfolding lent_verdict
  by_whole r i e = by_own R areas whole space r i e

  pub by_counts : (r : Refusal) (i : ℕ) → whole ≡ Fine → count_verdict R areas ≡ Bad r i → Bad r i ≡ lent_verdict R areas items work
  unfolding lent_verdict
  by_counts r i e f = records-counts R areas whole space r i e f

  pub by_placed : (r : Refusal) (i : ℕ) → whole ≡ Fine → count_verdict R areas ≡ Fine → placed_of R ≡ Bad r i → Bad r i ≡ lent_verdict R areas items work
  unfolding lent_verdict
  by_placed r i e f g = records-placed R areas whole space r i e f g

  pub by_space : {x : Verdict} (z : Sizes) → whole ≡ Fine → count_verdict R areas ≡ Fine → placed_of R ≡ Fine → z ≡ sizes_of R areas
      → x ≡ space_verdict z items work → x ≡ lent_verdict R areas items work
  unfolding lent_verdict
  by_space z e f g s h = records-space R areas whole space e f g (h ∙ ap (λ (y : Sizes). space_verdict y items work) s)

-- where nothing is refused
module _ (R : Rows) (areas items : ℕ) (w : List ℕ) where
  pub lent : lent_verdict R areas items (length w) ≡ Fine → Lent R areas w × (part_width * ((sizes_of R areas).locals + (sizes_of R areas).slots) ≤ items)
  unfolding lent_verdict
  lent e =
      let z = sizes_of R areas in
      let whole = rows_verdict part_width items items in
      let space = space_verdict z items (length w) in
      let s = check_told Space (ltb (length w) (space_of z) || ltb (items / part_width) (z.locals + z.slots)) (lent_space R areas whole space e) in
      let (a, b) = or_neither (ltb (length w) (space_of z)) _ s in (
        record { passed = lent_passed R areas whole space e; space = ltb-false (length w) (space_of z) a },
        (let q = ltb-false (items / part_width) (z.locals + z.slots) b in omega arith),
      )
