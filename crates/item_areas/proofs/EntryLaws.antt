-- From the areas in the work space to what the entry leaves.
use Prim.Native.Nat.{ℕ, ◌+◌, ◌*◌, ◌≤◌}
use native.Mathlib.Omega.{arith}
use mathlib.Core.Path.{◌≡◌, refl, sym, ap, subst, ◌∙◌}
use mathlib.Core.Option.{Option}
use mathlib.Core.List.{List, ◌++◌}
use lib.ListN.{length, drop, replicate, length-replicate}
use Rattle.refusals.specs.declared.Refusal.{Refusal}
use Rattle.refusals.specs.Verdicts.{first, in_order, Bad, Fine, Verdict, Answer}
use Rattle.refusals.proofs.Laws.{first_fine, first_bad}
use Rattle.words.specs.Regions.{cleared}
use Rattle.graph.specs.Inner.Work.{Within}
use Rattle.components.proofs.Entries.{cleared_same}
use Rattle.words.specs.Widths.{local_width, local_count, part_width, range_count, slot_count}
use Rattle.words.proofs.RowLaws.{length_records}
use Rattle.ranges.specs.declared.Range.{Range}
use Rattle.areas.specs.Job.{item_count, item_area, items_verdict, areas_verdict}
use Rattle.area_tables.specs.Inner.{listing}
use Rattle.area_measure.specs.Inner.Locals.{word_of, ListedBy}
use Rattle.job_space.specs.declared.Sizes.{Sizes}
use Rattle.job_space.specs.Space.{sizes_of, space_of}
use Rattle.job_checks.specs.Job.{job_of}
use Rattle.job_areas.specs.Inner.{Lent, Solved}
use Rattle.item_areas.specs.Entry.{lent_verdict, item_checks, ItemAreas}
use Rattle.item_areas.proofs.OrderLaws.{item_verdict}
use Rattle.item_lists.specs.Lists.{AnsweredBy}
use Rattle.item_lists.specs.Inner.{Held}
use Rattle.job_space.specs.Rows.{Rows}
use Rattle.std.specs.Prelude.{Err}

module _ (R : Rows) (areas items work : List ℕ) where
  abbrev lent_v : Verdict
  lent_v = lent_verdict R (length areas) (length items) (length work)

  abbrev space : ℕ
  space = space_of (sizes_of R (length areas))

  by_parts : in_order (item_checks R (length areas) (length items) (length work))
      ≡ first lent_v (items_verdict (job_of R) (range_count areas))
  by_parts = item_verdict R (length areas) (length items) (length work)

  pub refused_entry : (r : Refusal) (i : ℕ) → lent_v ≡ Bad r i → ItemAreas R areas items work (Err (r, i)) areas items work
  refused_entry r i e = record {
    lists = rw (by_parts ∙ first_bad lent_v (items_verdict (job_of R) (range_count areas)) r i e) (record { answer = refl; in_areas = refl; in_items = refl });
    in_work = rw e refl;
  }

  -- the counts are those of the items
  many : (z : Sizes) → z ≡ sizes_of R (length areas) → z.locals + z.slots ≡ item_count (job_of R)
  many z e = ap (λ (y : Sizes). y.locals + y.slots) e ∙ ap (λ (k : ℕ). k + slot_count R.slots) (sym (length_records local_width (λ f. record { size = f 0; align = f 1 }) R.locals))

  pub answered_entry : lent_v ≡ Fine → {r : Answer} {areas' items' w work' : List ℕ}
      → AnsweredBy (items_verdict (job_of R) (range_count areas)) (item_count (job_of R)) (item_area (job_of R)) areas items r areas' items'
      → Within 0 space work w → {n : ℕ} → n ≡ space → work' ≡ cleared n w → ItemAreas R areas items work r areas' items' work'
  answered_entry e {r} {areas'} {items'} {w} {work'} B K {n} en Z = record {
    lists = rw (by_parts ∙ first_fine lent_v (items_verdict (job_of R) (range_count areas)) e) B;
    in_work = rw e (Z ∙ ap (λ (k : ℕ). cleared k w) en ∙ cleared_same space work w K
        ∙ ap (λ (k : ℕ). replicate space 0 ++ drop k work) (sym (length-replicate space 0)));
  }

module _ (R : Rows) (areas items : List ℕ) where
  -- what listing asks
  pub list_asked : {w₀ w : List ℕ} {n : ℕ} → Lent R (length areas) w₀
      → part_width * ((sizes_of R (length areas)).locals + (sizes_of R (length areas)).slots) ≤ length items
      → (z : Sizes) → z ≡ sizes_of R (length areas) → Solved R (length areas) w₀ w n
      → Held (z.locals + z.slots) (range_count areas) n w × (part_width * (z.locals + z.slots) ≤ length items) × (range_count areas ≤ 65536) × (range_count areas + (z.locals + z.slots) ≤ length w)
  list_asked {w₀} {w} {n} N many-items z e S =
      let c = many R areas items w₀ z e in
      let y : z.locals + z.slots ≡ local_count R.locals + slot_count R.slots = ap (λ (x : Sizes). x.locals + x.slots) e in (
        record { area = item_area (job_of R); found = subst (λ (k : ℕ). ListedBy word_of (listing (range_count areas) (range_count areas)) (item_area (job_of R)) k n w) (sym c) S.listed },
        omega (arith, many-items, y),
        N.passed.small.few_ranges,
        omega (arith, N.space, S.kept.len, y),
      )

  -- what was listed is the job's
  pub listed_all : {w₀ w : List ℕ} {n : ℕ} (z : Sizes) → z ≡ sizes_of R (length areas) → Solved R (length areas) w₀ w n
      → {r : Answer} {areas' items' : List ℕ}
      → ((A : ℕ → Option (List Range)) → ListedBy word_of (listing (range_count areas) (range_count areas)) A (z.locals + z.slots) n w
      → AnsweredBy (areas_verdict (z.locals + z.slots) A (range_count areas)) (z.locals + z.slots) A areas items r areas' items')
      → AnsweredBy (items_verdict (job_of R) (range_count areas)) (item_count (job_of R)) (item_area (job_of R)) areas items r areas' items'
  listed_all {w₀} {w} {n} z e S {r} {areas'} {items'} B =
      let c = many R areas items w₀ z e in
      subst (λ (k : ℕ). AnsweredBy (areas_verdict k (item_area (job_of R)) (range_count areas)) k (item_area (job_of R)) areas items r areas' items') c
      (B (item_area (job_of R)) (subst (λ (k : ℕ). ListedBy word_of (listing (range_count areas) (range_count areas)) (item_area (job_of R)) k n w) (sym c) S.listed))
