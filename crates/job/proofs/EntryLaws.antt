-- From the areas in the work space to what the entry leaves.
use Prim.Native.Nat.{ℕ, ◌+◌, ◌-◌, ◌*◌, ◌^◌, ◌≤◌, ◌<◌}
use native.Mathlib.Omega.{arith}
use mathlib.Core.Path.{◌≡◌, refl, sym, ap, subst, ◌∙◌}
use mathlib.Core.Bool.{Bool, cond}
use mathlib.Core.Option.{Option}
use mathlib.Core.List.{List, ◌++◌}
use lib.IntN.{ℤ}
use lib.ListN.{length, get_or, drop, replicate, length-replicate}
use borrow.Author.Tests.{lt-ltb, le-ltb}
use native.Mathlib.Nat.{mul-le-mul_right}
use Rattle.refusals.specs.declared.Refusal.{Refusal}
use Rattle.refusals.proofs.Laws.{first_fine, first_bad}
use Rattle.words.specs.Regions.{cleared, row_words}
use Rattle.words.specs.Rows.{tabulate}
use Rattle.words.specs.Widths.{block_count, local_width, local_count, range_count, slot_count}
use Rattle.words.specs.Inner.{local_size, local_align, slot_size}
use Rattle.words.proofs.Points.{cut}
use Rattle.words.proofs.RowLaws.{length_records, get_d_records, tabulate_eq}
use Rattle.graph.specs.Inner.Work.{Within}
use Rattle.components.proofs.Entries.{cleared_same}
use Rattle.ranges.specs.declared.Range.{Range}
use Rattle.areas.specs.Job.{Local, locals_of, item_count, item_area}
use Rattle.areas.proofs.ApartLaws.{areas_apart}
use Rattle.fitting.specs.Wants.{Want, order_of}
use Rattle.fitting.specs.Plan.{Plan, plan_of}
use Rattle.area_tables.specs.Inner.{listing}
use Rattle.area_measure.specs.Inner.Locals.{word_of, ListedBy}
use Rattle.job_space.specs.declared.Sizes.{Sizes}
use Rattle.job_space.specs.Space.{sizes_of, space_of, Small}
use Rattle.job_checks.specs.Job.{job_of}
use Rattle.job_areas.specs.Inner.{Solved}
use Rattle.job_fit.specs.Inner.{count_of, size_at, align_at, want_for, plan_for}
use Rattle.soundness.specs.Demand.{want_of, job_plan}
use Rattle.job.specs.Entry.{lent_verdict, SharedAs}
use Rattle.job_answers.specs.Answers.{answer_verdict, AnsweredBy}
use Rattle.job_answers.specs.Inner.{Measured}
use Rattle.job.proofs.CheckLaws.{Granted}
use Rattle.job_space.specs.Rows.{Rows}
use Rattle.fitting.specs.declared.Terms.{Terms}
use Rattle.refusals.specs.Verdicts.{Bad, Fine}
use Rattle.refusals.specs.declared.Refused.{Refused}
use Rattle.wants.specs.declared.Tally.{Tally}
use Rattle.std.specs.Prelude.{Err, Result}

-- ---- the wants are the job's

abbrev make_local : (ℕ → ℕ) → Local
make_local f = record { size = f 0; align = f 1 }

module _ (R : Rows) where
  many : item_count (job_of R) ≡ count_of R.locals R.slots
  many = ap (λ (k : ℕ). k + slot_count R.slots) (length_records local_width make_local R.locals)

  want_is : (i : ℕ) → want_for R.locals R.slots (item_area (job_of R)) i ≡ want_of (job_of R) i
  want_is i = cut (local_count R.locals) i
      (λ h.
      let l = length_records local_width make_local R.locals in
      let a = le-ltb i (local_count R.locals) h in
      let b = le-ltb i (length (locals_of R.locals)) (omega arith) in
      let s : size_at R.locals R.slots i ≡ (want_of (job_of R) i).size = ap (λ (t : Bool). cond t (local_size R.locals i) (slot_size R.slots (i - local_count R.locals))) a ∙
      ap (λ (k : ℕ). slot_size R.slots (i - k)) (sym l) ∙ sym (ap (λ (t : Bool). cond t (get_or (locals_of R.locals) i (record { size = 0; align = 0 })).size (slot_size R.slots
      (i - length (locals_of R.locals)))) b) in
      let t : align_at R.locals R.slots i ≡ (want_of (job_of R) i).align = ap (λ (t : Bool). cond t (local_align R.locals i) (slot_size R.slots (i - local_count R.locals))) a ∙
      ap (λ (k : ℕ). slot_size R.slots (i - k)) (sym l) ∙ sym (ap (λ (t : Bool). cond t (get_or (locals_of R.locals) i (record { size = 0; align = 0 })).align (slot_size
      R.slots (i - length (locals_of R.locals)))) b) in
      both s t)
      (λ h.
      let l = length_records local_width make_local R.locals in
      let a = lt-ltb i (local_count R.locals) h in
      let b = lt-ltb i (length (locals_of R.locals)) (omega arith) in
      let g = get_d_records local_width make_local R.locals i (record { size = 0; align = 0 }) h in
      let s : size_at R.locals R.slots i ≡ (want_of (job_of R) i).size = ap (λ (t : Bool). cond t (local_size R.locals i) (slot_size R.slots (i - local_count R.locals))) a ∙
      ap (λ (k : Local). k.size) (sym g) ∙ sym (ap (λ (t : Bool). cond t (get_or (locals_of R.locals) i (record { size = 0; align = 0 })).size (slot_size R.slots (i - length
      (locals_of R.locals)))) b) in
      let t : align_at R.locals R.slots i ≡ (want_of (job_of R) i).align = ap (λ (t : Bool). cond t (local_align R.locals i) (slot_size R.slots (i - local_count R.locals))) a ∙
      ap (λ (k : Local). k.align) (sym g) ∙ sym (ap (λ (t : Bool). cond t (get_or (locals_of R.locals) i (record { size = 0; align = 0 })).align (slot_size R.slots (i - length
      (locals_of R.locals)))) b) in
      both s t)
    where
      both : {x y z u : ℕ} {o : Option (List Range)} → x ≡ y → z ≡ u → ◌≡◌ {A = Want} (record { size = x; align = z; area = o }) (record { size = y; align = u; area = o })
      both e f = rw (e, f) refl

  plan_is : (budget : ℕ) → plan_for R.locals R.slots (item_area (job_of R)) budget ≡ job_plan (job_of R) budget
  plan_is budget =
      ap (λ (ws : List Want). plan_of ws budget (order_of ws))
      (tabulate_eq (count_of R.locals R.slots) (want_for R.locals R.slots (item_area (job_of R))) (want_of (job_of R)) (λ i h. want_is i) ∙ ap (λ (k : ℕ). tabulate k (want_of (job_of R))) (sym many))

-- ---- W is small

words_small : (n : ℕ) → n ≤ 65535 → row_words n ≤ 1024
words_small n h = omega arith

space_small : (z : Sizes) → Small z → (z.room + 8 * (z.locals + z.slots) ≤ space_of z) × (space_of z < 2 ^ 32)
space_small z s =
    let a : row_words z.locals ≤ 1024 = words_small z.locals (omega (arith, s.few_locals)) in
    let b : row_words z.v ≤ 1024 = words_small z.v s.registers in
    let m : z.blocks * row_words z.locals ≤ 4096 * row_words z.locals = mul-le-mul_right (row_words z.locals) s.few_blocks in
    (omega arith, omega (arith, s.few_blocks, s.few_edges, s.few_insts, s.few_operands, s.few_crossings, s.few_locals, s.few_slots, s.few_addresses, s.few_ends, s.few_pieces, s.few_assigned, s.few_moves, s.few_ranges))

-- ---- the entry

module _ (R : Rows) (t : Terms) (cells items areas : List ℕ) (offsets : List ℤ) (work : List ℕ) where
  abbrev space : ℕ
  space = space_of (sizes_of R (length areas))

  pub refused_entry : (r : Refusal) (i : ℕ) → lent_verdict R t (length cells) (length items) (length areas) (length offsets) (length work) ≡ Bad r i
      → SharedAs R t cells items areas offsets work (Err (r, i)) cells items areas offsets work
  refused_entry r i e = record {
    lists = rw (first_bad (lent_verdict R t (length cells) (length items) (length areas) (length offsets) (length work)) (answer_verdict (item_count (job_of R)) (item_area (job_of
        R)) (range_count areas) (job_plan (job_of R) t.budget)) r i e) (record { answer = refl; in_cells = refl; in_items = refl; in_areas = refl; in_offsets = refl });
    in_work = rw e refl;
  }

  -- what the answer asks
  pub asked : {w : List ℕ} {n end : ℕ} → Granted R (length cells) (length items) (length areas) (length offsets) work → Solved R (length areas) work w n → end ≡ space
      → Measured (count_of R.locals R.slots) (range_count areas) n end (length cells) (length items) (length offsets) w
  asked {w} {n} {end} G T e =
      let P = G.lent.passed in
      let q = space_small (sizes_of R (length areas)) P.small in
      record {
        area = item_area (job_of R);
        listed = subst (λ (k : ℕ). ListedBy word_of (listing (range_count areas) (range_count areas)) (item_area (job_of R)) k n w) (many R) T.listed;
        apart = areas_apart (job_of R) P.checked (some_block P.small.some_block);
        few = omega (arith, P.small.few_locals, P.small.few_slots);
        short = P.small.few_ranges;
        in_cells = G.in_cells;
        in_items = G.in_items;
        in_offsets = G.in_offsets;
        space = rw e q.0;
        inside = omega (arith, G.lent.space, T.kept.len);
        small = rw e q.1;
      }
    where
      some_block : 0 < block_count R.blocks → 0 < length (job_of R).blocks
      some_block h = rw (length_records 3 _ R.blocks) h

  pub answered_entry : lent_verdict R t (length cells) (length items) (length areas) (length offsets) (length work) ≡ Fine → {r : (Result Tally Refused)} {cells' items' areas' w w' work' : List ℕ} {offsets' : List ℤ} {n end : ℕ}
      → Solved R (length areas) work w n
      → end ≡ space → Within 0 end w w'
      → ((A : ℕ → Option (List Range)) → ListedBy word_of (listing (range_count areas) (range_count areas)) A (count_of R.locals R.slots) n w
      → AnsweredBy (answer_verdict (count_of R.locals R.slots) A (range_count areas) (plan_for R.locals R.slots A t.budget)) (count_of R.locals R.slots) A (plan_for R.locals R.slots A t.budget)
      cells items areas offsets r cells' items' areas' offsets')
      → work' ≡ cleared end w' → SharedAs R t cells items areas offsets work r cells' items' areas' offsets' work'
  answered_entry e {r} {cells'} {items'} {areas'} {w} {w'} {work'} {offsets'} {n} {end} T en K B Z = record {
    lists = rw (first_fine (lent_verdict R t (length cells) (length items) (length areas) (length offsets) (length work)) (answer_verdict (item_count (job_of R)) (item_area (job_of R)) (range_count areas) (job_plan (job_of R) t.budget)) e) listed_all;
    in_work = rw e (Z ∙ ap (λ (k : ℕ). cleared k w') en ∙ cleared_same space w w' (subst (λ (k : ℕ). Within 0 k w w') en K) ∙ cleared_same space work w T.kept ∙ ap (λ (k : ℕ). replicate space 0 ++ drop k work) (sym (length-replicate space 0)));
  }
    where
      listed_all : AnsweredBy (answer_verdict (item_count (job_of R)) (item_area (job_of R)) (range_count areas) (job_plan (job_of R) t.budget)) (item_count (job_of R)) (item_area (job_of R)) (job_plan (job_of R) t.budget)
          cells items areas offsets r cells' items' areas' offsets'
      listed_all =
          subst (λ (k : ℕ). AnsweredBy (answer_verdict k (item_area (job_of R)) (range_count areas) (job_plan (job_of R) t.budget)) k (item_area (job_of R)) (job_plan (job_of R) t.budget) cells items areas offsets r cells' items' areas' offsets') (sym (many R))
          (subst (λ (p : Plan). AnsweredBy (answer_verdict (count_of R.locals R.slots) (item_area (job_of R)) (range_count areas) p) (count_of R.locals R.slots) (item_area (job_of R)) p cells items areas offsets r cells' items' areas' offsets') (plan_is R t.budget)
          (B (item_area (job_of R)) (subst (λ (k : ℕ). ListedBy word_of (listing (range_count areas) (range_count areas)) (item_area (job_of R)) k n w) (many R) T.listed)))
