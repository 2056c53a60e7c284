-- Demand 3 of what the program prints: its `L`, `S` and `C` lines name cells, they name no others, and through these every walk reads alike.
use Prim.Native.Nat.{ℕ, zero, suc, ◌+◌, ◌-◌, ◌*◌, ◌≤◌, ◌<◌, ◌^◌}
use native.Mathlib.Omega.{arith}
use native.Mathlib.Nat.{zero-add, not-suc-le-zero}
use mathlib.Core.Path.{◌≡◌, refl, ap, sym, subst, ◌∙◌}
use mathlib.Core.Option.{Option}
use mathlib.Core.List.{List, [], ◌∷◌, map}
use lib.ListN.{length, get_or}
use lib.Dec.{lit≤}
use Rattle.refusals.specs.Verdicts.{first, Fine, Verdict}
use Rattle.refusals.specs.Outcomes.{unless}
use Rattle.refusals.proofs.Laws.{first_left, first_right}
use Rattle.words.specs.Rows.{tabulate, flat}
use Rattle.words.specs.Widths.{cell_width, cell_count, cell_size, cell_align, item_row_count, item_cell}
use Rattle.words.proofs.Points.{cut}
use Rattle.words.proofs.FlatLaws.{flat_at}
use Rattle.ranges.specs.declared.Range.{Range}
use Rattle.areas.specs.Job.{Job, Checked, item_count, item_area, ranges_of}
use Rattle.fitting.specs.Wants.{order_of}
use Rattle.fitting.specs.Plan.{Plan, Cell, cell_at}
use Rattle.fitting.specs.Layout.{rooms_in, depth_of}
use Rattle.wants.specs.Inner.{cell_row}
use Rattle.wants.specs.Entry.{cell_rows}
use Rattle.area_tables.specs.Tables.{area_rows}
use Rattle.item_lists.specs.Lists.{item_row}
use Rattle.item_lists.proofs.TableLaws.{row_long}
use Rattle.soundness.specs.Walks.{Step, Legal}
use Rattle.soundness.specs.Inner.{Separate}
use Rattle.soundness.specs.Demand.{wants_of, frame_of, job_plan, AsPrivate}
use Rattle.soundness.proofs.Demand.{job_order, separate, uses, any_cells, demand_3}
use Rattle.job_answers.specs.Answers.{item_rows, answer_verdict}
use Rattle.text_grammar.specs.Text.{read_verdict}
use Rattle.text_plan.specs.Lines.{line_text}
use Rattle.planning.specs.Groups.{terms_for, job, lent_for}
use Rattle.planning.specs.Program.{told, text_of, job_text, refusal, printed_for, numbers_in, program_text, cell_numbers, item_numbers, area_numbers, offset_numbers, work_words}
use Rattle.planning.specs.Named.{Listed, Named}
use Rattle.wants.proofs.ListLaws.{cells_long}
use Rattle.job_answers.proofs.SeenLaws.{items_long}
use Rattle.planning.proofs.GroupLaws.{checked_for}
use Rattle.planning.proofs.PrintLaws.{Printable}
use Rattle.planning.proofs.TextLaws.{text_printable}
use Rattle.planning.proofs.SizeLaws.{sizes_small}
use Rattle.planning.proofs.LineLaws.{same_two, cell_in_lem, local_in, slot_in, cell_line_lem, local_line, slot_line}

cell_size_lem : (cs : List Cell) (c : ℕ) → c < length cs → cell_size (flat (map cell_row cs)) c ≡ (cell_at cs c).size
unfolding flat
cell_size_lem [] c h = absurd (not-suc-le-zero h)
cell_size_lem (x ∷ cs) zero h = refl
cell_size_lem (x ∷ cs) (suc c) h =
    let e : cell_width * suc c + 0 ≡ suc (suc (cell_width * c + 0)) = omega arith in
    ap (λ (k : ℕ). get_or (flat (map cell_row (x ∷ cs))) k 0) e ∙ cell_size_lem cs c (omega arith)

-- ---- the lines of a plan's text

module _ {n locals : ℕ} {A : ℕ → Option (List Range)} {p : Plan} (P : Printable n locals A p) (small : (c : ℕ) → (cell_at p.cells c).size < 4294967296) where
  abbrev text : List ℕ
  text = text_of n A locals p

  item_cell_lem : (i : ℕ) → i < n → item_cell (item_rows n A p) i ≡ p.cell i
  item_cell_lem i h = flat_at 4 n (λ j. p.cell j ∷ item_row (ranges_of (tabulate j A)) (A j)) (λ j q. ap (λ (k : ℕ). suc k) (row_long (ranges_of (tabulate j A)) (A j))) i 0 h (omega arith)

  item_count_lem : item_row_count (item_rows n A p) ≡ n
  item_count_lem = let l = items_long A n p in omega arith

  cell_count_lem : cell_count (cell_rows p) ≡ length p.cells
  cell_count_lem = let l = cells_long p in omega arith

  few_items : n ≤ 128
  few_items = omega (arith, P.locals_in, P.few_locals, P.few_slots)

  few_cells : (i : ℕ) → i < n → p.cell i < 128
  few_cells i h = let k = P.known i h in let f = few_items in omega (arith, P.few)

  -- each item's line and its cell's line are there
  local_listed : (i : ℕ) → i < locals → Listed text (line_text 76 (i ∷ p.cell i ∷ []))
  local_listed i h =
      subst (λ (c : ℕ). Listed text (line_text 76 (i ∷ c ∷ []))) (ap (λ (k : ℕ). item_cell (item_rows n A p) k) (zero-add i) ∙ item_cell_lem i (omega (arith, P.locals_in)))
      (local_in (cell_rows p) (item_rows n A p) (area_rows n A) locals p.probes (depth_of (rooms_in p)) i h)

  slot_listed : (i : ℕ) → i < n - locals → Listed text (line_text 83 (i ∷ p.cell (locals + i) ∷ []))
  slot_listed i h =
      subst (λ (c : ℕ). Listed text (line_text 83 (i ∷ c ∷ []))) (item_cell_lem (locals + i) (omega arith))
      (slot_in (cell_rows p) (item_rows n A p) (area_rows n A) locals p.probes (depth_of (rooms_in p)) i (let e = item_count_lem in omega arith))

  cell_listed : (c : ℕ) → c < length p.cells → (align : ℕ) × Listed text (line_text 67 (c ∷ (cell_at p.cells c).size ∷ align ∷ []))
  cell_listed c h = (
    cell_align (cell_rows p) c,
    subst (λ (s : ℕ). Listed text (line_text 67 (c ∷ s ∷ cell_align (cell_rows p) c ∷ []))) (cell_size_lem p.cells c h)
        (cell_in_lem (cell_rows p) (item_rows n A p) (area_rows n A) locals p.probes (depth_of (rooms_in p)) c (let e = cell_count_lem in omega arith)),
  )

  -- and they tell no other cell and no other size
  wide : (x : ℕ) → x < 4294967296 → x < 2 ^ 64
  wide x h = let k : 4294967296 ≤ 2 ^ 64 = lit≤ tt in omega arith

  local_only : (i c : ℕ) → i < locals → c < 2 ^ 64 → Listed text (line_text 76 (i ∷ c ∷ [])) → c ≡ p.cell i
  local_only i c h k m =
      let f = local_line (cell_rows p) (item_rows n A p) (area_rows n A) locals p.probes (depth_of (rooms_in p)) (line_text 76 (i ∷ c ∷ [])) m refl in
      let j = f.0 in
      let g : item_cell (item_rows n A p) (0 + j) ≡ p.cell j = ap (λ (x : ℕ). item_cell (item_rows n A p) x) (zero-add j) ∙ item_cell_lem j (let q = f.1 in omega (arith, P.locals_in)) in
      let b = few_cells j (let q = f.1 in omega (arith, P.locals_in)) in
      let s = same_two 76 i c j (item_cell (item_rows n A p) (0 + j)) [] [] (wide i (omega (arith, P.few_locals))) k (wide j (let q = f.1 in omega (arith, P.few_locals))) (wide _ (omega arith)) f.2 in
      s.1 ∙ g ∙ ap p.cell (sym s.0)

  slot_only : (i c : ℕ) → i < n - locals → c < 2 ^ 64 → Listed text (line_text 83 (i ∷ c ∷ [])) → c ≡ p.cell (locals + i)
  slot_only i c h k m =
      let f = slot_line (cell_rows p) (item_rows n A p) (area_rows n A) locals p.probes (depth_of (rooms_in p)) (line_text 83 (i ∷ c ∷ [])) m refl in
      let j = f.0 in
      let q = f.1 in
      let e = item_count_lem in
      let g : item_cell (item_rows n A p) (locals + j) ≡ p.cell (locals + j) = item_cell_lem (locals + j) (omega arith) in
      let b = few_cells (locals + j) (omega arith) in
      let s = same_two 83 i c j (item_cell (item_rows n A p) (locals + j)) [] [] (wide i (omega (arith, few_items))) k (wide j (omega (arith, few_items))) (wide _ (omega arith)) f.2 in
      s.1 ∙ g ∙ ap (λ (x : ℕ). p.cell (locals + x)) (sym s.0)

  size_only : (c s align : ℕ) → c < length p.cells → s < 2 ^ 64 → Listed text (line_text 67 (c ∷ s ∷ align ∷ [])) → s ≡ (cell_at p.cells c).size
  size_only c s align h k m =
      let f = cell_line_lem (cell_rows p) (item_rows n A p) (area_rows n A) locals p.probes (depth_of (rooms_in p)) (line_text 67 (c ∷ s ∷ align ∷ [])) m refl in
      let j = f.0 in
      let q = f.1 in
      let e = cell_count_lem in
      let g : cell_size (cell_rows p) j ≡ (cell_at p.cells j).size = cell_size_lem p.cells j (omega arith) in
      let b = small j in
      let d = few_items in
      let r = same_two 67 c s j (cell_size (cell_rows p) j) (align ∷ []) (cell_align (cell_rows p) j ∷ []) (wide c (omega (arith, P.few))) k (wide j (omega (arith, P.few))) (wide _ (omega arith)) f.2 in
      r.1 ∙ g ∙ ap (λ (x : ℕ). (cell_at p.cells x).size) (sym r.0)

-- ---- a text that the program answers with a plan

module _ (text : List ℕ) (fine : first (read_verdict text) (refusal (numbers_in text)) ≡ Fine) where
  abbrev group : ℕ → List ℕ
  group = numbers_in text

  abbrev J : Job
  J = job group

  abbrev plan : Plan
  plan = job_plan J (terms_for group).budget

  text_is : text_of (item_count J) (item_area J) (length J.locals) plan ≡ program_text text
  unfolding printed_for job_text
  text_is = ap (λ (v : Verdict). told (unless v (job_text J (terms_for group).budget))) (sym fine)

  checked : Checked J
  checked =
      checked_for group cell_numbers item_numbers area_numbers offset_numbers work_words
      (first_left (lent_for group cell_numbers item_numbers area_numbers offset_numbers work_words) (answer_verdict (item_count J) (item_area J) 64 plan) (first_right (read_verdict text) (refusal group) fine))

  printable : Printable (item_count J) (length J.locals) (item_area J) plan
  printable = text_printable text fine

  small : (c : ℕ) → (cell_at plan.cells c).size < 4294967296
  small c = sizes_small text (terms_for group).budget c

  -- the printed lines name the plan's cells and their sizes
  pub program_names : Named J (program_text text) plan.cell (λ c. (cell_at plan.cells c).size)
  program_names = subst (λ (t : List ℕ). Named J t plan.cell (λ c. (cell_at plan.cells c).size)) text_is (record {
    locals = local_listed printable small;
    slots = λ i h. slot_listed printable small i (omega arith);
    cells = λ i h. cell_listed printable small (plan.cell i) (printable.known i h);
    cell_small = λ i h. wide printable small (plan.cell i) (let f = few_cells printable small i h in omega arith);
    size_small = λ i h. wide printable small _ (small (plan.cell i));
  })

  -- whatever cells and sizes they are read as
  module _ (cell size : ℕ → ℕ) (N : Named J (program_text text) cell size) where
    names : Named J (text_of (item_count J) (item_area J) (length J.locals) plan) cell size
    names = subst (λ (t : List ℕ). Named J t cell size) (sym text_is) N

    pub same_cell : (i : ℕ) → i < item_count J → cell i ≡ plan.cell i
    same_cell i h =
        cut (length J.locals) i
        (λ l. let e : length J.locals + (i - length J.locals) ≡ i = omega arith in
        sym (ap cell e) ∙ slot_only printable small (i - length J.locals) (cell (length J.locals + (i - length J.locals))) (omega arith) (names.cell_small _ (omega arith)) (names.slots (i - length J.locals) (omega arith)) ∙ ap plan.cell e)
        (λ l. local_only printable small i (cell i) l (names.cell_small i h) (names.locals i l))

    pub same_size : (i : ℕ) → i < item_count J → size (cell i) ≡ (cell_at plan.cells (plan.cell i)).size
    same_size i h =
        size_only printable small (cell i) (size (cell i)) (names.cells i h).0 (rw (same_cell i h) (printable.known i h)) (names.size_small i h) (names.cells i h).1
        ∙ ap (λ (c : ℕ). (cell_at plan.cells c).size) (same_cell i h)

    apart : Separate (frame_of J) cell
    apart i j h k d e = separate J (terms_for group).budget (order_of (wants_of J)) (job_order J) i j h k d (sym (same_cell i h) ∙ e ∙ same_cell j k)

    -- Demand 3: every walk over the text's job reads through the printed cells as through private ones, each byte below the printed size
    pub printed_reads_as_private : (start : ℕ) (w : List Step) → Legal (frame_of J) start w → AsPrivate J cell size start w
    printed_reads_as_private start w L = record {
      alike = (any_cells J checked cell apart start w L).0;
      runs = (any_cells J checked cell apart start w L).1;
      below = λ n i b u.
          let a = (demand_3 J checked (terms_for group).budget start w L).below n i b u in
          rw (same_size i (uses (frame_of J) start w L n i b u).item) a;
    }
