-- The rows of a plan as the printing takes them: none is refused, areas behind the answer do not show, and the text is not long.
use Prim.Native.Nat.{ℕ, zero, suc, ◌-◌, ◌*◌, ◌%◌, ◌≤◌, ◌<◌}
use native.Mathlib.Omega.{arith}
use mathlib.Core.Path.{◌≡◌, refl, ap, sym, subst, ◌∙◌}
use mathlib.Core.Bool.{Bool, true, false, cond}
use mathlib.Core.Option.{Option, some, none}
use mathlib.Core.List.{List, [], ◌∷◌, ◌++◌, map, append-nil}
use lib.ListN.{length, length-append}
use lib.Dec.{lit≤}
use Rattle.words.specs.Rows.{tabulate, flat}
use Rattle.words.specs.Widths.{cell_count, item_row_count, range_width}
use Rattle.words.proofs.RowLaws.{tabulate_eq, get_d_tabulate}
use Rattle.words.proofs.Points.{cut}
use Rattle.ranges.specs.declared.Range.{Range}
use Rattle.areas.specs.Job.{ranges_in, ranges_of}
use Rattle.area_tables.specs.Tables.{area_rows}
use Rattle.area_tables.proofs.RowLaws.{ranges_below}
use Rattle.area_tables.proofs.PartLaws.{areas_long}
use Rattle.fitting.specs.Wants.{Want, want_at}
use Rattle.fitting.specs.Plan.{Plan}
use Rattle.fitting.specs.Layout.{rooms_in, depth_of}
use Rattle.fitting.specs.Queries.{Slots, slots_of, crowd, shared_by, shared}
use Rattle.query_checks.specs.Checks.{shared_verdict}
use Rattle.queries.proofs.QueryLaws.{there}
use Rattle.queries.proofs.SeenLaws.{RowsHold, plan_by, room_at, item_of, shared_passes, plan_seen}
use Rattle.wants.specs.Entry.{cell_rows}
use Rattle.wants.proofs.ListLaws.{cells_long}
use Rattle.job_answers.specs.Answers.{item_rows}
use Rattle.job_answers.proofs.SeenLaws.{items_long, rows_held}
use Rattle.text_plan.specs.Printed.{cell_lines, item_lines, range_line, area_lines, shared_lines, total_line, printed}
use Rattle.text_plan.proofs.LineLaws.{line_length}
use Rattle.text_plan.proofs.PlanLaws.{cells_length, items_length}
use Rattle.planning.specs.Program.{text_of}
use Rattle.refusals.specs.Verdicts.{Fine}

-- ---- lines of ranges

range_lines : (i : ℕ) (rs : List Range) → length (flat (map (range_line i) rs)) ≤ 128 * length rs
unfolding flat
range_lines i [] = omega arith
range_lines i (r ∷ rs) =
    let a = length-append (range_line i r) (flat (map (range_line i) rs)) in
    let b = line_length 71 (i ∷ r.start ∷ r.end ∷ []) (lit≤ tt) in
    let c = range_lines i rs in
    omega arith

area_lines_lem : (i : ℕ) (o : Option (List Range)) → length (area_lines i o) ≤ 128 * ranges_in o
area_lines_lem i none = omega arith
area_lines_lem i (some rs) = range_lines i rs

lines_sum : (row : ℕ → List ℕ) (A : ℕ → Option (List Range)) (n : ℕ) → ((i : ℕ) → i < n → length (row i) ≤ 128 * ranges_in (A i)) → length (flat (tabulate n row)) ≤ 128 * ranges_of (tabulate n A)
unfolding flat tabulate ranges_of
lines_sum row A zero h = omega arith
lines_sum row A (suc n) h =
    let a = length-append (row 0) (flat (tabulate n (λ i. row (suc i)))) in
    let b = lines_sum (λ i. row (suc i)) (λ i. A (suc i)) n (λ i q. h (suc i) (omega arith)) in
    let c = h 0 (omega arith) in
    omega arith

-- ---- a plan within the program's limits

pub record Printable (n locals : ℕ) (A : ℕ → Option (List Range)) (p : Plan) : Type 0 where
  pub known : (i : ℕ) → i < n → p.cell i < length p.cells
  pub few : length p.cells ≤ n
  pub locals_in : locals ≤ n
  pub few_locals : locals ≤ 64
  pub few_slots : n - locals ≤ 64
  pub ranges : ranges_of (tabulate n A) ≤ 64

module _ {n locals : ℕ} {A : ℕ → Option (List Range)} {p : Plan} (P : Printable n locals A p) where
  -- items with these areas
  abbrev ws : List Want
  ws = tabulate n (λ i. record { size = 0; align = 0; area = A i })

  area_at_lem : (i : ℕ) → i < n → (want_at ws i).area ≡ A i
  area_at_lem i h = ap (λ (w : Want). w.area) (get_d_tabulate n (λ j. record { size = 0; align = 0; area = A j }) i (record { size = 0; align = 0; area = none }) h)

  -- the rows hold the plan, whatever stands behind the areas
  held : (more : List ℕ) → length (area_rows n A ++ more) % range_width ≡ 0 → length (area_rows n A ++ more) ≤ 131072
      → RowsHold (cell_rows p) (item_rows n A p) (area_rows n A ++ more) locals (length p.cells) n (room_at p) (item_of ws p)
  held more w s =
      rows_held A n p ws area_at_lem P.known P.few locals P.locals_in (omega (arith, P.few_locals)) (omega (arith, P.few_slots)) more w (omega arith)

  -- so none is refused
  pub plan_fine : (more : List ℕ) → length (area_rows n A ++ more) ≡ 128 → shared_verdict (cell_rows p) (item_rows n A p) (area_rows n A ++ more) locals ≡ Fine
  plan_fine more e = shared_passes (held more (omega arith) (omega arith))

  abbrev seen : Slots
  seen = plan_by locals (length p.cells) n (room_at p) (item_of ws p)

  areas_alone : slots_of locals (cell_rows p) (item_rows n A p) (area_rows n A) ≡ seen
  areas_alone =
      let l = areas_long n A in
      let e = ap length (append-nil (area_rows n A)) in
      ap (slots_of locals (cell_rows p) (item_rows n A p)) (sym (append-nil (area_rows n A))) ∙ (plan_seen (held [] (omega arith) (omega (arith, P.ranges)))).rows

  -- and numbers behind the areas do not show
  pub text_before : (more : List ℕ) → length (area_rows n A ++ more) ≡ 128 → printed (cell_rows p) (item_rows n A p) (area_rows n A ++ more) locals p.probes (depth_of (rooms_in p)) ≡ text_of n A locals p
  text_before more e =
      ap (λ (s : List ℕ). cell_lines (cell_rows p) ++ (item_lines 76 (item_rows n A p) 0 locals ++ (item_lines 83 (item_rows n A p) locals (item_row_count (item_rows n A p) - locals) ++ (s ++ total_line (cell_rows p) (item_rows n A p) p.probes (depth_of (rooms_in p))))))
      (ap flat (tabulate_eq locals _ _ (λ i h. ap (λ (S : Slots). area_lines i (shared S i)) ((plan_seen (held more (omega arith) (omega arith))).rows ∙ sym areas_alone))))

  -- the text has room in the program's list
  shared_is : (i : ℕ) → i < locals → shared (slots_of locals (cell_rows p) (item_rows n A p) (area_rows n A)) i ≡ cond (crowd seen (p.cell i)) (A i) none
  shared_is i h =
      ap (λ (S : Slots). shared S i) areas_alone ∙ ap (shared_by seen) (there locals (item_of ws p) i h)
      ∙ ap (λ (o : Option (List Range)). cond (crowd seen (p.cell i)) o none) (area_at_lem i (omega (arith, P.locals_in)))

  shared_few : (i : ℕ) → i < locals → ranges_in (shared (slots_of locals (cell_rows p) (item_rows n A p) (area_rows n A)) i) ≤ ranges_in (A i)
  shared_few i h = subst (λ (o : Option (List Range)). ranges_in o ≤ ranges_in (A i)) (sym (shared_is i h)) (go (crowd seen (p.cell i)))
    where
      go : (t : Bool) → ranges_in (cond t (A i) none) ≤ ranges_in (A i)
      go true = omega arith
      go false = omega arith

  shared_long : length (shared_lines (cell_rows p) (item_rows n A p) (area_rows n A) locals) ≤ 128 * ranges_of (tabulate locals A)
  shared_long = lines_sum _ A locals (λ i h.
      let a = area_lines_lem i (shared (slots_of locals (cell_rows p) (item_rows n A p) (area_rows n A)) i) in
      let b = shared_few i h in omega arith)

  local_ranges : ranges_of (tabulate locals A) ≤ 64
  local_ranges =
      let r = P.ranges in
      cut n locals (λ h. let e : locals ≡ n = omega (arith, P.locals_in) in rw e P.ranges) (λ h. let b = ranges_below A locals n h in omega arith)

  pub text_short : length (text_of n A locals p) ≤ 65536
  text_short =
      let l = items_long A n p in
      let k = cells_long p in
      let c = cells_length (cell_rows p) in
      let i = items_length 76 (item_rows n A p) 0 locals in
      let s = items_length 83 (item_rows n A p) locals (item_row_count (item_rows n A p) - locals) in
      let g = shared_long in
      let h = local_ranges in
      let t = line_length 84 (cell_count (cell_rows p) ∷ (item_row_count (item_rows n A p) - cell_count (cell_rows p)) ∷ p.probes ∷ depth_of (rooms_in p) ∷ []) (lit≤ tt) in
      let e₁ = length-append (cell_lines (cell_rows p))
      (item_lines 76 (item_rows n A p) 0 locals ++ (item_lines 83 (item_rows n A p) locals (item_row_count (item_rows n A p) - locals)
      ++ (shared_lines (cell_rows p) (item_rows n A p) (area_rows n A) locals ++ total_line (cell_rows p) (item_rows n A p) p.probes (depth_of (rooms_in p))))) in
      let e₂ = length-append (item_lines 76 (item_rows n A p) 0 locals) (item_lines 83 (item_rows n A p) locals (item_row_count (item_rows n A p) - locals) ++ (shared_lines
      (cell_rows p) (item_rows n A p) (area_rows n A) locals ++ total_line (cell_rows p) (item_rows n A p) p.probes (depth_of (rooms_in p)))) in
      let e₃ = length-append (item_lines 83 (item_rows n A p) locals (item_row_count (item_rows n A p) - locals)) (shared_lines (cell_rows p) (item_rows n A p) (area_rows n A) locals ++ total_line (cell_rows p) (item_rows n A p) p.probes (depth_of (rooms_in p))) in
      let e₄ = length-append (shared_lines (cell_rows p) (item_rows n A p) (area_rows n A) locals) (total_line (cell_rows p) (item_rows n A p) p.probes (depth_of (rooms_in p))) in
      omega (arith, P.few, P.locals_in, P.few_locals, P.few_slots)

pub printed_same : {c c' i i' a a' : List ℕ} {l l' p p' d d' : ℕ} → c ≡ c' → i ≡ i' → a ≡ a' → l ≡ l' → p ≡ p' → d ≡ d' → printed c i a l p d ≡ printed c' i' a' l' p' d'
printed_same e f g h k m = rw (e, f, g, h, k, m) refl
